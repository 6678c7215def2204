use mathlib.Core.Path.{refl}
use mathlib.Core.Bool.{false≢true}
use borrow.Author.Rules.{rules}
use Rattle.recording.proofs.Bounds.{fit_more, fit_all, recorded_cycles, recorded_signals}
use Rattle.recording.proofs.whole.is_recording.Goals as goal

pub returns-then-not-fits : goal.returns-then-not-fits
returns-then-not-fits c = record {
  exactly = (
    λ e. absurd (false≢true e),
    λ r.
        let fit = c.fits.ensures.answer.1 (recorded_cycles c.args.words c.args.signals c.args.cycles c.loop-block.block c.saturating_sub-left.result r (search rules) c.union.ensures.below (search rules)) in
        search rules,
  );
}

pub returns-then-union-ne0 : goal.returns-then-union-ne0
returns-then-union-ne0 c = record {
  exactly = (
    λ e. absurd (false≢true e),
    λ r. absurd (c.if-union-ne0.true
        (recorded_signals c.args.words c.args.signals c.args.cycles c.loop-block.block c.saturating_sub-left.result r (search rules) c.union-in-loop-block.ensures.below (search rules))),
  );
}

pub loop-block-preserved : goal.loop-block-preserved
loop-block-preserved c =
    let fit = c.fits.ensures.answer.0 (search rules) in
    let more = fit_more c.args.words c.args.signals c.args.cycles c.loop-block.block c.saturating_sub-left.result c.loop-block.invariant in
    more c.union.ensures.below (search rules) fit (search rules) c.union-in-loop-block.ensures.below c.if-union-ne0.false (search rules)

pub returns : goal.returns
returns c = record { exactly = (λ e. fit_all c.args.words c.args.signals c.args.cycles (search rules) (λ i h. c.loop-block.invariant i (search rules)), λ r. refl) }
