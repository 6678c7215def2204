use Prim.Native.Nat.{◌<◌}
use mathlib.Core.Path.{◌≡◌, ◌∙◌}
use lib.ListN.{get_or}
use borrow.Author.Rules.{rules}
use Rattle.run_bytes.proofs.Filled.{fill_start, fill_place, fill_list}
use Rattle.run_bytes.proofs.Decoding.{word_bytes}
use Rattle.run_bytes.proofs.words_in.Goals as goal

pub loop-i-init : goal.loop-i-init
loop-i-init c = (search rules, λ run fits e. fill_start 128 0 (λ k. get_or run.words k 0))

pub loop-i-preserved : goal.loop-i-preserved
loop-i-preserved c =
    let h : c.loop-i.i < 128 = search rules in (
      search rules,
      λ run fits e. fill_place 128 0 (λ k. get_or run.words k 0) c.loop-i.i (c.loop-i.invariant.1 run fits e) h
          (c.word_at.ensures.word (get_or run.words c.loop-i.i 0) (fits.word c.loop-i.i h) (word_bytes run e c.loop-i.i h)),
    )

pub returns : goal.returns
returns c = record {
  words = let end : c.loop-i.i ≡ 128 = search rules in
      λ run fits e. c.loop-i.invariant.1 run fits e ∙ fill_list 0 run.words end fits.words;
}
