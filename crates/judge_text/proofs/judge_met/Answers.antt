use Rattle.writing.proofs.Answers.{told_refused, told_accepted}
use mathlib.Core.Path.{ap}
use native.Mathlib.Omega.{arith}
use Rattle.tables.specs.declared.row.NormalForm.{NormalForm}
use Rattle.tables.proofs.Choices.{know}
use Rattle.meeting.specs.declared.Wanted.TheVariants.{Either}
use Rattle.meeting.proofs.Laws.{meeting_line}
use Rattle.meeting.proofs.Covered.{have_met, met_range, met_covers}
use Rattle.judging.proofs.Covered.{verdict_covered}
use Rattle.judge_text.specs.Text.{verdict_text}
use Rattle.judge_text.specs.Answer.{IsVerdictText}
use Rattle.take_writer.proofs.Lengths.{ending_small}
use Rattle.judge_text.proofs.judge_met.Goals as goal

pub deliver_refusal-requires : goal.deliver_refusal-requires
deliver_refusal-requires c = omega (arith, meeting_line Either c.args.formula c.args.trace (know c.meet-met.ensures.outcome c.in-Refused.is))

pub decide-found-requires : goal.decide-found-requires
decide-found-requires c =
    let met = have_met Either c.args.formula c.args.trace c.requires (c.meet-met.ensures.outcome, (c.meet-met.ensures.form, c.meet-met.ensures.covered)) c.in-Accepted.is in
    (met.form, met.fine, met_range met, met_covers met)

pub deliver_verdict-requires : goal.deliver_verdict-requires
deliver_verdict-requires c = (omega (arith, c.requires.1.most_cycles), ending_small c.args.trace.ending c.args.trace.cycles 1000 (omega (arith, c.requires.1.most_cycles)) c.requires.1.loop)

pub returns-in-Refused : goal.returns-in-Refused
returns-in-Refused c = record { prints = told_refused _ (IsVerdictText c.args.formula c.args.trace) (know c.meet-met.ensures.outcome c.in-Refused.is) c.deliver_refusal.ensures.delivers }

pub returns-in-Accepted : goal.returns-in-Accepted
returns-in-Accepted c = record {
  prints = let met = have_met Either c.args.formula c.args.trace c.requires (c.meet-met.ensures.outcome, (c.meet-met.ensures.form, c.meet-met.ensures.covered)) c.in-Accepted.is in
      told_accepted _ (IsVerdictText c.args.formula c.args.trace) _ (know c.meet-met.ensures.outcome c.in-Accepted.is)
      (c.decide-found.result, verdict_covered met _ c.decide-found.ensures.verdict, ap (λ (g : NormalForm). verdict_text c.args.formula.signals g.rows c.args.trace.cycles c.args.trace.ending c.decide-found.result) met.form)
      c.deliver_verdict.ensures.delivers;
}
