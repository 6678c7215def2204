use Rattle.tables.proofs.Choices.{know}
use Rattle.meeting.proofs.Covered.{have_met, met_range, met_covers}
use Rattle.judging.proofs.Covered.{verdict_covered}
use Rattle.judging.proofs.ByBits.{only_judged, only_refused}
use Rattle.judging.proofs.judge_met.Goals as goal

pub decide-verdict-requires : goal.decide-verdict-requires
decide-verdict-requires c =
    let met = have_met c.args.wanted c.args.formula c.args.trace c.requires (c.meet-met.ensures.outcome, (c.meet-met.ensures.form, c.meet-met.ensures.covered)) c.in-Accepted.is in
    (met.form, c.requires.0, met_range met, met_covers met)

pub returns-in-Refused : goal.returns-in-Refused
returns-in-Refused c = record { answer = rw (know c.meet-met.ensures.outcome c.in-Refused.is) (only_refused c.args.formula c.args.trace _) }

pub returns-in-Accepted : goal.returns-in-Accepted
returns-in-Accepted c = record {
  answer = let met = have_met c.args.wanted c.args.formula c.args.trace c.requires (c.meet-met.ensures.outcome, (c.meet-met.ensures.form, c.meet-met.ensures.covered)) c.in-Accepted.is in
      rw (know c.meet-met.ensures.outcome c.in-Accepted.is) (only_judged c.args.formula c.args.trace _ (verdict_covered met _ c.decide-verdict.ensures.verdict));
}
