use Rattle.tables.proofs.Outcomes.{both_accept}
use Rattle.meeting.specs.Meeting.{covered_take}
use Rattle.meeting.specs.declared.Wanted.TheVariants.{Either}
use Rattle.meeting.proofs.Covered.{accepted_range}
use mathlib.Core.Path.{refl}
use native.Mathlib.Omega.{arith}
use Rattle.checking.specs.Answer.{met_outcome}
use Rattle.checking.proofs.Answers.{told_refused as answer-refused, told_checked, met_line}
use Rattle.writing.proofs.Answers.{told_refused, told_accepted}
use Rattle.check_text.specs.Answer.{IsFindingText}
use Rattle.check_text.proofs.Answers.{finding_cycle}
use Rattle.check_text.proofs.check_met.Goals as goal

pub deliver_refusal-requires : goal.deliver_refusal-requires
deliver_refusal-requires c =
    omega (
      arith,
      met_line c.args.formula c.args.trace c.args.activation (answer-refused c.args.formula c.args.trace c.args.activation
          (met_outcome c.args.formula c.args.trace c.args.activation) c.check_met-answer.ensures.answer.so c.in-Refused.is),
    )

pub deliver_finding-requires : goal.deliver_finding-requires
deliver_finding-requires c =
    let x = told_checked c.args.formula c.args.trace c.args.activation (met_outcome c.args.formula c.args.trace c.args.activation) c.check_met-answer.ensures.answer.so c.in-Checked.is in
    let range = accepted_range Either c.args.formula c.args.trace c.requires.1 (both_accept _ _ x.0).0 in
    finding_cycle _ (covered_take c.args.formula c.args.trace) c.args.activation range _ x.1

pub returns-in-Refused : goal.returns-in-Refused
returns-in-Refused c = record {
  prints = told_refused _ (IsFindingText c.args.formula c.args.trace c.args.activation) (answer-refused c.args.formula c.args.trace c.args.activation
      (met_outcome c.args.formula c.args.trace c.args.activation) c.check_met-answer.ensures.answer.so c.in-Refused.is) c.deliver_refusal.ensures.delivers;
}

pub returns-in-Checked : goal.returns-in-Checked
returns-in-Checked c = record { prints = let x = told_checked c.args.formula c.args.trace c.args.activation (met_outcome c.args.formula c.args.trace c.args.activation) c.check_met-answer.ensures.answer.so c.in-Checked.is in told_accepted _ (IsFindingText c.args.formula c.args.trace c.args.activation) _ x.0 (_, x.1, refl) c.deliver_finding.ensures.delivers }
