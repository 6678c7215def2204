use mathlib.Core.Path.{refl}
use native.Mathlib.Omega.{arith}
use Rattle.sheet_file.specs.Sheet.{parse_sheet}
use Rattle.sheet_file.proofs.Sheets.{sheet_outcome_line, sheet_said, sheet_is_lem}
use Rattle.rule_and_take.proofs.Files.{file_refused, file_read}
use Rattle.check_text.proofs.check_third.Goals as goal

pub deliver_refusal-requires : goal.deliver_refusal-requires
deliver_refusal-requires c =
    omega (
      arith,
      sheet_outcome_line _ _ (sheet_said (parse_sheet c.requires.2.0) c.args.third c.requires.2.1 c.in-Refused.is),
    )

pub returns-in-Refused : goal.returns-in-Refused
returns-in-Refused c = record {
  prints = λ sheet d. record {
    text = _;
    is_text = file_refused 3 (parse_sheet sheet) _ _ (sheet_said (parse_sheet sheet) c.args.third d c.in-Refused.is)
        refl;
    delivered = c.deliver_refusal.ensures.delivers;
  };
}

pub returns-in-Accepted : goal.returns-in-Accepted
returns-in-Accepted c = record {
  prints = λ sheet d. record {
    text = c.check_met.ensures.prints.text;
    is_text = file_read 3 (parse_sheet sheet) _ _ (sheet_is_lem
        (parse_sheet sheet) c.args.third d c.in-Accepted.is) c.check_met.ensures.prints.is_text;
    delivered = c.check_met.ensures.prints.delivered;
  };
}
