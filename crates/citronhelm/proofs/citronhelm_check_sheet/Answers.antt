use Rattle.rule_file.specs.Rule.{parse_rule}
use Rattle.take_file.specs.Take.{parse_take}
use Rattle.sheet_file.specs.Sheet.{parse_sheet}
use Rattle.sheet_file.proofs.Sheets.{sheet_said, sheet_is_lem}
use Rattle.rule_and_take.proofs.Files.{file_refused, file_read, pair_refused, pair_read_lem, pair_range}
use Rattle.citronhelm.proofs.citronhelm_check_sheet.Goals as goal

pub check_met-requires : goal.check_met-requires
check_met-requires c =
    pair_range c.read_pair-pair.result (record { rule = c.args.rule.now; take = c.args.take.now; is_read = c.read_pair-pair.ensures.answer }) c.in-Accepted.is

pub returns-in-Refused : goal.returns-in-Refused
returns-in-Refused c = record { answer = pair_refused (parse_rule c.args.rule.now) (parse_take c.args.take.now) c.read_pair-pair.result c.read_pair-pair.ensures.answer _ _ c.in-Refused.is c.refusal_code.ensures.answer }

pub returns-in-Refused-own : goal.returns-in-Refused-own
returns-in-Refused-own c = record { answer = let s = parse_sheet c.args.sheet.now in pair_read_lem (parse_rule c.args.rule.now) (parse_take c.args.take.now) c.read_pair-pair.result c.read_pair-pair.ensures.answer _ _ c.in-Accepted.is (file_refused 3 s _ _ (sheet_said s c.read_sheet-third.result c.read_sheet-third.ensures.answer c.in-Refused-own.is) c.refusal_code-in-Refused-own.ensures.answer) }

pub returns-in-Accepted-own : goal.returns-in-Accepted-own
returns-in-Accepted-own c = record { answer = let s = parse_sheet c.args.sheet.now in pair_read_lem (parse_rule c.args.rule.now) (parse_take c.args.take.now) c.read_pair-pair.result c.read_pair-pair.ensures.answer _ _ c.in-Accepted.is (file_read 3 s _ _ (sheet_is_lem s c.read_sheet-third.result c.read_sheet-third.ensures.answer c.in-Accepted-own.is) (record { answer = _; answers = c.check_met.ensures.answer; coded = c.check_code.ensures.answer })) }
