use mathlib.Core.Path.{refl}
use native.Mathlib.Omega.{arith}
use Rattle.rule_file.specs.Rule.{parse_rule}
use Rattle.take_file.specs.Take.{parse_take}
use Rattle.rule_and_take.proofs.Files.{pair_refused, pair_read_lem, pair_range, pair_line}
use Rattle.judge_text.proofs.OneText.{only_prints}
use Rattle.judge_text.proofs.judge_read.Goals as goal

pub deliver_refusal-requires : goal.deliver_refusal-requires
deliver_refusal-requires c =
    omega (arith, pair_line c.args.pair (c.requires) _ c.in-Refused.is)

pub judge_met-requires : goal.judge_met-requires
judge_met-requires c = pair_range c.args.pair c.requires c.in-Accepted.is

pub returns-in-Refused : goal.returns-in-Refused
returns-in-Refused c = record {
  prints = λ rule take e. only_prints rule take _ _ _ (record {
    text = _;
    is_text = pair_refused (parse_rule rule) (parse_take take) c.args.pair e _ _
        c.in-Refused.is refl;
    delivered = c.deliver_refusal.ensures.delivers;
  });
}

pub returns-in-Accepted : goal.returns-in-Accepted
returns-in-Accepted c = record {
  prints = λ rule take e. only_prints rule take _ _ _ (record {
    text = c.judge_met.ensures.prints.text;
    is_text = pair_read_lem
        (parse_rule rule) (parse_take take) c.args.pair e _ _ c.in-Accepted.is c.judge_met.ensures.prints.is_text;
    delivered = c.judge_met.ensures.prints.delivered;
  });
}
