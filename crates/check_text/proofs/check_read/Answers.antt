use mathlib.Core.Path.{refl}
use native.Mathlib.Omega.{arith}
use Rattle.rule_file.specs.Rule.{parse_rule}
use Rattle.take_file.specs.Take.{parse_take}
use Rattle.rule_and_take.proofs.Files.{pair_refused, pair_read_lem, pair_range, pair_line}
use Rattle.check_text.proofs.OneText.{only_prints}
use Rattle.check_text.proofs.check_read.Goals as goal

pub deliver_refusal-requires : goal.deliver_refusal-requires
deliver_refusal-requires c =
    omega (arith, pair_line c.args.pair c.requires.0 _ c.in-Refused.is)

pub check_third-requires : goal.check_third-requires
check_third-requires c =
    let r = pair_range c.args.pair c.requires.0 c.in-Accepted.is in (r.0, r.1, c.requires.1)

pub returns-in-Refused : goal.returns-in-Refused
returns-in-Refused c = record {
  prints = λ rule take e sheet d. only_prints rule take sheet _ _ _ (record {
    text = _;
    is_text = pair_refused (parse_rule rule) (parse_take take) c.args.pair e _ _ c.in-Refused.is refl;
    delivered = c.deliver_refusal.ensures.delivers;
  });
}

pub returns-in-Accepted : goal.returns-in-Accepted
returns-in-Accepted c = record {
  prints = λ rule take e sheet d. let x = c.check_third.ensures.prints sheet d in only_prints rule take sheet _ _ _ (record {
    text = x.text;
    is_text = pair_read_lem (parse_rule rule) (parse_take take) c.args.pair e _ _ c.in-Accepted.is x.is_text;
    delivered = x.delivered;
  });
}
