use Rattle.tables.proofs.Choices.{clash, know}
use mathlib.Core.Path.{◌∙◌}
use Prim.Native.Nat.{◌-◌}
use Rattle.rule_file.proofs.CheckLoop.{check_start, check_whole, check_passes, check_fails, check_end, all_passed}
use borrow.Author.Rules.{rules}
use Rattle.rule_file.proofs.check.check_rows.Goals as goal

pub loop-k-init : goal.loop-k-init
loop-k-init c = check_start _ _ _ c.requires (search rules)

pub returns-then-not-in_range : goal.returns-then-not-in_range
returns-then-not-in_range c = record {
  answer = c.refuse.ensures.answer ∙ (check_fails c.loop-k.invariant (search rules) c.first_number-first.ensures.answer c.second_number-second.ensures.answer (search rules, search rules)
      (know c.in_range.ensures.answer c.if-not-in_range.true) ∙ check_whole _ _ _);
  range = λ q. clash
      (cc);
}

pub loop-k-preserved : goal.loop-k-preserved
loop-k-preserved c =
    check_passes c.loop-k.invariant (search rules) c.first_number-first.ensures.answer c.second_number-second.ensures.answer
    (search rules, search rules) (know c.in_range.ensures.answer c.if-not-in_range.false)

pub returns : goal.returns
returns c = record { answer = check_end c.loop-k.invariant (search rules) ∙ check_whole _ _ _; range = λ q. all_passed c.loop-k.invariant (search rules) }
