-- The cycles that a run has taken, call by call (02, request 1). Assumes nothing.
use Rattle.std.specs.Prelude.{ℕ, Bool, List, [], ◌∷◌, ◌++◌, ◌≡◌, eqb, ltb, length}
use Rattle.tables.specs.Choice.{pick}
use Rattle.tables.specs.Refusal.{and_then, call_refused, numbered, on_outcome}
use Rattle.tables.specs.declared.refusal.Outcome.{Outcome}
use Rattle.tables.specs.declared.refusal.Outcome.TheVariants.{Accepted}
use Rattle.tables.specs.declared.row.Formula.{Formula}
use Rattle.text.specs.Digits.{are_digits, digits_in}
use Rattle.text.specs.Result.Result.{accepted}
use Rattle.rule_file.specs.Rule.{parse_rule}

-- "A cycle is handed over as its digits; another byte is a wrong form, and another number of signals is list item 7. A cycle beyond the
-- 256th is turned away with 11; the order is 2, 7, 11." "These refusals have file and line 0": with so many signals and cycles so far
abbrev pub cycle_outcome : ℕ → ℕ → List ℕ → Outcome
cycle_outcome signals taken digits =
    and_then (pick (are_digits digits) Accepted (call_refused (numbered 2)))
    (and_then (pick (eqb (length digits) signals) Accepted (call_refused (numbered 7)))
    (pick (ltb taken 256) Accepted (call_refused (numbered 11))))

-- the cycles behind such a call: one more; or the same, since refusals "leave the run unaltered"
unfoldable pub cycles_after : ℕ → List (List Bool) → List ℕ → List (List Bool)
cycles_after signals cs digits = on_outcome (cycle_outcome signals (length cs) digits) (λ why. cs) (cs ++ (digits_in digits ∷ []))

-- "takes one cycle after another"
unfoldable pub cycles_after_all : ℕ → List (List Bool) → List (List ℕ) → List (List Bool)
cycles_after_all signals cs [] = cs
cycles_after_all signals cs (digits ∷ rest) = cycles_after_all signals (cycles_after signals cs digits) rest

-- calls lead to this rule and these cycles: "A run begins with a rule, takes one cycle after another"
pub record Led (f : Formula) (cs : List (List Bool)) : Type 0 where
  pub rule : List ℕ
  pub read : parse_rule rule ≡ accepted f
  pub calls : List (List ℕ)
  pub are : cs ≡ cycles_after_all f.signals [] calls
