-- One cycle of a lasso, all rows of a normal form at it (02, request 5). Assumes nothing.
use Rattle.std.specs.Prelude.{ℕ, suc, ◌<◌, ◌≡◌, Bool}
use Rattle.tables.specs.declared.row.Row.{Row}
use Rattle.tables.specs.declared.row.NormalForm.{NormalForm}
use Rattle.meaning.specs.Satisfaction.{table_of}
use Rattle.meaning.specs.Pattern.{Pattern, Pattern.now, Pattern.next, Pattern.connective, Pattern.temporal}
use Rattle.meaning.specs.Pattern.{left, right, pattern_of, keep_bit, goal_bit, connective_bit, operand_bit}
use Rattle.meaning.specs.Approximant.{expand}

-- a row by its pattern: a and b are its operands in the cycle, b⁺ is the right one and x⁺ the row itself one cycle on
abbrev pub pattern_from : Pattern → Bool → Bool → Bool → Bool → Bool
pattern_from now a b b⁺ x⁺ = b
pattern_from next a b b⁺ x⁺ = b⁺
pattern_from (connective f) a b b⁺ x⁺ = connective_bit f a b
pattern_from (temporal f w) a b b⁺ x⁺ = expand (keep_bit f a b) (goal_bit f a b) x⁺

-- what a cycle is given beside the rows one cycle on: its signals
pub record Given : Type 0 where
  pub signals : ℕ → Bool

-- row k of a cycle, from what the cycle is given, its rows and the rows one cycle on
module _ (given : Given) (here ahead : ℕ → Bool) where
  abbrev pub row_from : Row → ℕ → Bool
  row_from r k =
      let a = operand_bit given.signals here (left r) in
      let b = operand_bit given.signals here (right r) in
      pattern_from (pattern_of r) a b (operand_bit given.signals ahead (right r)) (ahead k)

-- "it fills a cycle from that cycle's signals and the rows one cycle on as they then stand, and nothing else": `here` are the rows so
-- filled. Operands are earlier rows, so there are no others (law `cycle_only`).
abbrev pub CycleFrom : NormalForm → Given → (ℕ → Bool) → (ℕ → Bool) → Type 0
CycleFrom g given ahead here = (k : ℕ) → k < g.rows → here (suc k) ≡ row_from given here ahead (table_of g.places (suc k)) (suc k)
