-- The rows of a normal form as steps that fill a cycle in place, each by one look into a table. Assumes nothing.
use Rattle.std.specs.Prelude.{ℕ, ◌+◌, ◌-◌, ◌*◌, ◌/◌, ◌%◌, ◌^◌, ◌≤◌, ◌<◌, ◌≡◌, Bool, true, false, List, eqb, get_or}
use Rattle.tables.specs.Choice.{pick}
use Rattle.tables.specs.declared.row.Row.{Row}
use Rattle.tables.specs.declared.row.NormalForm.{NormalForm}
use Rattle.meaning.specs.Satisfaction.{table_of}
use Rattle.meaning.specs.Pattern.{Pattern, Pattern.now, Pattern.next, Pattern.connective, Pattern.temporal}
use Rattle.meaning.specs.Pattern.{Operand, Operand.constant, Operand.signal, Operand.row, left, right, pattern_of, signed_bit}
use Rattle.meaning.specs.Rows.{Each, EachSignal}
use Rattle.normal_form.specs.Form.{InNormalForm}
use Rattle.cycle_rows.specs.Cycle.{pattern_from}
use Rattle.cycle_rows.specs.Cells.{IsRowNumber, IsSignalNumber}
use Rattle.cycle_rows.specs.declared.prepare.Step.{Step}
use Rattle.cycle_rows.specs.declared.prepare.Steps.{Steps}

-- the cell of an operand; a constant needs none, and any serves
abbrev pub cell_of : Operand → ℕ
cell_of (constant b) = 0
cell_of (signal b s) = s - 1
cell_of (row b a) = 31 + a

-- an operand, from what its cell holds
abbrev pub from_cell : Operand → Bool → Bool
from_cell (constant b) x = b
from_cell (signal b s) x = signed_bit b x
from_cell (row b a) x = signed_bit b x

-- the left operand of a row with one operand: until has true, release false; elsewhere it does not count
abbrev pub left_constant : Pattern → Bool
left_constant now = true
left_constant next = true
left_constant (connective f) = f
left_constant (temporal f w) = f

-- a row, from the cells of its operands and its own. `next` finds its operand as it stands one cycle on, and the others as it is in the
-- cycle: that is a matter of the steps' order.
abbrev pub step_bit : Row → Bool → Bool → Bool → Bool
step_bit r a b x = pattern_from (pattern_of r) (from_cell (left r) a) (from_cell (right r) b) (from_cell (right r) b) x

-- where a step's table has the answer for what it finds
abbrev pub case_of : Bool → Bool → Bool → ℕ
case_of a b x = pick a 1 0 + 2 * pick b 1 0 + 4 * pick x 1 0

-- case m of a table: its bit m
abbrev pub case_in : ℕ → ℕ → Bool
case_in table m = eqb (table / 2 ^ m % 2) 1

-- each operand of a row has a cell, and so has its signal
abbrev pub InCells : Row → Type 0
InCells r = Each IsRowNumber r × EachSignal IsSignalNumber r

-- a step fills row k, whose row is r: its cell, those of its operands, and a table of eight cases in one byte
pub record StepFor (step : Step) (k : ℕ) (r : Row) : Type 0 where
  pub into : step.own ≡ 31 + k
  pub first : step.first ≡ cell_of (left r)
  pub second : step.second ≡ cell_of (right r)
  pub told : (a b x : Bool) → case_in step.table (case_of a b x) ≡ step_bit r a b x

abbrev pub step_in : List Step → ℕ → Step
step_in steps i = get_or steps i (record { own = 0; first = 0; second = 0; table = 0 })

abbrev pub is_next : Pattern → Bool
is_next now = false
is_next next = true
is_next (connective f) = false
is_next (temporal f w) = false

-- a row has its turn before its operand where it is `next`, and after its operands otherwise
abbrev pub InTurn : (ℕ → ℕ) → ℕ → Row → Pattern → Type 0
InTurn turn k r now = Each (λ a. turn a < turn k) r
InTurn turn k r next = Each (λ a. turn k < turn a) r
InTurn turn k r (connective f) = Each (λ a. turn a < turn k) r
InTurn turn k r (temporal f w) = Each (λ a. turn a < turn k) r

-- the steps of a normal form: `row_at` i is the row of step i, and `turn` k the step of row k
pub record StepsOf (g : NormalForm) (steps : List Step) : Type 0 where
  pub row_at : ℕ → ℕ
  pub turn : ℕ → ℕ
  pub stepped : (i : ℕ) → i < g.rows → (1 ≤ row_at i) × (row_at i ≤ g.rows) × (turn (row_at i) ≡ i)
  pub turned : (k : ℕ) → 1 ≤ k → k ≤ g.rows → (turn k < g.rows) × (row_at (turn k) ≡ k)
  pub step : (i : ℕ) → i < g.rows → StepFor (step_in steps i) (row_at i) (table_of g.places (row_at i))
  pub in_turn : (k : ℕ) → 1 ≤ k → k ≤ g.rows → InTurn turn k (table_of g.places k) (pattern_of (table_of g.places k))

-- a normal form is prepared as these steps
pub record Prepared (g : NormalForm) (p : Steps) : Type 0 where
  pub form : InNormalForm g
  pub rows : g.rows ≡ p.rows
  pub steps : StepsOf g p.list
