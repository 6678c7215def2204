-- What is asked behind a round, and where the next one starts. No cycle is filled here. Assumes nothing.
use Rattle.std.specs.Prelude.{ℕ, suc, ◌-◌, ◌<◌, ◌≡◌, Bool, true, false, ◌&&◌, List, get_or}
use Rattle.tables.specs.Choice.{pick}
use Rattle.tables.specs.declared.row.Row.{Row}
use Rattle.tables.specs.declared.row.Row.TheVariants.{Constant, Signal, Unary, Binary}
use Rattle.meaning.specs.Satisfaction.{Table}
use Rattle.cycle_rows.specs.Cells.{row_cell}
use Rattle.meaning.specs.Pattern.{Pattern, Pattern.now, Pattern.next, Pattern.connective, Pattern.temporal, pattern_of}

-- by numbers, which count from 1
abbrev pub sure_in : List Bool → ℕ → Bool
sure_in sure k = get_or sure (k - 1) false

-- each operand
abbrev pub every_operand : (ℕ → Bool) → Row → Bool
every_operand on (Constant c) = true
every_operand on (Signal c s) = true
every_operand on (Unary c a) = on a
every_operand on (Binary c a b) = on a && on b

abbrev pub same_bit : Bool → Bool → Bool
same_bit true b = b
same_bit false true = false
same_bit false false = true

-- of rows in their cells
abbrev pub same_in : List Bool → List Bool → ℕ → Bool
same_in behind left k = same_bit (row_cell behind k) (row_cell left k)

-- what stands behind the last cycle in the next round: the value at the loop's cycle; but until and its like start anew where an
-- operand was not sure
abbrev pub handed : Pattern → Bool → Bool → Bool
handed now operands x = x
handed next operands x = x
handed (connective f) operands x = x
handed (temporal f w) operands x = pick operands x w

-- the round has left at the loop's cycle what stood behind the last one, as far as the row reads it there
abbrev pub stays : (ℕ → Bool) → ℕ → Row → Pattern → Bool
stays same k r now = true
stays same k r next = every_operand same r
stays same k r (connective f) = true
stays same k r (temporal f w) = same k

-- a row is sure behind a round
abbrev pub surely : (ℕ → Bool) → (ℕ → Bool) → ℕ → Row → Bool
surely sure same k r = every_operand sure r && stays same k r (pattern_of r)

-- of the rows of a table: behind a round that began with `behind` and left `left` at the loop's cycle
module _ (t : Table) (rows : ℕ) (behind left : ℕ → Bool) where
  abbrev pub Surveyed : (ℕ → Bool) → Type 0
  Surveyed sure = (k : ℕ) → k < rows → sure (suc k) ≡ surely sure (λ a. same_bit (behind a) (left a)) (suc k) (t (suc k))

-- the start of the next round, from what is sure and what was left
module _ (t : Table) (rows : ℕ) (sure left : ℕ → Bool) where
  abbrev pub Handed : (ℕ → Bool) → Type 0
  Handed behind = (k : ℕ) → k < rows → behind (suc k) ≡ handed (pattern_of (t (suc k))) (every_operand sure (t (suc k))) (left (suc k))
