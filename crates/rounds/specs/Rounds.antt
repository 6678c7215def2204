-- A looped take's truth, cycle by cycle from the end, in rounds (02, request 5). Assumes nothing.
use Rattle.std.specs.Prelude.{ℕ, suc, ◌≤◌, ◌<◌, ◌≡◌, ◌⊎◌, Bool, false, List, eqb}
use Rattle.tables.specs.Choice.{pick}
use Rattle.tables.specs.declared.row.Row.{Row}
use Rattle.tables.specs.declared.row.NormalForm.{NormalForm}
use Rattle.tables.specs.declared.trace.Lane.{Lane}
use Rattle.tables.specs.declared.trace.Trace.{Trace}
use Rattle.meaning.specs.Trace.{signal_at}
use Rattle.meaning.specs.Satisfaction.{table_of}
use Rattle.meaning.specs.Rows.{Each}
use Rattle.meaning.specs.Nesting.{nesting}
use Rattle.meaning.specs.Pattern.{Pattern, Pattern.now, Pattern.next, Pattern.connective, Pattern.temporal, pattern_of}
use Rattle.lanes.specs.Truth.{lane_in, Shows}
use Rattle.cycle_rows.specs.Cycle.{CycleFrom, Given}

-- where a row starts behind the last cycle: one of until and its like from what holds if its goal is never met, any other from 0
abbrev pub start_for : Pattern → Bool
start_for now = false
start_for next = false
start_for (connective f) = false
start_for (temporal f w) = w

abbrev pub start_of : Row → Bool
start_of r = start_for (pattern_of r)

-- the rows at each cycle as a round leaves them; at the number of cycles, what stands behind the last cycle while it goes
abbrev pub Columns : Type 0
Columns = ℕ → ℕ → Bool

-- counts that rise along each branch with every row that looks ahead
abbrev pub RisesAt : (ℕ → ℕ) → ℕ → Row → Pattern → Type 0
RisesAt depth k r now = Each (λ a. depth a ≤ depth k) r
RisesAt depth k r next = Each (λ a. depth a < depth k) r
RisesAt depth k r (connective f) = Each (λ a. depth a ≤ depth k) r
RisesAt depth k r (temporal f w) = Each (λ a. depth a < depth k) r

abbrev pub Rises : NormalForm → (ℕ → ℕ) → Type 0
Rises g depth = (k : ℕ) → k < g.rows → RisesAt depth (suc k) (table_of g.places (suc k)) (pattern_of (table_of g.places (suc k)))

-- how far down a round goes: to the loop's cycle. A row that looks back rests there on the stem's last cycle, so with such rows every
-- round goes over the stem too.
abbrev pub round_end : NormalForm → ℕ → ℕ
round_end g l = pick (eqb (nesting g) 0) l 0

-- what cycle c of a take is given
abbrev pub given_at : Trace → ℕ → Given
given_at t c = record { signals = signal_at t c }

module _ (g : NormalForm) (t : Trace) (l : ℕ) where
  -- "cycle by cycle from the end, all rows at each": each cycle from `from` on is filled from what it is given and the rows one cycle on
  abbrev pub Round : ℕ → Columns → Type 0
  Round from columns = (c : ℕ) → from ≤ c → c < t.cycles → CycleFrom g (given_at t c) (columns (suc c)) (columns c)

  -- between two rounds no cycle is filled: behind the last cycle comes the loop's as it then stands (`left`), but a row may start anew
  abbrev pub Begins : (ℕ → Bool) → Columns → Type 0
  Begins left columns = (k : ℕ) → k < g.rows
      → (columns t.cycles (suc k) ≡ left (suc k)) ⊎ (columns t.cycles (suc k) ≡ start_of (table_of g.places (suc k)))

  -- "in as many rounds as it needs": so many rounds, numbered from 0. Each goes down to where rounds end, the last to the first cycle, and
  -- the lanes have its columns.
  pub record ByCycle (rounds : ℕ) (lanes : List Lane) : Type 0 where
    pub columns : ℕ → Columns
    pub some : 1 ≤ rounds
    pub made : (r : ℕ) → r < rounds → Round (round_end g l) (columns r)
    pub whole : (r : ℕ) → suc r ≡ rounds → Round 0 (columns r)
    -- before the first round the loop's cycle is filled once, from rows that have all just started
    pub entered : ℕ → Bool
    pub enters : CycleFrom g (given_at t l) (λ k. start_of (table_of g.places k)) entered
    pub first : Begins entered (columns 0)
    pub goes_on : (r : ℕ) → suc r < rounds → Begins (columns r l) (columns (suc r))
    pub answered : (r : ℕ) → suc r ≡ rounds → (k : ℕ) → k < g.rows → Shows t.cycles (lane_in lanes k) (λ c. columns r c (suc k))
    -- no more than one round above the rows that look ahead on one branch
    pub few : (depth : ℕ → ℕ) → Rises g depth → (most : ℕ) → ((k : ℕ) → k < g.rows → depth (suc k) ≤ most) → rounds ≤ suc most
