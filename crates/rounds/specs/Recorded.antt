-- The words that a round records, going down: word w of row k + 1 is at 128 * w + k, and the lowest bit
-- of the word that has the cycle just filled is that cycle. Assumes nothing.
use Rattle.std.specs.Prelude.{ℕ, suc, ◌+◌, ◌-◌, ◌*◌, ◌≤◌, ◌<◌, ◌≡◌, Bool, false, ◌&&◌, List, ltb, get_or}
use Rattle.tables.specs.Bit.{bit_at, word_from}
use Rattle.tables.specs.declared.row.NormalForm.{NormalForm}
use Rattle.tables.specs.declared.trace.Lane.{Lane}
use Rattle.lanes.specs.Truth.{lane_in}
use Rattle.cycle_rows.specs.Cycle.{CycleFrom, Given}
use Rattle.rounds.specs.Rounds.{Columns}

-- the cycles from `from` on of so many rows over n cycles
abbrev pub RecordedFrom : ℕ → ℕ → ℕ → List ℕ → Columns → Type 0
RecordedFrom rows n from words columns = (k w : ℕ) → k < rows → w < 4
    → get_or words (128 * w + k) 0 ≡ word_from (64 - (from - 64 * w)) (64 * w + (from - 64 * w)) (λ c. ltb c n && columns c (suc k))

-- the signals by cycle: signal s + 1 at cycle c is at 32 * c + s
abbrev pub SpreadTo : ℕ → ℕ → List Lane → List Bool → Type 0
SpreadTo signals cycles lanes digits = (s c : ℕ) → s < signals → c < cycles → get_or digits (32 * c + s) false ≡ bit_at (lane_in lanes s) c

-- what cycle c is given, by the signals' numbers, which count from 1
abbrev pub given_from : List Bool → ℕ → Given
given_from digits c = record { signals = λ s. get_or digits (32 * c + (s - 1)) false }

-- a round goes on from `to` back to `from`: the columns from there on, of which the later ones stood before
pub record RoundBack (g : NormalForm) (given : ℕ → Given) (n from to : ℕ) (later : Columns)
    (left : ℕ → Bool) (words : List ℕ) : Type 0 where
  pub columns : Columns
  pub kept : (c : ℕ) → to ≤ c → columns c ≡ later c
  pub made : (c : ℕ) → from ≤ c → c < to → CycleFrom g (given c) (columns (suc c)) (columns c)
  pub ends : columns from ≡ left
  pub recorded : RecordedFrom g.rows n from words columns
