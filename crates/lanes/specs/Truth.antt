-- When a row is true at a cycle of a recording, and lanes that tell so. Assumes nothing.
use Rattle.std.specs.Prelude.{ℕ, suc, ◌-◌, ◌<◌, ◌≡◌, ◌↔◌, Bool, true, ◌&&◌, List, [], ltb, get_or}
use Rattle.tables.specs.Bit.{bit_at, lane_of}
use Rattle.tables.specs.declared.row.NormalForm.{NormalForm}
use Rattle.tables.specs.declared.trace.Ending.{Ending}
use Rattle.tables.specs.declared.trace.Ending.TheVariants.{Open, Loop}
use Rattle.tables.specs.declared.trace.Lane.{Lane}
use Rattle.tables.specs.declared.trace.Trace.{Trace}
use Rattle.meaning.specs.Reading.{classical}
use Rattle.meaning.specs.Trace.{signal_at, unrolled}
use Rattle.meaning.specs.Satisfaction.{table_of, RowTrue}
use Rattle.meaning.specs.Strong.{RowStronglyTrue}

-- a lane is f at each of the first n cycles, and 0 behind them
abbrev pub Shows : ℕ → Lane → (ℕ → Bool) → Type 0
Shows n lane f = lane ≡ lane_of (λ i. ltb i n && f i)

-- lane k of a list of lanes; what a place behind it would hold
abbrev pub lane_in : List Lane → ℕ → Lane
lane_in lanes k = get_or lanes k (record { words = [] })

-- the bits of lanes by cycle and number, which counts from 1
abbrev pub bit_in : List Lane → ℕ → ℕ → Bool
bit_in lanes c a = bit_at (lane_in lanes (a - 1)) c

-- row k is true at cycle c "(strongly, for an open take)": of a looped take at cycle c of its endless repetition
abbrev pub TrueIn : NormalForm → Trace → Ending → ℕ → ℕ → Type 0
TrueIn g t Open k c = RowStronglyTrue classical t.cycles (signal_at t) (table_of g.places) k c
TrueIn g t (Loop l) k c = RowTrue classical (unrolled t l) (table_of g.places) k c

abbrev pub TrueAt : NormalForm → Trace → ℕ → ℕ → Type 0
TrueAt g t k c = TrueIn g t t.ending k c

-- a lane has a 1 at exactly those of the first n cycles at which P holds
abbrev pub Tells : ℕ → Lane → (ℕ → Type 0) → Type 0
Tells n lane P = (f : ℕ → Bool) × Shows n lane f × ((c : ℕ) → c < n → P c ↔ (f c ≡ true))

-- each row's lane tells where it is true
abbrev pub Filled : NormalForm → Trace → List Lane → Type 0
Filled g t lanes = (k : ℕ) → k < g.rows → Tells t.cycles (lane_in lanes k) (TrueAt g t (suc k))
