-- Infinite traces, and how a recording makes one (01, "The files" and "Meaning"). Assumes nothing.
use Rattle.std.specs.Prelude.{ℕ, zero, suc, ◌-◌, ◌≤◌, ◌<◌, ◌≡◌, Bool, [], ltb, get_or}
use Rattle.tables.specs.Choice.{pick}
use Rattle.tables.specs.Bit.{bit_at}
use Rattle.tables.specs.declared.trace.Trace.{Trace}

-- an infinite trace (01: an endless take): whether, at each cycle, each signal is on; signals count from 1
abbrev pub InfiniteTrace : Type 0
InfiniteTrace = ℕ → ℕ → Bool

-- the digit of a recording at cycle c, signal s
abbrev pub signal_at : Trace → ℕ → ℕ → Bool
signal_at t c s = bit_at (get_or t.lanes (s - 1) (record { words = [] })) c

-- "A looped take runs through its cycles, then from the loop's cycle to the end without end": the recording's cycle in which the
-- lasso of n cycles with its loop at l is at cycle i
unfoldable pub position : ℕ → ℕ → ℕ → ℕ
position n l zero = zero
position n l (suc i) = pick (ltb (suc (position n l i)) n) (suc (position n l i)) l

-- the unrolling of a lasso (01: the endless repetition of a looped take)
abbrev pub unrolled : Trace → ℕ → InfiniteTrace
unrolled t l i s = signal_at t (position t.cycles l i) s

-- "It continues an open take when it begins with that take's cycles"
abbrev pub Extends : InfiniteTrace → Trace → Type 0
Extends w t = (i s : ℕ) → i < t.cycles → 1 ≤ s → s ≤ t.signals → w i s ≡ signal_at t i s
