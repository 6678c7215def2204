-- Which traces can be written, and which of these are as they are read. Assumes nothing.
use Rattle.std.specs.Prelude.{ℕ, ◌≤◌, ◌<◌, Bool, true, ◌≡◌, ltb}
use Rattle.tables.specs.declared.trace.Ending.{Ending}
use Rattle.tables.specs.declared.trace.Ending.TheVariants.{Open, Loop}
use Rattle.tables.specs.declared.trace.Trace.{Trace}
use Rattle.recording.specs.Recording.{lanes_of}
use Rattle.take_file.specs.Written.{cycles_of}

-- "`none`, or the cycle where the loop begins, from 0 to cycles less 1"
abbrev pub is_below : ℕ → Ending → Bool
is_below cycles Open = true
is_below cycles (Loop n) = ltb n cycles

-- the same, as a fact
abbrev pub Below : ℕ → Ending → Type 0
Below cycles Open = Unit {0}
Below cycles (Loop n) = n < cycles

-- "`signals=` (1 to 32 as well), `cycles=` (1 to 256), `loop=` (`none`, or the cycle where the loop begins, from 0 to cycles less 1)"
pub record InRange (t : Trace) : Type 0 where
  pub some_signals : 1 ≤ t.signals
  pub most_signals : t.signals ≤ 32
  pub some_cycles : 1 ≤ t.cycles
  pub most_cycles : t.cycles ≤ 256
  pub loop : Below t.cycles t.ending

-- in range, and its lanes are those of its cycles: every bit that is not used is 0
pub record Valid (t : Trace) : Type 0 where
  pub range : InRange t
  pub unused : t.lanes ≡ lanes_of (cycles_of t)
