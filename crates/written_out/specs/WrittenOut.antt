-- The take with rounds of its loop written out (02, request 6: "the take with that many rounds written out before its loop"). Assumes
-- nothing.
use Rattle.std.specs.Prelude.{ℕ, zero, suc, ◌+◌, ◌*◌, ◌-◌, ◌&&◌, List, [], Result, Ok, Err, ltb, leb, get_or}
use Rattle.tables.specs.Bit.{bit_at, lane_of}
use Rattle.tables.specs.Choice.{pick}
use Rattle.tables.specs.Place.{tabulate}
use Rattle.tables.specs.declared.trace.Ending.{Ending}
use Rattle.tables.specs.declared.trace.Ending.TheVariants.{Open, Loop}
use Rattle.tables.specs.declared.trace.Lane.{Lane}
use Rattle.tables.specs.declared.trace.Trace.{Trace}
use Rattle.meaning.specs.Trace.{position}

-- the first cycles of the endless repetition: each signal's lane over `last` cycles, from those of n cycles with the loop at l
abbrev pub written_lanes : List Lane → ℕ → ℕ → ℕ → List Lane
written_lanes lanes n l last =
    tabulate 32 (λ s. lane_of (λ c. ltb c last && bit_at (get_or lanes s (record { words = [] })) (position n l c)))

-- how many cycles so many rounds of the loop are
abbrev pub round_cycles : Trace → ℕ → ℕ → ℕ
round_cycles t l rounds = rounds * (t.cycles - l)

-- the rounds are put before the loop, which so begins later
abbrev pub written_trace : Trace → ℕ → ℕ → Trace
written_trace t l more = record {
  signals = t.signals;
  cycles = t.cycles + more;
  ending = Loop (l + more);
  lanes = written_lanes t.lanes t.cycles l (t.cycles + more);
}

-- "a take whose written-out form passes 256 cycles" has none: then it is handed back as it stands
abbrev pub written_loop : Trace → ℕ → ℕ → Result Trace Trace
written_loop t l more = pick (leb (t.cycles + more) 256) (Ok (written_trace t l more)) (Err t)

-- no rounds: the take itself; an open one has no loop
abbrev pub written_in : Trace → Ending → ℕ → Result Trace Trace
written_in t Open rounds = Ok t
written_in t (Loop l) zero = Ok t
written_in t (Loop l) (suc rounds) = written_loop t l (round_cycles t l (suc rounds))

abbrev pub written_out : Trace → ℕ → Result Trace Trace
written_out t rounds = written_in t t.ending rounds
