-- The written form of a trace: its take file. Assumes nothing.
use Rattle.std.specs.Prelude.{ℕ, min, Bool, List, map, take}
use Rattle.tables.specs.Bytes.{bytes}
use Rattle.tables.specs.Place.{tabulate}
use Rattle.tables.specs.Bit.{bit_at}
use Rattle.tables.specs.declared.trace.Ending.{Ending}
use Rattle.tables.specs.declared.trace.Ending.TheVariants.{Open, Loop}
use Rattle.tables.specs.declared.trace.Lane.{Lane}
use Rattle.tables.specs.declared.trace.Trace.{Trace}
use Rattle.text.specs.Written.{decimal, written_line, written_body, digits_text}

-- "`loop=` (`none`, or the cycle where the loop begins)"
abbrev pub ending_text : Ending → List ℕ
ending_text Open = bytes "none"
ending_text (Loop n) = decimal n

-- the digits of a cycle, and of each. "Unused places are not written": a trace has places for 256 cycles and 32 signals.
abbrev pub cycle_of : Trace → ℕ → List Bool
cycle_of t c = map (λ (l : Lane). bit_at l c) (take t.signals t.lanes)

abbrev pub cycles_of : Trace → List (List Bool)
cycles_of t = tabulate (min t.cycles 256) (cycle_of t)

-- "A table handed to a service is checked as if written out as its file"
unfoldable pub written_take : Trace → List ℕ
written_take t =
    written_line (bytes "format") (decimal 1)
    (written_line (bytes "signals") (decimal t.signals)
    (written_line (bytes "cycles") (decimal t.cycles)
    (written_line (bytes "loop") (ending_text t.ending)
    (written_body 99 digits_text 0 (cycles_of t)))))
