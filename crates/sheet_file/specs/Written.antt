-- The written form of an activation table: its sheet file. Assumes nothing.
use Rattle.std.specs.Prelude.{ℕ, min, Bool, List, map, take}
use Rattle.tables.specs.Bytes.{bytes}
use Rattle.tables.specs.Place.{tabulate}
use Rattle.tables.specs.Bit.{bit_at}
use Rattle.tables.specs.declared.trace.Activation.{Activation}
use Rattle.tables.specs.declared.trace.Lane.{Lane}
use Rattle.text.specs.Written.{decimal, written_line, written_body, digits_text}

-- the digits of each row. "Unused places are not written": a table has places for 128 rows and 256 cycles.
abbrev pub rows_of : Activation → List (List Bool)
rows_of a = map (λ (l : Lane). tabulate (min a.cycles 256) (bit_at l)) (take a.rows a.lanes)

-- "A table handed to a service is checked as if written out as its file"
unfoldable pub written_sheet : Activation → List ℕ
written_sheet a =
    written_line (bytes "format") (decimal 1)
    (written_line (bytes "rows") (decimal a.rows)
    (written_line (bytes "cycles") (decimal a.cycles)
    (written_body 122 digits_text 1 (rows_of a))))
