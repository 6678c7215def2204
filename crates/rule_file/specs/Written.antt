-- The written form of a formula: its rule file. Assumes nothing.
use Rattle.std.specs.Prelude.{ℕ, List}
use Rattle.tables.specs.Bytes.{bytes}
use Rattle.tables.specs.Used.{used_rows}
use Rattle.tables.specs.declared.row.Row.{Row}
use Rattle.tables.specs.declared.row.Formula.{Formula}
use Rattle.text.specs.Written.{decimal, written_line, written_body}
use Rattle.rule_row.specs.Written.{written_row}

-- "unused places are not written"
abbrev pub rows_of : Formula → List Row
rows_of f = used_rows f.rows f.places

-- the lines of a rule file
abbrev pub rule_text : ℕ → ℕ → List Row → List ℕ
rule_text signals rows rs =
    written_line (bytes "format") (decimal 1)
    (written_line (bytes "signals") (decimal signals)
    (written_line (bytes "rows") (decimal rows)
    (written_body 114 written_row 1 rs)))

unfoldable pub written_rule : Formula → List ℕ
written_rule f = rule_text f.signals f.rows (rows_of f)
