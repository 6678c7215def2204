-- 01: "The result is a rule file with `format=1`; it may have over 64 rows." Assumes nothing.
use Rattle.std.specs.Prelude.{ℕ, List}
use Rattle.tables.specs.Used.{used_rows}
use Rattle.tables.specs.declared.row.Row.{Row}
use Rattle.tables.specs.declared.row.NormalForm.{NormalForm}
use Rattle.rule_file.specs.Written.{rule_text}

-- the used rows of a normal form
abbrev pub rows_of : NormalForm → List Row
rows_of f = used_rows f.rows f.places

unfoldable pub written_normal : NormalForm → List ℕ
written_normal f = rule_text f.signals f.rows (rows_of f)
