-- What a normal form's file says: a rule file, with room for the sheet format's 128 rows instead of 64. Assumes nothing.
use Rattle.std.specs.Prelude.{ℕ, List, ltb, length}
use Rattle.tables.specs.Refusal.{numbered}
use Rattle.tables.specs.Choice.{pick}
use Rattle.tables.specs.Place.{placed}
use Rattle.tables.specs.declared.row.Row.{Row}
use Rattle.tables.specs.declared.row.NormalForm.{NormalForm}
use Rattle.text.specs.Result.{Result}
use Rattle.text.specs.Result.Result.{refused}
use Rattle.rule_file.specs.Rule.{in_place, unused, rule_lines}

abbrev pub normal_of : ℕ → ℕ → List Row → NormalForm
normal_of signals rows rs = record { signals = signals; rows = rows; places = placed 128 in_place unused rs }

unfoldable pub parse_normal : List ℕ → Result NormalForm
parse_normal file = pick (ltb 65536 (length file)) (refused (numbered 1) 0) (rule_lines 128 normal_of file)
