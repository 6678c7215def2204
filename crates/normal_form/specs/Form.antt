-- Normal forms as later layers use them: tables of rows in range, none of them `not`. Assumes nothing.
use Rattle.std.specs.Prelude.{◌≤◌, ◌≡◌, true, false, List}
use Rattle.tables.specs.Used.{used_rows}
use Rattle.tables.specs.declared.row.Row.{Row}
use Rattle.tables.specs.declared.row.NormalForm.{NormalForm}
use Rattle.text.specs.Body.{EachAt}
use Rattle.rule_row.specs.Row.{in_range}
use Rattle.normal_form.specs.Operand.{is_not}

-- the rows in the used places
abbrev pub form_rows : NormalForm → List Row
form_rows g = used_rows g.rows g.places

pub record InNormalForm (g : NormalForm) : Type 0 where
  pub some_signals : 1 ≤ g.signals
  pub most_signals : g.signals ≤ 32
  pub some_rows : 1 ≤ g.rows
  pub most_rows : g.rows ≤ 128
  pub rows_in_range : EachAt (λ k r. in_range g.signals k r ≡ true) 1 (form_rows g)
  pub no_not : EachAt (λ k r. is_not r ≡ false) 1 (form_rows g)
