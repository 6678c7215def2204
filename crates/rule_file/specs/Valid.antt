-- Formulas that a rule file can hold. Assumes nothing.
use Rattle.std.specs.Prelude.{◌≤◌, true, ◌≡◌}
use Rattle.tables.specs.Place.{placed}
use Rattle.tables.specs.declared.row.Formula.{Formula}
use Rattle.text.specs.Body.{EachAt}
use Rattle.rule_row.specs.Row.{in_range}
use Rattle.rule_file.specs.Rule.{in_place, unused}
use Rattle.rule_file.specs.Written.{rows_of}

-- the counts and the numbers of the used rows lie in their ranges
pub record InRange (f : Formula) : Type 0 where
  pub some_signals : 1 ≤ f.signals
  pub most_signals : f.signals ≤ 32
  pub some_rows : 1 ≤ f.rows
  pub most_rows : f.rows ≤ 64
  pub rows_in_range : EachAt (λ k r. in_range f.signals k r ≡ true) 1 (rows_of f)

-- and "the unused ones holding `true`"
pub record Valid (f : Formula) : Type 0 where
  pub in_range_lem : InRange f
  pub unused_true : f.places ≡ placed 64 in_place unused (rows_of f)
