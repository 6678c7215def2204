-- The used rows of a table, by their number and place. Assumes nothing.
use mathlib.Core.Path.{◌≡◌, ap, ◌∙◌}
use mathlib.Core.List.{List}
use Prim.Native.Nat.{ℕ, ◌≤◌, ◌<◌}
use lib.ListN.{length, get_or, take, length-map, get_or-map}
use lib.Seq.{length-take-le, get_or-take}
use Rattle.tables.specs.Used.{used_rows}
use Rattle.tables.specs.declared.row.RowPlace.{RowPlace}

module _ (rows : ℕ) (places : List RowPlace) where
  pub used_size : rows ≤ length places → length (used_rows rows places) ≡ rows
  used_size h = length-map (take rows places) _ ∙ length-take-le rows places h

  pub used_at : (k : ℕ) (d : RowPlace) → k < rows → get_or (used_rows rows places) k d.row ≡ (get_or places k d).row
  used_at k d h = get_or-map (λ (p : RowPlace). p.row) (take rows places) k d ∙ ap (λ (p : RowPlace). p.row) (get_or-take rows places k d h)
