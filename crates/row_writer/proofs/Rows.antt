-- The loop that writes rows, and a rule file by its counts and rows. Assumes nothing.
use Prim.Native.Nat.{ℕ, ◌+◌, ◌*◌, ◌≤◌, ◌<◌}
use mathlib.Core.Path.{◌≡◌}
use mathlib.Core.List.{List, [], ◌∷◌, ◌++◌, map, append_assoc}
use native.Mathlib.Omega.{arith}
use lib.ListN.{length, get_or, take, length-map, get_or-map}
use Rattle.tables.specs.declared.row.Row.{Row}
use Rattle.tables.specs.declared.row.RowPlace.{RowPlace}
use Rattle.text.specs.Written.{decimal, written_line, written_body}
use Rattle.rule_row.specs.Written.{written_row}
use Rattle.rule_file.specs.Written.{rule_text}
use Rattle.writing.specs.Lent.{Wrote}
use Rattle.writing.proofs.Texts.{wrote_none, wrote_both, wrote_is, body_from}

abbrev pub row_in : RowPlace → Row
row_in p = p.row

-- the lines of the first k rows are written, in at most 22 bytes each
pub record RowsAt (first : ℕ) (places : List RowPlace) (before : List ℕ) (at k : ℕ) (after : List ℕ) (end : ℕ) : Type 0 where
  pub short : end ≤ at + 22 * k
  pub text : Wrote before at (written_body 114 written_row first (take k (map row_in places))) after end

pub rows_start : {first : ℕ} {places : List RowPlace} (before : List ℕ) (at : ℕ) → RowsAt first places before at 0 before at
unfolding written_body
rows_start before at = record { short = omega arith; text = wrote_none before at }

module _ {first : ℕ} {places : List RowPlace} {before : List ℕ} {at k : ℕ} {buf : List ℕ} {end : ℕ} (inv : RowsAt first places before at k buf end) where
  pub rows_more : (d : RowPlace) {after : List ℕ} {next : ℕ} → k < length places
      → Wrote buf end (written_line (114 ∷ decimal (first + k)) (written_row (get_or places k d).row) []) after next → next ≤ end + 22
      → RowsAt first places before at (k + 1) after next
  rows_more d h w l = record {
    short = omega (arith, inv.short);
    text = wrote_is (rw (get_or-map row_in places k d) at (body_from 114 written_row first (map row_in places) k d.row (rw length-map h))) (wrote_both inv.text w);
  }

-- a rule file is its counts and the lines of its rows
pub counts_front : (signals rows : ℕ) (rs : List Row) → rule_text signals rows [] ++ written_body 114 written_row 1 rs ≡ rule_text signals rows rs
unfolding written_body
counts_front signals rows rs = simp append_assoc
