-- The loop that adds up the lengths of the rows' lines. Assumes nothing.
use Prim.Native.Nat.{ℕ, ◌+◌, ◌*◌, ◌≤◌, ◌<◌}
use mathlib.Core.Path.{◌≡◌, refl, sym, ap, ◌∙◌}
use mathlib.Core.List.{List, [], ◌∷◌}
use native.Mathlib.Omega.{arith}
use lib.ListN.{length, get_or, take, length-append}
use lib.Seq.{get_or-take, length-take-le}
use Rattle.tables.specs.Kind.{kinds, kind_at, kind_count, no_kind, word_of, place_of}
use Rattle.tables.specs.Used.{used_rows}
use Rattle.tables.specs.declared.kind.Kind.{Kind}
use Rattle.tables.specs.declared.row.Row.{Row}
use Rattle.tables.specs.declared.row.RowPlace.{RowPlace}
use Rattle.tables.proofs.KindTable.{kind_of_row, word_fits, word_short}
use Rattle.text.specs.Written.{decimal, written_line, written_body}
use Rattle.text.proofs.Laws.{line_length}
use Rattle.rule_row.specs.Written.{numbers_text, written_row}
use Rattle.writing.proofs.Texts.{places_next, places_all}

-- a kind's length is that of its word
word_length : (k : ℕ) → k < kind_count → (kind_at k).length ≡ length (word_of (kind_at k))
word_length k h = sym (length-take-le _ _ (word_fits k h))

-- and at most eight
word_most : (k : ℕ) → k < kind_count → (kind_at k).length ≤ 8
word_most k h = omega (arith, word_length k h, word_short k h)

-- the length that stands in the table
module _ {table : List Kind} {place : ℕ} (e : table ≡ kinds) where
  pub length_short : place < kind_count → (get_or table place no_kind).length ≤ 8
  unfolding kind_at
  length_short h = rw e (word_most place h)

  pub length_there : (r : Row) → place ≡ place_of r → (get_or table place no_kind).length ≡ (kind_at (place_of r)).length
  unfolding kind_at
  length_there r p = rw (e, p) refl

-- the lines of the first k rows have n bytes, at most 28 each
pub record Counted (rows : ℕ) (places : List RowPlace) (k n : ℕ) : Type 0 where
  pub within : k ≤ rows
  pub short : n ≤ 28 * k
  pub counts : n ≡ length (written_body 114 written_row 1 (take k (used_rows rows places)))

pub none_counted : (rows : ℕ) (places : List RowPlace) → Counted rows places 0 0
unfolding written_body
none_counted rows places = record { within = omega arith; short = omega arith; counts = refl }

module _ {rows : ℕ} {places : List RowPlace} {k n : ℕ} (inv : Counted rows places k n) (room : rows ≤ length places) where
  -- one row more
  pub one_counted : (d : RowPlace) (number word numbers : ℕ) → k < length (take rows places) → number ≡ length (decimal (k + 1)) → number ≤ 5
      → word ≡ (kind_at (place_of (get_or (take rows places) k d).row)).length → numbers ≡ length (numbers_text (get_or (take rows places) k d).row) → numbers ≤ 12
      → Counted rows places (k + 1) (n + (3 + number + word + numbers))
  one_counted d number word numbers h e short-number f g short-numbers =
      let few : k < rows = omega (arith, length-take-le rows places room) in
      let row : Row = (get_or places k d).row in
      let same : get_or (take rows places) k d ≡ get_or places k d = get_or-take rows places k d few in
      let word-there = rw same at f in
      let numbers-there = rw same at g in
      let line : List ℕ = written_line (114 ∷ decimal (k + 1)) (written_row row) [] in
      let before : List ℕ = written_body 114 written_row 1 (take k (used_rows rows places)) in
      let size = line_length (114 ∷ decimal (k + 1)) (written_row row) [] in
      let value = length-append (word_of (kind_at (place_of row))) (numbers_text row) in
      let all = sym (length-append before line) ∙ ap length (places_next (λ (p : RowPlace). p.row) rows places room 114 written_row k d few) in
      record {
        within = omega arith;
        short = omega (arith, inv.short, word_most (place_of row) (kind_of_row row).0);
        counts = omega (arith, inv.counts, word_length (place_of row) (kind_of_row row).0);
      }

  pub all_counted : rows ≤ k → n ≡ length (written_body 114 written_row 1 (used_rows rows places))
  all_counted h = inv.counts ∙ ap (λ rs. length (written_body 114 written_row 1 rs)) (places_all (λ (p : RowPlace). p.row) rows places room k h)
