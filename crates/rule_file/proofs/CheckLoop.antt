-- The loop that checks the rows of a formula in memory, as the reading of their written lines goes on. Assumes nothing.
use mathlib.Core.Path.{◌≡◌, refl, sym, ◌∙◌}
use mathlib.Core.Bool.{Bool, true, false}
use mathlib.Core.List.{List, ◌∷◌}
use Prim.Native.Nat.{ℕ, suc, ◌+◌, ◌-◌, ◌≤◌, ◌<◌}
use native.Mathlib.Nat.{sub-zero, zero-add}
use native.Mathlib.Numerals.{add-one}
use native.Mathlib.Omega.{arith}
use lib.ListN.{length, get_or, take, drop}
use lib.Seq.{drop-cons, drop-length, take-suc, take_all, length-take-le}
use Rattle.tables.specs.Used.{used_rows}
use Rattle.tables.proofs.UsedRows.{used_size, used_at}
use Rattle.tables.specs.Kind.{with_numbers, first_number, second_number}
use Rattle.tables.proofs.KindTable.{numbers_own}
use Rattle.tables.specs.declared.refusal.Outcome.{Outcome}
use Rattle.tables.specs.declared.refusal.Outcome.TheVariants.{Accepted, Refused}
use Rattle.tables.specs.declared.refusal.Reason.TheVariants.{BadReference}
use Rattle.tables.specs.declared.row.Row.{Row}
use Rattle.tables.specs.declared.row.RowPlace.{RowPlace}
use Rattle.text.specs.Body.{body_lines, EachAt}
use Rattle.text.proofs.Laws.{ok_more}
use Rattle.text.specs.Result.{outcome_of}
use Rattle.text.specs.Written.{written_body}
use Rattle.text.proofs.Bodies.{body_line, outcome_map}
use Rattle.rule_row.specs.Row.{in_range, row_value}
use Rattle.rule_file.specs.Rule.{in_place, unused}
use Rattle.rule_row.specs.Written.{written_row}
use Rattle.rule_row.proofs.WrittenRows.{Small, row_free, value_written}

-- the row in place k
abbrev pub row_at : List RowPlace → ℕ → Row
row_at places k = (get_or places k (in_place unused)).row

-- what reading the written rows from row k + 1 on would answer
abbrev pub answer_from : ℕ → ℕ → List RowPlace → ℕ → Outcome
answer_from signals rows places k = outcome_of 1 (body_lines 114 (row_value signals) (rows - k) (k + 1) (k + 4) (written_body 114 written_row (k + 1) (drop k (used_rows rows places))))

-- the first k rows pass
pub record CheckAt (signals rows : ℕ) (places : List RowPlace) (k : ℕ) : Type 0 where
  pub within : k ≤ rows
  pub short : rows ≤ 64
  pub size : length places ≡ 64
  pub goes : answer_from signals rows places 0 ≡ answer_from signals rows places k
  pub passed : EachAt (λ i r. in_range signals i r ≡ true) 1 (take k (used_rows rows places))

pub check_start : (signals rows : ℕ) (places : List RowPlace) → rows ≤ 64 → length places ≡ 64 → CheckAt signals rows places 0
check_start signals rows places h e = record { within = omega arith; short = h; size = e; goes = refl; passed = tt }

-- from the whole
pub check_whole : (signals rows : ℕ) (places : List RowPlace)
    → answer_from signals rows places 0 ≡ outcome_of 1 (body_lines 114 (row_value signals) rows 1 4 (written_body 114 written_row 1 (used_rows rows places)))
check_whole signals rows places = rw (sub-zero, zero-add, zero-add)

module _ {signals rows : ℕ} {places : List RowPlace} {k : ℕ} (inv : CheckAt signals rows places k) where
  size_used : length (used_rows rows places) ≡ rows
  size_used = used_size rows places (omega (arith, inv.short, inv.size))

  module _ (d : RowPlace) (h : k < rows) (s : Small (get_or places k d).row) where
    row : Row
    row = (get_or places k d).row

    at_place : get_or (used_rows rows places) k d.row ≡ row
    unfolding row
    at_place = used_at rows places k d h

    at_row : drop k (used_rows rows places) ≡ row ∷ drop (k + 1) (used_rows rows places)
    unfolding row
    at_row =
        let l : k < length (used_rows rows places) = rw size_used h in
        drop-cons (used_rows rows places) k d.row l ∙ rw (at_place, add-one)

    one_up : 1 + k ≡ k + 1
    one_up = omega arith

    one_more : rows - k ≡ suc (rows - (k + 1))
    one_more = omega arith

    check_more : in_range signals (k + 1) (get_or places k d).row ≡ true → CheckAt signals rows places (k + 1)
    unfolding row
    check_more e =
        let l : k < length (used_rows rows places) = rw size_used h in
        let z : length (take k (used_rows rows places)) ≡ k = length-take-le k (used_rows rows places) (omega arith) in
        let q : k + 4 + 1 ≡ k + 1 + 4 = omega arith in
        record {
          within = omega arith;
          short = inv.short;
          size = inv.size;
          goes = inv.goes ∙ rw (at_row, one_more, body_line 114 (omega arith) (row_value signals) written_row (rows - (k + 1)) (k + 1) (k + 4) row (drop (k + 1) (used_rows rows places)) (omega (arith, inv.short)) (row_free row s), value_written signals (k + 1) row s, e, q) (outcome_map 1 (◌∷◌ row) (body_lines 114 (row_value signals) (rows - (k + 1)) (k + 1 + 1) (k + 1 + 4) (written_body 114 written_row (k + 1 + 1) (drop (k + 1) (used_rows rows places)))));
          passed = rw (add-one, take-suc (used_rows rows places) k d.row l, at_place) (ok_more _ (take k (used_rows rows places)) row 1 inv.passed (rw (z, one_up) e));
        }

    check_bad : in_range signals (k + 1) (get_or places k d).row ≡ false → Refused (record { reason = BadReference; file = 1; line = k + 4 }) ≡ answer_from signals rows places 0
    unfolding row
    check_bad e =
        sym (inv.goes ∙ rw (at_row, one_more, body_line 114 (omega arith) (row_value signals) written_row (rows - (k + 1)) (k + 1) (k + 4) row (drop (k + 1) (used_rows rows places)) (omega (arith, inv.short)) (row_free row s), value_written signals (k + 1) row s, e))

  -- a row by the numbers that were taken out of it
  module _ (h : k < rows) {a b : ℕ} (p : a ≡ first_number (row_at places k)) (q : b ≡ second_number (row_at places k)) (small : (a < 256) × (b < 256)) where
    own_range : {t : Bool} → in_range signals (k + 1) (with_numbers (row_at places k) a b) ≡ t → in_range signals (k + 1) (row_at places k) ≡ t
    own_range e = rw (p, q, numbers_own) at e

    own_small : Small (row_at places k)
    own_small = (omega (arith, small.0), omega (arith, small.1))

    pub check_passes : in_range signals (k + 1) (with_numbers (row_at places k) a b) ≡ true → CheckAt signals rows places (k + 1)
    check_passes e = check_more (in_place unused) h own_small (own_range e)

    pub check_fails : in_range signals (k + 1) (with_numbers (row_at places k) a b) ≡ false → Refused (record { reason = BadReference; file = 1; line = k + 4 }) ≡ answer_from signals rows places 0
    check_fails e = check_bad (in_place unused) h own_small (own_range e)

  module _ (h : rows ≤ k) where
    pub check_end : Accepted ≡ answer_from signals rows places 0
    unfolding body_lines written_body
    check_end =
        let z : rows - k ≡ 0 = omega arith in
        let e : k ≡ length (used_rows rows places) = rw size_used (omega arith) in
        sym (inv.goes ∙ rw (z, e, drop-length (used_rows rows places)))

    pub all_passed : EachAt (λ i r. in_range signals i r ≡ true) 1 (used_rows rows places)
    all_passed = let e : take k (used_rows rows places) ≡ used_rows rows places = take_all k (used_rows rows places) (rw size_used h) in rw e at inv.passed
