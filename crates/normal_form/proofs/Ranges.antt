-- A normal form's rows are in range, none is `not`, and there are at most two for each row of the formula. Assumes nothing.
use mathlib.Core.Path.{◌≡◌, sym, ap, ◌∙◌}
use mathlib.Core.Bool.{true, false}
use mathlib.Core.List.{List, map, map-map, map-id}
use Prim.Native.Nat.{ℕ, ◌+◌, ◌*◌, ◌-◌, ◌≤◌, ◌<◌}
use native.Mathlib.Omega.{arith}
use native.Mathlib.Decide.{dec_lt}
use lib.ListN.{length, get_or, get_or-eq_default}
use Rattle.tables.specs.Place.{placed}
use Rattle.tables.proofs.Places.{length_tabulate, get_d_tabulate, take_placed}
use Rattle.tables.specs.declared.row.Row.{Row}
use Rattle.tables.specs.declared.row.RowPlace.{RowPlace}
use Rattle.tables.specs.declared.row.Formula.{Formula}
use Rattle.text.specs.Body.{EachAt}
use Rattle.text.proofs.Laws.{all_ok}
use Rattle.rule_row.specs.Row.{in_range}
use Rattle.rule_file.specs.Rule.{in_place, unused}
use Rattle.rule_file.specs.Valid.{InRange}
use Rattle.normal_form.specs.declared.sign.Sign.{Sign}
use Rattle.normal_form.specs.Operand.{row_in, row_of, is_not, Below, with_operands}
use Rattle.normal_form.specs.Sign.{signed}
use Rattle.normal_form.specs.Reach.{reach}
use Rattle.normal_form.specs.Numbering.{normal_listing, normal_rows, normal_form}
use Rattle.normal_form.specs.Normal.{Listed, row_at, Normal}
use Rattle.normal_form.specs.Form.{form_rows, InNormalForm}
use Rattle.normal_form.proofs.Operands.{not_mapped, alike_signed, alike_not, range_mapped, row_in_range}
use Rattle.normal_form.proofs.Reaching.{reached_marked}
use Rattle.normal_form.proofs.Listings.{rows_few}
use Rattle.normal_form.proofs.Normality.{normal, rows_some}

module _ {f : Formula} {sign : Sign} {number : ℕ → Sign → ℕ} {rows : List Row} (ok : InRange f) (n : Normal f sign number rows) where
  row_ok : (x : ℕ) → 1 ≤ x → x ≤ length rows → (in_range f.signals x (row_at rows x) ≡ true) × (is_not (row_at rows x) ≡ false)
  row_ok x p q = by (n.only x p q)
    where
      by : ((k : ℕ) × (s : Sign) × Listed f sign k s × (number k s ≡ x)) → (in_range f.signals x (row_at rows x) ≡ true) × (is_not (row_at rows x) ≡ false)
      by (k, s, l, e) =
          let row : row_at rows x ≡ with_operands (λ a. number a s) (signed s (row_of f k)) = rw e at (n.says k s l) in
          let m = reached_marked f sign ok l.0 in
          let b : Below x (with_operands (λ a. number a s) (signed s (row_of f k))) = rw row at (n.earlier x p q) in
          rw row (range_mapped f.signals k x (λ a. number a s) (alike_signed s (row_of f k)) (row_in_range f ok k m.low m.high) b, not_mapped (λ a. number a s) (signed s (row_of f k)) ∙ (alike_not (alike_signed s (row_of f k)) ∙ l.1))

  -- every row names signals of the formula and operands below itself
  pub rows_in_range : EachAt (λ k r. in_range f.signals k r ≡ true) 1 rows
  rows_in_range = all_ok (λ k r. in_range f.signals k r ≡ true) unused rows 1 (λ i h. let e : 1 + i - 1 ≡ i = omega arith in rw e at (row_ok (1 + i) (omega arith) (omega arith)).0)

  -- no row is `not`
  pub rows_no_not : EachAt (λ k r. is_not r ≡ false) 1 rows
  rows_no_not = all_ok (λ k r. is_not r ≡ false) unused rows 1 (λ i h. let e : 1 + i - 1 ≡ i = omega arith in rw e at (row_ok (1 + i) (omega arith) (omega arith)).1)

module _ (f : Formula) (sign : Sign) (ok : InRange f) where
  -- at most two rows for each row of the formula
  pub rows_double : length (normal_rows f sign) ≤ 2 * f.rows
  unfolding normal_listing
  rows_double = rows_few (reach f sign) f.places (2 * f.rows)

  pub normal_ranges : EachAt (λ k r. in_range f.signals k r ≡ true) 1 (normal_rows f sign)
  normal_ranges = rows_in_range ok (normal f sign ok)

  pub normal_no_not : EachAt (λ k r. is_not r ≡ false) 1 (normal_rows f sign)
  normal_no_not = rows_no_not ok (normal f sign ok)

  -- the rows in the table's places
  pub form_rows_lem : form_rows (normal_form f sign) ≡ normal_rows f sign
  unfolding normal_form
  form_rows_lem =
      let h : length (normal_rows f sign) ≤ 128 = omega (arith, rows_double, ok.most_rows) in
      ap (map (λ (p : RowPlace). p.row)) (take_placed 128 in_place unused (normal_rows f sign) h)
      ∙ (map-map (λ (p : RowPlace). p.row) in_place (normal_rows f sign) ∙ map-id (normal_rows f sign))

  -- and in each place: those behind the rows hold `true`
  pub form_row : (i : ℕ) → row_in (normal_form f sign).places i ≡ get_or (normal_rows f sign) i unused
  unfolding normal_form
  form_row i = by (dec_lt i 128)
    where
      by : Dec (i < 128) → (get_or (placed 128 in_place unused (normal_rows f sign)) i (in_place unused)).row ≡ get_or (normal_rows f sign) i unused
      by (yes h) = ap (λ (p : RowPlace). p.row) (get_d_tabulate 128 (λ j. in_place (get_or (normal_rows f sign) j unused)) i (in_place unused) h)
      by (no h) =
          let a : length (placed 128 in_place unused (normal_rows f sign)) ≤ i = rw length_tabulate (omega arith) in
          let b : length (normal_rows f sign) ≤ i = omega (arith, rows_double, ok.most_rows) in
          ap (λ (p : RowPlace). p.row) (get_or-eq_default (placed 128 in_place unused (normal_rows f sign)) (in_place unused) a) ∙ sym (get_or-eq_default (normal_rows f sign) unused b)

  -- THE TABLE IS IN NEGATION NORMAL FORM
  pub form_normal : InNormalForm (normal_form f sign)
  unfolding normal_form
  form_normal = record {
    some_signals = ok.some_signals;
    most_signals = ok.most_signals;
    some_rows = rows_some f sign ok;
    most_rows = omega (arith, rows_double, ok.most_rows);
    rows_in_range = rw form_rows_lem normal_ranges;
    no_not = rw form_rows_lem normal_no_not;
  }
