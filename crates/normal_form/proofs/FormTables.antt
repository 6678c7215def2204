-- A normal form as a table of rows: what its rows name, for the theorems of the meaning. Assumes nothing.
use Prim.Native.Nat.{ℕ, zero, suc, ◌+◌, ◌≤◌, ◌<◌}
use mathlib.Core.Path.{◌≡◌, refl, ap, sym, subst, ◌∙◌}
use mathlib.Core.Bool.{true, false, true≢false}
use mathlib.Core.List.{List}
use native.Mathlib.Decide.{dec_lt, ℕ_discrete}
use native.Mathlib.Omega.{arith}
use lib.Dec.{leb}
use lib.ListN.{length, get_or, get_or-eq_default}
use borrow.Author.Tests.{eq-eqb}
use Rattle.tables.specs.Choice.{pick}
use Rattle.tables.specs.Used.{used_rows}
use Rattle.tables.proofs.UsedRows.{used_at}
use Rattle.tables.specs.declared.row.Row.{Row}
use Rattle.tables.specs.declared.row.Row.TheVariants.{Constant, Signal, Unary, Binary}
use Rattle.tables.specs.declared.row.RowPlace.{RowPlace}
use Rattle.tables.specs.declared.row.NormalForm.{NormalForm}
use Rattle.text.specs.Body.{EachAt}
use Rattle.text.proofs.Laws.{ok_at}
use Rattle.rule_row.specs.Row.{is_signal, in_range}
use Rattle.rule_file.specs.Rule.{in_place, unused}
use Rattle.rule_row.proofs.Laws.{signal_most}
use Rattle.meaning.specs.Satisfaction.{table_of}
use Rattle.meaning.specs.Rows.{Each, EachSignal, Ordered, Positive}
use Rattle.meaning.proofs.Rows.{each_map, each_signal_map}
use Rattle.normal_form.specs.Operand.{row_in, is_not}
use Rattle.normal_form.specs.Form.{InNormalForm}
use Rattle.normal_form.proofs.Operands.{range_below}
use Rattle.normal_form.proofs.SameMeaning.{positive_row, each_operand}

-- what holds of every used row, and of `true`, holds of the rows in their places
pub used_each : (Ok : ℕ → Row → Type 0) → ((k : ℕ) → Ok k unused) → (rows : ℕ) (places : List RowPlace) → EachAt Ok 1 (used_rows rows places) → (j : ℕ) → j < rows → Ok (suc j) (row_in places j)
used_each Ok free rows places each j h = subst (Ok (suc j)) (used_at rows places j (in_place unused) h) (by (dec_lt j (length (used_rows rows places))))
  where
    by : Dec (j < length (used_rows rows places)) → Ok (suc j) (get_or (used_rows rows places) j unused)
    by (yes l) = let e : 1 + j ≡ suc j = omega arith in rw e at (ok_at Ok unused (used_rows rows places) 1 each j l)
    by (no l) = let m : length (used_rows rows places) ≤ j = omega arith in rw (get_or-eq_default (used_rows rows places) unused m) (free (suc j))

signal_some : (signals s : ℕ) → is_signal signals s ≡ true → 1 ≤ s
signal_some signals s e = by (ℕ_discrete s 0)
  where
    by : Dec (s ≡ 0) → 1 ≤ s
    by (yes z) = absurd (true≢false (sym e ∙ ap (λ b. pick b false (leb s signals)) (eq-eqb s 0 z)))
    by (no z) = omega arith

range_signals : (signals k : ℕ) (r : Row) → in_range signals k r ≡ true → EachSignal (λ s. (1 ≤ s) × (s ≤ signals)) r
range_signals signals k (Constant c) e = tt
range_signals signals k (Signal c s) e = (signal_some signals s e, signal_most signals s e)
range_signals signals k (Unary c a) e = tt
range_signals signals k (Binary c a b) e = tt

-- a rule's own rows, and those of a normal form
module _ (signals rows : ℕ) (places : List RowPlace) (range : EachAt (λ k r. in_range signals k r ≡ true) 1 (used_rows rows places)) where
  pub table_operands : (k : ℕ) → k < suc rows → Each (λ a. (1 ≤ a) × (a < k)) (table_of places k)
  table_operands zero h = tt
  table_operands (suc j) h = each_operand _ (row_in places j) (range_below signals (suc j) (row_in places j) (used_each (λ k r. in_range signals k r ≡ true) (λ k. refl) rows places range j (omega arith)))

  pub table_ordered : Ordered (suc rows) (table_of places)
  table_ordered k h = each_map _ _ (λ a x. x.1) (table_of places k) (table_operands k h)

  pub table_signals : (k : ℕ) → k < suc rows → EachSignal (λ s. (1 ≤ s) × (s ≤ signals)) (table_of places k)
  table_signals zero h = tt
  table_signals (suc j) h = range_signals signals (suc j) (row_in places j) (used_each (λ k r. in_range signals k r ≡ true) (λ k. refl) rows places range j (omega arith))

module _ (g : NormalForm) (ok : InNormalForm g) where
  pub form_operands : (k : ℕ) → k < suc g.rows → Each (λ a. (1 ≤ a) × (a < k)) (table_of g.places k)
  form_operands = table_operands g.signals g.rows g.places ok.rows_in_range

  pub form_ordered : Ordered (suc g.rows) (table_of g.places)
  form_ordered = table_ordered g.signals g.rows g.places ok.rows_in_range

  pub form_signals : (k : ℕ) → k < suc g.rows → EachSignal (λ s. (1 ≤ s) × (s ≤ g.signals)) (table_of g.places k)
  form_signals = table_signals g.signals g.rows g.places ok.rows_in_range

  pub form_positive : (k : ℕ) → k < suc g.rows → Positive (table_of g.places k)
  form_positive zero h = tt
  form_positive (suc j) h = positive_row (row_in g.places j) (used_each (λ k r. is_not r ≡ false) (λ k. refl) g.rows g.places ok.no_not j (omega arith))

  -- the numbers in the row of place k have their places
  pub row_operands : (k : ℕ) → k < g.rows → Each (λ a. (1 ≤ a) × (a ≤ 128)) (table_of g.places (suc k))
  row_operands k h = each_map _ _ (λ a x. (x.0, omega (arith, x.1, ok.most_rows))) (table_of g.places (suc k)) (form_operands (suc k) (omega arith))

  pub row_signals : (k : ℕ) → k < g.rows → EachSignal (λ s. (1 ≤ s) × (s ≤ 32)) (table_of g.places (suc k))
  row_signals k h = each_signal_map _ _ (table_of g.places (suc k)) (λ s x. (x.0, omega (arith, x.1, ok.most_signals))) (form_signals (suc k) (omega arith))
