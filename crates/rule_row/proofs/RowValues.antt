-- Laws of a row's value, as the code finds it. Assumes nothing.
use mathlib.Core.Path.{◌≡◌, refl, ap, ap₂}
use mathlib.Core.Bool.{true, false}
use mathlib.Core.List.{List}
use Prim.Native.Nat.{ℕ, ◌%◌, ◌≤◌, ◌<◌}
use native.Mathlib.Nat.{mod-eq_of_lt}
use native.Mathlib.Omega.{arith}
use borrow.Author.Tests.{eq-eqb, ne_eqb}
use Rattle.tables.specs.Kind.{kind_at, with_numbers, numbers_in}
use Rattle.tables.specs.declared.refusal.Reason.{Reason}
use Rattle.tables.specs.declared.refusal.Reason.TheVariants.{WrongForm, BadReference}
use Rattle.tables.specs.declared.row.Row.{Row}
use Rattle.tables.specs.declared.row.Row.TheVariants.{Constant, Signal, Unary, Binary}
use Rattle.text.specs.Result.Parsed.{good, bad}
use Rattle.text.specs.declared.search.Found.TheVariants.{At, Nothing}
use Rattle.tables.proofs.Choices.{pick_both}
use Rattle.rule_row.proofs.Laws.{signal_most, operand_below}
use Rattle.rule_row.specs.Row.{kind_named, form_of, row_form, is_operand, in_range, row_value}

-- a word by its kind
module _ (word : List ℕ) (count a b : ℕ) where
  pub form_unknown : kind_named word ≡ Nothing → form_of word count a b ≡ bad WrongForm
  unfolding form_of
  form_unknown e = rw e

  module _ {k : ℕ} (e : kind_named word ≡ At k) where
    pub form_miscounted : (numbers_in (kind_at k).row ≡ count → ⊥) → form_of word count a b ≡ bad WrongForm
    unfolding form_of
    form_miscounted n = rw (e, ne_eqb (numbers_in (kind_at k).row) count n)

    pub form_counted : numbers_in (kind_at k).row ≡ count → form_of word count a b ≡ good (with_numbers (kind_at k).row a b)
    unfolding form_of
    form_counted n = rw (e, eq-eqb (numbers_in (kind_at k).row) count n)

-- a value by its form
module _ (signals number : ℕ) (value : List ℕ) where
  pub value_formless : {e : Reason} → row_form value ≡ bad e → row_value signals number value ≡ bad e
  unfolding row_value
  value_formless f = rw f

  module _ {r : Row} (f : row_form value ≡ good r) where
    pub value_outside : in_range signals number r ≡ false → row_value signals number value ≡ bad BadReference
    unfolding row_value
    value_outside o = rw (f, o)

    pub value_inside : in_range signals number r ≡ true → row_value signals number value ≡ good r
    unfolding row_value
    value_inside o = rw (f, o)

-- numbers in their ranges are small
module _ (signals number : ℕ) (hs : signals ≤ 32) (hn : number ≤ 64) where
  same_byte : (a : ℕ) → a < 256 → a % 256 ≡ a
  same_byte a h = mod-eq_of_lt h

  -- so that they fit a row
  pub small_numbers : (r : Row) (a b : ℕ) → in_range signals number (with_numbers r a b) ≡ true → with_numbers r (a % 256) (b % 256) ≡ with_numbers r a b
  small_numbers (Constant k) a b e = refl
  small_numbers (Signal k s) a b e = ap (Signal k) (same_byte a (omega (arith, signal_most signals a e)))
  small_numbers (Unary k s) a b e = ap (Unary k) (same_byte a (omega (arith, operand_below number a e)))
  small_numbers (Binary k s t) a b e =
      let w = pick_both (is_operand number a) (is_operand number b) e in
      ap₂ (Binary k) (same_byte a (omega (arith, operand_below number a w.0))) (same_byte b (omega (arith, operand_below number b w.1)))
