-- What a row of a cycle is made of: the cells that its step reads, and for `next` only one cycle on. Assumes nothing.
use Prim.Native.Nat.{ℕ, ◌≤◌, ◌<◌}
use mathlib.Core.Path.{◌≡◌, refl, sym, ap, ap₂}
use mathlib.Core.Bool.{Bool, true, false}
use mathlib.Core.List.{List}
use native.Mathlib.Omega.{arith}
use lib.ListN.{get_or}
use Rattle.tables.specs.declared.row.Row.{Row}
use Rattle.tables.specs.declared.row.Row.TheVariants.{Constant, Signal, Unary, Binary}
use Rattle.meaning.specs.Rows.{Each, EachSignal, positive}
use Rattle.meaning.specs.Pattern.{Pattern, Pattern.now, Pattern.next, Pattern.connective, Pattern.temporal}
use Rattle.meaning.specs.Pattern.{pattern_of, left, right, signal_sign, signed_bit, connective_bit, operand_bit}
use Rattle.meaning.proofs.Readings.{on_and_off}
use Rattle.cycle_rows.specs.Cycle.{Given, pattern_from, row_from}
use Rattle.cycle_rows.specs.Cells.{given_in, row_cell}
use Rattle.cycle_rows.specs.Steps.{cell_of, step_bit, is_next, InTurn}

-- a pattern looks at its operands in the cycle where it is not `next`, at the right one as it is one cycle on where it is, and at the row
-- itself one cycle on
pattern_local :
    (p : Pattern) (a a' b b' c c' x x' : Bool) → (is_next p ≡ false → (a ≡ a') × (b ≡ b')) → (is_next p ≡ true → c ≡ c') → x ≡ x'
    → pattern_from p a b c x ≡ pattern_from p a' b' c' x'
pattern_local now a a' b b' c c' x x' here ahead own = (here refl).1
pattern_local next a a' b b' c c' x x' here ahead own = ahead refl
pattern_local (connective f) a a' b b' c c' x x' here ahead own = let e = here refl in ap₂ (connective_bit f) e.0 e.1
pattern_local (temporal f w) a a' b b' c c' x x' here ahead own = let e = here refl in rw (e.0, e.1, own)

-- operands by their shape
operands_local :
    (s s' h h' : ℕ → Bool) (r : Row) → EachSignal (λ n. s n ≡ s' n) r → Each (λ a. h a ≡ h' a) r
    → (operand_bit s h (left r) ≡ operand_bit s' h' (left r)) × (operand_bit s h (right r) ≡ operand_bit s' h' (right r))
operands_local s s' h h' (Constant c) sig e = (refl, refl)
operands_local s s' h h' (Signal c n) sig e = (refl, ap (signed_bit (signal_sign c)) sig)
operands_local s s' h h' (Unary c a) sig e = (refl, ap (signed_bit (positive c)) e)
operands_local s s' h h' (Binary c a b) sig e = (e.0, e.1)

-- a row looks at its signal, at its operands in the cycle where it is not `next`, at its operand one cycle on where it is, and at itself
-- one cycle on
module _ (x x' : Given) (h h' u u' : ℕ → Bool) where
  pub row_from_local :
      (r : Row) (k : ℕ) → EachSignal (λ n. x.signals n ≡ x'.signals n) r → (is_next (pattern_of r) ≡ false → Each (λ a. h a ≡ h' a) r)
      → (is_next (pattern_of r) ≡ true → Each (λ a. u a ≡ u' a) r) → u k ≡ u' k → row_from x h u r k ≡ row_from x' h' u' r k
  row_from_local r k sig here ahead own = pattern_local (pattern_of r) _ _ _ _ _ _ (u k) (u' k)
      (λ e. operands_local x.signals x'.signals h h' r sig (here e)) (λ e. (operands_local x.signals x'.signals u u' r sig (ahead e)).1) own

-- what a step makes of its cells is the row, where these cells are all there is
pub step_bit_from : (cells : List Bool) (r : Row) (k : ℕ) → step_bit r (get_or cells (cell_of (left r)) false) (get_or cells (cell_of (right r)) false) (row_cell cells k)
    ≡ row_from (given_in cells) (row_cell cells) (row_cell cells) r k
step_bit_from cells (Constant c) k = refl
step_bit_from cells (Signal c n) k = refl
step_bit_from cells (Unary c a) k = refl
step_bit_from cells (Binary c a b) k = refl

-- the cells of a row's operands are among the 160
pub cells_below : (r : Row) → Each (λ a. (1 ≤ a) × (a ≤ 128)) r → EachSignal (λ n. (1 ≤ n) × (n ≤ 32)) r → (cell_of (left r) < 160) × (cell_of (right r) < 160)
cells_below (Constant c) e f = omega arith
cells_below (Signal c n) e f = omega arith
cells_below (Unary c a) e f = omega arith
cells_below (Binary c a b) e f = omega arith

-- the two sides of `InTurn`
module _ (turn : ℕ → ℕ) (k : ℕ) (r : Row) where
  pub turn_before : (p : Pattern) → is_next p ≡ true → InTurn turn k r p → Each (λ a. turn k < turn a) r
  turn_before now e t = on_and_off refl (sym e)
  turn_before next e t = t
  turn_before (connective f) e t = on_and_off refl (sym e)
  turn_before (temporal f w) e t = on_and_off refl (sym e)

  pub turn_after : (p : Pattern) → is_next p ≡ false → InTurn turn k r p → Each (λ a. turn a < turn k) r
  turn_after now e t = t
  turn_after next e t = on_and_off refl e
  turn_after (connective f) e t = t
  turn_after (temporal f w) e t = t
