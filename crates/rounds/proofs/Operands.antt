-- What is asked of a row's operands behind a round, as laws: tests of each operand, operands alike, and the rows that look ahead.
-- Assumes nothing.
use Prim.Native.Nat.{ℕ}
use mathlib.Core.Path.{◌≡◌, refl, ap}
use mathlib.Core.Bool.{Bool, true, false}
use Rattle.tables.specs.declared.row.Row.{Row}
use Rattle.tables.specs.declared.row.Row.TheVariants.{Constant, Signal, Unary, Binary}
use Rattle.meaning.specs.Rows.{Each}
use Rattle.meaning.specs.Pattern.{Pattern, Pattern.now, Pattern.next, Pattern.connective, Pattern.temporal}
use Rattle.meaning.specs.Pattern.{left, right, pattern_of, signed_bit, operand_bit}
use Rattle.meaning.proofs.Readings.{On, on_and_off, iff_refl}
use Rattle.meaning.proofs.Rows.{each_map}
use Rattle.meaning.proofs.Pattern.{both_operands}
use Rattle.meaning.proofs.PatternBits.{and_iff}
use Rattle.between_rounds.specs.Between.{every_operand, same_bit}

pub same_equal : (a b : Bool) → On (same_bit a b) → a ≡ b
same_equal true true e = refl
same_equal true false e = on_and_off e refl
same_equal false true e = on_and_off e refl
same_equal false false e = refl

pub equal_same : {a b : Bool} → a ≡ b → On (same_bit a b)
equal_same {a} {b} e = rw e (itself b)
  where
    itself : (b : Bool) → On (same_bit b b)
    itself true = refl
    itself false = refl

module _ (on : ℕ → Bool) where
  pub every_each : (r : Row) → On (every_operand on r) → Each (λ a. On (on a)) r
  every_each (Constant c) e = tt
  every_each (Signal c s) e = tt
  every_each (Unary c a) e = e
  every_each (Binary c a b) e = (and_iff (on a) (on b) iff_refl iff_refl).1 e

  pub each_every : (r : Row) → Each (λ a. On (on a)) r → On (every_operand on r)
  each_every (Constant c) e = refl
  each_every (Signal c s) e = refl
  each_every (Unary c a) e = e
  each_every (Binary c a b) e = (and_iff (on a) (on b) iff_refl iff_refl).0 e

-- over the same signals
pub operands_alike :
    (signals u v : ℕ → Bool) (r : Row) → Each (λ a. u a ≡ v a) r
    → (operand_bit signals u (left r) ≡ operand_bit signals v (left r)) × (operand_bit signals u (right r) ≡ operand_bit signals v (right r))
operands_alike signals u v r e = both_operands (λ y. operand_bit signals u y ≡ operand_bit signals v y) (λ b. refl) (λ b s. refl) r (each_map _ _ (λ a m b. ap (signed_bit b) m) r e)

-- ---- rows that look ahead

abbrev pub LooksAhead : Pattern → Type 0
LooksAhead now = ⊥
LooksAhead next = Unit {0}
LooksAhead (connective f) = ⊥
LooksAhead (temporal f w) = Unit {0}

-- they have an operand
pub some_operand : (P : ℕ → Type 0) (r : Row) → LooksAhead (pattern_of r) → Each P r → (a : ℕ) × P a
some_operand P (Constant c) h e = absurd h
some_operand P (Signal c s) h e = absurd h
some_operand P (Unary c a) h e = (a, e)
some_operand P (Binary c a b) h e = (a, e.0)

-- and none of theirs is a signal
pub any_signals : (r : Row) → LooksAhead (pattern_of r) → (s s' u : ℕ → Bool) → operand_bit s u (right r) ≡ operand_bit s' u (right r)
any_signals (Constant c) h s s' u = absurd h
any_signals (Signal c g) h s s' u = absurd h
any_signals (Unary c a) h s s' u = refl
any_signals (Binary c a b) h s s' u = refl
