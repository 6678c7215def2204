-- How many rows that look back are nested below a row is what its operands have and its own delay (nested_is): the depth to which the
-- definition reads is enough. No kind looks back yet, so none are nested (nested-none, nesting-none). Assumes nothing.
use Prim.Native.Nat.{ℕ, zero, suc, ◌+◌, ◌≤◌, ◌<◌, max}
use mathlib.Core.Path.{◌≡◌, refl, subst⁻¹, ap, ap₂}
use mathlib.Core.Logic.{◌⊎◌, inl, inr}
use native.Mathlib.Nat.{le_trans, le-max_left, le-max_right}
use native.Mathlib.Omega.{arith}
use Rattle.tables.specs.declared.row.Row.{Row}
use Rattle.tables.specs.declared.row.Row.TheVariants.{Constant, Signal, Unary, Binary}
use Rattle.tables.specs.declared.row.NormalForm.{NormalForm}
use Rattle.meaning.specs.Satisfaction.{Table, table_of}
use Rattle.meaning.specs.Rows.{Each, Ordered}
use Rattle.meaning.specs.Pattern.{Pattern, Pattern.now, Pattern.next, Pattern.connective, Pattern.temporal, pattern_of}
use Rattle.meaning.specs.Nesting.{delay, most_below, nested_within, nested, most_nested, nesting}
use Rattle.meaning.proofs.Readings.{lt_or_le}
use Rattle.meaning.proofs.Rows.{each_map}

-- no operand has more than the most of them
pub most_below_lem : (below : ℕ → ℕ) (r : Row) → Each (λ a. below a ≤ most_below below r) r
most_below_lem below (Constant c) = tt
most_below_lem below (Signal c s) = tt
most_below_lem below (Unary c a) = omega arith
most_below_lem below (Binary c a b) = (le-max_left (below a) (below b), le-max_right (below a) (below b))

most_below_local : (u v : ℕ → ℕ) (r : Row) → Each (λ a. u a ≡ v a) r → most_below u r ≡ most_below v r
most_below_local u v (Constant c) e = refl
most_below_local u v (Signal c s) e = refl
most_below_local u v (Unary c a) e = e
most_below_local u v (Binary c a b) e = ap₂ max e.0 e.1

module _ (t : Table) (n : ℕ) (ordered : Ordered n t) where
  within_same : (d e k : ℕ) → k < d → k < e → k < n → nested_within t d k ≡ nested_within t e k
  unfolding nested_within
  within_same zero e k p q h = absurd (omega arith)
  within_same (suc d) zero k p q h = absurd (omega arith)
  within_same (suc d) (suc e) k p q h = ap (λ x. x + delay (pattern_of (t k))) (most_below_local (nested_within t d) (nested_within t e) (t k)
      (each_map _ _ (λ a l. within_same d e a (omega arith) (omega arith) (omega arith)) (t k) (ordered k h)))

  pub nested_is : (k : ℕ) → k < n → nested t k ≡ most_below (nested t) (t k) + delay (pattern_of (t k))
  unfolding nested nested_within
  nested_is k h = ap (λ x. x + delay (pattern_of (t k))) (most_below_local (nested_within t k) (nested t) (t k)
      (each_map _ _ (λ a l. within_same k (suc a) a l (omega arith) (omega arith)) (t k) (ordered k h)))

  pub nested_below : (k : ℕ) → k < n → Each (λ a. nested t a + delay (pattern_of (t k)) ≤ nested t k) (t k)
  nested_below k h = each_map _ _ (λ a l. omega (arith, l, nested_is k h)) (t k) (most_below_lem (nested t) (t k))

-- no row below m has more than the most of them
pub nested_most : (t : Table) (m k : ℕ) → k < m → nested t k ≤ most_nested t m
unfolding most_nested
nested_most t zero k h = absurd (omega arith)
nested_most t (suc m) k h = by (lt_or_le k m) (nested_most t m k)
  where
    by : (k < m) ⊎ (m ≤ k) → (k < m → nested t k ≤ most_nested t m) → nested t k ≤ max (most_nested t m) (nested t m)
    by (inl l) earlier = le_trans (earlier l) (le-max_left (most_nested t m) (nested t m))
    by (inr l) earlier =
        let e : k ≡ m = omega arith in
        subst⁻¹ (λ x. nested t x ≤ max (most_nested t m) (nested t m)) e (le-max_right (most_nested t m) (nested t m))

-- ---- no kind looks back yet

pub delay_none : (p : Pattern) → delay p ≡ 0
delay_none now = refl
delay_none next = refl
delay_none (connective f) = refl
delay_none (temporal f w) = refl

most_below_none : (below : ℕ → ℕ) → ((a : ℕ) → below a ≡ 0) → (r : Row) → most_below below r ≡ 0
most_below_none below e (Constant c) = refl
most_below_none below e (Signal c s) = refl
most_below_none below e (Unary c a) = e a
most_below_none below e (Binary c a b) = ap₂ max (e a) (e b)

within_none : (t : Table) (d k : ℕ) → nested_within t d k ≡ 0
unfolding nested_within
within_none t zero k = refl
within_none t (suc d) k = ap₂ ◌+◌ (most_below_none (nested_within t d) (within_none t d) (t k)) (delay_none (pattern_of (t k)))

pub nested_none : (t : Table) (k : ℕ) → nested t k ≡ 0
unfolding nested
nested_none t k = within_none t (suc k) k

most_nested_none : (t : Table) (m : ℕ) → most_nested t m ≡ 0
unfolding most_nested
most_nested_none t zero = refl
most_nested_none t (suc m) = ap₂ max (most_nested_none t m) (nested_none t m)

pub nesting_none : (g : NormalForm) → nesting g ≡ 0
nesting_none g = most_nested_none (table_of g.places) (suc g.rows)
