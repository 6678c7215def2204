-- Laws of readings, and the small lemmas on order, induction and Bools that all proofs about meaning use. In a full reading, a
-- statement that is not refutable holds: the classical reading is full, the literal one is given excluded middle. Assumes nothing.
use Prim.Native.Nat.{ℕ, zero, suc, ◌≤◌, ◌<◌, zero-le}
use Prim.Axiom.{Lem}
use mathlib.Core.Path.{◌≡◌, refl, subst, sym, ◌∙◌}
use mathlib.Core.Logic.{◌↔◌, ◌⊎◌, inl, inr}
use mathlib.Core.Bool.{Bool, true, false, true≢false}
use native.Mathlib.Nat.{eq-or-lt_of_le}
use native.Mathlib.Decide.{dec_lt}
use native.Mathlib.Omega.{arith}
use Rattle.meaning.specs.Reading.{Reading, classical, literal, Either, Some}
use Rattle.meaning.specs.Operator.{During}

pub iff_refl : {A : Type 0} → A ↔ A
iff_refl = (λ x. x, λ x. x)

-- ---- order and induction

pub lt_or_le : (m n : ℕ) → (m < n) ⊎ (n ≤ m)
lt_or_le m n = by (dec_lt m n)
  where
    by : Dec (m < n) → (m < n) ⊎ (n ≤ m)
    by (yes h) = inl h
    by (no h) = inr (omega arith)

-- P at each cycle from i on, where it follows at j from the cycles between i and j
module _ (P : ℕ → Type 0) (i : ℕ) (step : (j : ℕ) → i ≤ j → During P i j → P j) where
  below : (j k : ℕ) → i ≤ k → k < j → P k
  below zero k l h = absurd (omega arith)
  below (suc j) k l h = step k l (λ m a b. below j m a (omega arith))

  pub induction_from : (j : ℕ) → i ≤ j → P j
  induction_from j h = step j h (below j)

-- each row from the earlier ones
pub row_induction : (P : ℕ → Type 0) → ((k : ℕ) → ((a : ℕ) → a < k → P a) → P k) → (k : ℕ) → P k
row_induction P step k = induction_from P 0 (λ j h d. step j (λ a l. d a zero-le l)) k zero-le

pub during_cons : (P : ℕ → Type 0) (i j : ℕ) → P i → During P (suc i) j → During P i j
during_cons P i j x d k a b = by (eq-or-lt_of_le a)
  where
    by : (i ≡ k) ⊎ (i < k) → P k
    by (inl e) = subst P e x
    by (inr h) = d k h b

pub during_snoc : (P : ℕ → Type 0) (i j : ℕ) → During P i j → P j → During P i (suc j)
during_snoc P i j d x k a b = by (lt_or_le k j)
  where
    by : (k < j) ⊎ (j ≤ k) → P k
    by (inl h) = d k a h
    by (inr h) = subst P (omega arith) x

-- ---- Bools

abbrev pub On : Bool → Type 0
On b = b ≡ true

pub on_and_off : {A : Type 0} {b : Bool} → b ≡ true → b ≡ false → A
on_and_off p q = absurd (true≢false (sym p ∙ q))

pub on_or_off : (b : Bool) → (b ≡ true) ⊎ (b ≡ false)
on_or_off true = inl refl
on_or_off false = inr refl

pub not_not_on : (b : Bool) → ¬ ¬ On b → On b
not_not_on true n = refl
not_not_on false n = absurd (n (λ e. true≢false (sym e)))

pub not-true : (b : Bool) → ¬ On b → b ≡ false
not-true true n = absurd (n refl)
not-true false n = refl

pub not-false : (b : Bool) → ¬ (b ≡ false) → On b
not-false true n = refl
not-false false n = absurd (n refl)

pub bools_equal : (x y : Bool) → (On x → On y) → (On y → On x) → x ≡ y
bools_equal true y f g = sym (f refl)
bools_equal false true f g = g refl
bools_equal false false f g = refl

pub decided_by : {A : Type 0} {b : Bool} → A ↔ On b → Dec A
decided_by {A} {b} e = by (on_or_off b)
  where
    by : (b ≡ true) ⊎ (b ≡ false) → Dec A
    by (inl x) = yes (e.1 x)
    by (inr x) = no (λ y. on_and_off (e.0 y) x)

-- ---- full readings

-- what is not refutable holds
abbrev pub Full : Reading → Type 1
Full R = (A : Type 0) → ¬ ¬ A → R.M A

pub classical_full : Full classical
classical_full A n = n

pub literal_full : Lem {0} → Full literal
literal_full excluded-middle A n = by (excluded-middle ∥ A ∥₁ squash₁)
  where
    by : Dec ∥ A ∥₁ → ∥ A ∥₁
    by (yes x) = x
    by (no f) = absurd (n (λ a. f ∣ a ∣₁))

-- what R reads, S reads
abbrev pub Into : Reading → Reading → Type 1
Into R S = (A : Type 0) → R.M A → S.M A

pub into_itself : (R : Reading) → Into R R
into_itself R A m = m

pub into_full : (R S : Reading) → Full S → Into R S
into_full R S full A m = full A (R.sure m)

-- ---- laws of a reading

pub sum_map : {A B C D : Type 0} → (A → C) → (B → D) → A ⊎ B → C ⊎ D
sum_map f g (inl a) = inl (f a)
sum_map f g (inr b) = inr (g b)

module _ (R : Reading) where
  pub map : {A B : Type 0} → (A → B) → R.M A → R.M B
  map f m = R.bind m (λ a. R.unit (f a))

  pub either_map : {A B C D : Type 0} → (A → C) → (B → D) → Either R A B → Either R C D
  either_map f g = map (sum_map f g)

  pub some_map : {P Q : ℕ → Type 0} → ((j : ℕ) → P j → Q j) → Some R P → Some R Q
  some_map f = map (λ x. (x.0, f x.0 x.1))

  -- reading A adds nothing to A
  abbrev pub Stable : Type 0 → Type 0
  Stable A = R.M A → A

  pub stable_on : (b : Bool) → Stable (On b)
  stable_on b m = not_not_on b (R.sure m)

  pub stable_equal : (a b : Bool) → Stable (a ≡ b)
  stable_equal true b m = sym (stable_on b (map sym m))
  stable_equal false true m = absurd (R.sure m (λ e. true≢false (sym e)))
  stable_equal false false m = refl

  pub stable_not : {A : Type 0} → Stable (¬ A)
  stable_not m a = R.sure m (λ n. n a)

  -- a reading of A may be used where a Bool is shown
  pub on_from : {A : Type 0} {b : Bool} → R.M A → (A → On b) → On b
  on_from {b = b} m f = not_not_on b (λ n. R.sure m (λ a. n (f a)))

  -- in a full reading, what is stable follows from its double negation
  pub not_not_stable : Full R → {A : Type 0} → Stable A → ¬ ¬ A → A
  not_not_stable full s n = s (full _ n)
