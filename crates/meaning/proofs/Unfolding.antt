-- The expansion laws of the temporal operators: what each says at cycle i, by what holds at i and what it says at i + 1. All hold in
-- any reading; the releases' usual form, a conjunction, asks that b is stable, as every row's truth is. Assumes nothing.
use Prim.Native.Nat.{ℕ, suc, ◌≤◌, ◌<◌}
use mathlib.Core.Path.{◌≡◌, subst, subst⁻¹}
use mathlib.Core.Logic.Iff
use mathlib.Core.Logic.{◌↔◌, ◌⊎◌, inl, inr}
use mathlib.Core.Bool.{Bool, true, false}
use native.Mathlib.Nat.{eq-or-lt_of_le}
use native.Mathlib.Omega.{arith}
use Rattle.meaning.specs.Reading.{Reading, Either}
use Rattle.meaning.specs.Operator.{During, Always, Ever, Until, Weak, Srelease, Release}
use Rattle.meaning.proofs.Readings.{map, either_map, Stable, during_cons}
use Rattle.meaning.proofs.Pattern.{Temporal}
use Rattle.meaning.proofs.MeaningByPattern.{srelease_until, release_weak}

module _ (a : ℕ → Type 0) (i : ℕ) where
  pub always_unfolds : Always a i ↔ (a i × Always a (suc i))
  always_unfolds = (λ h. (h i (omega arith), λ j l. h j (omega arith)), λ x j l. at j x (eq-or-lt_of_le l))
    where
      at : (j : ℕ) → a i × Always a (suc i) → (i ≡ j) ⊎ (i < j) → a j
      at j x (inl e) = subst a e x.0
      at j x (inr h) = x.1 j h

module _ (R : Reading) (a : ℕ → Type 0) (i : ℕ) where
  pub ever_unfolds : Ever R a i ↔ Either R (a i) (Ever R a (suc i))
  ever_unfolds = (map R (λ x. out x.0 x.1 (eq-or-lt_of_le x.1.0)), λ m. R.bind m into)
    where
      out : (j : ℕ) → (i ≤ j) × a j → (i ≡ j) ⊎ (i < j) → a i ⊎ Ever R a (suc i)
      out j x (inl e) = inl (subst⁻¹ a e x.1)
      out j x (inr h) = inr (R.unit (j, (h, x.1)))

      into : a i ⊎ Ever R a (suc i) → Ever R a i
      into (inl x) = R.unit (i, (omega arith, x))
      into (inr m) = map R (λ x. (x.0, (omega arith, x.1.1))) m

module _ (R : Reading) (a b : ℕ → Type 0) (i : ℕ) where
  pub until_unfolds : Until R a b i ↔ Either R (b i) (a i × Until R a b (suc i))
  until_unfolds = (map R (λ x. out x.0 x.1 (eq-or-lt_of_le x.1.0)), λ m. R.bind m into)
    where
      out : (j : ℕ) → (i ≤ j) × b j × During a i j → (i ≡ j) ⊎ (i < j) → b i ⊎ (a i × Until R a b (suc i))
      out j x (inl e) = inl (subst⁻¹ b e x.1)
      out j x (inr h) = inr (x.2 i (omega arith) h, R.unit (j, (h, x.1, λ k l m. x.2 k (omega arith) m)))

      into : b i ⊎ (a i × Until R a b (suc i)) → Until R a b i
      into (inl x) = R.unit (i, (omega arith, x, λ k l h. absurd (omega arith)))
      into (inr x) = map R (λ y. (y.0, (omega arith, y.1.1, during_cons a i y.0 x.0 y.1.2))) x.1

  pub weak_unfolds : Weak R a b i ↔ Either R (b i) (a i × Weak R a b (suc i))
  weak_unfolds = (λ m. R.bind m out, λ m. R.bind m into)
    where
      out : Until R a b i ⊎ Always a i → Either R (b i) (a i × Weak R a b (suc i))
      out (inl u) = either_map R (λ x. x) (λ x. (x.0, R.unit (inl x.1))) (until_unfolds.0 u)
      out (inr h) = R.unit (inr (h i (omega arith), R.unit (inr ((always_unfolds a i).0 h).1)))

      onto : a i → Until R a b (suc i) ⊎ Always a (suc i) → Until R a b i ⊎ Always a i
      onto x (inl u) = inl (until_unfolds.1 (R.unit (inr (x, u))))
      onto x (inr h) = inr ((always_unfolds a i).1 (x, h))

      into : b i ⊎ (a i × Weak R a b (suc i)) → Weak R a b i
      into (inl x) = R.unit (inl (until_unfolds.1 (R.unit (inl x))))
      into (inr x) = map R (onto x.0) x.1

  -- either, by what holds where b never comes
  pub temporal_unfolds : (w : Bool) → Temporal R w a b i ↔ Either R (b i) (a i × Temporal R w a b (suc i))
  temporal_unfolds true = weak_unfolds
  temporal_unfolds false = until_unfolds

module _ (R : Reading) (a b : ℕ → Type 0) (i : ℕ) where
  pub srelease_unfolds : Srelease R a b i ↔ Either R (a i × b i) (b i × Srelease R a b (suc i))
  srelease_unfolds =
      let e = until_unfolds R b (λ j. a j × b j) i in
      let tail = srelease_until R a b (suc i) in (
        λ m. either_map R (λ x. x) (λ x. (x.0, tail.1 x.1)) (e.0 ((srelease_until R a b i).0 m)),
        λ m. (srelease_until R a b i).1 (e.1 (either_map R (λ x. x) (λ x. (x.0, tail.0 x.1)) m)),
      )

  pub release_unfolds : Release R a b i ↔ Either R (a i × b i) (b i × Release R a b (suc i))
  release_unfolds =
      let e = weak_unfolds R b (λ j. a j × b j) i in
      let tail = release_weak R a b (suc i) in (
        λ m. either_map R (λ x. x) (λ x. (x.0, tail.1 x.1)) (e.0 ((release_weak R a b i).0 m)),
        λ m. (release_weak R a b i).1 (e.1 (either_map R (λ x. x) (λ x. (x.0, tail.0 x.1)) m)),
      )

  -- the conjunctive form: b, and a or the rest
  module _ (stable : Stable R (b i)) where
    common : (C : Type 0) → Either R (a i × b i) (b i × C) ↔ (b i × Either R (a i) C)
    common C = (λ m. (stable (map R first m), map R second m), λ x. map R (onto x.0) x.1)
      where
        first : (a i × b i) ⊎ (b i × C) → b i
        first (inl x) = x.1
        first (inr x) = x.0

        second : (a i × b i) ⊎ (b i × C) → a i ⊎ C
        second (inl x) = inl x.0
        second (inr x) = inr x.1

        onto : b i → a i ⊎ C → (a i × b i) ⊎ (b i × C)
        onto y (inl x) = inl (x, y)
        onto y (inr x) = inr (y, x)

    pub srelease_unfolds_and : Srelease R a b i ↔ (b i × Either R (a i) (Srelease R a b (suc i)))
    srelease_unfolds_and = Iff.trans srelease_unfolds (common (Srelease R a b (suc i)))

    pub release_unfolds_and : Release R a b i ↔ (b i × Either R (a i) (Release R a b (suc i)))
    release_unfolds_and = Iff.trans release_unfolds (common (Release R a b (suc i)))
