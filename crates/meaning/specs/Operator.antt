-- The temporal operators in 01's words ("Meaning"): "On an endless take at cycle i, j meaning i or later". An operand is given by the
-- cycles at which it is true. That they are those of source document 003, figure 1 (Published): proofs/Published. Assumes nothing.
use Rattle.std.specs.Prelude.{ℕ, suc, ◌≤◌, ◌<◌}
use Rattle.meaning.specs.Reading.{Reading, Either, Some}

-- "at each cycle from i up to but without j"
abbrev pub During : (ℕ → Type 0) → ℕ → ℕ → Type 0
During a i j = (k : ℕ) → i ≤ k → k < j → a k

-- "at each cycle from i through j"
abbrev pub Through : (ℕ → Type 0) → ℕ → ℕ → Type 0
Through a i j = (k : ℕ) → i ≤ k → k ≤ j → a k

-- "always a: a at every j"
abbrev pub Always : (ℕ → Type 0) → ℕ → Type 0
Always a i = (j : ℕ) → i ≤ j → a j

-- "next a: a at i+1"
abbrev pub Next : (ℕ → Type 0) → ℕ → Type 0
Next a i = a (suc i)

module _ (R : Reading) where
  -- "ever a: a at some j"
  abbrev pub Ever : (ℕ → Type 0) → ℕ → Type 0
  Ever a i = Some R (λ j. (i ≤ j) × a j)

  -- "until a b: b at some j, and a at each cycle from i up to but without j"
  abbrev pub Until : (ℕ → Type 0) → (ℕ → Type 0) → ℕ → Type 0
  Until a b i = Some R (λ j. (i ≤ j) × b j × During a i j)

  -- "weak a b: until a b, or always a"
  abbrev pub Weak : (ℕ → Type 0) → (ℕ → Type 0) → ℕ → Type 0
  Weak a b i = Either R (Until a b i) (Always a i)

  -- "srelease a b: a at some j, and b at each cycle from i through j"
  abbrev pub Srelease : (ℕ → Type 0) → (ℕ → Type 0) → ℕ → Type 0
  Srelease a b i = Some R (λ j. (i ≤ j) × a j × Through b i j)

  -- "release a b: srelease a b, or always b"
  abbrev pub Release : (ℕ → Type 0) → (ℕ → Type 0) → ℕ → Type 0
  Release a b i = Either R (Srelease a b i) (Always b i)
