-- Strong meaning on an open take of n cycles, for normal forms (01, "Meaning"). Assumes nothing.
use Rattle.std.specs.Prelude.{ℕ, zero, suc, ◌≤◌, ◌<◌}
use Rattle.tables.specs.declared.row.UnaryKind.{UnaryKind}
use Rattle.tables.specs.declared.row.UnaryKind.TheVariants.{Not, Next, Always, Ever}
use Rattle.tables.specs.declared.row.BinaryKind.{BinaryKind}
use Rattle.tables.specs.declared.row.BinaryKind.TheVariants.{And, Or, Weak, Until, Release, Srelease}
use Rattle.tables.specs.declared.row.Row.{Row}
use Rattle.tables.specs.declared.row.Row.TheVariants.{Constant, Signal, Unary, Binary}
use Rattle.meaning.specs.Reading.{Reading, Either, Some}
use Rattle.meaning.specs.Operator.{During, Through}
use Rattle.meaning.specs.Trace.{InfiniteTrace}
use Rattle.meaning.specs.Satisfaction.{Table, ConstantMeans, SignalMeans}

module _ (R : Reading) (n : ℕ) where
  -- "each j lies below n"
  abbrev pub StrongEver : (ℕ → Type 0) → ℕ → Type 0
  StrongEver a i = Some R (λ j. (i ≤ j) × (j < n) × a j)

  abbrev pub StrongUntil : (ℕ → Type 0) → (ℕ → Type 0) → ℕ → Type 0
  StrongUntil a b i = Some R (λ j. (i ≤ j) × (j < n) × b j × During a i j)

  abbrev pub StrongSrelease : (ℕ → Type 0) → (ℕ → Type 0) → ℕ → Type 0
  StrongSrelease a b i = Some R (λ j. (i ≤ j) × (j < n) × a j × Through b i j)

  -- "next needs i+1 below n; each j lies below n; always never holds; weak is until; release is srelease". No normal form has a `not`
  -- row.
  abbrev pub StrongUnaryMeans : UnaryKind → (ℕ → Type 0) → ℕ → Type 0
  StrongUnaryMeans Not a i = ⊥
  StrongUnaryMeans Next a i = (suc i < n) × a (suc i)
  StrongUnaryMeans Always a i = ⊥
  StrongUnaryMeans Ever a i = StrongEver a i

  abbrev pub StrongBinaryMeans : BinaryKind → (ℕ → Type 0) → (ℕ → Type 0) → ℕ → Type 0
  StrongBinaryMeans And a b i = a i × b i
  StrongBinaryMeans Or a b i = Either R (a i) (b i)
  StrongBinaryMeans Weak a b i = StrongUntil a b i
  StrongBinaryMeans Until a b i = StrongUntil a b i
  StrongBinaryMeans Release a b i = StrongSrelease a b i
  StrongBinaryMeans Srelease a b i = StrongSrelease a b i

  module _ (w : InfiniteTrace) where
    -- "signals and logic as usual"
    abbrev pub StrongMeans : (ℕ → ℕ → Type 0) → Row → ℕ → Type 0
    StrongMeans v (Constant c) i = ConstantMeans c
    StrongMeans v (Signal c s) i = SignalMeans c (w i s)
    StrongMeans v (Unary c a) i = StrongUnaryMeans c (v a) i
    StrongMeans v (Binary c a b) i = StrongBinaryMeans c (v a) (v b) i

    -- row k is strongly true at cycle i; the depth as for truth
    unfoldable pub StrongWithin : Table → ℕ → ℕ → ℕ → Type 0
    StrongWithin t zero k i = ⊥
    StrongWithin t (suc d) k i = StrongMeans (StrongWithin t d) (t k) i

    unfoldable pub RowStronglyTrue : Table → ℕ → ℕ → Type 0
    RowStronglyTrue t k i = StrongWithin t (suc k) k i
