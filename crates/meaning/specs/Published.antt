-- THE PUBLISHED MEANING: source document 003, figure 1 ("The semantics of PLTL"), its Boolean and future lines word for word and in
-- the figure's letters. Each line of the figure stands above its definition; (π, i) ⊨ φ is "φ at i". "Or" and ∃ are read as Reading
-- says; "not", "and" and ∀ stand as they are, here and in Satisfaction. That 01's words say the same: proofs/Published. Assumes
-- nothing.
use Rattle.std.specs.Prelude.{ℕ, zero, suc, ◌≤◌, ◌<◌, ◌≡◌, Bool, true}
use Rattle.tables.specs.declared.row.SignalKind.{SignalKind}
use Rattle.tables.specs.declared.row.SignalKind.TheVariants.{Sig, Nsig}
use Rattle.tables.specs.declared.row.UnaryKind.{UnaryKind}
use Rattle.tables.specs.declared.row.UnaryKind.TheVariants.{Not, Next, Always, Ever}
use Rattle.tables.specs.declared.row.BinaryKind.{BinaryKind}
use Rattle.tables.specs.declared.row.BinaryKind.TheVariants.{And, Or, Weak, Until, Release, Srelease}
use Rattle.tables.specs.declared.row.Row.{Row}
use Rattle.tables.specs.declared.row.Row.TheVariants.{Constant, Signal, Unary, Binary}
use Rattle.tables.specs.declared.row.Formula.{Formula}
use Rattle.tables.specs.declared.row.NormalForm.{NormalForm}
use Rattle.meaning.specs.Reading.{Reading, Either, Some}
use Rattle.meaning.specs.Trace.{InfiniteTrace}
use Rattle.meaning.specs.Satisfaction.{Table, table_of, ConstantMeans}

-- (π, i) ⊨ Xφ iff (π, i+1) ⊨ φ
abbrev pub X : (ℕ → Type 0) → ℕ → Type 0
X φ i = φ (suc i)

-- (π, i) ⊨ Gφ iff ∀ j ≥ i. (π, j) ⊨ φ
abbrev pub G : (ℕ → Type 0) → ℕ → Type 0
G φ i = (j : ℕ) → i ≤ j → φ j

-- (π, i) ⊨ p iff p ∈ π(i); `nsig` is the figure's ¬p. `on` is p ∈ π(i).
abbrev pub PublishedSignal : SignalKind → Bool → Type 0
PublishedSignal Sig on = on ≡ true
PublishedSignal Nsig on = ¬ (on ≡ true)

module _ (reading : Reading) where
  -- (π, i) ⊨ Fφ iff ∃ j ≥ i. (π, j) ⊨ φ
  abbrev pub F : (ℕ → Type 0) → ℕ → Type 0
  F φ i = Some reading (λ j. (i ≤ j) × φ j)

  -- (π, i) ⊨ φUψ iff ∃ j ≥ i. ((π, j) ⊨ ψ and ∀ k : i ≤ k < j. (π, k) ⊨ φ)
  abbrev pub U : (ℕ → Type 0) → (ℕ → Type 0) → ℕ → Type 0
  U φ ψ i = Some reading (λ j. (i ≤ j) × ψ j × ((k : ℕ) → i ≤ k → k < j → φ k))

  -- (π, i) ⊨ φRψ iff ∀ j ≥ i. ((π, j) ⊨ ψ or ∃ k : i ≤ k < j. (π, k) ⊨ φ)
  abbrev pub R : (ℕ → Type 0) → (ℕ → Type 0) → ℕ → Type 0
  R φ ψ i = (j : ℕ) → i ≤ j → Either reading (ψ j) (Some reading (λ k. (i ≤ k) × (k < j) × φ k))

  -- (π, i) ⊨ ¬φ iff (π, i) ⊭ φ; and the operators above
  abbrev pub PublishedUnary : UnaryKind → (ℕ → Type 0) → ℕ → Type 0
  PublishedUnary Not φ i = ¬ φ i
  PublishedUnary Next φ i = X φ i
  PublishedUnary Always φ i = G φ i
  PublishedUnary Ever φ i = F φ i

  -- (π, i) ⊨ φ ∧ ψ iff (π, i) ⊨ φ and (π, i) ⊨ ψ; (π, i) ⊨ φ ∨ ψ iff (π, i) ⊨ φ or (π, i) ⊨ ψ; and the operators above. Not in the
  -- figure: weak until, which is φUψ ∨ Gφ (document 000, figure 1: "a holds up to the cycle before b holds, or a holds forever"); and
  -- strong release, which is ψU(φ ∧ ψ).
  abbrev pub PublishedBinary : BinaryKind → (ℕ → Type 0) → (ℕ → Type 0) → ℕ → Type 0
  PublishedBinary And φ ψ i = φ i × ψ i
  PublishedBinary Or φ ψ i = Either reading (φ i) (ψ i)
  PublishedBinary Weak φ ψ i = Either reading (U φ ψ i) (G φ i)
  PublishedBinary Until φ ψ i = U φ ψ i
  PublishedBinary Release φ ψ i = R φ ψ i
  PublishedBinary Srelease φ ψ i = U ψ (λ j. φ j × ψ j) i

  module _ (π : InfiniteTrace) where
    -- figure 1 row by row, where v says at which cycles each earlier row is true; the constants are not in the figure
    abbrev pub PublishedMeans : (ℕ → ℕ → Type 0) → Row → ℕ → Type 0
    PublishedMeans v (Constant c) i = ConstantMeans c
    PublishedMeans v (Signal c p) i = PublishedSignal c (π i p)
    PublishedMeans v (Unary c φ) i = PublishedUnary c (v φ) i
    PublishedMeans v (Binary c φ ψ) i = PublishedBinary c (v φ) (v ψ) i

    -- row k is true at cycle i by figure 1; the depth as for RowTrue (law `published_means`)
    unfoldable pub PublishedWithin : Table → ℕ → ℕ → ℕ → Type 0
    PublishedWithin t zero k i = ⊥
    PublishedWithin t (suc d) k i = PublishedMeans (PublishedWithin t d) (t k) i

    unfoldable pub PublishedTrue : Table → ℕ → ℕ → Type 0
    PublishedTrue t k i = PublishedWithin t (suc k) k i

-- "φ is true in π, written π ⊨ φ, iff (π, 0) ⊨ φ"
abbrev pub PublishedSatisfies : Reading → InfiniteTrace → Formula → Type 0
PublishedSatisfies reading π f = PublishedTrue reading π (table_of f.places) f.rows 0

-- and so for a normal form
abbrev pub PublishedSatisfiesNormal : Reading → InfiniteTrace → NormalForm → Type 0
PublishedSatisfiesNormal reading π f = PublishedTrue reading π (table_of f.places) f.rows 0
