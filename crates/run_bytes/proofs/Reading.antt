-- Bytes that are compared with those of the run made of them. Assumes nothing.
use mathlib.Core.Path.{◌≡◌, refl, sym, ap, ◌∙◌}
use mathlib.Core.Bool.{Bool, true, false}
use mathlib.Core.List.{List}
use Prim.Native.Nat.{ℕ, ◌+◌, ◌≤◌, ◌<◌}
use native.Mathlib.Omega.{arith}
use native.Mathlib.Decide.{ℕ_discrete}
use lib.ListN.{length, get_or}
use lib.Seq.{ext_get_or}
use Rattle.tables.specs.declared.run.Run.{Run}
use Rattle.run_bytes.specs.Bytes.{Fits, run_bytes, run_length}
use Rattle.run_bytes.proofs.Positions.{bytes_length}

-- the loop that compares: the first i bytes are compared
pub record SameAt (a b : List ℕ) (i : ℕ) (all : Bool) : Type 0 where
  pub within : i ≤ run_length
  pub those : all ≡ true → (k : ℕ) → k < i → get_or a k 0 ≡ get_or b k 0
  pub every : a ≡ b → all ≡ true

pub same_start : {a b : List ℕ} → SameAt a b 0 true
same_start = record { within = omega arith; those = λ t k h. absurd (omega arith); every = λ e. refl }

module _ {a b : List ℕ} {i : ℕ} {all : Bool} (inv : SameAt a b i all) where
  pub same_differ : i < run_length → (get_or a i 0 ≡ get_or b i 0 → ⊥) → SameAt a b (i + 1) false
  same_differ h n = record { within = omega arith; those = λ t. let z : ◌≡◌ {A = ℕ} 0 1 = cc in absurd (omega arith); every = λ e. absurd (n (ap (λ s. get_or s i 0) e)) }

  pub same_more : i < run_length → get_or a i 0 ≡ get_or b i 0 → SameAt a b (i + 1) all
  same_more h e = record { within = omega arith; those = λ t k l. by t k l (ℕ_discrete k i); every = inv.every }
    where
      by : all ≡ true → (k : ℕ) → k < i + 1 → Dec (k ≡ i) → get_or a k 0 ≡ get_or b k 0
      by t k l (yes q) = rw q e
      by t k l (no q) = inv.those t k (omega arith)

  pub same_end : length a ≡ run_length → length b ≡ run_length → run_length ≤ i → (all ≡ true → a ≡ b) × (a ≡ b → all ≡ true)
  same_end p q h = (λ t. ext_get_or 0 a b (p ∙ sym q) (λ k l. inv.those t k (omega (arith, p))), inv.every)

-- what `read` tells
abbrev Told : List ℕ → Bool → Run → Type 0
Told bytes whole held = (whole ≡ true → bytes ≡ run_bytes held) × ((run : Run) → Fits run → bytes ≡ run_bytes run → (whole ≡ true) × (held ≡ run))

-- no run has so many bytes
pub told_length : {bytes : List ℕ} {held : Run} → (length bytes ≡ run_length → ⊥) → Told bytes false held
told_length n =
    (λ t. let z : ◌≡◌ {A = ℕ} 0 1 = cc in absurd (omega arith), λ run fits e. absurd (n (ap length e ∙ bytes_length run)))

pub told_same : {bytes again : List ℕ} {held : Run} {whole : Bool} → ((run : Run) → Fits run → bytes ≡ run_bytes run → held ≡ run) → again ≡ run_bytes held
    → (whole ≡ true → again ≡ bytes) × (again ≡ bytes → whole ≡ true) → Told bytes whole held
told_same d a w =
    (λ t. sym (w.0 t) ∙ a, λ run fits e. let h = d run fits e in (w.1 (a ∙ (ap run_bytes h ∙ sym e)), h))
