-- How "or" and "at some cycle" are read. The prover is constructive: its own "or" has to say which side holds, and its own "there
-- is" has to show one, while the logic of the papers is classical. So every clause of the meaning is written once, over a reading,
-- which says what a proof of such a statement tells. docs/DECISIONS.md has the reasons. Assumes nothing.
use Rattle.std.specs.Prelude.{ℕ, ◌⊎◌}
use mathlib.Core.HLevel.{⊥_prop}

-- M A says that A holds, and tells at least that A is not refutable
pub record Reading : Type 1 where
  pub M : Type 0 → Type 0
  pub unit : {A : Type 0} → A → M A
  pub bind : {A B : Type 0} → M A → (A → M B) → M B
  pub sure : {A : Type 0} → M A → ¬ ¬ A

-- THE READING OF THE CLAIMS: "or" is "not neither", "at some cycle" is "not at no cycle". This is the classical meaning, put
-- into a constructive logic word for word (the negative translation).
abbrev pub classical : Reading
classical = record { M = λ A. ¬ ¬ A; unit = λ x n. n x; bind = λ m f n. m (λ a. f a n); sure = λ m. m }

-- the literal reading: a disjunction, and a cycle that is there
abbrev pub literal : Reading
literal = record { M = λ A. ∥ A ∥₁; unit = λ x. ∣ x ∣₁; bind = λ m f. ∥∥₁_rec squash₁ f m; sure = λ m n. ∥∥₁_rec ⊥_prop n m }

module _ (R : Reading) where
  abbrev pub Either : Type 0 → Type 0 → Type 0
  Either A B = R.M (A ⊎ B)

  abbrev pub Some : (ℕ → Type 0) → Type 0
  Some P = R.M ((j : ℕ) × P j)
