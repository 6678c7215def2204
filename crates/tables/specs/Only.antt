-- 01, "Contract and evidence": "what the definitions decide, the contract states as an equality". Where what is decided is a meaning and
-- no function computes it without being an algorithm, a contract says what its answer has to be, and that nothing else is so: the
-- answer equals every answer that the definitions allow. Assumes nothing.
use Rattle.std.specs.Prelude.{◌≡◌}

-- r is such an answer, and the only one
pub record TheOnly {A : Type 0} (P : A → Type 0) (r : A) : Type 0 where
  pub so : P r
  pub only : (s : A) → P s → s ≡ r

-- the same of what a call leaves in a buffer, and its answer
pub record TheOnlyPair {A B : Type 0} (P : A → B → Type 0) (left : A) (r : B) : Type 0 where
  pub so : P left r
  pub only : (other : A) (s : B) → P other s → (other ≡ left) × (s ≡ r)
