-- The pigeonhole: m numbers below m, no two alike, are all the numbers below m. Assumes nothing.
use Prim.Native.Nat.{ℕ, zero, suc, ◌*◌, ◌-◌, ◌/◌, ◌≤◌, ◌<◌}
use mathlib.Core.Path.{◌≡◌, sym, ◌∙◌}
use mathlib.Core.List.{List}
use native.Mathlib.Decide.{ℕ_discrete}
use native.Mathlib.Omega.{arith}
use lib.ListN.{length, get_or}
use Rattle.circuit.specs.Circuit.{IsVariable}

-- the first m numbers are below m
abbrev Below : ℕ → (ℕ → ℕ) → Type 0
Below m f = (i : ℕ) → i < m → f i < m

-- no two of them are alike
abbrev Apart : ℕ → (ℕ → ℕ) → Type 0
Apart m f = (i j : ℕ) → i < j → j < m → ¬ (f i ≡ f j)

-- the number m, where it stands among the first m, changes its place with the number behind them
module _ (m : ℕ) (f : ℕ → ℕ) where
  abbrev moved : (i : ℕ) → Dec (f i ≡ m) → ℕ
  moved i (yes e) = f m
  moved i (no e) = f i

  abbrev changed : ℕ → ℕ
  changed i = moved i (ℕ_discrete (f i) m)

  module _ (below : Below (suc m) f) (apart : Apart (suc m) f) where
    changed_below : Below m changed
    changed_below i h = by (ℕ_discrete (f i) m)
      where
        by : (d : Dec (f i ≡ m)) → moved i d < m
        by (yes e) = let n : ¬ (f m ≡ m) = λ q. apart i m h (omega arith) (e ∙ sym q) in omega (arith, below m (omega arith))
        by (no e) = omega (arith, below i (omega arith))

    changed_apart : Apart m changed
    changed_apart i j l h = by (ℕ_discrete (f i) m) (ℕ_discrete (f j) m)
      where
        by : (d : Dec (f i ≡ m)) (e : Dec (f j ≡ m)) → ¬ (moved i d ≡ moved j e)
        by (yes d) (yes e) q = apart i j l (omega arith) (d ∙ sym e)
        by (yes d) (no e) q = apart j m h (omega arith) (sym q)
        by (no d) (yes e) q = apart i m (omega arith) (omega arith) q
        by (no d) (no e) q = apart i j l (omega arith) q

    -- where a number stood before the change
    unchanged : (i x : ℕ) → i < m → changed i ≡ x → (j : ℕ) × (j < suc m) × (f j ≡ x)
    unchanged i x h = by (ℕ_discrete (f i) m)
      where
        by : (d : Dec (f i ≡ m)) → moved i d ≡ x → (j : ℕ) × (j < suc m) × (f j ≡ x)
        by (yes e) q = (m, omega arith, q)
        by (no e) q = (i, omega arith, q)

    largest : ((x : ℕ) → x < m → (i : ℕ) × (i < m) × (changed i ≡ x)) → Dec (f m ≡ m) → (j : ℕ) × (j < suc m) × (f j ≡ m)
    largest ih (yes e) = (m, omega arith, e)
    largest ih (no e) = let w = ih (f m) (omega (arith, below m (omega arith))) in by w.0 w.1 w.2
      where
        by : (i : ℕ) → i < m → changed i ≡ f m → (j : ℕ) × (j < suc m) × (f j ≡ m)
        by i h = go (ℕ_discrete (f i) m)
          where
            go : (d : Dec (f i ≡ m)) → moved i d ≡ f m → (j : ℕ) × (j < suc m) × (f j ≡ m)
            go (yes d) q = (i, omega arith, d)
            go (no d) q = absurd (apart i m h (omega arith) q)

    more : ((x : ℕ) → x < m → (i : ℕ) × (i < m) × (changed i ≡ x)) → (x : ℕ) → x < suc m → Dec (x ≡ m) → (j : ℕ) × (j < suc m) × (f j ≡ x)
    more ih x h (yes e) = rw e (largest ih (ℕ_discrete (f m) m))
    more ih x h (no e) = let w = ih x (omega arith) in unchanged w.0 x w.1 w.2

pub pigeonhole : (m : ℕ) (f : ℕ → ℕ) → Below m f → Apart m f → (x : ℕ) → x < m → (i : ℕ) × (i < m) × (f i ≡ x)
pigeonhole zero f below apart x h = absurd (omega arith)
pigeonhole (suc m) f below apart x h =
    more m f below apart (pigeonhole m (changed m f) (changed_below m f below apart) (changed_apart m f below apart)) x h (ℕ_discrete x m)

-- m literals, each a variable's own, no two alike, hold each variable's
module _ (l : List ℕ) (m : ℕ) (size : length l ≡ m) (variables : (i : ℕ) → i < length l → IsVariable m (get_or l i 0))
    (once : (i j : ℕ) → i < j → j < length l → ¬ (get_or l i 0 ≡ get_or l j 0)) where
  pub each_held : (x : ℕ) → 1 ≤ x → x ≤ m → (i : ℕ) × (i < length l) × (get_or l i 0 ≡ 2 * x)
  each_held x least most =
      let w = pigeonhole m (λ i. get_or l i 0 / 2 - 1) below apart (x - 1) (omega arith) in
      let v = variables w.0 (omega (arith, w.1)) in
      (w.0, omega (arith, w.1), omega (arith, w.2, v.even, v.least))
    where
      below : (i : ℕ) → i < m → get_or l i 0 / 2 - 1 < m
      below i h = let v = variables i (omega arith) in omega (arith, v.even, v.least, v.most)

      apart : (i j : ℕ) → i < j → j < m → ¬ (get_or l i 0 / 2 - 1 ≡ get_or l j 0 / 2 - 1)
      apart i j a b q =
          let v = variables i (omega arith) in
          let w = variables j (omega arith) in
          once i j a (omega arith) (omega (arith, v.even, v.least, w.even, w.least))
