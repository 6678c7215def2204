-- Literals that are defined one behind the other: each a variable's own, and none twice. Assumes nothing.
use mathlib.Core.Path.{◌≡◌, refl, ap}
use mathlib.Core.Bool.{Bool, true, false, not, ◌&&◌}
use mathlib.Core.List.{List, [], ◌∷◌, ◌++◌}
use Prim.Native.Nat.{ℕ, zero, suc, ◌*◌, ◌/◌, ◌%◌, ◌≤◌, ◌<◌}
use native.Mathlib.Omega.{arith}
use native.Mathlib.Decide.{ℕ_discrete}
use lib.Dec.{eqb, leb}
use lib.ListN.{length, get_or}
use borrow.Author.Tests.{eqb-true, eq-eqb, ne_eqb, leb-true, le-leb, not-true}
use Rattle.tables.specs.Choice.{pick}
use Rattle.tables.proofs.Choices.{clash}
use Rattle.circuit.specs.Circuit.{IsVariable}
use Rattle.circuit_line.specs.Section.{is_defined, is_variable, is_new}

-- ---- two tests

pub both_on : (a b : Bool) → a && b ≡ true → (a ≡ true) × (b ≡ true)
both_on true b e = (refl, e)
both_on false b e = clash (cc)

pub both_true : (a b : Bool) → a ≡ true → b ≡ true → a && b ≡ true
both_true a b p q = rw (p, q)

-- ---- a variable's own literal

pub variable_true : (m l : ℕ) → is_variable m l ≡ true → IsVariable m l
variable_true m l e =
    let w = both_on (eqb (l % 2) 0 && leb 2 l) (leb l (2 * m)) e in
    let v = both_on (eqb (l % 2) 0) (leb 2 l) w.0 in
    let z : l % 2 ≡ 0 = eqb-true (l % 2) 0 v.0 in
    let a : 2 ≤ l = leb-true 2 l v.1 in
    let b : l ≤ 2 * m = leb-true l (2 * m) w.1 in
    record { index = l / 2; least = omega arith; most = omega arith; even = omega arith }

pub is_variable_lem : (m l : ℕ) → IsVariable m l → is_variable m l ≡ true
is_variable_lem m l v =
    let z : l % 2 ≡ 0 = omega (arith, v.even) in
    let a : 2 ≤ l = omega (arith, v.even, v.least) in
    let b : l ≤ 2 * m = omega (arith, v.even, v.most) in
    rw (eq-eqb (l % 2) 0 z, le-leb 2 l a, le-leb l (2 * m) b)

-- ---- what is defined

pub defined_not : (d : ℕ) (ds : List ℕ) (l : ℕ) → is_defined (d ∷ ds) l ≡ false → (d ≡ l → ⊥) × (is_defined ds l ≡ false)
unfolding is_defined
defined_not d ds l e = by (ℕ_discrete d l) e
  where
    by : Dec (d ≡ l) → pick (eqb d l) true (is_defined ds l) ≡ false → (d ≡ l → ⊥) × (is_defined ds l ≡ false)
    by (yes q) e = clash (cc (rw (eq-eqb d l q) at e))
    by (no q) e = (q, rw (ne_eqb d l q) at e)

pub not_defined : (d : ℕ) (ds : List ℕ) (l : ℕ) → (d ≡ l → ⊥) → is_defined ds l ≡ false → is_defined (d ∷ ds) l ≡ false
unfolding is_defined
not_defined d ds l n e = rw (ne_eqb d l n) e

-- literals, each new behind those before it and behind these
abbrev pub New : ℕ → List ℕ → List ℕ → Type 0
New m defined [] = Unit {0}
New m defined (x ∷ xs) = (is_new m (is_defined defined x) x ≡ true) × New m (x ∷ defined) xs

-- all that is defined then
abbrev pub pushed : List ℕ → List ℕ → List ℕ
pushed [] defined = defined
pushed (x ∷ xs) defined = pushed xs (x ∷ defined)

pub new_append : (m : ℕ) (defined xs ys : List ℕ) → New m defined xs → New m (pushed xs defined) ys → New m defined (xs ++ ys)
new_append m defined [] ys a b = b
new_append m defined (x ∷ xs) ys a b = (a.0, new_append m (x ∷ defined) xs ys a.1 b)

pub new_parts : (m : ℕ) (defined xs ys : List ℕ) → New m defined (xs ++ ys) → New m defined xs × New m (pushed xs defined) ys
new_parts m defined [] ys a = (tt, a)
new_parts m defined (x ∷ xs) ys a = let w = new_parts m (x ∷ defined) xs ys a.1 in ((a.0, w.0), w.1)

-- ---- by their places

pub new_at : (m : ℕ) (defined xs : List ℕ) → New m defined xs → (i : ℕ) → i < length xs → IsVariable m (get_or xs i 0) × (is_defined defined (get_or xs i 0) ≡ false)
new_at m defined [] a i h = absurd (omega arith)
new_at m defined (x ∷ xs) a zero h =
    let w = both_on (is_variable m x) (not (is_defined defined x)) a.0 in
    (variable_true m x w.0, not-true (is_defined defined x) w.1)
new_at m defined (x ∷ xs) a (suc i) h =
    let w = new_at m (x ∷ defined) xs a.1 i (omega arith) in
    (w.0, (defined_not x defined (get_or xs i 0) w.1).1)

pub new_once : (m : ℕ) (defined xs : List ℕ) → New m defined xs → (i j : ℕ) → i < j → j < length xs → get_or xs i 0 ≡ get_or xs j 0 → ⊥
new_once m defined [] a i j l h = absurd (omega arith)
new_once m defined (x ∷ xs) a i zero l h = absurd (omega arith)
new_once m defined (x ∷ xs) a zero (suc j) l h = (defined_not x defined (get_or xs j 0) (new_at m (x ∷ defined) xs a.1 j (omega arith)).1).0
new_once m defined (x ∷ xs) a (suc i) (suc j) l h = new_once m (x ∷ defined) xs a.1 i j (omega arith) (omega arith)

pub new_all : (m : ℕ) (defined xs : List ℕ) → ((i : ℕ) → i < length xs → IsVariable m (get_or xs i 0))
    → ((i j : ℕ) → i < j → j < length xs → get_or xs i 0 ≡ get_or xs j 0 → ⊥)
    → ((i : ℕ) → i < length xs → is_defined defined (get_or xs i 0) ≡ false) → New m defined xs
new_all m defined [] v o n = tt
new_all m defined (x ∷ xs) v o n =
    let t : not (is_defined defined x) ≡ true = ap not (n 0 (omega arith)) in (
      both_true (is_variable m x) (not (is_defined defined x)) (is_variable_lem m x (v 0 (omega arith))) t,
      new_all m (x ∷ defined) xs (λ i h. v (suc i) (omega arith)) (λ i j l h. o (suc i) (suc j) (omega arith) (omega arith))
          (λ i h. not_defined x defined (get_or xs i 0) (o 0 (suc i) (omega arith) (omega arith)) (n (suc i) (omega arith))),
    )
