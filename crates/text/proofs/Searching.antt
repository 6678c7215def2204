-- Laws of searching and comparing, as loops use them: what each says of a list from place i on. Assumes nothing.
use mathlib.Core.Path.{◌≡◌, refl, sym, ap, ap₂, ◌∙◌}
use mathlib.Core.Bool.{Bool, true, false}
use mathlib.Core.List.{List, [], ◌∷◌}
use Prim.Native.Nat.{ℕ, suc, ◌+◌, ◌≤◌, ◌<◌}
use native.Mathlib.Nat.{add-zero, zero-add}
use native.Mathlib.Numerals.{add-one}
use native.Mathlib.Omega.{arith}
use lib.Dec.{eqb}
use lib.ListN.{length, get_or, drop}
use lib.Seq.{drop-cons, drop-length}
use borrow.Author.Tests.{eq-eqb, ne_eqb, eqb-true}
use Rattle.tables.specs.Choice.{pick}
use Rattle.tables.specs.Bytes.{same_bytes}
use Rattle.tables.proofs.Choices.{clash, pick_both}
use Rattle.text.specs.Search.{first_where, further, on_found}
use Rattle.text.specs.declared.search.Found.{Found}
use Rattle.text.specs.declared.search.Found.TheVariants.{At, Nothing}

-- ---- the first element that passes a test

-- i places further on
pub onward : ℕ → Found → Found
onward i (At j) = At (i + j)
onward i Nothing = Nothing

onward_zero : (f : Found) → f ≡ onward 0 f
unfolding onward
onward_zero (At j) = ap At (sym (zero-add j))
onward_zero Nothing = refl

onward_further : (i : ℕ) (f : Found) → onward i (further f) ≡ onward (i + 1) f
unfolding onward further
onward_further i (At j) = let h : i + suc j ≡ i + 1 + j = omega arith in ap At h
onward_further i Nothing = refl

-- the search for what passes the test t goes on at i
pub record FirstAt {A : Type 0} (t : A → Bool) (s : List A) (i : ℕ) : Type 0 where
  pub within : i ≤ length s
  pub goes : first_where t s ≡ onward i (first_where t (drop i s))

pub first_starts : {A : Type 0} (t : A → Bool) (s : List A) → FirstAt t s 0
first_starts t s = record { within = omega arith; goes = onward_zero (first_where t s) }

module _ {A : Type 0} {t : A → Bool} {s : List A} {i : ℕ} (inv : FirstAt t s i) where
  pub first_hit : (d : A) → i < length s → t (get_or s i d) ≡ true → At i ≡ first_where t s
  unfolding onward first_where
  first_hit d h e = rw (inv.goes, drop-cons s i d h, e, add-zero)

  pub first_miss : (d : A) → i < length s → t (get_or s i d) ≡ false → FirstAt t s (i + 1)
  unfolding first_where
  first_miss d h n =
      record {
        within = omega arith;
        goes = rw (inv.goes, drop-cons s i d h, n, onward_further, add-one);
      }

  pub first_none : length s ≤ i → Nothing ≡ first_where t s
  unfolding onward first_where
  first_none l = let e : i ≡ length s = omega arith in rw (inv.goes, e, drop-length)

-- what is found stands in the list, and passes the test
pub record Hit {A : Type 0} (t : A → Bool) (s : List A) (d : A) (i : ℕ) : Type 0 where
  pub below : i < length s
  pub passes : t (get_or s i d) ≡ true

pub further_inv : (f : Found) (i : ℕ) → At i ≡ further f → (j : ℕ) × (At j ≡ f) × (i ≡ suc j)
unfolding further
further_inv (At j) i e = (j, refl, cc)
further_inv Nothing i e = clash (cc)

hit_step : {A : Type 0} (t : A → Bool) (x : A) (xs : List A) (d : A) (i : ℕ) → ((j : ℕ) → At j ≡ first_where t xs → Hit t xs d j)
    → (b : Bool) → t x ≡ b → At i ≡ pick b (At 0) (further (first_where t xs)) → Hit t (x ∷ xs) d i
hit_step t x xs d i ih true q e = let z : i ≡ 0 = cc in record { below = omega arith; passes = rw z q }
hit_step t x xs d i ih false q e =
    let w = further_inv (first_where t xs) i e in
    let h = ih w.0 w.1 in
    record { below = omega (arith, w.2, h.below); passes = rw w.2 h.passes }

pub hit : {A : Type 0} (t : A → Bool) (s : List A) (d : A) (i : ℕ) → At i ≡ first_where t s → Hit t s d i
unfolding first_where
hit t [] d i e = clash (cc)
hit t (x ∷ xs) d i e = hit_step t x xs d i (hit t xs d) (t x) refl e

-- the same, of what a search ensures and what is known of its result
pub found : {A : Type 0} (t : A → Bool) (s : List A) (d : A) {r : Found} {i : ℕ} → r ≡ first_where t s → r ≡ At i → Hit t s d i
found t s d e f = hit t s d _ (sym f ∙ e)

-- what holds in each case holds of the whole
pub each_found : {A : Type 0} (P : A → Type 0) (f : Found) {a : A} {g : ℕ → A} → P a → ((i : ℕ) → At i ≡ f → P (g i)) → P (on_found f a g)
each_found P (At i) p q = q i refl
each_found P Nothing p q = p

-- ---- sameness

-- two lists of one length are the same up to place i
pub record SameAt (a b : List ℕ) (i : ℕ) : Type 0 where
  pub within : i ≤ length a
  pub equal : length a ≡ length b
  pub goes : same_bytes a b ≡ same_bytes (drop i a) (drop i b)

pick_false : (t : Bool) {b : Bool} → false ≡ b → false ≡ pick t b false
pick_false true e = e
pick_false false e = refl

pub same_lengths : (a b : List ℕ) → (length a ≡ length b → ⊥) → false ≡ same_bytes a b
unfolding same_bytes
same_lengths [] [] n = absurd (n refl)
same_lengths [] (y ∷ ys) n = refl
same_lengths (x ∷ xs) [] n = refl
same_lengths (x ∷ xs) (y ∷ ys) n = pick_false (eqb x y) (same_lengths xs ys (λ e. n (ap suc e)))

pub same_starts : (a b : List ℕ) → length a ≡ length b → SameAt a b 0
same_starts a b e = record { within = omega arith; equal = e; goes = refl }

module _ {a b : List ℕ} {i : ℕ} (inv : SameAt a b i) where
  pub same_end : length a ≤ i → true ≡ same_bytes a b
  unfolding same_bytes
  same_end l =
      let e : i ≡ length a = omega arith in
      let f : length a ≡ length b = inv.equal in
      rw (inv.goes, e, drop-length a, f, drop-length b)

  module _ (h : i < length a) where
    pub same_differ : (get_or a i 0 ≡ get_or b i 0 → ⊥) → false ≡ same_bytes a b
    unfolding same_bytes
    same_differ n =
        let k : i < length b = omega (arith, inv.equal) in
        rw (inv.goes, drop-cons a i 0 h, drop-cons b i 0 k, ne_eqb (get_or a i 0) (get_or b i 0) n)

    pub same_more : get_or a i 0 ≡ get_or b i 0 → SameAt a b (i + 1)
    unfolding same_bytes
    same_more e =
        let k : i < length b = omega (arith, inv.equal) in
        record {
          within = omega arith;
          equal = inv.equal;
          goes = rw (inv.goes, drop-cons a i 0 h, drop-cons b i 0 k, eq-eqb (get_or a i 0) (get_or b i 0) e, add-one);
        }

pub same_refl : (s : List ℕ) → same_bytes s s ≡ true
unfolding same_bytes
same_refl [] = refl
same_refl (x ∷ xs) = rw (eq-eqb x x refl, same_refl xs)

pub same_eq : (a b : List ℕ) → same_bytes a b ≡ true → a ≡ b
unfolding same_bytes
same_eq [] [] t = refl
same_eq [] (y ∷ ys) t = clash (cc)
same_eq (x ∷ xs) [] t = clash (cc)
same_eq (x ∷ xs) (y ∷ ys) t =
    let w = pick_both (eqb x y) (same_bytes xs ys) t in
    ap₂ ◌∷◌ (eqb-true x y w.0) (same_eq xs ys w.1)
