-- Laws of signs and slots. Assumes nothing.
use mathlib.Core.Path.{◌≡◌, refl, sym, ap, ◌∙◌}
use mathlib.Core.Logic.{inl, inr}
use Prim.Native.Nat.{ℕ, ◌+◌, ◌-◌, ◌/◌, ◌%◌, ◌≤◌, ◌<◌}
use native.Mathlib.Omega.{arith}
use native.Mathlib.Decide.{ℕ_discrete}
use borrow.Author.Tests.{eq-eqb, ne_eqb}
use Rattle.normal_form.specs.declared.sign.Sign.{Sign}
use Rattle.normal_form.specs.declared.sign.Sign.TheVariants.{Plain, Negated}
use Rattle.normal_form.specs.Sign.{place, slot_of, sign_of}
use Rattle.normal_form.specs.Normal.{Before}

pub place_small : (s : Sign) → place s < 2
place_small Plain = omega arith
place_small Negated = omega arith

place_same : (s t : Sign) → place s ≡ place t → s ≡ t
place_same Plain Plain e = refl
place_same Plain Negated e = absurd (omega arith)
place_same Negated Plain e = absurd (omega arith)
place_same Negated Negated e = refl

-- a slot has its row and its sign
pub slot_half : (k : ℕ) (s : Sign) → slot_of k s / 2 ≡ k - 1
slot_half k s = let h = place_small s in omega arith

pub even : (j : ℕ) → j % 2 ≡ 0 → Plain ≡ sign_of j
even j e = rw (eq-eqb (j % 2) 0 e)

pub odd : (j : ℕ) → (j % 2 ≡ 0 → ⊥) → Negated ≡ sign_of j
odd j n = rw (ne_eqb (j % 2) 0 n)

pub slot_sign : (k : ℕ) (s : Sign) → sign_of (slot_of k s) ≡ s
slot_sign k Plain = sym (even (slot_of k Plain) (omega arith))
slot_sign k Negated = sym (odd (slot_of k Negated) (λ e. omega arith))

-- and is theirs
pub place_sign : (j : ℕ) → place (sign_of j) ≡ j % 2
place_sign j = by (ℕ_discrete (j % 2) 0)
  where
    by : Dec (j % 2 ≡ 0) → place (sign_of j) ≡ j % 2
    by (yes e) = ap place (sym (even j e)) ∙ sym e
    by (no n) = ap place (sym (odd j n)) ∙ (let z : 1 ≡ j % 2 = omega arith in z)

pub slot_again : (j : ℕ) → slot_of (j / 2 + 1) (sign_of j) ≡ j
slot_again j = let e = place_sign j in omega arith

pub slot_same : {a k : ℕ} {s t : Sign} → 1 ≤ a → 1 ≤ k → slot_of a t ≡ slot_of k s → (a ≡ k) × (t ≡ s)
slot_same {a} {k} {s} {t} p q e = let h = place_small s in let g = place_small t in (omega arith, place_same t s (omega arith))

-- the order of the slots is 01's
pub slot_before : {k k' : ℕ} {s s' : Sign} → 1 ≤ k → Before k s k' s' → slot_of k s < slot_of k' s'
slot_before {k} {k'} {s} {s'} p (inl h) = let a = place_small s in omega arith
slot_before {k} {k'} {s} {s'} p (inr (e, q, r)) = let a : place s ≡ 0 = ap place q in let b : place s' ≡ 1 = ap place r in omega arith

pub before_slot : {k k' : ℕ} {s s' : Sign} → 1 ≤ k → 1 ≤ k' → slot_of k s < slot_of k' s' → Before k s k' s'
before_slot {k} {k'} {s} {s'} p q h = by s s' h (ℕ_discrete k k')
  where
    by : (s s' : Sign) → slot_of k s < slot_of k' s' → Dec (k ≡ k') → Before k s k' s'
    by s s' h (no n) = let a = place_small s in let b = place_small s' in inl (omega arith)
    by Plain Plain h (yes e) = absurd (omega arith)
    by Plain Negated h (yes e) = inr (e, refl, refl)
    by Negated Plain h (yes e) = absurd (omega arith)
    by Negated Negated h (yes e) = absurd (omega arith)
