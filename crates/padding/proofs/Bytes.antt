-- What taking the padding off does to bytes in which no number begins: they stay, and nothing else gives them. Assumes nothing.
use mathlib.Core.Path.{◌≡◌, refl, sym, ap, ap₂, ◌∙◌}
use mathlib.Core.Bool.{Bool, true, false}
use mathlib.Core.List.{List, [], ◌∷◌, ◌++◌}
use Prim.Native.Nat.{ℕ}
use native.Mathlib.Omega.{arith}
use lib.Dec.{eqb}
use borrow.Author.Tests.{eqb-true}
use Rattle.tables.specs.Choice.{pick}
use Rattle.tables.proofs.Choices.{clash, each_pick, pick_both}
use Rattle.padding.specs.Padding.{is_digit, Before, Before.start, Before.digit, Before.other, behind, is_padding, begins_with_digit, unpadded_from, digits_ahead, FiveAt, FiveFrom}

-- a file from some byte on, padded
pub record PaddedFrom (p : Before) (text file : List ℕ) : Type 0 where
  pub plain : unpadded_from p file ≡ text
  pub five : FiveFrom p file

-- a digit where a number begins
abbrev is_number : Before → ℕ → Bool
is_number start b = is_digit b
is_number digit b = false
is_number other b = false

-- no number begins in these bytes
abbrev pub no_number : Before → List ℕ → Bool
no_number p [] = true
no_number p (b ∷ s) = pick (is_number p b) false (no_number (behind p b) s)

-- what stands before what follows them
abbrev pub after : Before → List ℕ → Before
after p [] = p
after p (b ∷ s) = after (behind p b) s

none_first : (p : Before) (b : ℕ) (s : List ℕ) → no_number p (b ∷ s) ≡ true → (is_number p b ≡ false) × (no_number (behind p b) s ≡ true)
none_first p b s = by (is_number p b)
  where
    by : (t : Bool) → pick t false (no_number (behind p b) s) ≡ true → (t ≡ false) × (no_number (behind p b) s ≡ true)
    by true e = clash (cc)
    by false e = (refl, e)

-- a byte that begins no number is kept
keeps : (p : Before) (b : ℕ) (s : List ℕ) → is_number p b ≡ false → is_padding p b s ≡ false
keeps start b s d = each_pick (λ t. t ≡ false) (eqb b 48) (λ e. let z : b ≡ 48 = eqb-true b 48 e in clash (cc (rw z at d))) (λ _. refl)
keeps digit b s d = refl
keeps other b s d = refl

none_ahead : (p : Before) (b : ℕ) (s : List ℕ) → is_number p b ≡ false → FiveAt p (b ∷ s)
unfolding digits_ahead
none_ahead start b s d = rw d (omega arith)
none_ahead digit b s d = tt
none_ahead other b s d = tt

-- ---- from a text to what it is padded to

pub kept : (p : Before) (w s : List ℕ) → no_number p w ≡ true → unpadded_from p (w ++ s) ≡ w ++ unpadded_from (after p w) s
unfolding unpadded_from
kept p [] s n = refl
kept p (b ∷ w) s n =
    let f = none_first p b w n in
    rw (keeps p b (w ++ s) f.0) (ap (◌∷◌ b) (kept (behind p b) w s f.1))

pub five_kept : (p : Before) (w s : List ℕ) → no_number p w ≡ true → FiveFrom (after p w) s → FiveFrom p (w ++ s)
unfolding FiveFrom
five_kept p [] s n h = h
five_kept p (b ∷ w) s n h = let f = none_first p b w n in (none_ahead p b (w ++ s) f.0, five_kept (behind p b) w s f.1 h)

pub same_on : (p : Before) (w : List ℕ) {t s : List ℕ} → no_number p w ≡ true → PaddedFrom (after p w) t s → PaddedFrom p (w ++ t) (w ++ s)
same_on p w {t} {s} n h = record { plain = kept p w s n ∙ ap (◌++◌ w) h.plain; five = five_kept p w s n h.five }

-- ---- and back

pub cons_rest : {x y : ℕ} {s t : List ℕ} → x ∷ s ≡ y ∷ t → s ≡ t
cons_rest e = cc

pub five_behind : (p : Before) (w s : List ℕ) → FiveFrom p (w ++ s) → FiveFrom (after p w) s
unfolding FiveFrom
five_behind p [] s h = h
five_behind p (b ∷ w) s h = five_behind (behind p b) w s h.1

-- what is taken off leaves a digit in front
digit_first : (s : List ℕ) → begins_with_digit s ≡ true → begins_with_digit (unpadded_from start s) ≡ true
unfolding unpadded_from
digit_first [] e = clash (cc)
digit_first (x ∷ s) e =
    each_pick (λ r. begins_with_digit r ≡ true) (is_padding start x s) (λ q. digit_first s (pick_both (eqb x 48) (begins_with_digit s) q).1) (λ _. e)

-- so that bytes in which no number begins come from themselves
abbrev Back : Before → List ℕ → List ℕ → List ℕ → Type 0
Back p w t s = (r : List ℕ) × (s ≡ w ++ r) × (unpadded_from (after p w) r ≡ t)

not_taken_off : (p : Before) (b x : ℕ) (u s : List ℕ) → is_number p b ≡ false → is_padding p x s ≡ true → unpadded_from p s ≡ b ∷ u → ⊥
not_taken_off start b x u s n q e =
    let d : is_digit b ≡ true = ap begins_with_digit (sym e) ∙ digit_first s (pick_both (eqb x 48) (begins_with_digit s) q).1 in
    clash (cc)
not_taken_off digit b x u s n q e = clash (cc)
not_taken_off other b x u s n q e = clash (cc)

pub back : (p : Before) (w t s : List ℕ) → no_number p w ≡ true → unpadded_from p s ≡ w ++ t → Back p w t s
unfolding unpadded_from
back p [] t s n e = (s, refl, e)
back p (b ∷ w) t [] n e = clash (cc)
back p (b ∷ w) t (x ∷ s) n e = by (is_padding p x s) refl (back (behind p b) w t s (none_first p b w n).1) e
  where
    by : (q : Bool) → is_padding p x s ≡ q → (unpadded_from (behind p b) s ≡ w ++ t → Back (behind p b) w t s)
        → pick q (unpadded_from p s) (x ∷ unpadded_from (behind p x) s) ≡ b ∷ (w ++ t) → Back p (b ∷ w) t (x ∷ s)
    by true q ih e = absurd (not_taken_off p b x (w ++ t) s (none_first p b w n).0 q e)
    by false q ih e =
        let h : x ≡ b = cc in
        let r = ih (rw h at (cons_rest e)) in
        (r.0, ap₂ ◌∷◌ h r.1, r.2)

pub same_back : (p : Before) (w t s : List ℕ) → no_number p w ≡ true → PaddedFrom p (w ++ t) s → (r : List ℕ) × (s ≡ w ++ r) × PaddedFrom (after p w) t r
same_back p w t s n h =
    let b = back p w t s n h.plain in
    (b.0, b.1, record { plain = b.2; five = five_behind p w b.0 (rw b.1 at h.five) })
