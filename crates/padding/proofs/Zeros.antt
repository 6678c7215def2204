-- One zero more in front of a number of a value changes nothing once the padding is taken off: a file is padded by that step alone, as
-- often as one likes. Assumes nothing.
use mathlib.Core.Path.{◌≡◌, refl, sym, ap, ◌∙◌, subst}
use mathlib.Core.Bool.{Bool, true, false}
use mathlib.Core.List.{List, [], ◌∷◌, ◌++◌}
use Prim.Native.Nat.{ℕ}
use lib.Dec.{eqb}
use borrow.Author.Tests.{eqb-true}
use Rattle.tables.specs.Choice.{pick}
use Rattle.tables.proofs.Choices.{clash, pick_both}
use Rattle.padding.specs.Padding.{is_digit, Before, Before.start, Before.digit, Before.other, behind, is_padding, begins_with_digit, unpadded_from, unpadded}
use Rattle.padding.proofs.Bytes.{after}

first_same : (w : List ℕ) (d : ℕ) (s : List ℕ) → is_digit d ≡ true → begins_with_digit (w ++ (48 ∷ d ∷ s)) ≡ begins_with_digit (w ++ (d ∷ s))
first_same [] d s e = sym e
first_same (b ∷ w) d s e = refl

-- behind a zero that is taken off a digit follows
zero_behind : (w : List ℕ) (d : ℕ) (s : List ℕ) → begins_with_digit (w ++ (48 ∷ d ∷ s)) ≡ true → after digit w ≡ start → after start w ≡ start
zero_behind [] d s e h = refl
zero_behind (b ∷ w) d s e h = rw e (rw e at h)

taken_start : (p : Before) (b : ℕ) (w : List ℕ) (d : ℕ) (s : List ℕ) → is_padding p b (w ++ (48 ∷ d ∷ s)) ≡ true → after p (b ∷ w) ≡ start → after p w ≡ start
taken_start start b w d s q h =
    let x = pick_both (eqb b 48) (begins_with_digit (w ++ (48 ∷ d ∷ s))) q in
    let z : b ≡ 48 = eqb-true b 48 x.0 in
    zero_behind w d s x.1 (subst (λ c. after (behind start c) w ≡ start) z h)
taken_start digit b w d s q h = clash (cc)
taken_start other b w d s q h = clash (cc)

padding_same : (p : Before) (b : ℕ) (w : List ℕ) (d : ℕ) (s : List ℕ) → is_digit d ≡ true → is_padding p b (w ++ (48 ∷ d ∷ s)) ≡ is_padding p b (w ++ (d ∷ s))
padding_same start b w d s e = ap (λ t. pick (eqb b 48) t false) (first_same w d s e)
padding_same digit b w d s e = refl
padding_same other b w d s e = refl

zero_from : (p : Before) (w : List ℕ) (d : ℕ) (s : List ℕ) → is_digit d ≡ true → after p w ≡ start → unpadded_from p (w ++ (48 ∷ d ∷ s)) ≡ unpadded_from p (w ++ (d ∷ s))
unfolding unpadded_from
zero_from p [] d s e h = rw (h, e)
zero_from p (b ∷ w) d s e h =
    by (is_padding p b (w ++ (48 ∷ d ∷ s))) refl (padding_same p b w d s e) (λ k. zero_from p w d s e k) (zero_from (behind p b) w d s e h)
  where
    by : (q : Bool) → is_padding p b (w ++ (48 ∷ d ∷ s)) ≡ q → is_padding p b (w ++ (48 ∷ d ∷ s)) ≡ is_padding p b (w ++ (d ∷ s))
        → (after p w ≡ start → unpadded_from p (w ++ (48 ∷ d ∷ s)) ≡ unpadded_from p (w ++ (d ∷ s)))
        → unpadded_from (behind p b) (w ++ (48 ∷ d ∷ s)) ≡ unpadded_from (behind p b) (w ++ (d ∷ s))
        → pick q (unpadded_from p (w ++ (48 ∷ d ∷ s))) (b ∷ unpadded_from (behind p b) (w ++ (48 ∷ d ∷ s)))
        ≡ pick (is_padding p b (w ++ (d ∷ s))) (unpadded_from p (w ++ (d ∷ s))) (b ∷ unpadded_from (behind p b) (w ++ (d ∷ s)))
    by true q same taken kept = let r : is_padding p b (w ++ (d ∷ s)) ≡ true = sym same ∙ q in rw r (taken (taken_start p b w d s q h))
    by false q same taken kept = let r : is_padding p b (w ++ (d ∷ s)) ≡ false = sym same ∙ q in rw r (ap (◌∷◌ b) kept)

-- ONE ZERO MORE IN FRONT OF A NUMBER: w is what stands before it, d its first digit
pub zero_in_front : (w : List ℕ) (d : ℕ) (s : List ℕ) → is_digit d ≡ true → after other w ≡ start → unpadded (w ++ (48 ∷ d ∷ s)) ≡ unpadded (w ++ (d ∷ s))
zero_in_front w d s e h = zero_from other w d s e h
