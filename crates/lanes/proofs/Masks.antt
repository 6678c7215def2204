-- Any lane, of which only the cycles of another lane count. Assumes nothing.
use Prim.Native.Nat.{ℕ, zero, suc, ◌-◌, ◌*◌, ◌/◌, ◌%◌, ◌^◌, min}
use mathlib.Core.Path.{◌≡◌, refl, ap, ◌∙◌}
use mathlib.Core.Bool.{Bool, true, false, ◌&&◌}
use native.Mathlib.Nat.{pow-suc, pow-zero, div-one, div-div-eq-div-mul}
use native.Mathlib.Decide.{ℕ_discrete}
use native.Mathlib.Omega.{arith}
use lib.Dec.{eqb}
use lib.Bits.{bit_and, and_step, and_zero_r}
use lib.ListN.{get_or}
use Rattle.tables.specs.Choice.{pick}
use Rattle.tables.specs.Bit.{bit_at, word_from, lane_of}
use Rattle.tables.specs.declared.trace.Lane.{Lane}
use Rattle.tables.proofs.Bits.{word_ext, lane_ext, bit_of_lane}
use Rattle.lanes.proofs.Words.{word_half, word_odd}
use Rattle.lanes.specs.Word.{WordByWord}
use Rattle.lanes.proofs.LaneWords.{word_at, lane_by_words}

-- bit i of a word
abbrev pub word_bit : ℕ → ℕ → Bool
word_bit w i = eqb (w / 2 ^ i % 2) 1

bit_half : (w i : ℕ) → word_bit (w / 2) i ≡ word_bit w (suc i)
bit_half w i =
    let p : 2 ^ suc i ≡ 2 * 2 ^ i = omega (arith, pow-suc 2 i) in
    rw (p, ← div-div-eq-div-mul w 2 (2 ^ i))

min_bit : (w : ℕ) (b : Bool) → Dec (w % 2 ≡ 1) → min (w % 2) (pick b 1 0) ≡ pick (eqb (w % 2) 1 && b) 1 0
min_bit w true (yes e) = rw e
min_bit w false (yes e) = rw e
min_bit w true (no e) = let z : w % 2 ≡ 0 = omega arith in rw z
min_bit w false (no e) = let z : w % 2 ≡ 0 = omega arith in rw z

pub word_masked : (n b w : ℕ) (g : ℕ → Bool) → bit_and w (word_from n b g) ≡ word_from n b (λ i. word_bit w (i - b) && g i)
unfolding word_from
word_masked zero b w g = and_zero_r w
word_masked (suc n) b w g =
    let z : b - b ≡ 0 = omega arith in
    let first : min (w % 2) (pick (g b) 1 0) ≡ pick (word_bit w (b - b) && g b) 1 0 = rw (z, pow-zero, div-one) (min_bit w (g b) (ℕ_discrete (w % 2) 1)) in
    let others : bit_and (w / 2) (word_from n (suc b) g) ≡ word_from n (suc b) (λ i. word_bit w (i - b) && g i) =
    word_masked n (suc b) (w / 2) g ∙ word_ext n (suc b) _ _ (λ i p q. let e : suc (i - suc b) ≡ i - b = omega arith in ap (λ x. x && g i) (bit_half w (i - suc b) ∙ ap (word_bit w) e)) in
    and_step w (word_from (suc n) b g) ∙ rw (word_half n b g, word_odd n b g, others, first) (omega arith)

-- a word of the lane, by the lane's bits
lane_bits : (q b : ℕ) → b ≡ q * 64 → (l : Lane) (g : ℕ → Bool) → word_from 64 b (λ i. word_bit (get_or l.words q 0) (i - b) && g i) ≡ word_from 64 b (λ i. bit_at l i && g i)
unfolding bit_at
lane_bits q b e l g = word_ext 64 b _ _ (λ i lo hi.
    let p : i - b ≡ i % 64 = omega arith in
    let r : q ≡ i / 64 = omega arith in
    rw (p, r))

pub lane_masked : (l m r : Lane) → WordByWord (λ x y z. z ≡ bit_and x y) l m r → (g : ℕ → Bool) → m ≡ lane_of g → r ≡ lane_of (λ i. bit_at l i && g i)
lane_masked l m r w g e = lane_by_words r (λ i. bit_at l i && g i) w.0 (λ i h.
    w.1 i h ∙ ap (bit_and (get_or l.words i 0)) (word_at m g e i h) ∙ word_masked 64 (i * 64) (get_or l.words i 0) g ∙ lane_bits i (i * 64) refl l g)

-- where the lane is known, so are its bits
pub known_masked : (l : Lane) (f g : ℕ → Bool) → l ≡ lane_of f → lane_of (λ i. bit_at l i && g i) ≡ lane_of (λ i. f i && g i)
known_masked l f g e = lane_ext _ _ (λ i h. ap (λ x. x && g i) (ap (λ (x : Lane). bit_at x i) e ∙ bit_of_lane f i h))
