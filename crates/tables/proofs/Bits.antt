-- Laws of lanes and their bits. Assumes nothing.
use mathlib.Core.Path.{◌≡◌, refl, sym, ap, ◌∙◌}
use mathlib.Core.Bool.{Bool, true, false}
use Prim.Native.Nat.{ℕ, zero, suc, ◌+◌, ◌*◌, ◌-◌, ◌/◌, ◌%◌, ◌^◌, ◌≤◌, ◌<◌}
use native.Mathlib.Nat.{pow-suc, pow-zero, div-div-eq-div-mul}
use native.Mathlib.Omega.{arith}
use native.Mathlib.Decide.{ℕ_discrete}
use lib.Dec.{eqb}
use lib.ListN.{get_or, set}
use Rattle.tables.specs.Choice.{pick}
use Rattle.tables.specs.Place.{tabulate}
use Rattle.tables.specs.Bit.{bit_at, word_from, lane_of, marked}
use Rattle.tables.proofs.Places.{get_d_tabulate, tabulate_ext, set_tabulate}

pub digit : (b : Bool) → pick b 1 0 < 2
digit true = omega arith
digit false = omega arith

pub word_below : (n k : ℕ) (f : ℕ → Bool) → word_from n k f < 2 ^ n
unfolding word_from
word_below zero k f = omega arith
word_below (suc n) k f = rw pow-suc (omega (arith, word_below n (suc k) f, digit (f k)))

pub word_ext : (n k : ℕ) (f g : ℕ → Bool) → ((i : ℕ) → k ≤ i → i < k + n → f i ≡ g i) → word_from n k f ≡ word_from n k g
unfolding word_from
word_ext zero k f g e = refl
word_ext (suc n) k f g e = rw (e k (omega arith) (omega arith), word_ext n (suc k) f g (λ i a b. e i (omega arith) (omega arith)))

-- g is f with one bit more, at c
pub record OneMore (f g : ℕ → Bool) (c : ℕ) : Type 0 where
  pub was : f c ≡ false
  pub is : g c ≡ true
  pub other : (i : ℕ) → (i ≡ c → ⊥) → g i ≡ f i

module _ {f g : ℕ → Bool} {c : ℕ} (m : OneMore f g c) where
  word_marked : (n k : ℕ) → k ≤ c → c < k + n → word_from n k f + 2 ^ (c - k) ≡ word_from n k g
  unfolding word_from
  word_marked zero k a b = absurd (omega arith)
  word_marked (suc n) k a b = by (ℕ_discrete k c) (λ l. word_marked n (suc k) l (omega arith))
    where
      by : Dec (k ≡ c) → (suc k ≤ c → word_from n (suc k) f + 2 ^ (c - suc k) ≡ word_from n (suc k) g)
          → pick (f k) 1 0 + 2 * word_from n (suc k) f + 2 ^ (c - k) ≡ pick (g k) 1 0 + 2 * word_from n (suc k) g
      by (yes e) ih =
          let z : c - k ≡ 0 = omega arith in
          let x : f k ≡ false = rw e m.was in
          let y : g k ≡ true = rw e m.is in
          let w : word_from n (suc k) f ≡ word_from n (suc k) g = word_ext n (suc k) f g (λ i p q. sym (m.other i (λ r. omega arith))) in
          rw (x, y, z, w) (omega (arith, pow-zero 2))
      by (no e) ih =
          let z : c - k ≡ suc (c - suc k) = omega arith in
          let p : 2 ^ suc (c - suc k) ≡ 2 ^ (c - suc k) * 2 = pow-suc 2 (c - suc k) in
          let x : g k ≡ f k = m.other k e in
          let s : word_from n (suc k) f + 2 ^ (c - suc k) ≡ word_from n (suc k) g = ih (omega arith) in
          rw (z, x) (omega arith)

pub word_bit_lem : (n k : ℕ) (f : ℕ → Bool) (i : ℕ) → i < n → word_from n k f / 2 ^ i % 2 ≡ pick (f (k + i)) 1 0
unfolding word_from
word_bit_lem zero k f i h = absurd (omega arith)
word_bit_lem (suc n) k f zero h =
    let e : k + 0 ≡ k = omega arith in
    rw (e, pow-zero 2) (omega (arith, digit (f k)))
word_bit_lem (suc n) k f (suc i) h =
    let w : ℕ = word_from n (suc k) f in
    let e : k + suc i ≡ suc k + i = omega arith in
    let p : 2 ^ suc i ≡ 2 * 2 ^ i = omega (arith, pow-suc 2 i) in
    let q : (pick (f k) 1 0 + 2 * w) / 2 ≡ w = omega (arith, digit (f k)) in
    let d : (pick (f k) 1 0 + 2 * w) / (2 * 2 ^ i) ≡ w / 2 ^ i = sym (div-div-eq-div-mul _ 2 (2 ^ i)) ∙ ap (λ x. x / 2 ^ i) q in
    rw (p, d, e) (word_bit_lem n (suc k) f i (omega arith))

-- the word in which cycle c stands
pub word_of : (f : ℕ → Bool) (c : ℕ) → c < 256 → get_or (lane_of f).words (c / 64) 0 ≡ word_from 64 (c / 64 * 64) f
unfolding lane_of
word_of f c h = get_d_tabulate 4 (λ i. word_from 64 (i * 64) f) (c / 64) 0 (omega arith)

-- A LINE IS AT EACH CYCLE WHAT IT WAS MADE OF
pub bit_of_lane : (f : ℕ → Bool) (c : ℕ) → c < 256 → bit_at (lane_of f) c ≡ f c
unfolding bit_at
bit_of_lane f c h =
    let e : c / 64 * 64 + c % 64 ≡ c = omega arith in
    rw (word_of f c h, word_bit_lem 64 (c / 64 * 64) f (c % 64) (omega arith), e) (by (f c))
  where
    by : (b : Bool) → eqb (pick b 1 0) 1 ≡ b
    by true = refl
    by false = refl

pub lane_ext : (f g : ℕ → Bool) → ((c : ℕ) → c < 256 → f c ≡ g c) → lane_of f ≡ lane_of g
unfolding lane_of
lane_ext f g e =
    rw (tabulate_ext 4 (λ i. word_from 64 (i * 64) f) (λ i. word_from 64 (i * 64) g) (λ i h. word_ext 64 (i * 64) f g (λ j a b. e j (omega arith))))

module _ {f g : ℕ → Bool} {c : ℕ} (m : OneMore f g c) (h : c < 256) where
  in_word : word_from 64 (c / 64 * 64) f + 2 ^ (c % 64) ≡ word_from 64 (c / 64 * 64) g
  in_word =
      let e : c - c / 64 * 64 ≡ c % 64 = omega arith in
      rw e at (word_marked m 64 (c / 64 * 64) (omega arith) (omega arith))

  -- there is room for the bit
  pub mark_room : get_or (lane_of f).words (c / 64) 0 + 2 ^ (c % 64) < 2 ^ 64
  mark_room = rw (word_of f c h, in_word) (word_below 64 (c / 64 * 64) g)

  pub lane_marked : marked (lane_of f) c ≡ lane_of g
  unfolding marked lane_of
  lane_marked =
      let w : get_or (tabulate 4 (λ i. word_from 64 (i * 64) f)) (c / 64) 0 ≡ word_from 64 (c / 64 * 64) f = word_of f c h in
      let s : set (tabulate 4 (λ i. word_from 64 (i * 64) f)) (c / 64) (word_from 64 (c / 64 * 64) g) ≡ tabulate 4 (λ i. word_from 64 (i * 64) g) =
      set_tabulate 4 (λ i. word_from 64 (i * 64) f) (λ i. word_from 64 (i * 64) g) (c / 64) 0 (omega arith)
      (λ j n. word_ext 64 (j * 64) g f (λ i a b. m.other i (λ e. n (omega arith)))) in
      ap (λ ws. record { words = ws }) (rw (w, in_word) s)
