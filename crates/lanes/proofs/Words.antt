-- Words as functions from cycles to Bools: and, or and shifts of words are those of the functions. Assumes nothing.
use Prim.Native.Nat.{ℕ, zero, suc, ◌+◌, ◌-◌, ◌*◌, ◌/◌, ◌%◌, ◌^◌, min, max}
use mathlib.Core.Path.{◌≡◌, refl, sym, ap, ap₂, ◌∙◌, fun_ext}
use mathlib.Core.Bool.{Bool, true, false, not, ◌&&◌, ◌||◌}
use native.Mathlib.Nat.{pow-suc, pow-zero, div-one, div-div-eq-div-mul, add-zero}
use native.Mathlib.Omega.{arith}
use lib.Dec.{eqb}
use borrow.Author.Tests.{eq-eqb, ne_eqb}
use lib.Bits.{bit_and, bit_or, and_step, or_step}
use Rattle.tables.specs.Choice.{pick}
use Rattle.tables.specs.Bit.{word_from}
use Rattle.tables.proofs.Bits.{digit}
use Rattle.lanes.specs.Word.{Ends}

module _ (n b : ℕ) (f : ℕ → Bool) where
  pub word_half : word_from (suc n) b f / 2 ≡ word_from n (suc b) f
  unfolding word_from
  word_half = omega (arith, digit (f b))

  pub word_odd : word_from (suc n) b f % 2 ≡ pick (f b) 1 0
  unfolding word_from
  word_odd = omega (arith, digit (f b))

min_digit : (x y : Bool) → min (pick x 1 0) (pick y 1 0) ≡ pick (x && y) 1 0
min_digit true true = refl
min_digit true false = refl
min_digit false true = refl
min_digit false false = refl

max_digit : (x y : Bool) → max (pick x 1 0) (pick y 1 0) ≡ pick (x || y) 1 0
max_digit true true = refl
max_digit true false = refl
max_digit false true = refl
max_digit false false = refl

pub word_and : (n b : ℕ) (f g : ℕ → Bool) → bit_and (word_from n b f) (word_from n b g) ≡ word_from n b (λ i. f i && g i)
unfolding word_from
word_and zero b f g = refl
word_and (suc n) b f g =
    and_step (word_from (suc n) b f) (word_from (suc n) b g)
    ∙ rw (word_half n b f, word_half n b g, word_odd n b f, word_odd n b g, word_and n (suc b) f g, min_digit (f b) (g b)) (omega arith)

pub word_or : (n b : ℕ) (f g : ℕ → Bool) → bit_or (word_from n b f) (word_from n b g) ≡ word_from n b (λ i. f i || g i)
unfolding word_from
word_or zero b f g = refl
word_or (suc n) b f g =
    or_step (word_from (suc n) b f) (word_from (suc n) b g)
    ∙ rw (word_half n b f, word_half n b g, word_odd n b f, word_odd n b g, word_or n (suc b) f g, max_digit (f b) (g b)) (omega arith)

-- ---- shifts

-- a bit that is 0 may stand on top
word_top : (n b : ℕ) (f : ℕ → Bool) → f (b + n) ≡ false → word_from (suc n) b f ≡ word_from n b f
unfolding word_from
word_top zero b f e = let z : f b ≡ false = rw add-zero at e in rw z
word_top (suc n) b f e = let q : b + suc n ≡ suc b + n = omega arith in ap (λ x. pick (f b) 1 0 + 2 * x) (word_top n (suc b) f (rw q at e))

word_later : (n b : ℕ) (f : ℕ → Bool) → word_from n (suc b) f ≡ word_from n b (λ i. f (suc i))
unfolding word_from
word_later zero b f = refl
word_later (suc n) b f = ap (λ x. pick (f (suc b)) 1 0 + 2 * x) (word_later n (suc b) f)

word_shift : (n b : ℕ) (f : ℕ → Bool) → Ends (b + n) f → word_from n b f / 2 ≡ word_from n b (λ i. f (suc i))
unfolding word_from
word_shift zero b f e = refl
word_shift (suc n) b f e =
    word_half n b f ∙ word_later n b f ∙ sym (word_top n b (λ i. f (suc i)) (e (suc (b + n)) (omega arith)))

pub word_shifted : (n b s : ℕ) (f : ℕ → Bool) → Ends (b + n) f → word_from n b f / 2 ^ s ≡ word_from n b (λ i. f (i + s))
word_shifted n b zero f e = rw pow-zero (div-one (word_from n b f) ∙ ap (word_from n b) (fun_ext (λ i. ap f (sym (add-zero i)))))
word_shifted n b (suc s) f e =
    let p : 2 ^ suc s ≡ 2 * 2 ^ s = omega (arith, pow-suc 2 s) in
    rw p (sym (div-div-eq-div-mul (word_from n b f) 2 (2 ^ s)))
    ∙ ap (λ x. x / 2 ^ s) (word_shift n b f e)
    ∙ word_shifted n b s (λ i. f (suc i)) (λ j h. e (suc j) (omega arith))
    ∙ ap (word_from n b) (fun_ext (λ i. let q : suc (i + s) ≡ i + suc s = omega arith in ap f q))

-- the top bit alone
pub word_last : (n b : ℕ) → word_from (suc n) b (λ i. eqb (suc i) (b + suc n)) ≡ 2 ^ n
unfolding word_from
word_last zero b = rw (eq-eqb (suc b) (b + 1) (omega arith)) (omega (arith, pow-zero 2))
word_last (suc n) b =
    let q : b + suc (suc n) ≡ suc b + suc n = omega arith in
    rw (ne_eqb (suc b) (b + suc (suc n)) (λ e. omega arith)) (rw (q, word_last n (suc b)) (omega (arith, pow-suc 2 n)))

-- one bit more on top
pick_double : (x : Bool) (m n : ℕ) → n ≡ 2 * m → pick x n 0 ≡ 2 * pick x m 0
pick_double true m n e = e
pick_double false m n e = refl

word_push : (n b : ℕ) (f : ℕ → Bool) → word_from (suc n) b f ≡ word_from n b f + pick (f (b + n)) (2 ^ n) 0
unfolding word_from
word_push zero b f = rw (pow-zero 2, add-zero b) (omega arith)
word_push (suc n) b f =
    let q : suc b + n ≡ b + suc n = omega arith in
    let p : pick (f (b + suc n)) (2 ^ suc n) 0 ≡ 2 * pick (f (b + suc n)) (2 ^ n) 0 = pick_double (f (b + suc n)) (2 ^ n) (2 ^ suc n) (omega (arith, pow-suc 2 n)) in
    ap (λ x. pick (f b) 1 0 + 2 * x) (word_push n (suc b) f) ∙ rw q (omega (arith, p))

-- ---- one cycle later

word_next : (b : ℕ) (f : ℕ → Bool) → word_from 64 b f / 2 + pick (f (b + 64)) (2 ^ 63) 0 ≡ word_from 64 b (λ i. f (suc i))
word_next b f =
    let q : suc (b + 63) ≡ b + 64 = omega arith in
    ap₂ (λ x y. x + pick (f y) (2 ^ 63) 0) (word_half 63 b f ∙ word_later 63 b f) (sym q) ∙ sym (word_push 63 b (λ i. f (suc i)))

module _ (b : ℕ) (f : ℕ → Bool) (word bit : ℕ) (w : word ≡ word_from 64 b f) (e : bit ≡ pick (f (b + 64)) 1 0) where
  one : (x : Bool) → bit ≡ pick x 1 0 → bit ≡ 1 → x ≡ true
  one true p q = refl
  one false p q = absurd (omega arith)

  none : (x : Bool) → bit ≡ pick x 1 0 → (bit ≡ 1 → ⊥) → x ≡ false
  none true p q = absurd (q p)
  none false p q = refl

  pub next_on : bit ≡ 1 → word / 2 + 2 ^ 63 ≡ word_from 64 b (λ i. f (suc i))
  next_on q = let z = one (f (b + 64)) e q in let h = word_next b f in rw w (rw z at h)

  pub next_off : (bit ≡ 1 → ⊥) → word / 2 ≡ word_from 64 b (λ i. f (suc i))
  next_off q = let z = none (f (b + 64)) e q in let h = word_next b f in let y : word_from 64 b f / 2 + 0 ≡ word_from 64 b f / 2 = add-zero _ in rw w (sym y ∙ rw z at h)

-- ---- the first and not the second

parts : (x y : Bool) → pick (x && y) 1 0 + pick (x && not y) 1 0 ≡ pick x 1 0
parts true true = refl
parts true false = refl
parts false y = refl

word_parts : (n b : ℕ) (f g : ℕ → Bool) → word_from n b (λ i. f i && g i) + word_from n b (λ i. f i && not (g i)) ≡ word_from n b f
unfolding word_from
word_parts zero b f g = refl
word_parts (suc n) b f g = omega (arith, parts (f b) (g b), word_parts n (suc b) f g)

pub word_without : (n b : ℕ) (f g : ℕ → Bool) → word_from n b f - bit_and (word_from n b f) (word_from n b g) ≡ word_from n b (λ i. f i && not (g i))
word_without n b f g = rw (word_and n b f g) (omega (arith, word_parts n b f g))

-- every bit
pub word_every : (n b : ℕ) → word_from n b (λ i. true) + 1 ≡ 2 ^ n
unfolding word_from
word_every zero b = rw (pow-zero 2)
word_every (suc n) b = omega (arith, word_every n (suc b), pow-suc 2 n)

-- the other bits of a word
word_not : (b : ℕ) (g : ℕ → Bool) → 2 ^ 64 - 1 - word_from 64 b g ≡ word_from 64 b (λ i. not (g i))
word_not b g = omega (arith, word_parts 64 b (λ i. true) g, word_every 64 b)

pub word_and_not : (b : ℕ) (f g : ℕ → Bool) → bit_and (word_from 64 b f) (2 ^ 64 - 1 - word_from 64 b g) ≡ word_from 64 b (λ i. f i && not (g i))
word_and_not b f g = rw (word_not b g) (word_and 64 b f (λ i. not (g i)))
