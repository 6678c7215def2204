-- Numbers: what reading their digits says from place i on; that `decimal` writes what both readings of a number take; and that in a key
-- nothing else is read. Assumes nothing.
use mathlib.Core.Path.{◌≡◌, refl, sym, ap, ◌∙◌}
use mathlib.Core.Bool.{Bool, true, false}
use mathlib.Core.List.{List, [], ◌∷◌, ◌++◌, append_assoc, append-nil}
use Prim.Native.Nat.{ℕ, zero, suc, ◌+◌, ◌*◌, ◌-◌, ◌/◌, ◌%◌, ◌≤◌, ◌<◌, ◌^◌}
use native.Mathlib.Nat.{add-zero, zero-add, suc-add, pow-suc, pow-le-pow_right}
use native.Mathlib.Numerals.{add-one}
use native.Mathlib.Omega.{arith}
use native.Mathlib.Decide.{dec_lt, ℕ_discrete}
use lib.Dec.{ltb, eqb}
use lib.ListN.{length, get_or, drop}
use lib.Seq.{drop-cons, drop-length}
use borrow.Author.Tests.{lt-ltb, le-ltb, eq-eqb, ne_eqb}
use Rattle.tables.specs.Choice.{pick}
use Rattle.text.specs.Number.{digits_from, digits_of, number_of, padded_of, on_number}
use Rattle.text.specs.Written.{decimal_in, decimal}
use Rattle.text.specs.declared.number.Number.{Number}
use Rattle.text.specs.declared.number.Number.TheVariants.{Is, Not}
use Rattle.tables.proofs.Choices.{clash}
use Rattle.text.proofs.Laws.{decimal_small, decimal_large, decimal_length, length_step}

-- the digits of s, at most five, are read up to i, with the value v
pub record DigitsAt (s : List ℕ) (v i : ℕ) : Type 0 where
  pub within : i ≤ length s
  pub short : length s ≤ 5
  pub small : v < 10 ^ i
  pub goes : digits_of s ≡ digits_from v (drop i s)

pub digits_long : (s : List ℕ) → 5 < length s → Not ≡ digits_of s
unfolding digits_of
digits_long s h = rw (lt-ltb 5 (length s) h)

pub digits_start : (s : List ℕ) → length s ≤ 5 → DigitsAt s 0 0
unfolding digits_of
digits_start s h = record { within = omega arith; short = h; small = omega arith; goes = rw (le-ltb 5 (length s) h) }

-- a number of i digits, and one digit more
ten_more : (i v d : ℕ) → v < 10 ^ i → d < 10 → v * 10 + d < 10 ^ (i + 1)
ten_more i v d h l = rw add-one (omega (arith, pow-suc 10 i))

module _ {s : List ℕ} {v i : ℕ} (inv : DigitsAt s v i) where
  pub digits_bound : v < 100000
  digits_bound =
      let l : i ≤ 5 = omega arith in
      let p : 10 ^ i ≤ 10 ^ 5 = pow-le-pow_right (omega arith) l in
      omega arith

  pub digits_end : length s ≤ i → Is v ≡ digits_of s
  unfolding digits_from
  digits_end l = let e : i ≡ length s = omega arith in rw (inv.goes, e, drop-length)

  module _ (h : i < length s) where
    pub digit_low : get_or s i 0 < 48 → Not ≡ digits_of s
    unfolding digits_from
    digit_low l = rw (inv.goes, drop-cons s i 0 h, lt-ltb (get_or s i 0) 48 l)

    pub digit_high : 48 ≤ get_or s i 0 → 57 < get_or s i 0 → Not ≡ digits_of s
    unfolding digits_from
    digit_high l u = rw (inv.goes, drop-cons s i 0 h, le-ltb (get_or s i 0) 48 l, lt-ltb 57 (get_or s i 0) u)

    pub digit : 48 ≤ get_or s i 0 → get_or s i 0 ≤ 57 → DigitsAt s (v * 10 + (get_or s i 0 - 48)) (i + 1)
    unfolding digits_from
    digit l u =
        record {
          within = omega arith;
          short = inv.short;
          small = ten_more i v (get_or s i 0 - 48) inv.small (omega arith);
          goes = rw (inv.goes, drop-cons s i 0 h, le-ltb (get_or s i 0) 48 l, le-ltb 57 (get_or s i 0) u, add-one);
        }

-- a number in a value by the length of its text
pub padded_none : (s : List ℕ) → length s ≡ 0 → Not ≡ padded_of s
unfolding padded_of
padded_none [] e = refl
padded_none (d ∷ ds) e = absurd (omega arith)

pub padded_some : (s : List ℕ) → (length s ≡ 0 → ⊥) → digits_of s ≡ padded_of s
unfolding padded_of
padded_some [] n = absurd (n refl)
padded_some (d ∷ ds) n = refl

pub padded_one : (s : List ℕ) → length s ≡ 1 → digits_of (get_or s 0 0 ∷ []) ≡ padded_of s
unfolding padded_of
padded_one [] e = absurd (omega arith)
padded_one (d ∷ []) e = refl
padded_one (d ∷ x ∷ ds) e = absurd (omega arith)

-- one digit
module _ (d : ℕ) where
  pub one_low : d < 48 → Not ≡ digits_of (d ∷ [])
  unfolding digits_of digits_from
  one_low l = rw (lt-ltb d 48 l)

  pub one_high : 48 ≤ d → 57 < d → Not ≡ digits_of (d ∷ [])
  unfolding digits_of digits_from
  one_high l u = rw (le-ltb d 48 l, lt-ltb 57 d u)

  pub one_digit : 48 ≤ d → d ≤ 57 → Is (d - 48) ≡ digits_of (d ∷ [])
  unfolding digits_of digits_from
  one_digit l u = rw (le-ltb d 48 l, le-ltb 57 d u) (ap Is (omega arith))

-- and one in a key: the same, but for a zero before another digit
pub number_short : (s : List ℕ) → length s ≤ 1 → padded_of s ≡ number_of s
unfolding number_of padded_of
number_short [] h = refl
number_short (d ∷ []) h = refl
number_short (d ∷ x ∷ ds) h = absurd (omega arith)

number_long : (s : List ℕ) → 1 < length s → number_of s ≡ pick (eqb (get_or s 0 0) 48) Not (padded_of s)
unfolding number_of padded_of
number_long [] h = absurd (omega arith)
number_long (d ∷ []) h = absurd (omega arith)
number_long (d ∷ x ∷ ds) h = refl

module _ (s : List ℕ) (h : 1 < length s) where
  pub number_zero : get_or s 0 0 ≡ 48 → Not ≡ number_of s
  number_zero e = sym (number_long s h ∙ rw (eq-eqb (get_or s 0 0) 48 e))

  pub number_kept : (get_or s 0 0 ≡ 48 → ⊥) → padded_of s ≡ number_of s
  number_kept n = sym (number_long s h ∙ rw (ne_eqb (get_or s 0 0) 48 n))

-- one digit more
digit_one : (v e : ℕ) → e < 10 → digits_from v ((48 + e) ∷ []) ≡ Is (v * 10 + e)
unfolding digits_from
digit_one v e h =
    let l : 48 ≤ 48 + e = omega arith in
    let u : 48 + e ≤ 57 = omega arith in
    let q : v * 10 + (48 + e - 48) ≡ v * 10 + e = omega arith in
    rw (le-ltb (48 + e) 48 l, le-ltb 57 (48 + e) u, q)

-- the digits of the front, and then one
pick_on : (t : Bool) (a : Number) (f : ℕ → Number) → on_number (pick t Not a) Not f ≡ pick t Not (on_number a Not f)
pick_on true a f = refl
pick_on false a f = refl

digits_append : (v : ℕ) (s t : List ℕ) → digits_from v (s ++ t) ≡ on_number (digits_from v s) Not (λ m. digits_from m t)
unfolding digits_from
digits_append v [] t = refl
digits_append v (d ∷ ds) t =
    rw (digits_append (v * 10 + (d - 48)) ds t)
    (sym (pick_on (ltb d 48) _ _ ∙ ap (pick (ltb d 48) Not) (pick_on (ltb 57 d) _ _)))

-- what is written is read
pub tenth : (f n : ℕ) → n < 10 ^ suc (suc f) → n / 10 < 10 ^ suc f
tenth f n h = let p : 10 ^ suc (suc f) ≡ 10 ^ suc f * 10 = pow-suc 10 (suc f) in omega arith

digits_step : (f n : ℕ) → (digits_from 0 (decimal_in f (n / 10)) ≡ Is (n / 10)) → Dec (n < 10) → digits_from 0 (decimal_in (suc f) n) ≡ Is n
unfolding decimal_in
digits_step f n ih (yes l) = rw (lt-ltb n 10 l) (digit_one 0 n l ∙ ap Is (omega arith))
digits_step f n ih (no g) =
    let l : 10 ≤ n = omega arith in
    let e : n / 10 * 10 + n % 10 ≡ n = omega arith in
    rw (le-ltb n 10 l, digits_append, ih) (digit_one (n / 10) (n % 10) (omega arith) ∙ ap Is e)

written_digits : (f n : ℕ) → n < 10 ^ suc f → digits_from 0 (decimal_in f n) ≡ Is n
unfolding decimal_in
written_digits zero n h = digit_one 0 n (omega arith) ∙ ap Is (omega arith)
written_digits (suc f) n h = digits_step f n (written_digits f (n / 10) (tenth f n h)) (dec_lt n 10)

-- its first digit
head_append : (s t : List ℕ) → 1 ≤ length s → get_or (s ++ t) 0 0 ≡ get_or s 0 0
head_append [] t h = absurd (omega arith)
head_append (x ∷ xs) t h = refl

head_step : (f n : ℕ) → 1 ≤ n → n < 10 ^ suc (suc f) → (1 ≤ n / 10 → n / 10 < 10 ^ suc f → get_or (decimal_in f (n / 10)) 0 0 ≡ 48 → ⊥) → Dec (n < 10) → get_or (decimal_in (suc f) n) 0 0 ≡ 48 → ⊥
head_step f n o h ih (yes l) e = let q : 48 + n ≡ 48 = rw (decimal_small (suc f) n l) at e in omega arith
head_step f n o h ih (no g) e =
    let l : 10 ≤ n = omega arith in
    ih (omega arith) (tenth f n h) (rw (decimal_large f n l, head_append (decimal_in f (n / 10)) ((48 + n % 10) ∷ []) (decimal_length f (n / 10)).0) at e)

decimal_head : (f n : ℕ) → 1 ≤ n → n < 10 ^ suc f → get_or (decimal_in f n) 0 0 ≡ 48 → ⊥
decimal_head zero n o h e = unfold decimal_in in omega arith
decimal_head (suc f) n o h e = head_step f n o h (decimal_head f (n / 10)) (dec_lt n 10) e

digits_all : (s : List ℕ) → length s ≤ 5 → digits_of s ≡ digits_from 0 s
unfolding digits_of
digits_all s h = rw (le-ltb 5 (length s) h)

written_step : (n : ℕ) → n < 100000 → Dec (n < 10) → padded_of (decimal_in 4 n) ≡ number_of (decimal_in 4 n)
written_step n h (yes l) = number_short (decimal_in 4 n) (rw (decimal_small 4 n l) (omega arith))
written_step n h (no g) =
    let w = length_step 3 n (decimal_length 3 (n / 10)) (dec_lt n 10) in
    number_kept (decimal_in 4 n) (w.2 (omega arith)) (λ e. decimal_head 4 n (omega arith) (omega arith) e)

pub padded_written : (n : ℕ) → n < 100000 → padded_of (decimal n) ≡ Is n
unfolding decimal
padded_written n h =
    let l = decimal_length 4 n in
    sym (padded_some (decimal_in 4 n) (λ e. omega (arith, l.0))) ∙ (digits_all (decimal_in 4 n) l.1 ∙ written_digits 4 n (omega arith))

pub number_written : (n : ℕ) → n < 100000 → number_of (decimal n) ≡ Is n
unfolding decimal
number_written n h = sym (written_step n h (dec_lt n 10)) ∙ padded_written n h

-- ---- a written number is read as itself, also one of more than five digits, where it is read at all

large_digits : (f n : ℕ) → 10 ^ suc f ≤ n → digits_from 0 (decimal_in f n) ≡ Not
unfolding decimal_in digits_from
large_digits zero n h =
    let l : 48 ≤ 48 + n = omega arith in
    let u : 57 < 48 + n = omega arith in
    rw (le-ltb (48 + n) 48 l, lt-ltb 57 (48 + n) u)
large_digits (suc f) n h =
    let p : 10 ^ suc (suc f) ≡ 10 ^ suc f * 10 = pow-suc 10 (suc f) in
    let q : 10 ^ 1 ≤ 10 ^ suc f = pow-le-pow_right (omega arith) {i = 1} (omega arith) in
    let t : 10 ^ suc f ≤ n / 10 = omega arith in
    rw (decimal_large f n (omega arith), digits_append, large_digits f (n / 10) t)

digits_own : (a n : ℕ) → digits_of (decimal a) ≡ Is n → a ≡ n
unfolding decimal
digits_own a n e = by (dec_lt a 100000) (sym (digits_all (decimal_in 4 a) (decimal_length 4 a).1) ∙ e)
  where
    by : Dec (a < 100000) → digits_from 0 (decimal_in 4 a) ≡ Is n → a ≡ n
    by (yes l) d = let q : Is a ≡ Is n = sym (written_digits 4 a (omega arith)) ∙ d in cc
    by (no g) d = let q : Not ≡ Is n = sym (large_digits 4 a (omega arith)) ∙ d in clash (cc)

zero_case : (d n : ℕ) (x : Number) → Dec (d ≡ 48) → pick (eqb d 48) Not x ≡ Is n → (d ≡ 48 → ⊥) × (x ≡ Is n)
zero_case d n x (yes q) e = clash (cc (rw (eq-eqb d 48 q) at e))
zero_case d n x (no q) e = (q, rw (ne_eqb d 48 q) at e)

number_digits : (s : List ℕ) (n : ℕ) → number_of s ≡ Is n → digits_of s ≡ Is n
unfolding number_of
number_digits [] n e = clash (cc)
number_digits (d ∷ []) n e = e
number_digits (d ∷ x ∷ ds) n e = (zero_case d n (digits_of (d ∷ x ∷ ds)) (ℕ_discrete d 48) e).1

-- every number of a key is one of a value
pub number_padded : (s : List ℕ) (n : ℕ) → number_of s ≡ Is n → padded_of s ≡ Is n
unfolding number_of padded_of
number_padded [] n e = clash (cc)
number_padded (d ∷ ds) n e = number_digits (d ∷ ds) n e

pub padded_digits : (s : List ℕ) (n : ℕ) → padded_of s ≡ Is n → digits_of s ≡ Is n
unfolding padded_of
padded_digits [] n e = clash (cc)
padded_digits (d ∷ ds) n e = e

pub padded_own : (a n : ℕ) → padded_of (decimal a) ≡ Is n → a ≡ n
padded_own a n e = digits_own a n (padded_digits (decimal a) n e)

-- ---- nothing else is read
digit_case : (d : ℕ) (x : Number) (n : ℕ) → Dec (d < 48) → Dec (57 < d) → pick (ltb d 48) Not (pick (ltb 57 d) Not x) ≡ Is n → (48 ≤ d) × (d ≤ 57) × (x ≡ Is n)
digit_case d x n (yes l) r e = clash (cc (rw (lt-ltb d 48 l) at e))
digit_case d x n (no l) (yes r) e = let k : 48 ≤ d = omega arith in clash (cc (rw (le-ltb d 48 k, lt-ltb 57 d r) at e))
digit_case d x n (no l) (no r) e =
    let k : 48 ≤ d = omega arith in
    let m : d ≤ 57 = omega arith in
    (k, m, rw (le-ltb d 48 k, le-ltb 57 d m) at e)

digit_inv : (d : ℕ) (x : Number) (n : ℕ) → pick (ltb d 48) Not (pick (ltb 57 d) Not x) ≡ Is n → (48 ≤ d) × (d ≤ 57) × (x ≡ Is n)
digit_inv d x n e = digit_case d x n (dec_lt d 48) (dec_lt 57 d) e

grow_one : (f v d : ℕ) → 1 ≤ v → 48 ≤ d → d ≤ 57 → decimal_in (suc f) (v * 10 + (d - 48)) ≡ decimal_in f v ++ (d ∷ [])
grow_one f v d o l u =
    let a : (v * 10 + (d - 48)) / 10 ≡ v = omega arith in
    let b : 48 + (v * 10 + (d - 48)) % 10 ≡ d = omega arith in
    rw (decimal_large f (v * 10 + (d - 48)) (omega arith), a, b)

grow : (f v : ℕ) (s : List ℕ) (n : ℕ) → 1 ≤ v → digits_from v s ≡ Is n → decimal_in (length s + f) n ≡ decimal_in f v ++ s
unfolding digits_from
grow f v [] n o e = let q : v ≡ n = cc in rw (zero-add, append-nil, q)
grow f v (d ∷ ds) n o e =
    let w = digit_inv d (digits_from (v * 10 + (d - 48)) ds) n e in
    let i : suc (length ds) + f ≡ length ds + suc f = omega arith in
    let h = grow (suc f) (v * 10 + (d - 48)) ds n (omega arith) w.2 in
    rw i (h ∙ rw (grow_one f v d o w.0 w.1, append_assoc))

small_value : (v k : ℕ) (s : List ℕ) (n : ℕ) → v < 10 ^ k → digits_from v s ≡ Is n → n < 10 ^ (length s + k)
unfolding digits_from
small_value v k [] n h e = let q : v ≡ n = cc in rw zero-add (omega arith)
small_value v k (d ∷ ds) n h e =
    let w = digit_inv d (digits_from (v * 10 + (d - 48)) ds) n e in
    let i : suc (length ds) + k ≡ length ds + suc k = omega arith in
    rw i (small_value (v * 10 + (d - 48)) (suc k) ds n (omega (arith, pow-suc 10 k)) w.2)

lift_step : (f n : ℕ) → (decimal_in (suc f) (n / 10) ≡ decimal_in f (n / 10)) → Dec (n < 10) → decimal_in (suc (suc f)) n ≡ decimal_in (suc f) n
lift_step f n ih (yes l) = rw (decimal_small (suc (suc f)) n l, decimal_small (suc f) n l)
lift_step f n ih (no g) = let l : 10 ≤ n = omega arith in rw (decimal_large (suc f) n l, decimal_large f n l, ih)

lift : (f n : ℕ) → n < 10 ^ suc f → decimal_in (suc f) n ≡ decimal_in f n
lift zero n h = rw (decimal_small 1 n (omega arith), decimal_small 0 n (omega arith))
lift (suc f) n h = lift_step f n (lift f (n / 10) (tenth f n h)) (dec_lt n 10)

lift_to : (g f n : ℕ) → n < 10 ^ suc f → decimal_in (g + f) n ≡ decimal_in f n
lift_to zero f n h = rw zero-add
lift_to (suc g) f n h =
    let p : 10 ^ suc f ≤ 10 ^ suc (g + f) = pow-le-pow_right (omega arith) (omega arith) in
    rw suc-add (lift (g + f) n (omega arith) ∙ lift_to g f n h)

one_value : (d n : ℕ) → digits_from 0 (d ∷ []) ≡ Is n → d ∷ [] ≡ decimal_in 4 n
unfolding digits_from
one_value d n e =
    let w = digit_inv d (Is (0 * 10 + (d - 48))) n e in
    let q : 0 * 10 + (d - 48) ≡ n = cc w.2 in
    let r : 48 + n ≡ d = omega (arith, w.0) in
    rw (decimal_small 4 n (omega (arith, w.1)), r)

more_value : (d : ℕ) (s : List ℕ) (n : ℕ) → (d ≡ 48 → ⊥) → length s ≤ 4 → digits_from 0 (d ∷ s) ≡ Is n → d ∷ s ≡ decimal_in 4 n
unfolding digits_from
more_value d s n z l e =
    let w = digit_inv d (digits_from (0 * 10 + (d - 48)) s) n e in
    let v : 0 * 10 + (d - 48) ≡ d - 48 = omega arith in
    let h : digits_from (d - 48) s ≡ Is n = rw v at w.2 in
    let o : 1 ≤ d - 48 = omega (arith, w.0) in
    let t : d - 48 < 10 = omega (arith, w.1) in
    let b : n < 10 ^ (length s + 1) = small_value (d - 48) 1 s n (omega arith) h in
    let c : n < 10 ^ suc (length s) = rw add-one at b in
    let g : decimal_in (length s + 0) n ≡ decimal_in 0 (d - 48) ++ s = grow 0 (d - 48) s n o h in
    let k : 4 - length s + length s ≡ 4 = omega arith in
    let q : 48 + (d - 48) ≡ d = omega (arith, w.0) in
    let u : decimal_in 4 n ≡ decimal_in (length s) n = rw k at (lift_to (4 - length s) (length s) n c) in
    let x : decimal_in (length s) n ≡ d ∷ s = rw add-zero at g ∙ rw (decimal_small 0 (d - 48) t, q) in
    sym (u ∙ x)

digits_inv : (s : List ℕ) (n : ℕ) → Dec (5 < length s) → digits_of s ≡ Is n → (length s ≤ 5) × (digits_from 0 s ≡ Is n)
unfolding digits_of
digits_inv s n (yes l) e = clash (cc (rw (lt-ltb 5 (length s) l) at e))
digits_inv s n (no g) e = let l : length s ≤ 5 = omega arith in (l, rw (le-ltb 5 (length s) l) at e)

-- A NUMBER HAS FIVE DIGITS AT MOST
pub number_small : (s : List ℕ) (n : ℕ) → number_of s ≡ Is n → n < 100000
number_small s n e =
    let w = digits_inv s n (dec_lt 5 (length s)) (padded_digits s n (number_padded s n e)) in
    let b : n < 10 ^ (length s + 0) = small_value 0 0 s n (omega arith) w.1 in
    let m : length s + 0 ≤ 5 = omega (arith, w.0) in
    let p : 10 ^ (length s + 0) ≤ 10 ^ 5 = pow-le-pow_right (omega arith) m in
    omega arith

pub number_read : (s : List ℕ) (n : ℕ) → number_of s ≡ Is n → s ≡ decimal n
unfolding number_of decimal
number_read [] n e = clash (cc)
number_read (d ∷ []) n e = one_value d n (digits_inv (d ∷ []) n (dec_lt 5 1) e).1
number_read (d ∷ x ∷ ds) n e =
    let w = zero_case d n (digits_of (d ∷ x ∷ ds)) (ℕ_discrete d 48) e in
    let v = digits_inv (d ∷ x ∷ ds) n (dec_lt 5 (length (d ∷ x ∷ ds))) w.1 in
    more_value d (x ∷ ds) n w.0 (omega (arith, v.0)) v.1

pub each_number : {A : Type 0} (P : A → Type 0) (f : Number) {a : A} {g : ℕ → A} → P a → ((n : ℕ) → Is n ≡ f → P (g n)) → P (on_number f a g)
each_number P (Is n) p q = q n refl
each_number P Not p q = p
