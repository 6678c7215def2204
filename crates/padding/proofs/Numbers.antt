-- A number of a value: with its zeros taken off it is the number as we write it, and whatever gives that is the same number, padded.
-- Assumes nothing.
use mathlib.Core.Path.{◌≡◌, refl, sym, ap, ap₂, ◌∙◌, subst}
use mathlib.Core.Bool.{Bool, true, false}
use mathlib.Core.List.{List, [], ◌∷◌, ◌++◌}
use Prim.Native.Nat.{ℕ, suc, ◌*◌, ◌+◌, ◌-◌, ◌≤◌, ◌<◌}
use native.Mathlib.Omega.{arith}
use native.Mathlib.Decide.{ℕ_discrete}
use lib.Dec.{ltb, eqb}
use lib.ListN.{length, length-append}
use borrow.Author.Tests.{ltb-false, le-ltb, eq-eqb, ne_eqb, eqb-true}
use Rattle.tables.specs.Choice.{pick}
use Rattle.tables.proofs.Choices.{clash, each_pick, pick_both}
use Rattle.text.specs.Number.{digits_from, digits_of, padded_of}
use Rattle.text.specs.Written.{decimal}
use Rattle.text.specs.declared.number.Number.{Number}
use Rattle.text.specs.declared.number.Number.TheVariants.{Is, Not}
use Rattle.text.proofs.Numbers.{number_short, number_kept, number_read, padded_written, padded_digits}
use Rattle.text.proofs.Laws.{decimal_length}
use Rattle.padding.specs.Padding.{is_digit, Before, Before.start, Before.digit, behind, is_padding, begins_with_digit, unpadded_from, digits_ahead, FiveFrom}
use Rattle.padding.proofs.Bytes.{PaddedFrom, no_number, after, kept, five_kept, five_behind, back, cons_rest}

-- ---- digits

abbrev pub all_digits : List ℕ → Bool
all_digits [] = true
all_digits (b ∷ s) = pick (is_digit b) (all_digits s) false

from_all : (n : ℕ) (s : List ℕ) (m : ℕ) → digits_from n s ≡ Is m → all_digits s ≡ true
unfolding digits_from
from_all n [] m e = refl
from_all n (d ∷ s) m e = by (from_all (n * 10 + (d - 48)) s m) e
  where
    P : Number → Type 0
    P x = x ≡ Is m → all_digits (d ∷ s) ≡ true

    by : (digits_from (n * 10 + (d - 48)) s ≡ Is m → all_digits s ≡ true) → P (pick (ltb d 48) Not (pick (ltb 57 d) Not (digits_from (n * 10 + (d - 48)) s)))
    by ih = each_pick P (ltb d 48) (λ _ q. clash (cc)) (λ l. each_pick P (ltb 57 d) (λ _ q. clash (cc)) (λ u q. rw (l, u) (ih q)))

-- what is known of a text that stands for a number
pub record Digits (v : List ℕ) (n : ℕ) : Type 0 where
  pub all : all_digits v ≡ true
  pub short : length v ≤ 5
  pub value : digits_from 0 v ≡ Is n

pub digits_in_lem : (v : List ℕ) (n : ℕ) → padded_of v ≡ Is n → Digits v n
unfolding digits_of
digits_in_lem v n e =
    each_pick (λ x. x ≡ Is n → Digits v n) (ltb 5 (length v)) (λ _ q. clash (cc))
    (λ l q. record { all = from_all 0 v n q; short = ltb-false 5 (length v) l; value = q }) (padded_digits v n e)

stands : (v : List ℕ) (n : ℕ) → 1 ≤ length v → Digits v n → padded_of v ≡ Is n
unfolding padded_of digits_of
stands [] n o d = absurd (omega arith)
stands (x ∷ v) n o d = rw (le-ltb 5 (length (x ∷ v)) d.short) d.value

-- a digit that follows a digit begins no number
behind_digit : (p : Before) (b : ℕ) → is_digit b ≡ true → behind p b ≡ digit
behind_digit p b e = rw e

pub digits_begin_none : (v : List ℕ) → all_digits v ≡ true → (no_number digit v ≡ true) × (after digit v ≡ digit)
digits_begin_none [] e = (refl, refl)
digits_begin_none (b ∷ v) e = let w = pick_both (is_digit b) (all_digits v) e in rw (behind_digit digit b w.0) (digits_begin_none v w.1)

ahead : (v : List ℕ) (x : ℕ) (s : List ℕ) → all_digits v ≡ true → is_digit x ≡ false → digits_ahead (v ++ (x ∷ s)) ≡ length v
unfolding digits_ahead
ahead [] x s e n = rw n
ahead (b ∷ v) x s e n = let w = pick_both (is_digit b) (all_digits v) e in rw w.0 (ap suc (ahead v x s w.1 n))

-- ---- from a number to what it is padded to

taken : (y : ℕ) (s : List ℕ) → is_padding start y s ≡ true → unpadded_from start (y ∷ s) ≡ unpadded_from start s
unfolding unpadded_from
taken y s q = rw q

zero_value : (s : List ℕ) → digits_from 0 (48 ∷ s) ≡ digits_from 0 s
zero_value s = unfold digits_from in refl

zero_off : (e : ℕ) (s : List ℕ) (n : ℕ) → padded_of (48 ∷ e ∷ s) ≡ Is n → padded_of (e ∷ s) ≡ Is n
zero_off e s n q =
    let d = digits_in_lem (48 ∷ e ∷ s) n q in
    let all : all_digits (e ∷ s) ≡ true = d.all in
    stands (e ∷ s) n (omega arith) (record { all = all; short = omega (arith, d.short); value = sym (zero_value (e ∷ s)) ∙ d.value })

-- a first digit that is kept, and the digits behind it
first_kept : (y : ℕ) (w : List ℕ) (x : ℕ) (s : List ℕ) → is_padding start y (w ++ (x ∷ s)) ≡ false → all_digits (y ∷ w) ≡ true → is_digit x ≡ false
    → unpadded_from start ((y ∷ w) ++ (x ∷ s)) ≡ (y ∷ w) ++ (x ∷ unpadded_from (behind digit x) s)
unfolding unpadded_from
first_kept y w x s q a d =
    let b = pick_both (is_digit y) (all_digits w) a in
    let n = digits_begin_none w b.1 in
    rw (q, behind_digit start y b.0) (ap (◌∷◌ y) (kept digit w (x ∷ s) n.0 ∙ rw n.1))

number_plain : (v : List ℕ) (n x : ℕ) (s : List ℕ) → padded_of v ≡ Is n → is_digit x ≡ false
    → unpadded_from start (v ++ (x ∷ s)) ≡ decimal n ++ (x ∷ unpadded_from (behind digit x) s)
number_plain [] n x s e d = clash (unfold padded_of in cc)
number_plain (y ∷ []) n x s e d =
    let z : y ∷ [] ≡ decimal n = number_read (y ∷ []) n (sym (number_short (y ∷ []) (omega arith)) ∙ e) in
    let q : is_padding start y (x ∷ s) ≡ false = rw d (each_pick (λ t. t ≡ false) (eqb y 48) (λ _. refl) (λ _. refl)) in
    first_kept y [] x s q (digits_in_lem (y ∷ []) n e).all d ∙ ap (λ m. m ++ (x ∷ unpadded_from (behind digit x) s)) z
number_plain (y ∷ z ∷ v) n x s e d = by (ℕ_discrete y 48) (λ q. number_plain (z ∷ v) n x s q d)
  where
    all : all_digits (y ∷ z ∷ v) ≡ true
    all = (digits_in_lem (y ∷ z ∷ v) n e).all

    second : is_digit z ≡ true
    second = (pick_both (is_digit z) (all_digits v) (pick_both (is_digit y) (all_digits (z ∷ v)) all).1).0

    by : Dec (y ≡ 48) → (padded_of (z ∷ v) ≡ Is n → unpadded_from start ((z ∷ v) ++ (x ∷ s)) ≡ decimal n ++ (x ∷ unpadded_from (behind digit x) s))
        → unpadded_from start ((y ∷ z ∷ v) ++ (x ∷ s)) ≡ decimal n ++ (x ∷ unpadded_from (behind digit x) s)
    by (yes q) ih =
        let t : is_padding start y ((z ∷ v) ++ (x ∷ s)) ≡ true = rw (eq-eqb y 48 q) second in
        taken y ((z ∷ v) ++ (x ∷ s)) t ∙ ih (zero_off z v n (rw q at e))
    by (no q) ih =
        let r : y ∷ z ∷ v ≡ decimal n =
        number_read (y ∷ z ∷ v) n (sym (number_kept (y ∷ z ∷ v) (omega arith) q) ∙ e) in
        let t : is_padding start y ((z ∷ v) ++ (x ∷ s)) ≡ false = rw (ne_eqb y 48 q) in
        first_kept y (z ∷ v) x s t all d ∙ ap (λ m. m ++ (x ∷ unpadded_from (behind digit x) s)) r

number_five : (v : List ℕ) (n x : ℕ) (s : List ℕ) → padded_of v ≡ Is n → is_digit x ≡ false → FiveFrom (behind digit x) s → FiveFrom start (v ++ (x ∷ s))
unfolding FiveFrom
number_five [] n x s e d h = clash (unfold padded_of in cc)
number_five (y ∷ v) n x s e d h =
    let g = digits_in_lem (y ∷ v) n e in
    let b = pick_both (is_digit y) (all_digits v) g.all in
    let w = digits_begin_none v b.1 in
    let i : FiveFrom digit (v ++ (x ∷ s)) = five_kept digit v (x ∷ s) w.0 (rw w.1 (tt, h)) in
    (omega (arith, ahead (y ∷ v) x s g.all d, g.short), rw (behind_digit start y b.0) i)

-- A NUMBER OF A VALUE, PADDED OR NOT, is the number as we write it, padded; x is the byte behind it
pub number_on : (v : List ℕ) (n x : ℕ) {t s : List ℕ} → padded_of v ≡ Is n → is_digit x ≡ false
    → PaddedFrom (behind digit x) t s → PaddedFrom start (decimal n ++ (x ∷ t)) (v ++ (x ∷ s))
number_on v n x {t} {s} e d h =
    record {
      plain = number_plain v n x s e d ∙ ap (λ r. decimal n ++ (x ∷ r)) h.plain;
      five = number_five v n x s e d h.five;
    }

-- ---- and back

record Off (n x : ℕ) (t s : List ℕ) : Type 0 where
  text : List ℕ
  rest : List ℕ
  whole : s ≡ text ++ (x ∷ rest)
  some : 1 ≤ length text
  all : all_digits text ≡ true
  value : digits_from 0 text ≡ Is n
  goes : unpadded_from (behind digit x) rest ≡ t

-- where the first byte is kept, the digits are those that come out
kept_off : (n x : ℕ) (t : List ℕ) (y : ℕ) (s m : List ℕ) → all_digits m ≡ true → 1 ≤ length m → digits_from 0 m ≡ Is n
    → y ∷ unpadded_from (behind start y) s ≡ m ++ (x ∷ t) → Off n x t (y ∷ s)
kept_off n x t y s [] a o v e = absurd (omega arith)
kept_off n x t y s (b ∷ w) a o v e =
    let z : y ≡ b = cc in
    let p = pick_both (is_digit b) (all_digits w) a in
    let g = digits_begin_none w p.1 in
    let i : unpadded_from digit s ≡ w ++ (x ∷ t) = ap (λ q. unpadded_from q s) (sym (ap (behind start) z ∙ behind_digit start b p.0)) ∙ cons_rest e in
    let r = back digit w (x ∷ t) s g.0 i in
    let j = back digit (x ∷ []) t r.0 refl (ap (λ q. unpadded_from q r.0) (sym g.1) ∙ r.2) in
    record { text = b ∷ w; rest = j.0; whole = ap₂ ◌∷◌ z (r.1 ∙ ap (◌++◌ w) j.1); some = o; all = a; value = v; goes = j.2 }

off : (n x : ℕ) (t s : List ℕ) → n < 100000 → is_digit x ≡ false → unpadded_from start s ≡ decimal n ++ (x ∷ t) → Off n x t s
unfolding unpadded_from
off n x t [] h d e = absurd (omega (arith, simp length-append at (ap length e)))
off n x t (y ∷ s) h d e = by (is_padding start y s) refl (off n x t s h d) e
  where
    w : Digits (decimal n) n
    w = digits_in_lem (decimal n) n (padded_written n h)

    by : (q : Bool) → is_padding start y s ≡ q → (unpadded_from start s ≡ decimal n ++ (x ∷ t) → Off n x t s)
        → pick q (unpadded_from start s) (y ∷ unpadded_from (behind start y) s) ≡ decimal n ++ (x ∷ t) → Off n x t (y ∷ s)
    by true q ih e =
        let z : y ≡ 48 = eqb-true y 48 (pick_both (eqb y 48) (begins_with_digit s) q).0 in
        let o = ih e in
        record {
          text = 48 ∷ o.text;
          rest = o.rest;
          whole = ap₂ ◌∷◌ z o.whole;
          some = omega arith;
          all = o.all;
          value = zero_value o.text ∙ o.value;
          goes = o.goes;
        }
    by false q ih e = kept_off n x t y s (decimal n) w.all (unfold decimal in (decimal_length 4 n).0) w.value e

five_number : (v : List ℕ) (x : ℕ) (s : List ℕ) → all_digits v ≡ true → 1 ≤ length v → is_digit x ≡ false → FiveFrom start (v ++ (x ∷ s))
    → (length v ≤ 5) × FiveFrom (behind digit x) s
unfolding FiveFrom
five_number [] x s a o d h = absurd (omega arith)
five_number (y ∷ v) x s a o d h =
    let p = pick_both (is_digit y) (all_digits v) a in
    let q : after start (y ∷ v) ≡ digit = ap (λ q. after q v) (behind_digit start y p.0) ∙ (digits_begin_none v p.1).1 in
    let f : FiveFrom digit (x ∷ s) = subst (λ q. FiveFrom q (x ∷ s)) q (five_behind start (y ∷ v) (x ∷ s) h) in
    (omega (arith, ahead (y ∷ v) x s a d, h.0), f.1)

-- WHAT GIVES A WRITTEN NUMBER is that number, padded or not
pub record NumberThen (n x : ℕ) (t s : List ℕ) : Type 0 where
  pub text : List ℕ
  pub rest : List ℕ
  pub whole : s ≡ text ++ (x ∷ rest)
  pub number : padded_of text ≡ Is n
  pub goes : PaddedFrom (behind digit x) t rest

pub number_back : (n x : ℕ) (t s : List ℕ) → n < 100000 → is_digit x ≡ false → PaddedFrom start (decimal n ++ (x ∷ t)) s → NumberThen n x t s
number_back n x t s h d p =
    let o = off n x t s h d p.plain in
    let f = five_number o.text x o.rest o.all o.some d (rw o.whole at p.five) in
    record {
      text = o.text;
      rest = o.rest;
      whole = o.whole;
      number = stands o.text n o.some (record { all = o.all; short = f.0; value = o.value });
      goes = record { plain = o.goes; five = f.1 };
    }
