-- Digits 0 and 1: as a loop checks them, and their written form. Assumes nothing.
use mathlib.Core.Path.{◌≡◌, refl, sym, ap, ap₂, ◌∙◌, subst}
use mathlib.Core.Bool.{Bool, true, false, ◌&&◌}
use mathlib.Core.List.{List, [], ◌∷◌}
use Prim.Native.Nat.{ℕ, suc, ◌+◌, ◌-◌, ◌≤◌, ◌<◌}
use native.Mathlib.Numerals.{add-one}
use native.Mathlib.Omega.{arith}
use native.Mathlib.Decide.{dec_lt}
use lib.Dec.{ltb, leb, eqb}
use lib.ListN.{length, get_or, drop, length-map, length-take, length-drop}
use lib.Seq.{drop-cons, drop-length}
use borrow.Author.Tests.{lt-ltb, le-ltb, le-leb, lt-leb, eq-eqb, ne_eqb, eqb-true, eqb-false}
use Rattle.tables.specs.Choice.{pick}
use Rattle.tables.specs.declared.refusal.Reason.TheVariants.{WrongForm}
use Rattle.text.specs.Search.{part}
use Rattle.text.specs.Line.{keyed_line}
use Rattle.text.specs.Digits.{DigitsWithin, are_digits, digits_in, digits_form, digits_at}
use Rattle.text.specs.declared.digits.Digits.{Digits}
use Rattle.text.specs.declared.digits.Digits.TheVariants.{At, Wrong}
use Rattle.text.specs.Written.{digits_text}
use Rattle.text.proofs.Laws.{are_written, digit_written, in_written}
use Rattle.text.specs.Result.{Parsed}
use Rattle.text.specs.Result.Parsed.{good, bad}
use Rattle.tables.proofs.Choices.{clash, each_pick}
use Rattle.text.proofs.Lines.{Free}

-- one digit, and one more in front of others
pub digit_is : (d : ℕ) → leb 48 d && leb d 49 ≡ are_digits (d ∷ [])
unfolding are_digits
digit_is d = by (dec_lt d 48) (dec_lt 49 d)
  where
    by : Dec (d < 48) → Dec (49 < d) → leb 48 d && leb d 49 ≡ pick (ltb d 48) false (pick (ltb 49 d) false true)
    by (yes l) u = rw (lt-leb 48 d l, lt-ltb d 48 l)
    by (no l) (yes u) = let k : 48 ≤ d = omega arith in rw (le-leb 48 d k, lt-leb d 49 u, le-ltb d 48 k, lt-ltb 49 d u)
    by (no l) (no u) =
        let k : 48 ≤ d = omega arith in
        let m : d ≤ 49 = omega arith in
        rw (le-leb 48 d k, le-leb d 49 m, le-ltb d 48 k, le-ltb 49 d m)

digits_cons : (d : ℕ) (ds : List ℕ) → are_digits (d ∷ ds) ≡ are_digits (d ∷ []) && are_digits ds
unfolding are_digits
digits_cons d ds = by (ltb d 48) (ltb 49 d)
  where
    by : (a b : Bool) → pick a false (pick b false (are_digits ds)) ≡ pick a false (pick b false true) && are_digits ds
    by true b = refl
    by false true = refl
    by false false = refl

-- whether the first i bytes are digits is `all`
pub record DigitsTo (s : List ℕ) (all : Bool) (i : ℕ) : Type 0 where
  pub within : i ≤ length s
  pub goes : are_digits s ≡ all && are_digits (drop i s)

pub digits_start : (s : List ℕ) → DigitsTo s true 0
digits_start s = record { within = omega arith; goes = refl }

module _ {s : List ℕ} {all : Bool} {i : ℕ} (inv : DigitsTo s all i) where
  pub digits_more : {b : Bool} → i < length s → b ≡ are_digits (get_or s i 0 ∷ []) → DigitsTo s (all && b) (i + 1)
  digits_more {b} h e =
      let d : are_digits (drop i s) ≡ b && are_digits (drop (i + 1) s) = rw (drop-cons s i 0 h, digits_cons (get_or s i 0) (drop (suc i) s), ← e, add-one) in
      record { within = omega arith; goes = inv.goes ∙ (ap (λ x. all && x) d ∙ grouped all) }
    where
      grouped : (a : Bool) → a && (b && are_digits (drop (i + 1) s)) ≡ (a && b) && are_digits (drop (i + 1) s)
      grouped true = refl
      grouped false = refl

  pub digits_end : length s ≤ i → all ≡ are_digits s
  digits_end l =
      let e : i ≡ length s = omega arith in
      let d : are_digits (drop i s) ≡ true = rw (e, drop-length) (unfold are_digits in refl) in
      sym (inv.goes ∙ (ap (λ x. all && x) d ∙ whole all))
    where
      whole : (a : Bool) → a && true ≡ a
      whole true = refl
      whole false = refl

-- a part has the length that its ends say
pub part_length : {A : Type 0} (a e : ℕ) (s : List A) → e ≤ length s → length (part a e s) ≡ e - a
part_length a e s h = simp (length-take, length-drop) (omega arith)

-- a value by its length and its bytes
module _ (n : ℕ) (v : List ℕ) where
  pub form_length : (length v ≡ n → ⊥) → digits_form n v ≡ bad WrongForm
  unfolding digits_form
  form_length d = rw (ne_eqb (length v) n d)

  module _ (e : length v ≡ n) where
    pub form_other : are_digits v ≡ false → digits_form n v ≡ bad WrongForm
    unfolding digits_form
    form_other d = rw (eq-eqb (length v) n e, d)

    pub form_digits : are_digits v ≡ true → digits_form n v ≡ good (digits_in v)
    unfolding digits_form
    form_digits d = rw (eq-eqb (length v) n e, d)

-- ---- the written form
pub digits_written : (n : ℕ) (ds : List Bool) → length ds ≡ n → digits_form n (digits_text ds) ≡ good ds
unfolding digits_form
digits_written n ds e = rw (eq-eqb (length (digits_text ds)) n (length-map ds (λ b. pick b 49 48) ∙ e), are_written ds, in_written ds)

pub digits_free : (ds : List Bool) → Free 10 (digits_text ds)
digits_free [] = tt
digits_free (d ∷ ds) = (λ q. let w = digit_written d in omega (arith, w.0), digits_free ds)

-- and back
pub text_of_digits : (v : List ℕ) → are_digits v ≡ true → v ≡ digits_text (digits_in v)
unfolding are_digits
text_of_digits [] e = refl
text_of_digits (d ∷ ds) e = by (dec_lt d 48) (dec_lt 49 d) (text_of_digits ds) e
  where
    digit : 48 ≤ d → d ≤ 49 → (b : Bool) → eqb d 49 ≡ b → d ≡ pick b 49 48
    digit l u true q = eqb-true d 49 q
    digit l u false q = let n = eqb-false d 49 q in omega arith

    by : Dec (d < 48) → Dec (49 < d) → (are_digits ds ≡ true → ds ≡ digits_text (digits_in ds)) → pick (ltb d 48) false (pick (ltb 49 d) false (are_digits ds)) ≡ true
        → d ∷ ds ≡ digits_text (digits_in (d ∷ ds))
    by (yes l) u ih q = clash (cc (rw (lt-ltb d 48 l) at q))
    by (no l) (yes u) ih q = let k : 48 ≤ d = omega arith in clash (cc (rw (le-ltb d 48 k, lt-ltb 49 d u) at q))
    by (no l) (no u) ih q =
        let k : 48 ≤ d = omega arith in
        let m : d ≤ 49 = omega arith in
        ap₂ ◌∷◌ (digit k m (eqb d 49) refl) (ih (rw (le-ltb d 48 k, le-ltb 49 d m) at q))

pub digits_read : (n : ℕ) (v : List ℕ) (ds : List Bool) → digits_form n v ≡ good ds → (v ≡ digits_text ds) × (length ds ≡ n)
unfolding digits_form
digits_read n v ds =
    each_pick P (eqb (length v) n) (λ e. each_pick P (are_digits v) (λ a q. whole e a (cc)) (λ _ q. clash (cc))) (λ _ q. clash (cc))
  where
    P : Parsed (List Bool) → Type 0
    P p = p ≡ good ds → (v ≡ digits_text ds) × (length ds ≡ n)

    whole : eqb (length v) n ≡ true → are_digits v ≡ true → digits_in v ≡ ds → (v ≡ digits_text ds) × (length ds ≡ n)
    whole e a q = (text_of_digits v a ∙ ap digits_text q, sym (ap length q) ∙ (length-map v (λ d. eqb d 49) ∙ eqb-true (length v) n e))

-- where the digits of a line stand, of what a call ensures and what is known of its result
pub digits_within : (rest : List ℕ) (count : ℕ) {r : Digits} {from end : ℕ} → DigitsWithin rest count r → r ≡ At from end → (from + count ≡ end) × (end < length rest)
digits_within rest count w e = subst (DigitsWithin rest count) e w

-- and what they say
pub digits_good : (t : List ℕ → Bool) (count : ℕ) (rest : List ℕ) {r : Digits} {from end : ℕ} → digits_at rest r ≡ keyed_line t (digits_form count) rest → r ≡ At from end
    → keyed_line t (digits_form count) rest ≡ good (record { value = digits_in (part from end rest); next = end + 1 })
digits_good t count rest e d = sym e ∙ ap (digits_at rest) d

pub digits_bad : (t : List ℕ → Bool) (count : ℕ) (rest : List ℕ) {r : Digits} → digits_at rest r ≡ keyed_line t (digits_form count) rest → r ≡ Wrong
    → keyed_line t (digits_form count) rest ≡ bad WrongForm
digits_bad t count rest e d = sym e ∙ ap (digits_at rest) d
