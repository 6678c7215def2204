-- What crates above cite of texts: the numbered lines of a file, element by element, the digits of a written number, how long written
-- things are, and that written digits are read back. Assumes nothing.
use mathlib.Core.Path.{◌≡◌, refl, ap₂}
use mathlib.Core.Bool.{Bool, true, false}
use mathlib.Core.List.{List, [], ◌∷◌, ◌++◌}
use Prim.Native.Nat.{ℕ, zero, suc, ◌+◌, ◌*◌, ◌/◌, ◌%◌, ◌≤◌, ◌<◌}
use native.Mathlib.Nat.{add-zero, suc-mul}
use native.Mathlib.Omega.{arith}
use native.Mathlib.Decide.{dec_lt}
use lib.Dec.{eqb}
use lib.ListN.{length, get_or, length-append, length-map}
use borrow.Author.Tests.{lt-ltb, le-ltb}
use Rattle.tables.specs.Choice.{pick}
use Rattle.text.specs.Written.{decimal_in, decimal, digits_text, written_line, written_body}
use Rattle.text.specs.Body.{EachAt}
use Rattle.text.specs.Digits.{are_digits, digits_in}

module _ {A : Type 0} (Ok : ℕ → A → Type 0) (d : A) where
  pub all_ok : (xs : List A) (k : ℕ) → ((i : ℕ) → i < length xs → Ok (k + i) (get_or xs i d)) → EachAt Ok k xs
  all_ok [] k h = tt
  all_ok (x ∷ xs) k h =
      (rw add-zero at (h 0 (omega arith)), all_ok xs (k + 1) (λ i l. let e : k + 1 + i ≡ k + suc i = omega arith in rw e (h (suc i) (omega arith))))

  pub ok_at : (xs : List A) (k : ℕ) → EachAt Ok k xs → (i : ℕ) → i < length xs → Ok (k + i) (get_or xs i d)
  ok_at [] k ok i h = absurd (omega arith)
  ok_at (x ∷ xs) k ok zero h = rw add-zero ok.0
  ok_at (x ∷ xs) k ok (suc i) h = let e : k + suc i ≡ k + 1 + i = omega arith in rw e (ok_at xs (k + 1) ok.1 i (omega arith))

-- one element more
pub ok_more : {A : Type 0} (Ok : ℕ → A → Type 0) (xs : List A) (x : A) (k : ℕ) → EachAt Ok k xs → Ok (k + length xs) x → EachAt Ok k (xs ++ (x ∷ []))
ok_more Ok [] x k ok o = (rw add-zero at o, tt)
ok_more Ok (y ∷ ys) x k ok o = (ok.0, ok_more Ok ys x (k + 1) ok.1 (let e : k + suc (length ys) ≡ k + 1 + length ys = omega arith in rw e at o))

-- ---- the digits of a written number

pub decimal_small : (f n : ℕ) → n < 10 → decimal_in f n ≡ (48 + n) ∷ []
unfolding decimal_in
decimal_small zero n h = refl
decimal_small (suc f) n h = rw (lt-ltb n 10 h)

pub decimal_large : (f n : ℕ) → 10 ≤ n → decimal_in (suc f) n ≡ decimal_in f (n / 10) ++ ((48 + n % 10) ∷ [])
unfolding decimal_in
decimal_large f n h = rw (le-ltb n 10 h)

pub length_step : (f n : ℕ) → (1 ≤ length (decimal_in f (n / 10))) × (length (decimal_in f (n / 10)) ≤ suc f) → Dec (n < 10)
    → (1 ≤ length (decimal_in (suc f) n)) × (length (decimal_in (suc f) n) ≤ suc (suc f)) × (10 ≤ n → 2 ≤ length (decimal_in (suc f) n))
length_step f n ih (yes l) = rw (decimal_small (suc f) n l) (omega arith)
length_step f n ih (no g) =
    let l : 10 ≤ n = omega arith in
    rw (decimal_large f n l) (simp length-append (omega (arith, ih.0, ih.1)))

pub decimal_length : (f n : ℕ) → (1 ≤ length (decimal_in f n)) × (length (decimal_in f n) ≤ suc f)
decimal_length zero n = unfold decimal_in in omega arith
decimal_length (suc f) n = let w = length_step f n (decimal_length f (n / 10)) (dec_lt n 10) in (w.0, w.1)

-- ---- lengths

pub decimal_short : (n : ℕ) → length (decimal n) ≤ 5
unfolding decimal
decimal_short n = (decimal_length 4 n).1

pub line_length : (key value rest : List ℕ) → length (written_line key value rest) ≡ length key + length value + length rest + 2
line_length key value rest = simp length-append (omega arith)

-- the line of a count
pub count_short : (key : List ℕ) (n : ℕ) (rest : List ℕ) → length key ≤ 7 → length (written_line key (decimal n) rest) ≤ 14 + length rest
count_short key n rest h = omega (arith, line_length key (decimal n) rest, decimal_short n)

pub body_short : {A : Type 0} (letter : ℕ) (text : A → List ℕ) (d : A) (most : ℕ) (xs : List A) (k : ℕ)
    → ((i : ℕ) → i < length xs → length (text (get_or xs i d)) ≤ most) → length (written_body letter text k xs) ≤ length xs * (most + 8)
unfolding written_body
body_short letter text d most [] k h = omega arith
body_short letter text d most (x ∷ xs) k h =
    let rest : List ℕ = written_body letter text (k + 1) xs in
    let a : length rest ≤ length xs * (most + 8) = body_short letter text d most xs (k + 1) (λ i l. h (suc i) (omega arith)) in
    let b : length (text x) ≤ most = h 0 (omega arith) in
    let c : suc (length xs) * (most + 8) ≡ length xs * (most + 8) + (most + 8) = suc-mul (length xs) (most + 8) in
    omega (arith, line_length (letter ∷ decimal k) (text x) rest, decimal_short k)

pub text_length : (ds : List Bool) → length (digits_text ds) ≡ length ds
text_length ds = length-map {B = ℕ} ds (λ b. pick b 49 48)

-- digits that are written are digits, and say what they were written from
pub digit_written : (b : Bool) → (48 ≤ pick b 49 48) × (pick b 49 48 ≤ 49) × (eqb (pick b 49 48) 49 ≡ b)
digit_written true = (omega arith, omega arith, refl)
digit_written false = (omega arith, omega arith, refl)

pub are_written : (ds : List Bool) → are_digits (digits_text ds) ≡ true
unfolding are_digits
are_written [] = refl
are_written (d ∷ ds) = let w = digit_written d in rw (le-ltb (pick d 49 48) 48 w.0, le-ltb 49 (pick d 49 48) w.1) (are_written ds)

pub in_written : (ds : List Bool) → digits_in (digits_text ds) ≡ ds
in_written [] = refl
in_written (d ∷ ds) = ap₂ ◌∷◌ (digit_written d).2 (in_written ds)
