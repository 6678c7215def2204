-- Numbers with spaces between them: what is written so is read back, and only what is written so is read. Assumes nothing.
use mathlib.Core.Path.{◌≡◌, refl, sym, ap, ◌∙◌, subst}
use mathlib.Core.List.{List, [], ◌∷◌, ◌++◌}
use Prim.Native.Nat.{ℕ, zero, suc, ◌+◌, ◌*◌, ◌≤◌, ◌<◌}
use native.Mathlib.Omega.{arith}
use lib.ListN.{length, length-append}
use Rattle.tables.proofs.Choices.{clash}
use Rattle.text.specs.Result.Parsed.{good}
use Rattle.text.specs.Written.{decimal}
use Rattle.text.proofs.Lines.{Free, free_append}
use Rattle.text.proofs.Headers.{free_below}
use Rattle.text.proofs.Laws.{decimal_length}
use Rattle.circuit_line.specs.Numbers.{number_list}
use Rattle.circuit_line.proofs.WrittenNumbers.{numbers_last, numbers_more, numbers_none, numbers_last_read, numbers_more_read}
use Rattle.circuit_file.specs.Written.{spaced}

-- numbers that can be written in five digits
abbrev pub EachSmall : List ℕ → Type 0
EachSmall [] = Unit {0}
EachSmall (x ∷ xs) = (x < 100000) × EachSmall xs

-- WHAT IS WRITTEN IS READ BACK
pub spaced_written : (x : ℕ) (xs : List ℕ) → EachSmall (x ∷ xs) → number_list (length (x ∷ xs)) (spaced (x ∷ xs)) ≡ good (x ∷ xs)
unfolding spaced
spaced_written x [] h = numbers_last x h.0
spaced_written x (y ∷ ys) h = numbers_more (length ys) x (spaced (y ∷ ys)) (y ∷ ys) h.0 (spaced_written y ys h.1)

-- the same where the numbers are known to be so many
pub spaced_good : (n : ℕ) (xs : List ℕ) → 1 ≤ n → length xs ≡ n → EachSmall xs → number_list n (spaced xs) ≡ good xs
spaced_good n [] l e h = absurd (omega arith)
spaced_good n (x ∷ xs) l e h = rw (← e) (spaced_written x xs h)

-- no line feed in them
pub spaced_free : (xs : List ℕ) → Free 10 (spaced xs)
unfolding spaced
spaced_free [] = tt
spaced_free (x ∷ []) = free_below 10 x (omega arith)
spaced_free (x ∷ y ∷ ys) = free_append 10 (decimal x) (32 ∷ spaced (y ∷ ys)) (free_below 10 x (omega arith)) (λ q. omega arith, spaced_free (y ∷ ys))

-- a digit at least, and two bytes for each number more
pub spaced_length : (x : ℕ) (xs : List ℕ) → 1 + 2 * length xs ≤ length (spaced (x ∷ xs))
unfolding spaced decimal
spaced_length x [] = omega (arith, (decimal_length 4 x).0)
spaced_length x (y ∷ ys) = simp length-append (omega (arith, (decimal_length 4 x).0, spaced_length y ys))

-- ONLY WHAT IS WRITTEN IS READ, and it is so many numbers, each of five digits at most
pub numbers_spaced : (n : ℕ) (text xs : List ℕ) → number_list n text ≡ good xs → (text ≡ spaced xs) × (length xs ≡ n) × EachSmall xs
unfolding spaced
numbers_spaced zero text xs e = clash (numbers_none text xs e)
numbers_spaced (suc zero) text xs e =
    let w = numbers_last_read text xs e in
    (w.2 ∙ sym (ap spaced w.1), ap length w.1, subst EachSmall (sym w.1) (w.3, tt))
numbers_spaced (suc (suc more)) text xs e =
    let w = numbers_more_read more text xs e in
    let v = numbers_spaced (suc more) w.behind w.others w.goes in
    (w.whole ∙ (ap (λ s. decimal w.number ++ (32 ∷ s)) v.0 ∙ (by w.number w.others v.1 ∙ sym (ap spaced w.all))), ap length w.all ∙ ap suc v.1, subst EachSmall (sym w.all) (w.small, v.2))
  where
    by : (x : ℕ) (ys : List ℕ) → length ys ≡ suc more → decimal x ++ (32 ∷ spaced ys) ≡ spaced (x ∷ ys)
    by x [] e = absurd (omega arith)
    by x (y ∷ ys) e = refl
