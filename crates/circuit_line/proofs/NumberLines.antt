-- Lines of circuit files: what finding the line feed says of the form in front of it, and what is known of a line of numbers that was read.
-- Assumes nothing.
use mathlib.Core.Path.{◌≡◌, refl, sym, ap, ◌∙◌}
use mathlib.Core.Bool.{true, false}
use mathlib.Core.List.{List, [], ◌∷◌}
use Prim.Native.Nat.{ℕ, zero, suc, ◌+◌, ◌*◌, ◌≤◌, ◌<◌}
use native.Mathlib.Omega.{arith}
use lib.ListN.{length, get_or, take, length-append, length-take}
use Rattle.tables.specs.declared.refusal.Reason.{Reason}
use Rattle.tables.specs.declared.refusal.Reason.TheVariants.{WrongForm}
use Rattle.text.specs.Search.{first_of}
use Rattle.text.specs.Result.{Parsed}
use Rattle.text.specs.Result.Parsed.{good, bad}
use Rattle.text.specs.Written.{decimal}
use Rattle.text.specs.declared.search.Found.TheVariants.{At, Nothing}
use Rattle.text.proofs.Searching.{hit}
use Rattle.text.proofs.Laws.{decimal_length}
use Rattle.circuit_line.specs.Numbers.{Within, number_list, numbers_as, plain_line}
use Rattle.circuit_line.specs.declared.numbers.Numbers.{Numbers}
use Rattle.circuit_line.proofs.WrittenNumbers.{numbers_last_read, numbers_more_read}

-- ---- a line of any form

module _ {A : Type 0} (form : List ℕ → Parsed A) (rest : List ℕ) where
  pub plain_none : first_of 10 rest ≡ Nothing → plain_line form rest ≡ bad WrongForm
  unfolding plain_line
  plain_none q = rw q

  module _ {end : ℕ} (q : first_of 10 rest ≡ At end) where
    pub plain_bad : {e : Reason} → form (take end rest) ≡ bad e → plain_line form rest ≡ bad e
    unfolding plain_line
    plain_bad d = rw (q, d)

    pub plain_good : {x : A} → form (take end rest) ≡ good x → plain_line form rest ≡ good (record { value = x; next = end + 1 })
    unfolding plain_line
    plain_good d = rw (q, d)

-- ---- what the answer of `read_numbers` says

module _ (count : ℕ) (text : List ℕ) (r : Numbers) (e : numbers_as count r ≡ number_list count text) where
  pub numbers_not : r.right ≡ false → number_list count text ≡ bad WrongForm
  numbers_not q = sym e ∙ rw q

  pub numbers_are : r.right ≡ true → number_list count text ≡ good (take count r.values)
  numbers_are q = sym e ∙ rw q

-- ---- each number has a digit, and each but the last a space behind it

decimal_some : (x : ℕ) → 1 ≤ length (decimal x)
unfolding decimal
decimal_some x = (decimal_length 4 x).0

pub numbers_long : (count : ℕ) (text xs : List ℕ) → number_list count text ≡ good xs → 2 * count ≤ suc (length text)
numbers_long zero text xs e = omega arith
numbers_long (suc zero) text xs e =
    let w = numbers_last_read text xs e in
    omega (arith, ap length w.2, decimal_some w.0)
numbers_long (suc (suc more)) text xs e =
    let w = numbers_more_read more text xs e in
    let l : length text ≡ length (decimal w.number) + suc (length w.behind) = ap length w.whole ∙ length-append (decimal w.number) (32 ∷ w.behind) in
    omega (arith, l, decimal_some w.number, numbers_long (suc more) w.behind w.others w.goes)

-- ---- up to three numbers

front : (count : ℕ) (xs : List ℕ) → count ≤ 3 → 3 ≤ length xs → take count xs ≡ take count (get_or xs 0 0 ∷ get_or xs 1 0 ∷ get_or xs 2 0 ∷ [])
front count [] h l = absurd (omega arith)
front count (a ∷ []) h l = absurd (omega arith)
front count (a ∷ b ∷ []) h l = absurd (omega arith)
front zero (a ∷ b ∷ c ∷ xs) h l = refl
front (suc zero) (a ∷ b ∷ c ∷ xs) h l = refl
front (suc (suc zero)) (a ∷ b ∷ c ∷ xs) h l = refl
front (suc (suc (suc zero))) (a ∷ b ∷ c ∷ xs) h l = refl
front (suc (suc (suc (suc k)))) (a ∷ b ∷ c ∷ xs) h l = absurd (omega arith)

take_first : (count a b c : ℕ) → 1 ≤ count → get_or (take count (a ∷ b ∷ c ∷ [])) 0 0 ≡ a
take_first zero a b c h = absurd (omega arith)
take_first (suc k) a b c h = refl

take_second : (count a b c : ℕ) → 1 ≤ count → (count ≤ 1 → b ≡ 0) → get_or (take count (a ∷ b ∷ c ∷ [])) 1 0 ≡ b
take_second zero a b c h z = absurd (omega arith)
take_second (suc zero) a b c h z = sym (z (omega arith))
take_second (suc (suc k)) a b c h z = refl

take_third : (count a b c : ℕ) → 1 ≤ count → (count ≤ 2 → c ≡ 0) → get_or (take count (a ∷ b ∷ c ∷ [])) 2 0 ≡ c
take_third zero a b c h z = absurd (omega arith)
take_third (suc zero) a b c h z = sym (z (omega arith))
take_third (suc (suc zero)) a b c h z = sym (z (omega arith))
take_third (suc (suc (suc k))) a b c h z = refl

module _ (count : ℕ) (rest : List ℕ) (r : Numbers) {end : ℕ} (q : first_of 10 rest ≡ At end) (e : numbers_as count r ≡ number_list count (take end rest)) where
  pub line_wrong : r.right ≡ false → plain_line (number_list count) rest ≡ bad WrongForm
  line_wrong n = plain_bad (number_list count) rest q (numbers_not count (take end rest) r e n)

  module _ (y : r.right ≡ true) (low : 1 ≤ count) (high : count ≤ 3) (l : length r.values ≡ 5) where
    pub line_good : good (record { value = take count (get_or r.values 0 0 ∷ get_or r.values 1 0 ∷ get_or r.values 2 0 ∷ []); next = end + 1 }) ≡ plain_line (number_list count) rest
    line_good =
        sym (plain_good (number_list count) rest q (numbers_are count (take end rest) r e y ∙ ap good (front count r.values high (omega arith))))

    pub line_within : ((i : ℕ) → get_or r.values i 0 < 100000) → ((i : ℕ) → count ≤ i → get_or r.values i 0 ≡ 0)
        → Within count rest (get_or r.values 0 0) (get_or r.values 1 0) (get_or r.values 2 0) (end + 1)
    line_within small unused =
        record {
          literal = take_first count _ _ _ low;
          first = take_second count _ _ _ low (unused 1);
          second = take_third count _ _ _ low (unused 2);
          small = (small 0, small 1, small 2);
          longer = omega (arith, simp length-take at (numbers_long count (take end rest) _ (numbers_are count (take end rest) r e y)));
          inside = omega (arith, (hit _ rest 0 end (sym q)).below);
        }
