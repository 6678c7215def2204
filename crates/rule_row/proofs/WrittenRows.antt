-- A row and its written form. Assumes nothing.
use mathlib.Core.Path.{◌≡◌, refl, sym, ap, ◌∙◌}
use mathlib.Core.Bool.{true}
use mathlib.Core.List.{List, ◌∷◌, ◌++◌, append-nil}
use Prim.Native.Nat.{ℕ, ◌≤◌, ◌<◌}
use native.Mathlib.Omega.{arith}
use Rattle.tables.specs.Choice.{pick}
use Rattle.tables.specs.Kind.{kind_at, word_of, place_of, numbers_in, first_number, second_number}
use Rattle.tables.specs.declared.refusal.Reason.TheVariants.{BadReference}
use Rattle.tables.specs.declared.row.Row.{Row}
use Rattle.tables.specs.declared.row.Row.TheVariants.{Constant, Signal, Unary, Binary}
use Rattle.tables.proofs.KindTable.{kind_of_row, numbers_own}
use Rattle.text.specs.Number.{padded_of}
use Rattle.text.specs.Result.{Parsed, on_parsed}
use Rattle.text.specs.Result.Parsed.{good, bad}
use Rattle.text.specs.Written.{decimal}
use Rattle.text.specs.declared.number.Number.TheVariants.{Is}
use Rattle.tables.proofs.Choices.{clash, each_pick}
use Rattle.text.proofs.Numbers.{padded_written, padded_own, each_number}
use Rattle.text.proofs.Lines.{Free, free_append, first_at, first_free, cut_front, cut_behind, no_digit_below, free_decimal}
use Rattle.text.proofs.Headers.{free_below}
use Rattle.rule_row.specs.Row.{form_of, row_form, in_range, row_value}
use Rattle.rule_row.specs.Written.{numbers_text, written_row}
use Rattle.rule_row.proofs.Spelling.{word_no_space, word_no_feed, form_row, Spelled, value_spelled}
use Rattle.rule_row.proofs.Laws.{numbers_below}

-- the numbers of a row can be written in five digits
abbrev pub Small : Row → Type 0
Small r = (first_number r < 100000) × (second_number r < 100000)

-- its texts are those of its numbers
spelled : (r : Row) → Small r → Spelled r (numbers_text r)
spelled (Constant k) h = refl
spelled (Signal k s) h = (decimal s, refl, padded_written s h.0)
spelled (Unary k a) h = (decimal a, refl, padded_written a h.0)
spelled (Binary k a b) h = (decimal a, decimal b, refl, padded_written a h.0, padded_written b h.1)

-- no line feed in a row
pub row_free : (r : Row) → Small r → Free 10 (written_row r)
row_free r h = free_append 10 (word_of (kind_at (place_of r))) (numbers_text r) (word_no_feed (place_of r) (kind_of_row r).0) (by r h)
  where
    number : (n : ℕ) → n < 100000 → Free 10 (decimal n)
    number n l = free_decimal 10 n (no_digit_below 10 (omega arith)) l

    by : (r : Row) → Small r → Free 10 (numbers_text r)
    by (Constant k) h = tt
    by (Signal k s) h = (λ q. omega arith, number s h.0)
    by (Unary k a) h = (λ q. omega arith, number a h.0)
    by (Binary k a b) h = (λ q. omega arith, free_append 10 (decimal a) (32 ∷ decimal b) (number a h.0) (λ q. omega arith, number b h.1))

-- a written row, in range or not
pub value_written : (signals number : ℕ) (r : Row) → Small r → row_value signals number (written_row r) ≡ pick (in_range signals number r) (good r) (bad BadReference)
value_written signals number r h = value_spelled signals number r (numbers_text r) (spelled r h)

-- numbers in their ranges are small enough
pub range_small : (signals number : ℕ) → signals ≤ 32 → number ≤ 100000 → (r : Row) → in_range signals number r ≡ true → Small r
range_small signals number hs hn r e = numbers_below signals number 100000 (omega arith) hn r e

-- a row that is read is in range
pub value_range : (signals number : ℕ) (v : List ℕ) (r : Row) → row_value signals number v ≡ good r → in_range signals number r ≡ true
unfolding row_value
value_range signals number v r = by (row_form v)
  where
    by : (p : Parsed Row) → on_parsed p bad (λ r. pick (in_range signals number r) (good r) (bad BadReference)) ≡ good r → in_range signals number r ≡ true
    by (good s) =
        each_pick (λ p. p ≡ good r → in_range signals number r ≡ true) (in_range signals number s)
        (λ e q. let z : s ≡ r = cc in ap (in_range signals number) (sym z) ∙ e) (λ _ q. clash (cc))
    by (bad e) = λ q. clash (cc)

-- ---- rows of any numbers: what is read of a written row is that row

any_free : (r : Row) → Free 10 (numbers_text r)
any_free (Constant k) = tt
any_free (Signal k s) = (λ q. omega arith, free_below 10 s (omega arith))
any_free (Unary k a) = (λ q. omega arith, free_below 10 a (omega arith))
any_free (Binary k a b) = (λ q. omega arith, free_append 10 (decimal a) (32 ∷ decimal b) (free_below 10 a (omega arith)) (λ q. omega arith, free_below 10 b (omega arith)))

pub any_row_free : (r : Row) → Free 10 (written_row r)
any_row_free r = free_append 10 (word_of (kind_at (place_of r))) (numbers_text r) (word_no_feed (place_of r) (kind_of_row r).0) (any_free r)

own_number : (a n : ℕ) → Is n ≡ padded_of (decimal a) → a ≡ n
own_number a n e = padded_own a n (sym e)

module _ (y : Row) where
  Own : Row → Parsed Row → Type 0
  Own r p = p ≡ good y → r ≡ y

  own_form : (r : Row) → Own r (form_of (word_of (kind_at (place_of r))) (numbers_in r) (first_number r) (second_number r))
  unfolding Own
  own_form r q = let e : good r ≡ good y = ap good (sym (numbers_own r)) ∙ (sym (form_row r (first_number r) (second_number r)) ∙ q) in cc

  row_own : (r : Row) → Own r (row_form (written_row r))
  unfolding Own row_form
  row_own r = by r (word_no_space (place_of r) (kind_of_row r).0) (own_form r)
    where
      by : (r : Row) → Free 32 (word_of (kind_at (place_of r))) → Own r (form_of (word_of (kind_at (place_of r))) (numbers_in r) (first_number r) (second_number r)) → Own r (row_form (written_row r))
      by (Constant k) f o = rw (append-nil, first_free 32 _ f) o
      by (Signal k s) f o = rw (first_at 32 _ (decimal s) f, cut_behind 32 _ (decimal s), first_free 32 (decimal s) (free_below 32 s (omega arith)), cut_front 32 _ (decimal s)) (each_number (Own (Signal k s)) (padded_of (decimal s)) (λ q. clash (cc)) (λ n e. rw (← own_number s n e) o))
      by (Unary k a) f o = rw (first_at 32 _ (decimal a) f, cut_behind 32 _ (decimal a), first_free 32 (decimal a) (free_below 32 a (omega arith)), cut_front 32 _ (decimal a)) (each_number (Own (Unary k a)) (padded_of (decimal a)) (λ q. clash (cc)) (λ n e. rw (← own_number a n e) o))
      by (Binary k a b) f o =
          rw (
            first_at 32 _ (decimal a ++ (32 ∷ decimal b)) f,
            cut_behind 32 _ (decimal a ++ (32 ∷ decimal b)),
            first_at 32 (decimal a) (decimal b) (free_below 32 a (omega arith)),
            cut_front 32 (decimal a) (decimal b),
            cut_behind 32 (decimal a) (decimal b),
            cut_front 32 _ (decimal a ++ (32 ∷ decimal b)),
          )
          (each_number (Own (Binary k a b)) (padded_of (decimal a)) (λ q. clash (cc)) (λ n e. each_number (Own (Binary k a b)) (padded_of (decimal b)) (λ q. clash (cc)) (λ m d. rw (← own_number a n e, ← own_number b m d) o)))

pub any_value_read : (signals number : ℕ) (r y : Row) → row_value signals number (written_row r) ≡ good y → in_range signals number r ≡ true
unfolding row_value Own
any_value_read signals number r y = by (row_form (written_row r)) (λ x. row_own x r)
  where
    by : (p : Parsed Row) → ((x : Row) → p ≡ good x → r ≡ x) → on_parsed p bad (λ r. pick (in_range signals number r) (good r) (bad BadReference)) ≡ good y → in_range signals number r ≡ true
    by (good s) own = each_pick (λ p. p ≡ good y → in_range signals number r ≡ true) (in_range signals number s) (λ e q. ap (in_range signals number) (own s refl) ∙ e) (λ _ q. clash (cc))
    by (bad e) own = λ q. clash (cc)
