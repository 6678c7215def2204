-- Lines of digits 0 and 1 have no padding: they come from themselves. Assumes nothing.
use mathlib.Core.Path.{◌≡◌, refl, ap, ◌∙◌}
use mathlib.Core.Bool.{Bool, true, false}
use mathlib.Core.List.{List, [], ◌∷◌, ◌++◌}
use Prim.Native.Nat.{ℕ, ◌≤◌}
use native.Mathlib.Omega.{arith}
use lib.ListN.{length}
use Rattle.tables.specs.Choice.{pick}
use Rattle.text.specs.Digits.{digits_form}
use Rattle.text.specs.Result.Parsed.{good}
use Rattle.text.specs.Written.{digits_text}
use Rattle.text.proofs.DigitLines.{digits_written, digits_free, digits_read}
use Rattle.text.proofs.Laws.{text_length}
use Rattle.padding.specs.Padding.{is_digit, Before.other}
use Rattle.padding.proofs.Bytes.{PaddedFrom, no_number, after, same_on, same_back}
use Rattle.padding.proofs.Numbers.{all_digits, digits_begin_none}
use Rattle.padding.proofs.Lines.{step_on, step_back, ValueThen, Reads}

is_digit_lem : (b : Bool) → is_digit (pick b 49 48) ≡ true
is_digit_lem true = refl
is_digit_lem false = refl

all_digits_lem : (ds : List Bool) → all_digits (digits_text ds) ≡ true
all_digits_lem [] = refl
all_digits_lem (d ∷ ds) = rw (is_digit_lem d) (all_digits_lem ds)

none_begins : (ds : List Bool) → no_number other (digits_text ds) ≡ true
none_begins [] = refl
none_begins (d ∷ ds) = rw (is_digit_lem d) (digits_begin_none (digits_text ds) (all_digits_lem ds)).0

pub digits_on : (count : ℕ) (v : List ℕ) (ds : List Bool) (t s : List ℕ) → digits_form count v ≡ good ds
    → PaddedFrom other t s → PaddedFrom other (digits_text ds ++ (10 ∷ t)) (v ++ (10 ∷ s))
digits_on count v ds t s e h =
    rw (digits_read count v ds e).0 (same_on other (digits_text ds) (none_begins ds) (step_on (after other (digits_text ds)) 10 refl h))

pub digits_back : (count most : ℕ) → count ≤ most → (k : ℕ) (ds : List Bool) (t s : List ℕ) → length ds ≡ count
    → PaddedFrom other (digits_text ds ++ (10 ∷ t)) s → ValueThen (Reads (λ k. digits_form count) most k ds) t s
digits_back count most h k ds t s e p =
    let a = same_back other (digits_text ds) (10 ∷ t) s (none_begins ds) p in
    let b = step_back (after other (digits_text ds)) 10 t a.0 refl a.2 in
    record {
      text = digits_text ds;
      rest = b.0;
      whole = a.1 ∙ ap (◌++◌ (digits_text ds)) b.1;
      stands = (digits_written count ds e, digits_free ds, omega (arith, text_length ds));
      goes = b.2;
    }
