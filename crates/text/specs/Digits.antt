-- 01: "one digit 0 or 1 per signal", "one digit per cycle". Assumes nothing.
use Rattle.std.specs.Prelude.{ℕ, ◌+◌, ◌<◌, Bool, true, false, List, [], ◌∷◌, map, ◌≡◌, ltb, eqb, length, get_or}
use Rattle.tables.specs.Refusal.{numbered}
use Rattle.tables.specs.Choice.{pick}
use Rattle.text.specs.Search.{part}
use Rattle.text.specs.Result.{Parsed, Next}
use Rattle.text.specs.Result.Parsed.{good, bad}
use Rattle.text.specs.declared.digits.Digits.{Digits}
use Rattle.text.specs.declared.digits.Digits.TheVariants.{At, Wrong}

-- each byte is the digit 0 (byte 48) or 1 (byte 49)
unfoldable pub are_digits : List ℕ → Bool
are_digits [] = true
are_digits (d ∷ ds) = pick (ltb d 48) false (pick (ltb 49 d) false (are_digits ds))

-- what digits say
abbrev pub digits_in : List ℕ → List Bool
digits_in value = map (λ d. eqb d 49) value

-- the value that the digit at a place gives, counted from 0
abbrev pub value_at : List ℕ → ℕ → Bool
value_at digits i = eqb (get_or digits i 0) 49

-- so many digits
unfoldable pub digits_form : ℕ → List ℕ → Parsed (List Bool)
digits_form count value =
    pick (eqb (length value) count) (pick (are_digits value) (good (digits_in value)) (bad (numbered 2))) (bad (numbered 2))

-- what each case of the code's answer says of the bytes left
abbrev pub digits_at : List ℕ → Digits → Parsed (Next (List Bool))
digits_at rest (At from end) = good (record { value = digits_in (part from end rest); next = end + 1 })
digits_at rest Wrong = bad (numbered 2)

-- and where the digits stand: so many, before the line feed
abbrev pub DigitsWithin : List ℕ → ℕ → Digits → Type 0
DigitsWithin rest count (At from end) = (from + count ≡ end) × (end < length rest)
DigitsWithin rest count Wrong = Unit {0}
