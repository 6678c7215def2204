-- 01: "Every number in them is decimal, one to five digits, without leading zeros (zero is the one digit 0)." 02, 2: "Numbers in
-- values may now have leading zeros, still five digits at most; numbers in keys may not." Assumes nothing.
use Rattle.std.specs.Prelude.{ℕ, ◌+◌, ◌*◌, ◌-◌, List, [], ◌∷◌, ltb, eqb, length}
use Rattle.tables.specs.Choice.{pick}
use Rattle.text.specs.declared.number.Number.{Number}
use Rattle.text.specs.declared.number.Number.TheVariants.{Is, Not}

-- the value of digits that follow digits of value n; 48 is the byte `0` and 57 the byte `9`
unfoldable pub digits_from : ℕ → List ℕ → Number
digits_from n [] = Is n
digits_from n (d ∷ ds) = pick (ltb d 48) Not (pick (ltb 57 d) Not (digits_from (n * 10 + (d - 48)) ds))

-- at most five digits
unfoldable pub digits_of : List ℕ → Number
digits_of ds = pick (ltb 5 (length ds)) Not (digits_from 0 ds)

-- a number in a key, or of a circuit file ("as in our files but unpadded"): at least one digit, and no 0 before another
unfoldable pub number_of : List ℕ → Number
number_of [] = Not
number_of (d ∷ []) = digits_of (d ∷ [])
number_of (d ∷ e ∷ ds) = pick (eqb d 48) Not (digits_of (d ∷ e ∷ ds))

-- a number in a value, padded or not: at least one digit
unfoldable pub padded_of : List ℕ → Number
padded_of [] = Not
padded_of (d ∷ ds) = digits_of (d ∷ ds)

-- what follows where the bytes are a number, and where not
abbrev pub on_number : {A : Type 0} → Number → A → (ℕ → A) → A
on_number (Is n) a f = f n
on_number Not a f = a
