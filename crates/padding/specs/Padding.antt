-- Padding, by the bytes of a file. 02, 2: "Numbers in values may now have leading zeros, still five digits at most; numbers in keys may
-- not." Nothing here asks what a reader takes. Assumes nothing.
use Rattle.std.specs.Prelude.{ℕ, suc, ◌≤◌, Bool, true, false, List, [], ◌∷◌, ◌≡◌, ltb, eqb}
use Rattle.tables.specs.Choice.{pick}

-- the bytes `0` (48) to `9` (57)
abbrev pub is_digit : ℕ → Bool
is_digit b = pick (ltb b 48) false (pick (ltb 57 b) false true)

-- What stands before a byte of a file: something behind which a number of a value begins, a digit, or neither.
pub data Before : Type 0 where
  start : Before
  digit : Before
  other : Before

-- Behind the equals sign of a key there is a number, but not where the key ends in a digit: a row (`r1=`) begins with a word, and the
-- digits of a cycle (`c0=`) and of a sheet's row (`z1=`) are no numbers.
abbrev pub behind_key : Before → Before
behind_key start = start
behind_key digit = other
behind_key other = start

-- Behind a byte: 61 is the equals sign; a space (32) stands before each number of a row, and nowhere else.
abbrev pub behind : Before → ℕ → Before
behind p b = pick (is_digit b) digit (pick (eqb b 32) start (pick (eqb b 61) (behind_key p) other))

abbrev pub begins_with_digit : List ℕ → Bool
begins_with_digit [] = false
begins_with_digit (b ∷ s) = is_digit b

-- a leading zero (48): it begins a number, and a digit follows it
abbrev pub is_padding : Before → ℕ → List ℕ → Bool
is_padding start b s = pick (eqb b 48) (begins_with_digit s) false
is_padding digit b s = false
is_padding other b s = false

-- the bytes without their leading zeros
unfoldable pub unpadded_from : Before → List ℕ → List ℕ
unpadded_from p [] = []
unpadded_from p (b ∷ s) = pick (is_padding p b s) (unpadded_from p s) (b ∷ unpadded_from (behind p b) s)

abbrev pub unpadded : List ℕ → List ℕ
unpadded file = unpadded_from other file

-- how many digits a number has that begins here
unfoldable pub digits_ahead : List ℕ → ℕ
digits_ahead [] = 0
digits_ahead (b ∷ s) = pick (is_digit b) (suc (digits_ahead s)) 0

abbrev pub FiveAt : Before → List ℕ → Type 0
FiveAt start s = digits_ahead s ≤ 5
FiveAt digit s = Unit {0}
FiveAt other s = Unit {0}

-- "still five digits at most", wherever a number of a value begins
unfoldable pub FiveFrom : Before → List ℕ → Type 0
FiveFrom p [] = Unit {0}
FiveFrom p (b ∷ s) = FiveAt p (b ∷ s) × FiveFrom (behind p b) s

abbrev pub Five : List ℕ → Type 0
Five file = FiveFrom other file

-- A FILE THAT IS A TEXT WITH ITS VALUES PADDED
pub record Padded (text file : List ℕ) : Type 0 where
  pub plain : unpadded file ≡ text
  pub five : Five file
