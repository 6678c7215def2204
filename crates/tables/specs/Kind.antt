-- The kinds of rows: their words and their partners under negation, once, as a table (01, "Normal form"). Assumes nothing.
use Rattle.std.specs.Prelude.{ℕ, List, [], ◌∷◌, ◌++◌, length, get_or, take, replicate}
use Prim.Native.String.{String}
use Rattle.tables.specs.Bytes.{bytes}
use Rattle.tables.specs.declared.kind.Kind.{Kind}
use Rattle.tables.specs.declared.row.ConstantKind.{ConstantKind}
use Rattle.tables.specs.declared.row.ConstantKind.TheVariants.{True, False}
use Rattle.tables.specs.declared.row.SignalKind.{SignalKind}
use Rattle.tables.specs.declared.row.SignalKind.TheVariants.{Sig, Nsig}
use Rattle.tables.specs.declared.row.UnaryKind.{UnaryKind}
use Rattle.tables.specs.declared.row.UnaryKind.TheVariants.{Not, Next, Always, Ever}
use Rattle.tables.specs.declared.row.BinaryKind.{BinaryKind}
use Rattle.tables.specs.declared.row.BinaryKind.TheVariants.{And, Or, Weak, Until, Release, Srelease}
use Rattle.tables.specs.declared.row.Row.{Row}
use Rattle.tables.specs.declared.row.Row.TheVariants.{Constant, Signal, Unary, Binary}

-- a kind: its word, the row with its numbers left at 0, and the place of its partner
abbrev kind : String → Row → ℕ → Kind
kind w r p = record { word = take 8 (bytes w ++ replicate 8 0); length = length (bytes w); row = r; partner = p }

-- "Partners under negation: true/false, sig/nsig, and/or, always/ever, until/release, weak/srelease; next is its own."
-- (`not` gets no row in a normal form; its own place stands in its line.)
unfoldable pub kinds : List Kind
kinds =
    kind "true" (Constant True) 1 ∷  -- 0
    kind "false" (Constant False) 0 ∷
    kind "sig" (Signal Sig 0) 3 ∷  -- 2
    kind "nsig" (Signal Nsig 0) 2 ∷
    kind "not" (Unary Not 0) 4 ∷  -- 4
    kind "and" (Binary And 0 0) 6 ∷
    kind "or" (Binary Or 0 0) 5 ∷  -- 6
    kind "next" (Unary Next 0) 7 ∷
    kind "always" (Unary Always 0) 9 ∷  -- 8
    kind "ever" (Unary Ever 0) 8 ∷
    kind "weak" (Binary Weak 0 0) 13 ∷  -- 10
    kind "until" (Binary Until 0 0) 12 ∷
    kind "release" (Binary Release 0 0) 11 ∷  -- 12
    kind "srelease" (Binary Srelease 0 0) 10 ∷ []

-- how many kinds there are (law `kind_count_lem`)
abbrev pub kind_count : ℕ
kind_count = 14

-- what a place behind the table would hold
abbrev pub no_kind : Kind
no_kind = record { word = []; length = 0; row = Constant True; partner = 0 }

unfoldable pub kind_at : ℕ → Kind
kind_at k = get_or kinds k no_kind

-- the word of a kind, without the zeros behind it
abbrev pub word_of : Kind → List ℕ
word_of k = take k.length k.word

-- the place of a row's kind in the table
abbrev pub constant_place : ConstantKind → ℕ
constant_place True = 0
constant_place False = 1

abbrev pub signal_place : SignalKind → ℕ
signal_place Sig = 2
signal_place Nsig = 3

abbrev pub unary_place : UnaryKind → ℕ
unary_place Not = 4
unary_place Next = 7
unary_place Always = 8
unary_place Ever = 9

abbrev pub binary_place : BinaryKind → ℕ
binary_place And = 5
binary_place Or = 6
binary_place Weak = 10
binary_place Until = 11
binary_place Release = 12
binary_place Srelease = 13

abbrev pub place_of : Row → ℕ
place_of (Constant c) = constant_place c
place_of (Signal c s) = signal_place c
place_of (Unary c a) = unary_place c
place_of (Binary c a b) = binary_place c

-- the row of the same kind with these numbers
abbrev pub with_numbers : Row → ℕ → ℕ → Row
with_numbers (Constant c) a b = Constant c
with_numbers (Signal c s) a b = Signal c a
with_numbers (Unary c s) a b = Unary c a
with_numbers (Binary c s t) a b = Binary c a b

-- how many numbers stand behind a row's word
abbrev pub numbers_in : Row → ℕ
numbers_in (Constant c) = 0
numbers_in (Signal c s) = 1
numbers_in (Unary c a) = 1
numbers_in (Binary c a b) = 2

-- the numbers themselves; 0 where there is none
abbrev pub first_number : Row → ℕ
first_number (Constant c) = 0
first_number (Signal c s) = s
first_number (Unary c a) = a
first_number (Binary c a b) = a

abbrev pub second_number : Row → ℕ
second_number (Constant c) = 0
second_number (Signal c s) = 0
second_number (Unary c a) = 0
second_number (Binary c a b) = b

-- the dual of a row: its partner under negation, with the same numbers
unfoldable pub dual_of : Row → Row
dual_of r = with_numbers (kind_at (kind_at (place_of r)).partner).row (first_number r) (second_number r)
