-- The written form of a row: the value of its line. Assumes nothing.
use Rattle.std.specs.Prelude.{ℕ, List, [], ◌∷◌, ◌++◌}
use Rattle.tables.specs.Kind.{kind_at, word_of, place_of}
use Rattle.tables.specs.declared.row.Row.{Row}
use Rattle.tables.specs.declared.row.Row.TheVariants.{Constant, Signal, Unary, Binary}
use Rattle.text.specs.Written.{decimal}

-- the numbers behind a row's word, each after a space (byte 32)
abbrev pub numbers_text : Row → List ℕ
numbers_text (Constant c) = []
numbers_text (Signal c s) = 32 ∷ decimal s
numbers_text (Unary c a) = 32 ∷ decimal a
numbers_text (Binary c a b) = 32 ∷ (decimal a ++ (32 ∷ decimal b))

abbrev pub written_row : Row → List ℕ
written_row r = word_of (kind_at (place_of r)) ++ numbers_text r
