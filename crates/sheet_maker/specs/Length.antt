-- How many bytes a sheet file has, by its rows and cycles (that it is so: proofs/Lengths). Assumes nothing.
use Rattle.std.specs.Prelude.{ℕ, zero, suc, ◌+◌, length}
use Rattle.text.specs.Written.{decimal}

-- the lines of so many rows: each has the letter z, its number, an equals sign, a digit for each cycle and a line feed
unfoldable pub rows_length : ℕ → ℕ → ℕ
rows_length cycles zero = 0
rows_length cycles (suc k) = rows_length cycles k + (length (decimal (suc k)) + cycles + 3)

-- `format=1`, `rows=` and `cycles=` with their line feeds, and the rows
abbrev pub sheet_length : ℕ → ℕ → ℕ
sheet_length rows cycles = 23 + length (decimal rows) + length (decimal cycles) + rows_length cycles rows
