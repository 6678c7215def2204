-- A run as the 1,220 bytes that a caller keeps between calls. Assumes nothing.
use Rattle.std.specs.Prelude.{ℕ, zero, suc, ◌-◌, ◌/◌, ◌%◌, ◌^◌, ◌<◌, List, ◌≡◌, ltb, length, get_or}
use Rattle.tables.specs.Choice.{pick}
use Rattle.tables.specs.Kind.{place_of, first_number, second_number}
use Rattle.tables.specs.Place.{tabulate}
use Rattle.tables.specs.declared.row.ConstantKind.TheVariants.{True}
use Rattle.tables.specs.declared.row.Row.{Row}
use Rattle.tables.specs.declared.row.Row.TheVariants.{Constant}
use Rattle.tables.specs.declared.row.RowPlace.{RowPlace}
use Rattle.tables.specs.declared.run.Run.{Run}

abbrev pub run_length : ℕ
run_length = 1220

-- byte j of a word, the lowest first
abbrev pub word_byte : ℕ → ℕ → ℕ
word_byte word j = word / 256 ^ j % 256

-- byte j of a row: the place of its kind in the table of kinds, its first number, its second; 0 where there is none
abbrev pub row_byte : Row → ℕ → ℕ
row_byte row zero = place_of row
row_byte row (suc zero) = first_number row
row_byte row (suc (suc j)) = second_number row

-- the last four bytes
abbrev pub tail_byte : Run → ℕ → ℕ
tail_byte run zero = run.formula.signals
tail_byte run (suc zero) = run.formula.rows
tail_byte run (suc (suc zero)) = run.cycles % 256
tail_byte run (suc (suc (suc j))) = run.cycles / 256

-- what a place behind the last row would hold
abbrev pub no_place : RowPlace
no_place = record { row = Constant True }

abbrev pub row_of : Run → ℕ → Row
row_of run k = (get_or run.formula.places k no_place).row

-- the byte at a place: of the 128 words, eight each; then of the 64 rows, three each; then of the tail
unfoldable pub byte_of : Run → ℕ → ℕ
byte_of run i =
    pick (ltb i 1024) (word_byte (get_or run.words (i / 8) 0) (i % 8))
    (pick (ltb i 1216) (row_byte (row_of run ((i - 1024) / 3)) ((i - 1024) % 3))
    (tail_byte run (i - 1216)))

unfoldable pub run_bytes : Run → List ℕ
run_bytes run = tabulate run_length (byte_of run)

-- the first m of n places hold f, the others d
unfoldable pub filled : {A : Type 0} → ℕ → A → (ℕ → A) → ℕ → List A
filled n d f m = tabulate n (λ i. pick (ltb i m) (f i) d)

-- what decoding needs of the types of a run's fields, `[RowPlace; 64]` and `[u64; 128]`: every run that a program holds has it
pub record Fits (run : Run) : Type 0 where
  pub places : length run.formula.places ≡ 64
  pub words : length run.words ≡ 128
  pub word : (i : ℕ) → i < 128 → get_or run.words i 0 < 2 ^ 64
