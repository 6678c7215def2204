-- The lines of a file that are numbered in their keys. Assumes nothing.
use Rattle.std.specs.Prelude.{ℕ, zero, suc, ◌+◌, List, [], ◌∷◌, eqb, length}
use Rattle.tables.specs.Refusal.{numbered}
use Rattle.tables.specs.Choice.{pick}
use Rattle.text.specs.Line.{is_numbered, keyed_line}
use Rattle.text.specs.Result.{Parsed, Result, on_line, map_result}
use Rattle.text.specs.Result.Result.{accepted, refused}

-- so many lines: the first is line n of the file, and its key is the letter and k. `form k` says what the value of line k
-- stands for. "Nothing follows the last line."
unfoldable pub body_lines : {A : Type 0} → ℕ → (ℕ → List ℕ → Parsed A) → ℕ → ℕ → ℕ → List ℕ → Result (List A)
body_lines letter form zero k n rest = pick (eqb (length rest) 0) (accepted []) (refused (numbered 2) n)
body_lines letter form (suc left) k n rest =
    on_line n (keyed_line (is_numbered letter k) (form k)) rest λ x after.
    map_result (◌∷◌ x) (body_lines letter form left (k + 1) (n + 1) after)

-- what holds of each element at its number, the first having number k
abbrev pub EachAt : {A : Type 0} → (ℕ → A → Type 0) → ℕ → List A → Type 0
EachAt Ok k [] = Unit {0}
EachAt Ok k (x ∷ xs) = Ok k x × EachAt Ok (k + 1) xs
