-- The lines that the programs print of numbers and refusals. Assumes nothing.
use Rattle.std.specs.Prelude.{ℕ, List, ◌++◌, codes, decimal}
use Rattle.tables.specs.Refusal.{number}
use Rattle.tables.specs.declared.refusal.Refusal.{Refusal}

-- a key, a number, a line feed
abbrev pub key_line : List ℕ → ℕ → List ℕ
key_line key n = (key ++ decimal n) ++ codes "\n"

-- "A refusal prints three lines instead: `refused=`, `file=`, `line=`."
abbrev pub refusal_lines : Refusal → List ℕ
refusal_lines r = (key_line (codes "refused=") (number r.reason) ++ key_line (codes "file=") r.file) ++ key_line (codes "line=") r.line
