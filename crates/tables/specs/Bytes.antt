-- Texts of the file formats as lists of bytes, and when two lists are the same. Assumes nothing.
use Rattle.std.specs.Prelude.{ℕ, Bool, true, false, List, [], ◌∷◌, eqb}
use Prim.Native.String.{String}
use Prim.Native.Char.{code}
use Rattle.tables.specs.Choice.{pick}

-- the bytes of a text; every text here is ASCII
abbrev pub bytes : String → List ℕ
bytes String.[] = []
bytes (String.◌∷◌ c s) = code c ∷ bytes s

unfoldable pub same_bytes : List ℕ → List ℕ → Bool
same_bytes [] [] = true
same_bytes [] (b ∷ bs) = false
same_bytes (a ∷ as') [] = false
same_bytes (a ∷ as') (b ∷ bs) = pick (eqb a b) (same_bytes as' bs) false
