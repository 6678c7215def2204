-- The written form of a circuit: its file. Assumes nothing.
use Rattle.std.specs.Prelude.{ℕ, List, [], ◌∷◌, ◌++◌, map, length}
use Rattle.tables.specs.Bytes.{bytes}
use Rattle.text.specs.Written.{decimal}
use Rattle.circuit.specs.Circuit.{Circuit, Latch, Gate, maximum}

-- numbers with single spaces (byte 32) between them
unfoldable pub spaced : List ℕ → List ℕ
spaced [] = []
spaced (x ∷ []) = decimal x
spaced (x ∷ y ∷ ys) = decimal x ++ (32 ∷ spaced (y ∷ ys))

-- lines, each with its line feed (byte 10)
unfoldable pub written_lines : List (List ℕ) → List ℕ
written_lines [] = []
written_lines (xs ∷ xss) = spaced xs ++ (10 ∷ written_lines xss)

-- the header's numbers, M I L O A
abbrev pub header_of : Circuit → List ℕ
header_of c = maximum c ∷ length c.inputs ∷ length c.latches ∷ length c.outputs ∷ length c.gates ∷ []

-- and those of the lines behind it
abbrev pub lines_of : Circuit → List (List ℕ)
lines_of c =
    map (λ l. l ∷ []) c.inputs
    ++ (map (λ (q : Latch). q.current ∷ q.next ∷ []) c.latches
    ++ (map (λ l. l ∷ []) c.outputs
    ++ map (λ (g : Gate). g.lhs ∷ g.rhs0 ∷ g.rhs1 ∷ []) c.gates))

unfoldable pub written_circuit : Circuit → List ℕ
written_circuit c = bytes "aag " ++ written_lines (header_of c ∷ lines_of c)
