-- The lines behind the header, and which line is possible behind the lines before it. Assumes nothing.
use Rattle.std.specs.Prelude.{ℕ, ◌+◌, ◌*◌, ◌%◌, Bool, true, false, not, ◌&&◌, List, [], ◌∷◌, eqb, leb, ltb, get_or}
use Rattle.tables.specs.Refusal.{numbered}
use Rattle.tables.specs.Choice.{pick}
use Rattle.text.specs.Result.{Parsed, on_parsed}
use Rattle.text.specs.Result.Parsed.{good, bad}
use Rattle.circuit_line.specs.declared.section.Header.{Header}
use Rattle.circuit_line.specs.declared.section.Section.{Section}
use Rattle.circuit_line.specs.declared.section.Section.TheVariants.{Inputs, Latches, Outputs, Gates}
use Rattle.circuit_line.specs.Numbers.{number_list}

-- the section of line k, counted from 0 behind the header: inputs, then latches, then outputs, then gates
abbrev pub section_of : Header → ℕ → Section
section_of h k =
    pick (ltb k h.inputs) Inputs
    (pick (ltb k (h.inputs + h.latches)) Latches
    (pick (ltb k (h.inputs + h.latches + h.outputs)) Outputs Gates))

-- how many numbers its lines have: a literal; a latch's literal and its next one; a literal; a gate's left side and two operands
abbrev pub width : Section → ℕ
width Inputs = 1
width Latches = 2
width Outputs = 1
width Gates = 3

-- whether the first of them is thereby defined
abbrev pub defines : Section → Bool
defines Inputs = true
defines Latches = true
defines Outputs = false
defines Gates = true

-- whether a literal is among those defined so far
unfoldable pub is_defined : List ℕ → ℕ → Bool
is_defined [] l = false
is_defined (d ∷ ds) l = pick (eqb d l) true (is_defined ds l)

-- a variable's own literal, up to the maximum index
abbrev pub is_variable : ℕ → ℕ → Bool
is_variable m l = (eqb (l % 2) 0 && leb 2 l) && leb l (2 * m)

-- what a line may define: a variable that none before it has defined
abbrev pub is_new : ℕ → Bool → ℕ → Bool
is_new m taken l = is_variable m l && not taken

-- the numbers of a line, where `taken` says whether the first is defined already; other literals reach up to 2M + 1, and the operands of
-- "gates whose operands have lower literals" lie below the left side
abbrev pub is_possible : ℕ → Bool → Section → ℕ → ℕ → ℕ → Bool
is_possible m taken Inputs a b c = is_new m taken a
is_possible m taken Latches a b c = is_new m taken a && leb b (2 * m + 1)
is_possible m taken Outputs a b c = leb a (2 * m + 1)
is_possible m taken Gates a b c = is_new m taken a && (ltb b a && ltb c a)

-- a line of a section, behind lines that define these literals
unfoldable pub line_form : ℕ → List ℕ → Section → List ℕ → Parsed (List ℕ)
line_form m defined section text =
    on_parsed (number_list (width section) text) bad λ xs.
    pick (is_possible m (is_defined defined (get_or xs 0 0)) section (get_or xs 0 0) (get_or xs 1 0) (get_or xs 2 0)) (good xs) (bad (numbered 2))

abbrev pub now_defined : Section → List ℕ → List ℕ → List ℕ
now_defined section xs defined = pick (defines section) (get_or xs 0 0 ∷ defined) defined
