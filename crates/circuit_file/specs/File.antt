-- The circuit file: ASCII AIGER without symbols or comments (02, 4), line by line. Assumes nothing.
use Rattle.std.specs.Prelude.{ℕ, zero, suc, ◌+◌, ◌*◌, ◌≤◌, ◌<◌, Bool, List, [], ◌∷◌, ◌++◌, map, eqb, ltb, length, get_or, take, drop}
use Rattle.tables.specs.Refusal.{numbered}
use Rattle.tables.specs.Choice.{pick}
use Rattle.tables.specs.Bytes.{bytes, same_bytes}
use Rattle.tables.specs.Place.{tabulate, placed}
use Rattle.text.specs.Result.{Parsed, Next, Result, on_parsed, on_line, map_result, outcome_of, table_or}
use Rattle.text.specs.Result.Parsed.{good, bad}
use Rattle.text.specs.Result.Result.{accepted, refused}
use Rattle.circuit.specs.Circuit.{Circuit, Latch, Gate}
use Rattle.circuit_line.specs.declared.section.Header.{Header}
use Rattle.circuit_file.specs.declared.CircuitTable.{CircuitTable}
use Rattle.circuit_file.specs.declared.CircuitAnswer.{CircuitAnswer}
use Rattle.circuit_file.specs.declared.HeaderRead.{HeaderRead}
use Rattle.circuit_file.specs.declared.HeaderRead.TheVariants.{Header as HeaderIs, Wrong}
use Rattle.circuit_line.specs.Numbers.{number_list, plain_line}
use Rattle.circuit_line.specs.Section.{section_of, line_form, now_defined}

-- `aag M I L O A`, with "a maximum index of inputs plus latches plus gates"
abbrev pub header_from : List ℕ → Header
header_from xs =
    record { maximum = get_or xs 0 0; inputs = get_or xs 1 0; latches = get_or xs 2 0; outputs = get_or xs 3 0; gates = get_or xs 4 0 }

abbrev pub sums_up : Header → Bool
sums_up h = eqb h.maximum (h.inputs + h.latches + h.gates)

unfoldable pub header_form : List ℕ → Parsed Header
header_form text =
    pick (same_bytes (take 4 text) (bytes "aag "))
    (on_parsed (number_list 5 (drop 4 text)) bad λ xs.
    pick (sums_up (header_from xs)) (good (header_from xs)) (bad (numbered 2)))
    (bad (numbered 2))

-- so many lines more, behind lines with these numbers, which define these literals; the first line behind the header is line 2.
-- "A line is absent, surplus or not of the form given for its place"
unfoldable pub circuit_lines : Header → ℕ → List (List ℕ) → List ℕ → List ℕ → Result (List (List ℕ))
circuit_lines h zero done defined rest = pick (eqb (length rest) 0) (accepted done) (refused (numbered 2) (length done + 2))
circuit_lines h (suc left) done defined rest =
    on_line (length done + 2) (plain_line (line_form h.maximum defined (section_of h (length done)))) rest λ xs after.
    circuit_lines h left (done ++ (xs ∷ [])) (now_defined (section_of h (length done)) xs defined) after

-- what a file says: its header, and the numbers of each line behind it
pub record Contents : Type 0 where
  pub header : Header
  pub lines : List (List ℕ)

abbrev pub contents_of : Header → List (List ℕ) → Contents
contents_of h ls = record { header = h; lines = ls }

abbrev pub lines_in : Header → ℕ
lines_in h = h.inputs + h.latches + h.outputs + h.gates

-- "It refuses longer files by 1, other text as a wrong form at its line"
unfoldable pub parse_contents : List ℕ → Result Contents
parse_contents file =
    pick (ltb 65536 (length file)) (refused (numbered 1) 0)
    (on_line 1 (plain_line header_form) file λ h body.
    map_result (contents_of h) (circuit_lines h (lines_in h) [] [] body))

-- the circuit that it stands for
abbrev pub latch_from : List ℕ → Latch
latch_from xs = record { current = get_or xs 0 0; next = get_or xs 1 0 }

abbrev pub gate_from : List ℕ → Gate
gate_from xs = record { lhs = get_or xs 0 0; rhs0 = get_or xs 1 0; rhs1 = get_or xs 2 0 }

abbrev pub circuit_from : Contents → Circuit
circuit_from t =
    record {
      inputs = map (λ xs. get_or xs 0 0) (take t.header.inputs t.lines);
      latches = map latch_from (take t.header.latches (drop t.header.inputs t.lines));
      outputs = map (λ xs. get_or xs 0 0) (take t.header.outputs (drop (t.header.inputs + t.header.latches) t.lines));
      gates = map gate_from (drop (t.header.inputs + t.header.latches + t.header.outputs) t.lines);
    }

abbrev pub parse_circuit : List ℕ → Result Circuit
parse_circuit file = map_result circuit_from (parse_contents file)

-- the table in memory: the header, and all numbers behind it, one after the other. A file of 65,536 bytes has no more than 32,768 of
-- them, since each has a digit, and a space or a line feed behind it; two places more let a line of three numbers be put at once.
unfoldable pub flat : List (List ℕ) → List ℕ
flat [] = []
flat (xs ∷ xss) = xs ++ flat xss

abbrev pub table_from : Contents → CircuitTable
table_from t = record { header = t.header; numbers = placed 32770 (λ x. x) 0 (flat t.lines) }

-- the circuit that a table stands for: its numbers are those of the inputs, the latches, the outputs and the gates, in this order
module _ (t : CircuitTable) where
  abbrev pub number_at : ℕ → ℕ
  number_at i = get_or t.numbers i 0

  abbrev pub circuit_in : Circuit
  circuit_in =
      let h : Header = t.header in
      let latch : ℕ → ℕ = λ i. h.inputs + 2 * i in
      let output : ℕ → ℕ = λ i. h.inputs + 2 * h.latches + i in
      let gate : ℕ → ℕ = λ i. h.inputs + 2 * h.latches + h.outputs + 3 * i in
      record {
        inputs = tabulate h.inputs number_at;
        latches = tabulate h.latches (λ i. record { current = number_at (latch i); next = number_at (latch i + 1) });
        outputs = tabulate h.outputs (λ i. number_at (output i));
        gates =
            tabulate h.gates
            (λ i. record { lhs = number_at (gate i); rhs0 = number_at (gate i + 1); rhs1 = number_at (gate i + 2) });
      }

abbrev pub no_contents : Contents
no_contents = record { header = header_from []; lines = [] }

-- the code's answer: the circuit is file 1
abbrev pub circuit_answer : Result Contents → CircuitAnswer
circuit_answer r = record { outcome = outcome_of 1 r; table = table_from (table_or no_contents r) }

-- what the code's answer for the header says, and what is known of one that was read
abbrev pub header_as : HeaderRead → Parsed (Next Header)
header_as (HeaderIs h next) = good (record { value = h; next = next })
header_as Wrong = bad (numbered 2)

pub record SmallHeader (h : Header) : Type 0 where
  pub maximum_small : h.maximum < 100000
  pub inputs_small : h.inputs < 100000
  pub latches_small : h.latches < 100000
  pub outputs_small : h.outputs < 100000
  pub gates_small : h.gates < 100000

abbrev pub HeaderWithin : List ℕ → HeaderRead → Type 0
HeaderWithin file (HeaderIs h next) = SmallHeader h × (next ≤ length file)
HeaderWithin file Wrong = Unit {0}
