-- The table of an accepted file stands for the file's circuit: each number is found at its place. Assumes nothing.
use mathlib.Core.Path.{◌≡◌, refl, sym, ap, ap₂, ◌∙◌, subst}
use mathlib.Core.List.{List, [], ◌∷◌, ◌++◌, map, append_assoc, append-nil}
use Prim.Native.Nat.{ℕ, zero, suc, ◌+◌, ◌*◌, ◌≤◌, ◌<◌}
use native.Mathlib.Omega.{arith}
use lib.ListN.{length, get_or, length-append, get_or-append}
use lib.Seq.{get_or-append-add}
use Rattle.tables.specs.Place.{placed}
use Rattle.tables.proofs.Places.{get_d_tabulate, tabulate_ext, tabulate_get_d}
use Rattle.text.specs.Result.{map_result}
use Rattle.text.specs.Result.Result.{accepted}
use Rattle.circuit.specs.Circuit.{Latch, Gate, Circuit, input_at, latch_at, output_at, gate_at}
use Rattle.circuit_line.specs.declared.section.Header.{Header}
use Rattle.circuit_file.specs.declared.CircuitTable.{CircuitTable}
use Rattle.circuit_file.specs.File.{Contents, circuit_from, parse_contents, parse_circuit, flat, table_from, circuit_in}
use Rattle.circuit_file.specs.Written.{written_lines, header_of, lines_of}
use Rattle.circuit_file.proofs.Spaced.{spaced_length}
use Rattle.circuit_file.proofs.Shapes.{one_line, latch_line, gate_line}
use Rattle.circuit_file.proofs.FirstLine.{numbers_of, header_text}
use Rattle.circuit_file.proofs.Contents.{written_contents, ContentsOk, contents_read}
use Rattle.circuit_file.proofs.Circuits.{assembled, same_parts, lines_same, header_same}

-- ---- the numbers of lines

pub flat_append : (xss yss : List (List ℕ)) → flat (xss ++ yss) ≡ flat xss ++ flat yss
unfolding flat
flat_append [] yss = refl
flat_append (xs ∷ xss) yss = ap (λ zs. xs ++ zs) (flat_append xss yss) ∙ sym (append_assoc xs (flat xss) (flat yss))

-- each takes two bytes at least: a digit, and a space or a line feed behind it
pub flat_two : (xss : List (List ℕ)) → 2 * length (flat xss) ≤ length (written_lines xss)
unfolding flat written_lines
flat_two [] = omega arith
flat_two ([] ∷ xss) = simp length-append (omega (arith, flat_two xss))
flat_two ((x ∷ xs) ∷ xss) = simp length-append (omega (arith, spaced_length x xs, flat_two xss))

-- so a file of 65,536 bytes at most has 32,768 of them at most
pub flat_few : (t : Contents) → length (written_contents t) ≤ 65536 → length (flat t.lines) ≤ 32768
flat_few t h =
    let e : length (written_contents t) ≡ length (header_text (numbers_of t.header)) + length (10 ∷ written_lines t.lines) =
    length-append (header_text (numbers_of t.header)) (10 ∷ written_lines t.lines) in
    let b : 2 * length (flat t.lines) ≤ length (written_lines t.lines) = flat_two t.lines in
    omega arith

-- ---- lines of one width: number j of line i is at place w * i + j
module _ {A : Type 0} (f : A → List ℕ) (w : ℕ) (wide : (x : A) → length (f x) ≡ w) where
  pub block_length : (xs : List A) → length (flat (map f xs)) ≡ w * length xs
  unfolding flat
  block_length [] = omega arith
  block_length (x ∷ xs) = simp length-append (omega (arith, wide x, block_length xs))

  pub block_at : (xs : List A) (rest : List ℕ) (i j : ℕ) (d : A) → i < length xs → j < w
      → get_or (flat (map f xs) ++ rest) (w * i + j) 0 ≡ get_or (f (get_or xs i d)) j 0
  unfolding flat
  block_at [] rest i j d h k = absurd (omega arith)
  block_at (x ∷ xs) rest zero j d h k =
      let e : w * 0 + j ≡ j = omega arith in
      let l : j < length (f x) = omega (arith, wide x) in
      rw (append_assoc (f x) (flat (map f xs)) rest, e) (get_or-append (f x) (flat (map f xs) ++ rest) 0 j l)
  block_at (x ∷ xs) rest (suc i) j d h k =
      let e : w * suc i + j ≡ length (f x) + (w * i + j) = omega (arith, wide x) in
      rw (append_assoc (f x) (flat (map f xs)) rest, e)
      (get_or-append-add (f x) (flat (map f xs) ++ rest) (w * i + j) 0 ∙ block_at xs rest i j d (omega arith) k)

-- ---- a circuit's numbers, each at its place. The array's length n is a variable here, since so many places must not be written out.

abbrev assembled_latch : ℕ → ℕ → Latch
assembled_latch a b = record { current = a; next = b }

abbrev assembled_gate : ℕ → ℕ → ℕ → Gate
assembled_gate a b d = record { lhs = a; rhs0 = b; rhs1 = d }

module _ (h : Header) (c : Circuit) (i : length c.inputs ≡ h.inputs) (l : length c.latches ≡ h.latches) (o : length c.outputs ≡ h.outputs)
    (g : length c.gates ≡ h.gates) where
  abbrev of_inputs : List ℕ
  of_inputs = flat (map one_line c.inputs)

  abbrev of_latches : List ℕ
  of_latches = flat (map latch_line c.latches)

  abbrev of_outputs : List ℕ
  of_outputs = flat (map one_line c.outputs)

  abbrev of_gates : List ℕ
  of_gates = flat (map gate_line c.gates)

  abbrev of_all : List ℕ
  of_all = of_inputs ++ (of_latches ++ (of_outputs ++ of_gates))

  pub all_same : flat (lines_of c) ≡ of_all
  all_same =
      let a : List (List ℕ) = map one_line c.inputs in
      let b : List (List ℕ) = map latch_line c.latches in
      let d : List (List ℕ) = map one_line c.outputs in
      let e : List (List ℕ) = map gate_line c.gates in
      flat_append a (b ++ (d ++ e))
      ∙ ap (λ s. of_inputs ++ s) (flat_append b (d ++ e) ∙ ap (λ s. of_latches ++ s) (flat_append d e))

  long_inputs : length of_inputs ≡ h.inputs
  long_inputs = omega (arith, block_length one_line 1 (λ x. refl) c.inputs, i)

  long_latches : length of_latches ≡ 2 * h.latches
  long_latches = omega (arith, block_length latch_line 2 (λ x. refl) c.latches, l)

  long_outputs : length of_outputs ≡ h.outputs
  long_outputs = omega (arith, block_length one_line 1 (λ x. refl) c.outputs, o)

  long_gates : length of_gates ≡ 3 * h.gates
  long_gates = omega (arith, block_length gate_line 3 (λ x. refl) c.gates, g)

  pub all_long : length of_all ≡ h.inputs + 2 * h.latches + h.outputs + 3 * h.gates
  all_long = simp length-append (omega (arith, long_inputs, long_latches, long_outputs, long_gates))

  -- behind the inputs, behind the latches and behind the outputs
  from_latches : (p m : ℕ) → p ≡ h.inputs + m → get_or of_all p 0 ≡ get_or (of_latches ++ (of_outputs ++ of_gates)) m 0
  from_latches p m e =
      let q : p ≡ length of_inputs + m = omega (arith, long_inputs) in
      rw q (get_or-append-add of_inputs (of_latches ++ (of_outputs ++ of_gates)) m 0)

  from_outputs : (p m : ℕ) → p ≡ h.inputs + 2 * h.latches + m → get_or of_all p 0 ≡ get_or (of_outputs ++ of_gates) m 0
  from_outputs p m e =
      from_latches p (length of_latches + m) (omega (arith, long_latches)) ∙ get_or-append-add of_latches (of_outputs ++ of_gates) m 0

  from_gates : (p m : ℕ) → p ≡ h.inputs + 2 * h.latches + h.outputs + m → get_or of_all p 0 ≡ get_or of_gates m 0
  from_gates p m e = from_outputs p (length of_outputs + m) (omega (arith, long_outputs)) ∙ get_or-append-add of_outputs of_gates m 0

  -- number j of each
  input_place : (k : ℕ) → k < h.inputs → get_or of_all k 0 ≡ input_at c k
  input_place k a =
      let e : k ≡ 1 * k + 0 = omega arith in
      ap (λ p. get_or of_all p 0) e ∙ block_at one_line 1 (λ x. refl) c.inputs (of_latches ++ (of_outputs ++ of_gates)) k 0 0 (omega arith) (omega arith)

  latch_place : (k j p : ℕ) → k < h.latches → j < 2 → p ≡ h.inputs + 2 * k + j → get_or of_all p 0 ≡ get_or (latch_line (latch_at c k)) j 0
  latch_place k j p a b e =
      from_latches p (2 * k + j) (omega arith)
      ∙ block_at latch_line 2 (λ x. refl) c.latches (of_outputs ++ of_gates) k j (record { current = 0; next = 0 }) (omega arith) b

  output_place : (k : ℕ) → k < h.outputs → get_or of_all (h.inputs + 2 * h.latches + k) 0 ≡ output_at c k
  output_place k a =
      from_outputs (h.inputs + 2 * h.latches + k) (1 * k + 0) (omega arith)
      ∙ block_at one_line 1 (λ x. refl) c.outputs of_gates k 0 0 (omega arith) (omega arith)

  gate_place : (k j p : ℕ) → k < h.gates → j < 3 → p ≡ h.inputs + 2 * h.latches + h.outputs + 3 * k + j → get_or of_all p 0 ≡ get_or (gate_line (gate_at c k)) j 0
  gate_place k j p a b e =
      from_gates p (3 * k + j) (omega arith)
      ∙ (ap (λ s. get_or s (3 * k + j) 0) (sym (append-nil of_gates))
      ∙ block_at gate_line 3 (λ x. refl) c.gates [] k j (record { lhs = 0; rhs0 = 0; rhs1 = 0 }) (omega arith) b)

  -- THE TABLE OF A CIRCUIT'S NUMBERS STANDS FOR THE CIRCUIT, where it has room for them
  module _ (n : ℕ) (room : length (flat (lines_of c)) ≤ n) where
    abbrev whole : CircuitTable
    whole = record { header = h; numbers = placed n (λ x. x) 0 (flat (lines_of c)) }

    number : (p : ℕ) → p < h.inputs + 2 * h.latches + h.outputs + 3 * h.gates → get_or whole.numbers p 0 ≡ get_or of_all p 0
    number p a =
        let b : length (flat (lines_of c)) ≡ h.inputs + 2 * h.latches + h.outputs + 3 * h.gates = ap length all_same ∙ all_long in
        get_d_tabulate n (λ m. get_or (flat (lines_of c)) m 0) p 0 (omega arith) ∙ ap (λ s. get_or s p 0) all_same

    latch_in_lem : (k : ℕ) → k < h.latches
        → assembled_latch (get_or whole.numbers (h.inputs + 2 * k) 0) (get_or whole.numbers (h.inputs + 2 * k + 1) 0) ≡ latch_at c k
    latch_in_lem k a =
        ap₂ assembled_latch
        (number (h.inputs + 2 * k) (omega arith) ∙ latch_place k 0 (h.inputs + 2 * k) a (omega arith) (omega arith))
        (number (h.inputs + 2 * k + 1) (omega arith) ∙ latch_place k 1 (h.inputs + 2 * k + 1) a (omega arith) (omega arith))

    gate_in : (k p : ℕ) → k < h.gates → p ≡ h.inputs + 2 * h.latches + h.outputs + 3 * k
        → assembled_gate (get_or whole.numbers p 0) (get_or whole.numbers (p + 1) 0) (get_or whole.numbers (p + 2) 0) ≡ gate_at c k
    gate_in k p a e =
        let x : get_or whole.numbers p 0 ≡ (gate_at c k).lhs = number p (omega arith) ∙ gate_place k 0 p a (omega arith) (omega arith) in
        let y : get_or whole.numbers (p + 1) 0 ≡ (gate_at c k).rhs0 = number (p + 1) (omega arith) ∙ gate_place k 1 (p + 1) a (omega arith) (omega arith) in
        let z : get_or whole.numbers (p + 2) 0 ≡ (gate_at c k).rhs1 = number (p + 2) (omega arith) ∙ gate_place k 2 (p + 2) a (omega arith) (omega arith) in
        ap₂ (λ x y. assembled_gate x y (get_or whole.numbers (p + 2) 0)) x y ∙ ap (assembled_gate (gate_at c k).lhs (gate_at c k).rhs0) z

    pub table_whole : circuit_in whole ≡ c
    unfolding assembled
    table_whole =
        same_parts
        (tabulate_ext h.inputs (λ k. get_or whole.numbers k 0) (input_at c) (λ k a. number k (omega arith) ∙ input_place k a)
        ∙ tabulate_get_d c.inputs h.inputs 0 i)
        (tabulate_ext h.latches (λ k. assembled_latch (get_or whole.numbers (h.inputs + 2 * k) 0) (get_or whole.numbers (h.inputs + 2 * k + 1) 0)) (latch_at c) latch_in_lem
        ∙ tabulate_get_d c.latches h.latches (record { current = 0; next = 0 }) l)
        (tabulate_ext h.outputs (λ k. get_or whole.numbers (h.inputs + 2 * h.latches + k) 0) (output_at c)
        (λ k a. number (h.inputs + 2 * h.latches + k) (omega arith) ∙ output_place k a)
        ∙ tabulate_get_d c.outputs h.outputs 0 o)
        (tabulate_ext h.gates
        (λ k.
        let p : ℕ = h.inputs + 2 * h.latches + h.outputs + 3 * k in
        assembled_gate (get_or whole.numbers p 0) (get_or whole.numbers (p + 1) 0) (get_or whole.numbers (p + 2) 0))
        (gate_at c) (λ k a. gate_in k (h.inputs + 2 * h.latches + h.outputs + 3 * k) a refl)
        ∙ tabulate_get_d c.gates h.gates (record { lhs = 0; rhs0 = 0; rhs1 = 0 }) g)

-- ---- the laws

-- the array's length is a variable here too
table_of : (n : ℕ) (t : Contents) → ContentsOk t → length (flat t.lines) ≤ n
    → circuit_in (record { header = t.header; numbers = placed n (λ x. x) 0 (flat t.lines) }) ≡ circuit_from t
table_of n t ok room =
    let e : header_of (circuit_from t) ≡ numbers_of t.header = header_same t ok in
    let s : lines_of (circuit_from t) ≡ t.lines = lines_same t ok in
    subst (λ ls. circuit_in (record { header = t.header; numbers = placed n (λ x. x) 0 (flat ls) }) ≡ circuit_from t) s
    (table_whole t.header (circuit_from t) (ap (λ xs. get_or xs 1 0) e) (ap (λ xs. get_or xs 2 0) e) (ap (λ xs. get_or xs 3 0) e) (ap (λ xs. get_or xs 4 0) e) n
    (subst (λ ls. length (flat ls) ≤ n) (sym s) room))

-- THE TABLE STANDS FOR THE CIRCUIT OF ITS FILE
pub table_circuit : (file : List ℕ) (t : Contents) → parse_contents file ≡ accepted t → circuit_in (table_from t) ≡ circuit_from t
table_circuit file t e =
    let r = contents_read file t e in
    let b : length (flat t.lines) ≤ 32768 = flat_few t (subst (λ s. length s ≤ 65536) r.whole r.short) in
    table_of 32770 t r.ok (omega arith)

-- so the circuit that is read is the one in the table
pub table_read : (file : List ℕ) (t : Contents) → parse_contents file ≡ accepted t → parse_circuit file ≡ accepted (circuit_in (table_from t))
table_read file t e = ap (map_result circuit_from) e ∙ ap accepted (sym (table_circuit file t e))
