-- Circuits and their files: what is read is well formed and is written so, and what is written is read back. Assumes nothing.
use mathlib.Core.Path.{◌≡◌, refl, sym, ap, ap₂, ◌∙◌, subst}
use mathlib.Core.List.{List, [], ◌∷◌, ◌++◌, map}
use Prim.Native.Nat.{ℕ, ◌+◌, ◌≤◌}
use native.Mathlib.Omega.{arith}
use lib.ListN.{length, get_or, take, drop, length-append, length-drop, length-map, take-append-drop}
use lib.Seq.{take_at, drop_at, drop-drop, length-take-le}
use Rattle.text.specs.Result.{map_result}
use Rattle.text.specs.Result.Result.{accepted}
use Rattle.text.proofs.Headers.{map_accepted}
use Rattle.circuit.specs.Circuit.{Latch, Gate, Circuit, maximum, WellFormed}
use Rattle.circuit_line.specs.Section.{section_of}
use Rattle.circuit_file.specs.File.{Contents, header_from, contents_of, latch_from, gate_from, circuit_from, parse_contents, parse_circuit}
use Rattle.circuit_file.specs.Written.{written_lines, header_of, lines_of, written_circuit}
use Rattle.circuit_file.proofs.Possible.{Possible}
use Rattle.circuit_file.proofs.Blocks.{Blocks, to_blocks}
use Rattle.circuit_file.proofs.Shapes.{one_line, latch_line, gate_line, inputs_shaped, latches_shaped, outputs_shaped, gates_shaped}
use Rattle.circuit_file.proofs.Formed.{formed_possible, possible_formed}
use Rattle.circuit_file.proofs.FirstLine.{numbers_of, header_text}
use Rattle.circuit_file.proofs.Contents.{written_contents, ContentsOk, contents_written, contents_read}

-- ---- the four parts of a list

abbrev joined : {A : Type 0} → List A → List A → List A → List A → List A
joined a b o g = a ++ (b ++ (o ++ g))

module _ {A : Type 0} (a b o g : List A) (i l n : ℕ) (p : length a ≡ i) (q : length b ≡ l) (r : length o ≡ n) where
  part_two : take l (drop i (joined a b o g)) ≡ b
  part_two = rw (drop_at a (b ++ (o ++ g)) i p) (take_at b (o ++ g) l q)

  from_three : drop (i + l) (joined a b o g) ≡ o ++ g
  from_three = sym (drop-drop l i (joined a b o g)) ∙ rw (drop_at a (b ++ (o ++ g)) i p) (drop_at b (o ++ g) l q)

  part_three : take n (drop (i + l) (joined a b o g)) ≡ o
  part_three = rw from_three (take_at o g n r)

  part_four : drop (i + l + n) (joined a b o g) ≡ g
  part_four = sym (drop-drop n (i + l) (joined a b o g)) ∙ rw from_three (drop_at o g n r)

four_parts : {A : Type 0} (i l n : ℕ) (w : List A) → joined (take i w) (take l (drop i w)) (take n (drop (i + l) w)) (drop (i + l + n) w) ≡ w
four_parts i l n w =
    ap (λ g. joined (take i w) (take l (drop i w)) (take n (drop (i + l) w)) g) (sym (drop-drop n (i + l) w))
    ∙ (ap (λ s. take i w ++ (take l (drop i w) ++ s)) (take-append-drop n (drop (i + l) w) ∙ sym (drop-drop l i w))
    ∙ (ap (λ s. take i w ++ s) (take-append-drop l (drop i w)) ∙ take-append-drop i w))

-- ---- a circuit and its contents

abbrev pub contents_from : Circuit → Contents
contents_from c = contents_of (header_from (header_of c)) (lines_of c)

-- the file is the same
pub written_same : (c : Circuit) → written_circuit c ≡ written_contents (contents_from c)
unfolding written_circuit written_lines
written_same c = refl

map_back : {A B : Type 0} (f : A → B) (g : B → A) → ((x : A) → g (f x) ≡ x) → (xs : List A) → map g (map f xs) ≡ xs
map_back f g own [] = refl
map_back f g own (x ∷ xs) = ap₂ ◌∷◌ (own x) (map_back f g own xs)

unfoldable pub assembled : List ℕ → List Latch → List ℕ → List Gate → Circuit
assembled a b o g = record { inputs = a; latches = b; outputs = o; gates = g }

pub same_parts : {a a' : List ℕ} {b b' : List Latch} {o o' : List ℕ} {g g' : List Gate} → a ≡ a' → b ≡ b' → o ≡ o' → g ≡ g' → assembled a b o g ≡ assembled a' b' o' g'
same_parts p q r s = rw (p, q, r, s)

-- the circuit of a circuit's contents is the circuit
pub contents_circuit : (c : Circuit) → circuit_from (contents_from c) ≡ c
unfolding assembled
contents_circuit c =
    let a : List (List ℕ) = map one_line c.inputs in
    let b : List (List ℕ) = map latch_line c.latches in
    let o : List (List ℕ) = map one_line c.outputs in
    let g : List (List ℕ) = map gate_line c.gates in
    let i : length a ≡ length c.inputs = length-map c.inputs one_line in
    let l : length b ≡ length c.latches = length-map c.latches latch_line in
    let n : length o ≡ length c.outputs = length-map c.outputs one_line in
    same_parts
    (ap (map (λ xs. get_or xs 0 0)) (take_at a (b ++ (o ++ g)) (length c.inputs) i) ∙ map_back one_line (λ xs. get_or xs 0 0) (λ x. refl) c.inputs)
    (ap (map latch_from) (part_two a b o g (length c.inputs) (length c.latches) (length c.outputs) i l n) ∙ map_back latch_line latch_from (λ x. refl) c.latches)
    (ap (map (λ xs. get_or xs 0 0)) (part_three a b o g (length c.inputs) (length c.latches) (length c.outputs) i l n) ∙ map_back one_line (λ xs. get_or xs 0 0) (λ x. refl) c.outputs)
    (ap (map gate_from) (part_four a b o g (length c.inputs) (length c.latches) (length c.outputs) i l n) ∙ map_back gate_line gate_from (λ x. refl) c.gates)

-- a well-formed circuit's contents is one that a file can say
pub circuit_contents : (c : Circuit) → WellFormed c → ContentsOk (contents_from c)
circuit_contents c w =
    record {
      sums = refl;
      count = simp (length-append, length-map) (omega arith);
      possible = formed_possible c (header_from (header_of c)) refl refl refl w;
    }

-- ---- a contents and its circuit

abbrev input_lines : Contents → List (List ℕ)
input_lines t = take t.header.inputs t.lines

abbrev latch_lines : Contents → List (List ℕ)
latch_lines t = take t.header.latches (drop t.header.inputs t.lines)

abbrev output_lines : Contents → List (List ℕ)
output_lines t = take t.header.outputs (drop (t.header.inputs + t.header.latches) t.lines)

abbrev gate_lines : Contents → List (List ℕ)
gate_lines t = drop (t.header.inputs + t.header.latches + t.header.outputs) t.lines

parts_same : (t : Contents) → joined (input_lines t) (latch_lines t) (output_lines t) (gate_lines t) ≡ t.lines
parts_same t = four_parts t.header.inputs t.header.latches t.header.outputs t.lines

module _ (t : Contents) (ok : ContentsOk t) where
  count_inputs : length (input_lines t) ≡ t.header.inputs
  count_inputs = length-take-le t.header.inputs t.lines (omega (arith, ok.count))

  count_latches : length (latch_lines t) ≡ t.header.latches
  count_latches = length-take-le t.header.latches (drop t.header.inputs t.lines) (omega (arith, ok.count, length-drop t.header.inputs t.lines))

  count_outputs : length (output_lines t) ≡ t.header.outputs
  count_outputs =
      length-take-le t.header.outputs (drop (t.header.inputs + t.header.latches) t.lines)
      (omega (arith, ok.count, length-drop (t.header.inputs + t.header.latches) t.lines))

  count_gates : length (gate_lines t) ≡ t.header.gates
  count_gates = omega (arith, ok.count, length-drop (t.header.inputs + t.header.latches + t.header.outputs) t.lines)

  blocks : Blocks t.header.maximum (input_lines t) (latch_lines t) (output_lines t) (gate_lines t)
  blocks =
      to_blocks t.header.maximum t.header (input_lines t) (latch_lines t) (output_lines t) (gate_lines t) count_inputs count_latches count_outputs
      (subst (Possible t.header.maximum (section_of t.header) 0 []) (sym (parts_same t)) ok.possible)

  -- the lines are those of the circuit
  pub lines_same : lines_of (circuit_from t) ≡ t.lines
  lines_same =
      let u = inputs_shaped t.header.maximum _ (input_lines t) blocks.inputs in
      let v = latches_shaped t.header.maximum _ (latch_lines t) blocks.latches in
      let w = outputs_shaped t.header.maximum _ (output_lines t) blocks.outputs in
      let x = gates_shaped t.header.maximum _ (gate_lines t) blocks.gates in
      ap₂ ◌++◌ u (ap₂ ◌++◌ v (ap₂ ◌++◌ w x)) ∙ parts_same t

  -- and so are the numbers of the header
  inputs_same : length (circuit_from t).inputs ≡ t.header.inputs
  inputs_same = length-map (input_lines t) (λ xs. get_or xs 0 0) ∙ count_inputs

  latches_same : length (circuit_from t).latches ≡ t.header.latches
  latches_same = length-map (latch_lines t) latch_from ∙ count_latches

  outputs_same : length (circuit_from t).outputs ≡ t.header.outputs
  outputs_same = length-map (output_lines t) (λ xs. get_or xs 0 0) ∙ count_outputs

  gates_same : length (circuit_from t).gates ≡ t.header.gates
  gates_same = length-map (gate_lines t) gate_from ∙ count_gates

  maximum_same : maximum (circuit_from t) ≡ t.header.maximum
  maximum_same = omega (arith, inputs_same, latches_same, gates_same, ok.sums)

  pub header_same : header_of (circuit_from t) ≡ numbers_of t.header
  header_same = ap₂ ◌∷◌ maximum_same (ap₂ ◌∷◌ inputs_same (ap₂ ◌∷◌ latches_same (ap₂ ◌∷◌ outputs_same (ap (λ n. n ∷ []) gates_same))))

  pub contents_same : written_contents t ≡ written_circuit (circuit_from t)
  unfolding written_circuit written_lines
  contents_same = sym (ap₂ (λ xs xss. header_text xs ++ (10 ∷ written_lines xss)) header_same lines_same)

  pub contents_formed : WellFormed (circuit_from t)
  contents_formed =
      possible_formed (circuit_from t) t.header inputs_same latches_same outputs_same
      (subst (λ m. Possible m (section_of t.header) 0 [] (lines_of (circuit_from t))) (sym maximum_same)
      (subst (Possible t.header.maximum (section_of t.header) 0 []) (sym lines_same) ok.possible))

-- ---- the laws

-- WHAT IS READ IS WELL FORMED AND IS WRITTEN SO: an accepted file is the written form of its circuit, byte for byte
pub circuit_read : (file : List ℕ) (c : Circuit) → parse_circuit file ≡ accepted c → (file ≡ written_circuit c) × WellFormed c
circuit_read file c e =
    let w = map_accepted circuit_from (parse_contents file) c e in
    let r = contents_read file w.0 w.1 in
    subst (λ c. (file ≡ written_circuit c) × WellFormed c) w.2 (r.whole ∙ contents_same w.0 r.ok, contents_formed w.0 r.ok)

-- and it has 65,536 bytes at most
pub circuit_short : (file : List ℕ) (c : Circuit) → parse_circuit file ≡ accepted c → length file ≤ 65536
circuit_short file c e =
    let w = map_accepted circuit_from (parse_contents file) c e in
    (contents_read file w.0 w.1).short

-- WHAT IS WRITTEN IS READ BACK
pub circuit_written : (c : Circuit) → WellFormed c → length (written_circuit c) ≤ 65536 → parse_circuit (written_circuit c) ≡ accepted c
circuit_written c w h =
    let l : parse_contents (written_contents (contents_from c)) ≡ accepted (contents_from c) =
    contents_written (contents_from c) (circuit_contents c w) (subst (λ s. length s ≤ 65536) (written_same c) h) in
    ap parse_circuit (written_same c) ∙ (ap (map_result circuit_from) l ∙ ap accepted (contents_circuit c))

-- A FILE SAYS ONE CIRCUIT
pub circuit_once : (c d : Circuit) → WellFormed c → WellFormed d → length (written_circuit c) ≤ 65536 → length (written_circuit d) ≤ 65536
    → written_circuit c ≡ written_circuit d → c ≡ d
circuit_once c d v w h k e =
    let q : accepted c ≡ accepted d = sym (circuit_written c v h) ∙ (ap parse_circuit e ∙ circuit_written d w k) in
    cc
