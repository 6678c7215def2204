-- A circuit is well formed where the lines of its file are possible, each behind those before it, and only there. Assumes nothing.
use mathlib.Core.Path.{◌≡◌, refl, sym, ap, ◌∙◌, subst}
use mathlib.Core.Bool.{false}
use mathlib.Core.List.{List, [], ◌++◌, map}
use Prim.Native.Nat.{ℕ}
use lib.ListN.{length, get_or, length-map}
use Rattle.text.specs.Body.{EachAt}
use Rattle.text.proofs.Laws.{all_ok, ok_at}
use Rattle.circuit.specs.Circuit.{Latch, Gate, Circuit, maximum, defined_in, IsLiteral, WellFormed}
use Rattle.circuit_line.specs.declared.section.Header.{Header}
use Rattle.circuit_line.specs.declared.section.Section.TheVariants.{Inputs, Latches, Outputs, Gates}
use Rattle.circuit_line.specs.Section.{section_of, is_defined}
use Rattle.circuit_file.specs.Written.{lines_of}
use Rattle.circuit_file.proofs.Possible.{Possible}
use Rattle.circuit_file.proofs.News.{New, pushed, new_append, new_parts, new_at, new_once, new_all}
use Rattle.circuit_file.proofs.Blocks.{Block, behind, Blocks, to_blocks, from_blocks}
use Rattle.circuit_file.proofs.Shapes.{one_line, latch_line, gate_line, Lower, inputs_behind, inputs_new, inputs_block, latches_behind, latches_new, latches_block, gates_new, gates_block, outputs_each, outputs_block, outputs_behind}

abbrev currents : Circuit → List ℕ
currents c = map (λ (q : Latch). q.current) c.latches

abbrev sides : Circuit → List ℕ
sides c = map (λ (g : Gate). g.lhs) c.gates

-- what is defined behind the inputs, and behind the latches
abbrev behind_inputs : Circuit → List ℕ
behind_inputs c = behind Inputs (map one_line c.inputs) []

abbrev behind_latches : Circuit → List ℕ
behind_latches c = behind Latches (map latch_line c.latches) (behind_inputs c)

latches_then : (c : Circuit) → behind_latches c ≡ pushed (currents c) (pushed c.inputs [])
latches_then c = ap (behind Latches (map latch_line c.latches)) (inputs_behind c.inputs []) ∙ latches_behind 0 c.latches (pushed c.inputs [])

gates_then : (c : Circuit) → behind Outputs (map one_line c.outputs) (behind_latches c) ≡ pushed (currents c) (pushed c.inputs [])
gates_then c = outputs_behind (map one_line c.outputs) (behind_latches c) ∙ latches_then c

-- the same of what the lines stand for
record Each (m : ℕ) (c : Circuit) : Type 0 where
  new : New m [] (defined_in c)
  nexts : EachAt (λ _ (q : Latch). IsLiteral m q.next) 0 c.latches
  named : EachAt (λ _. IsLiteral m) 0 c.outputs
  lower : EachAt (λ _. Lower) 0 c.gates

each_blocks : (m : ℕ) (c : Circuit) → Each m c → Blocks m (map one_line c.inputs) (map latch_line c.latches) (map one_line c.outputs) (map gate_line c.gates)
each_blocks m c e =
    let u = new_parts m [] c.inputs (currents c ++ sides c) e.new in
    let v = new_parts m (pushed c.inputs []) (currents c) (sides c) u.1 in
    record {
      inputs = inputs_block m c.inputs [] u.0;
      latches = latches_block m c.latches (behind_inputs c) 0 (subst (λ d. New m d (currents c)) (sym (inputs_behind c.inputs [])) v.0) e.nexts;
      outputs = outputs_block m c.outputs (behind_latches c) 0 e.named;
      gates = gates_block m c.gates (behind Outputs (map one_line c.outputs) (behind_latches c)) 0 (subst (λ d. New m d (sides c)) (sym (gates_then c)) v.1) e.lower;
    }

blocks_each : (m : ℕ) (c : Circuit) → Blocks m (map one_line c.inputs) (map latch_line c.latches) (map one_line c.outputs) (map gate_line c.gates) → Each m c
blocks_each m c b =
    let a = inputs_new m c.inputs [] b.inputs in
    let q = latches_new m c.latches (pushed c.inputs []) 0 (subst (λ d. Block m Latches d (map latch_line c.latches)) (inputs_behind c.inputs []) b.latches) in
    let g = gates_new m c.gates (pushed (currents c) (pushed c.inputs [])) 0 (subst (λ d. Block m Gates d (map gate_line c.gates)) (gates_then c) b.gates) in
    record {
      new = new_append m [] c.inputs (currents c ++ sides c) a (new_append m (pushed c.inputs []) (currents c) (sides c) q.0 g.0);
      nexts = q.1;
      named = outputs_each m c.outputs (behind_latches c) 0 b.outputs;
      lower = g.1;
    }

-- and of the circuit
nothing_defined : (l : ℕ) → is_defined [] l ≡ false
unfolding is_defined
nothing_defined l = refl

formed_each : (c : Circuit) → WellFormed c → Each (maximum c) c
formed_each c w =
    record {
      new = new_all (maximum c) [] (defined_in c) w.variables w.once (λ i h. nothing_defined (get_or (defined_in c) i 0));
      nexts = all_ok (λ _ (q : Latch). IsLiteral (maximum c) q.next) (record { current = 0; next = 0 }) c.latches 0 w.nexts;
      named = all_ok (λ _. IsLiteral (maximum c)) 0 c.outputs 0 w.named;
      lower = all_ok (λ _. Lower) (record { lhs = 0; rhs0 = 0; rhs1 = 0 }) c.gates 0 w.lower;
    }

each_formed : (c : Circuit) → Each (maximum c) c → WellFormed c
each_formed c e =
    record {
      variables = λ i h. (new_at (maximum c) [] (defined_in c) e.new i h).0;
      once = new_once (maximum c) [] (defined_in c) e.new;
      nexts = ok_at (λ _ (q : Latch). IsLiteral (maximum c) q.next) (record { current = 0; next = 0 }) c.latches 0 e.nexts;
      named = ok_at (λ _. IsLiteral (maximum c)) 0 c.outputs 0 e.named;
      lower = ok_at (λ _. Lower) (record { lhs = 0; rhs0 = 0; rhs1 = 0 }) c.gates 0 e.lower;
    }

module _ (c : Circuit) (h : Header) (i : length c.inputs ≡ h.inputs) (l : length c.latches ≡ h.latches) (o : length c.outputs ≡ h.outputs) where
  -- A WELL-FORMED CIRCUIT'S LINES ARE POSSIBLE
  pub formed_possible : WellFormed c → Possible (maximum c) (section_of h) 0 [] (lines_of c)
  formed_possible w =
      from_blocks (maximum c) h (map one_line c.inputs) (map latch_line c.latches) (map one_line c.outputs) (map gate_line c.gates)
      (length-map c.inputs one_line ∙ i) (length-map c.latches latch_line ∙ l) (length-map c.outputs one_line ∙ o) (each_blocks (maximum c) c (formed_each c w))

  -- AND WHERE THEY ARE POSSIBLE IT IS WELL FORMED
  pub possible_formed : Possible (maximum c) (section_of h) 0 [] (lines_of c) → WellFormed c
  possible_formed p =
      each_formed c (blocks_each (maximum c) c
      (to_blocks (maximum c) h (map one_line c.inputs) (map latch_line c.latches) (map one_line c.outputs) (map gate_line c.gates)
      (length-map c.inputs one_line ∙ i) (length-map c.latches latch_line ∙ l) (length-map c.outputs one_line ∙ o) p))
