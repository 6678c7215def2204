-- The sections as blocks of lines, one block for each row (for each literal in the inputs). Assumes nothing.
use Prim.Native.Nat.{ℕ, zero, suc, ◌+◌, ◌*◌, ◌<◌, ◌≤◌}
use mathlib.Core.Path.{◌≡◌, refl, sym, ap, ap₂, ◌∙◌}
use mathlib.Core.List.{List, [], ◌∷◌, ◌++◌, map, map-append}
use native.Mathlib.Numerals.{add-one}
use native.Mathlib.Omega.{arith}
use lib.ListN.{get_or, take}
use Rattle.std.proofs.lemmas.List.{get_or-take}
use Rattle.tables.specs.Place.{tabulate}
use Rattle.tables.proofs.Places.{map_tabulate}
use Rattle.tables.specs.declared.row.ConstantKind.TheVariants.{True}
use Rattle.tables.specs.declared.row.Row.TheVariants.{Constant}
use Rattle.tables.specs.declared.row.RowPlace.{RowPlace}
use Rattle.tables.specs.declared.row.NormalForm.{NormalForm}
use Rattle.circuit.specs.Circuit.{Latch, Gate}
use Rattle.writing.specs.Lent.{Wrote}
use Rattle.writing.proofs.Texts.{wrote_is}
use Rattle.circuit_file.specs.Written.{written_lines}
use Rattle.monitor_circuit.specs.Wiring.{Operands, Wiring as MeantWiring}
use Rattle.monitor_circuit.specs.Monitors.{gates_from, latches_of, wiring_of}
use Rattle.monitor_circuit.proofs.GateRows.{first_gate, second_gate, third_gate}
use Rattle.monitor_circuit.proofs.WellFormed.{inputs_are}
use Rattle.row_wiring.specs.declared.Own.{Own}
use Rattle.row_wiring.specs.declared.Wiring.{Wiring}
use Rattle.row_wiring.specs.Own.{own_of, wiring_as, wiring_at}
use Rattle.circuit_writer.specs.Section.{gate_lines, input_lines, latch_lines, output_lines, said_lines}
use Rattle.line_writer.proofs.Lines.{Blocks, PutTo, blocks_to, more_lines, put_more, single_blocks}

abbrev pub input_block : Blocks
input_block i = (2 * suc i ∷ []) ∷ []

abbrev pub latch_line : Latch → List ℕ
latch_line q = q.current ∷ q.next ∷ []

abbrev pub gate_line : Gate → List ℕ
gate_line e = e.lhs ∷ e.rhs0 ∷ e.rhs1 ∷ []

module _ (g : NormalForm) where
  abbrev pub latch_block : Blocks
  latch_block i = latch_line ((latches_of g).pending (suc i)) ∷ []

  abbrev pub said_block : (MeantWiring → ℕ) → Blocks
  said_block said i = (said (wiring_of g (suc i)) ∷ []) ∷ []

  abbrev pub gate_block : Blocks
  gate_block i = gate_line (first_gate g (suc i)) ∷ gate_line (second_gate g (suc i)) ∷ gate_line (third_gate g (suc i)) ∷ []

  -- ---- all of them are the section

  pub input_blocks : blocks_to input_block (g.signals + g.rows) ≡ input_lines g
  input_blocks =
      let n = g.signals + g.rows in
      single_blocks (λ i. 2 * suc i ∷ []) n ∙ sym (ap (map (λ l. l ∷ [])) (inputs_are g) ∙ map_tabulate (λ l. l ∷ []) n (λ i. 2 * suc i))

  pub latch_blocks : blocks_to latch_block g.rows ≡ latch_lines g
  latch_blocks =
      single_blocks (λ i. latch_line ((latches_of g).pending (suc i))) g.rows
      ∙ sym (map_tabulate latch_line g.rows (λ i. (latches_of g).pending (suc i)))

  pub said_blocks : (said : MeantWiring → ℕ) → blocks_to (said_block said) g.rows ≡ said_lines said g
  said_blocks said =
      single_blocks (λ i. said (wiring_of g (suc i)) ∷ []) g.rows
      ∙ sym (map_tabulate (λ l. l ∷ []) g.rows (λ i. said (wiring_of g (suc i))))

  -- the gates of the last row stand last
  gates_last : (n k : ℕ) → gates_from g n k ++ (first_gate g (k + n) ∷ second_gate g (k + n) ∷ third_gate g (k + n) ∷ []) ≡ gates_from g (suc n) k
  unfolding gates_from
  gates_last zero k = let e : k + 0 ≡ k = omega arith in rw e
  gates_last (suc n) k =
      let e : k + suc n ≡ suc k + n = omega arith in
      rw e (ap (λ l. first_gate g k ∷ second_gate g k ∷ third_gate g k ∷ l) (gates_last n (suc k)))

  gates_to : (n : ℕ) → blocks_to gate_block n ≡ map gate_line (gates_from g n 1)
  unfolding blocks_to gates_from
  gates_to zero = refl
  gates_to (suc n) =
      let e : 1 + n ≡ suc n = omega arith in
      let l : gates_from g n 1 ++ (first_gate g (suc n) ∷ second_gate g (suc n) ∷ third_gate g (suc n) ∷ []) ≡ gates_from g (suc n) 1
      = rw e at (gates_last n 1) in
      ap (λ t. t ++ gate_block n) (gates_to n)
      ∙ (sym (map-append gate_line (gates_from g n 1) (first_gate g (suc n) ∷ second_gate g (suc n) ∷ third_gate g (suc n) ∷ [])) ∙ ap (map gate_line) l)

  pub gate_blocks : blocks_to gate_block g.rows ≡ gate_lines g
  gate_blocks = gates_to g.rows

  pub outputs_parted : said_lines (λ w. w.failed) g ++ (said_lines (λ w. w.accept) g ++ said_lines (λ w. w.pending) g) ≡ output_lines g
  outputs_parted =
      let by : (MeantWiring → ℕ) → List ℕ = λ said. tabulate g.rows (λ i. said (wiring_of g (suc i))) in
      ap (λ t. said_lines (λ w. w.failed) g ++ t) (sym (map-append (λ l. l ∷ []) (by (λ w. w.accept)) (by (λ w. w.pending))))
      ∙ sym (map-append (λ l. l ∷ []) (by (λ w. w.failed)) (by (λ w. w.accept) ++ by (λ w. w.pending)))

  -- ---- one row more

  -- the wiring as the loops have it, which go over the used places
  abbrev pub read_wiring : ℕ → MeantWiring
  read_wiring k = wiring_at (get_or (take g.rows g.places) k (record { row = Constant True })).row g.signals (own_of g.signals g.rows (k + 1))

  pub read_is : (k : ℕ) → k < g.rows → read_wiring k ≡ wiring_of g (suc k)
  read_is k h =
      let e = get_or-take g.rows g.places k (record { row = Constant True }) h in
      ap₂ (λ (place : RowPlace) n. wiring_at place.row g.signals (own_of g.signals g.rows n)) e (add-one k)

  module _ (k : ℕ) (h : k < g.rows) {own : Own} {wiring : Wiring} (eo : own ≡ own_of g.signals g.rows (k + 1)) (ew : wiring_as wiring ≡ read_wiring k) where
    of_row_lem : {A : Type 0} (x : MeantWiring → A) → x (wiring_as wiring) ≡ x (wiring_of g (suc k))
    of_row_lem x = ap x (ew ∙ read_is k h)

    of_own : (x : Own → ℕ) → x own ≡ x (own_of g.signals g.rows (suc k))
    of_own x = ap x (eo ∙ ap (own_of g.signals g.rows) (add-one k))

    pub latch_more : {before now next : List ℕ} {at e f : ℕ} → PutTo latch_block 12 before at k now e → Wrote now e (written_lines ((own.latch ∷ wiring.pending ∷ []) ∷ [])) next f → f ≤ e + 12
        → PutTo latch_block 12 before at (k + 1) next f
    latch_more p w h =
        put_more p (wrote_is (ap₂ (λ x y. written_lines ((x ∷ y ∷ []) ∷ [])) (of_own (λ o. o.latch)) (of_row_lem (λ r. r.pending))) w) h

    gate_is : {before now : List ℕ} {at e : ℕ} (x : Own → ℕ) (y : MeantWiring → Operands)
        → Wrote before at (written_lines ((x own ∷ (y (wiring_as wiring)).rhs0 ∷ (y (wiring_as wiring)).rhs1 ∷ []) ∷ [])) now e
        → Wrote before at (written_lines ((x (own_of g.signals g.rows (suc k)) ∷ (y (wiring_of g (suc k))).rhs0 ∷ (y (wiring_of g (suc k))).rhs1 ∷ []) ∷ [])) now e
    gate_is x y w = wrote_is (ap₂ (λ l (o : Operands). written_lines ((l ∷ o.rhs0 ∷ o.rhs1 ∷ []) ∷ [])) (of_own x) (of_row_lem y)) w

    pub gate_more : {before now one two next : List ℕ} {at e a b f : ℕ} → PutTo gate_block 54 before at k now e
        → Wrote now e (written_lines ((own.first ∷ wiring.first.rhs0 ∷ wiring.first.rhs1 ∷ []) ∷ [])) one a → a ≤ e + 18
        → Wrote one a (written_lines ((own.second ∷ wiring.second.rhs0 ∷ wiring.second.rhs1 ∷ []) ∷ [])) two b → b ≤ a + 18
        → Wrote two b (written_lines ((own.third ∷ wiring.third.rhs0 ∷ wiring.third.rhs1 ∷ []) ∷ [])) next f → f ≤ b + 18
        → PutTo gate_block 54 before at (k + 1) next f
    gate_more p w h w' h' w'' h'' =
        put_more p
        (more_lines (gate_line (first_gate g (suc k)) ∷ []) (gate_line (second_gate g (suc k)) ∷ gate_line (third_gate g (suc k)) ∷ []) (gate_is (λ o. o.first) (λ r. r.first) w)
        (more_lines (gate_line (second_gate g (suc k)) ∷ []) (gate_line (third_gate g (suc k)) ∷ []) (gate_is (λ o. o.second) (λ r. r.second) w') (gate_is (λ o. o.third) (λ r. r.third) w'')))
        (omega arith)

  pub said_more : {before now next : List ℕ} {at k e f : ℕ} (said : MeantWiring → ℕ) {wiring : Wiring} {l : ℕ} → k < g.rows → wiring_as wiring ≡ read_wiring k → l ≡ said (wiring_as wiring)
      → PutTo (said_block said) 6 before at k now e → Wrote now e (written_lines ((l ∷ []) ∷ [])) next f → f ≤ e + 6 → PutTo (said_block said) 6 before at (k + 1) next f
  said_more {k = k} said less ew el p w h = put_more p (wrote_is (ap (λ x. written_lines ((x ∷ []) ∷ [])) (el ∙ ap said (ew ∙ read_is k less))) w) h

pub input_more : {before now next : List ℕ} {at i e f : ℕ} → PutTo input_block 6 before at i now e → Wrote now e (written_lines ((2 * (i + 1) ∷ []) ∷ [])) next f → f ≤ e + 6
    → PutTo input_block 6 before at (i + 1) next f
input_more {i = i} p w h = put_more p (wrote_is (ap (λ j. written_lines ((2 * j ∷ []) ∷ [])) (add-one i)) w) h
