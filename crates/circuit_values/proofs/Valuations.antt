-- The values of a cycle, from the table of a circuit's file. Assumes nothing.
use Prim.Native.Nat.{ℕ, zero, suc, ◌+◌, ◌*◌, ◌≤◌, ◌<◌}
use mathlib.Core.Path.{◌≡◌, refl, sym, ap, ap₂, subst, ◌∙◌}
use mathlib.Core.Bool.{Bool, false, ◌&&◌}
use mathlib.Core.List.{List}
use mathlib.Core.Logic.{◌⊎◌, inl, inr, ⊎_elim}
use native.Mathlib.Decide.{ℕ_discrete}
use native.Mathlib.Omega.{arith}
use lib.ListN.{length, get_or}
use Rattle.tables.proofs.Places.{length_tabulate, get_d_tabulate}
use Rattle.circuit.specs.Circuit.{Circuit, Latch, Gate, IsVariable, input_at, latch_at, gate_at, maximum, defined_in}
use Rattle.circuit.specs.Valuation.{IsValuation}
use Rattle.circuit.proofs.Defined.{defined_size, defined_input, defined_latch, defined_gate}
use Rattle.circuit_line.specs.declared.section.Header.{Header}
use Rattle.circuit_file.specs.File.{circuit_in, number_at}
use Rattle.text.specs.Digits.{value_at}
use Rattle.circuit_file.specs.OfFile.{OfFile, table_with}
use Rattle.circuit_values.specs.Values.{Distinct, Evaluated, GatePlaces, Scattered, Spread, literal_at, value_of, variable_at}
use Rattle.circuit_values.proofs.Sections.{Stands, sections_apart, section_variable, section_distinct}
use Rattle.circuit_values.proofs.Gates.{value_even, value_odd}

-- whether one of the first n is x
found : (n : ℕ) (f : ℕ → ℕ) (x : ℕ) → ((i : ℕ) × (i < n) × (f i ≡ x)) ⊎ ((i : ℕ) → i < n → ¬ (f i ≡ x))
found zero f x = inr (λ i h e. omega arith)
found (suc n) f x = by (ℕ_discrete (f n) x) (found n f x)
  where
    by : Dec (f n ≡ x) → ((i : ℕ) × (i < n) × (f i ≡ x)) ⊎ ((i : ℕ) → i < n → ¬ (f i ≡ x))
        → ((i : ℕ) × (i < suc n) × (f i ≡ x)) ⊎ ((i : ℕ) → i < suc n → ¬ (f i ≡ x))
    by (yes e) w = inl (n, omega arith, e)
    by (no e) (inl w) = inl (w.0, (let z = w.1 in omega arith), w.2)
    by (no e) (inr w) = inr (λ i h q. last i h q (ℕ_discrete i n))
      where
        last : (i : ℕ) → i < suc n → f i ≡ x → Dec (i ≡ n) → ⊥
        last i h q (yes p) = e (ap f (sym p) ∙ q)
        last i h q (no p) = w i (omega arith) q

module _ {h : Header} {numbers : List ℕ} (ok : OfFile (table_with h numbers)) where
  abbrev c : Circuit
  c = circuit_in (table_with h numbers)

  abbrev defined : ℕ → ℕ
  defined k = get_or (defined_in c) k 0

  abbrev gates_from_lem : ℕ
  gates_from_lem = h.inputs + 2 * h.latches + h.outputs

  inputs_size : length c.inputs ≡ h.inputs
  inputs_size = length_tabulate h.inputs 0 _

  latches_size : length c.latches ≡ h.latches
  latches_size = length_tabulate h.latches 0 _

  gates_size : length c.gates ≡ h.gates
  gates_size = length_tabulate h.gates 0 _

  most_is : maximum c ≡ h.maximum
  most_is = let a = inputs_size in let b = latches_size in let d = gates_size in let s = ok.sums_up_lem in omega arith

  own : (k : ℕ) → k < h.maximum → IsVariable h.maximum (defined k)
  own k l = subst (λ n. IsVariable n (defined k)) most_is (ok.formed.variables k (let a = defined_size c in let b = most_is in omega arith))

  once : (j k : ℕ) → j < k → k < h.maximum → ¬ (defined j ≡ defined k)
  once j k l b = ok.formed.once j k l (let a = defined_size c in let e = most_is in omega arith)

  -- the literals of the circuit are the table's numbers
  module _ (i : ℕ) where
    input_is : i < h.inputs → input_at c i ≡ literal_at numbers 0 1 i
    input_is l = get_d_tabulate h.inputs (number_at (table_with h numbers)) i 0 l ∙ ap (λ n. get_or numbers n 0) (let e : i ≡ 0 + 1 * i = omega arith in e)

    latch_is : i < h.latches → (latch_at c i).current ≡ literal_at numbers h.inputs 2 i
    latch_is l = ap (λ (q : Latch). q.current) (get_d_tabulate h.latches _ i _ l)

    gate_is : i < h.gates → gate_at c i ≡ record { lhs = literal_at numbers gates_from_lem 3 i; rhs0 = get_or numbers (gates_from_lem + 3 * i + 1) 0; rhs1 = get_or numbers (gates_from_lem + 3 * i + 2) 0 }
    gate_is l = get_d_tabulate h.gates _ i _ l

  inputs_stand : (n : ℕ) → n ≡ h.inputs → Stands h.maximum defined numbers 0 1 n 0
  inputs_stand n e = record {
    inside = let s = ok.sums_up_lem in omega arith;
    same = λ i l.
        let k : i < h.inputs = omega arith in
        let z : i ≡ 0 + i = omega arith in
        sym (input_is i k) ∙ (sym (defined_input c i (let a = inputs_size in omega arith)) ∙ ap defined z);
  }

  latches_stand : (n : ℕ) → n ≡ h.latches → Stands h.maximum defined numbers h.inputs 2 n h.inputs
  latches_stand n e = record {
    inside = let s = ok.sums_up_lem in omega arith;
    same = λ i l.
        let k : i < h.latches = omega arith in
        let z : length c.inputs + i ≡ h.inputs + i = ap (λ x. x + i) inputs_size in
        sym (latch_is i k) ∙ (sym (defined_latch c i (let a = latches_size in omega arith)) ∙ ap defined z);
  }

  gates_stand : Stands h.maximum defined numbers gates_from_lem 3 h.gates (h.inputs + h.latches)
  gates_stand = record {
    inside = let s = ok.sums_up_lem in omega arith;
    same = λ i l.
        let z : length c.inputs + length c.latches + i ≡ h.inputs + h.latches + i = ap₂ (λ x y. x + y + i) inputs_size latches_size in
        sym (ap (λ (g : Gate). g.lhs) (gate_is i l)) ∙ (sym (defined_gate c i (let a = gates_size in omega arith)) ∙ ap defined z);
  }

  -- what the parts ask
  pub inputs_spread : {n : ℕ} → n ≡ h.inputs → Spread numbers 0 1 n
  inputs_spread e i l = let a = ok.few in let b = ok.size in omega arith

  pub latches_spread : {n : ℕ} → n ≡ h.latches → Spread numbers h.inputs 2 n
  latches_spread e i l = let a = ok.few in let b = ok.size in omega arith

  pub gates_spread : Spread numbers gates_from_lem 3 h.gates
  gates_spread i l = let a = ok.few in let b = ok.size in omega arith

  pub most_small : h.maximum ≤ 32768
  most_small = let a = ok.few in let s = ok.sums_up_lem in omega arith

  pub inputs_distinct : {n size : ℕ} → n ≡ h.inputs → h.maximum < size → Distinct n (variable_at numbers 0 1) size
  inputs_distinct {n} {size} e = section_distinct h.maximum defined own once (inputs_stand n e) size

  pub latches_distinct : {n size : ℕ} → n ≡ h.latches → h.maximum < size → Distinct n (variable_at numbers h.inputs 2) size
  latches_distinct {n} {size} e = section_distinct h.maximum defined own once (latches_stand n e) size

  pub gates_distinct : {size : ℕ} → h.maximum < size → Distinct h.gates (variable_at numbers gates_from_lem 3) size
  gates_distinct {size} = section_distinct h.maximum defined own once gates_stand size

  -- the places of the gates, in a table in which there was none
  module _ {before places : List ℕ} (zeros : (x : ℕ) → get_or before x 0 ≡ 0)
      (put : Scattered 0 h.gates (variable_at numbers gates_from_lem 3) (λ i. gates_from_lem + 3 * i + 1) before places) where
    no_place_lem : (x : ℕ) → ((i : ℕ) → i < h.gates → ¬ (variable_at numbers gates_from_lem 3 i ≡ x)) → get_or places x 0 ≡ 0
    no_place_lem x n = put.kept x n ∙ zeros x

    -- a place is 0 or that of a gate with this variable
    record Placed (x : ℕ) : Type 0 where
      gate : ℕ
      among : gate < h.gates
      its : variable_at numbers gates_from_lem 3 gate ≡ x
      place : get_or places x 0 ≡ gates_from_lem + 3 * gate + 1

    place_of : (x : ℕ) → (get_or places x 0 ≡ 0) ⊎ Placed x
    place_of x = ⊎_elim
        (λ w. inr (record { gate = w.0; among = w.1; its = w.2; place = ap (λ y. get_or places y 0) (sym w.2) ∙ put.put_there w.0 w.1 }))
        (λ w. inl (no_place_lem x w))
        (found h.gates (variable_at numbers gates_from_lem 3) x)

    -- operands are lower than twice the gate's variable
    rhs_lower : (i : ℕ) → i < h.gates
        → (get_or numbers (gates_from_lem + 3 * i + 1) 0 < 2 * variable_at numbers gates_from_lem 3 i) × (get_or numbers (gates_from_lem + 3 * i + 2) 0 < 2 * variable_at numbers gates_from_lem 3 i)
    rhs_lower i l =
        let w = ok.formed.lower i (let a = gates_size in omega arith) in
        let z = rw (gate_is i l) at w in
        let v = section_variable h.maximum defined own once gates_stand i l in
        (omega (arith, v.2, z.0), omega (arith, v.2, z.1))

    pub gates_ready : GatePlaces h.maximum places numbers
    gates_ready = record {
      inside = λ x l. ⊎_elim (λ e. let b = ok.size in omega arith) (λ p. let a = ok.few in let b = ok.size in let q = p.place in let r = p.among in omega arith) (place_of x);
      first_lower = λ x l n. ⊎_elim (λ e. absurd (n e)) (λ p. first x p) (place_of x);
      second_lower = λ x l n. ⊎_elim (λ e. absurd (n e)) (λ p. second x p) (place_of x);
    }
      where
        first : (x : ℕ) → Placed x → get_or numbers (get_or places x 0) 0 < 2 * x
        first x p = let w = rhs_lower p.gate p.among in let e = p.its in let z = ap (λ n. get_or numbers n 0) p.place in omega (arith, w.0)

        second : (x : ℕ) → Placed x → get_or numbers (get_or places x 0 + 1) 0 < 2 * x
        second x p =
            let w = rhs_lower p.gate p.among in
            let e = p.its in
            let s : get_or places x 0 + 1 ≡ gates_from_lem + 3 * p.gate + 2 = let q = p.place in omega arith in
            let z = ap (λ n. get_or numbers n 0) s in
            omega (arith, w.1)

    -- the values: first those that were given, then the gates'
    module _ (inputs latches : List ℕ) {start given both all : List Bool} (inputs_long : length inputs ≡ h.inputs) (latches-long : length latches ≡ h.latches)
        (off : get_or start 0 false ≡ false)
        (inputs-put : Scattered false (length inputs) (variable_at numbers 0 1) (value_at inputs) start given)
        (latches-put : Scattered false (length latches) (variable_at numbers h.inputs 2) (value_at latches) given both)
        (evaluated : Evaluated h.maximum places numbers both all) where
      ins : Stands h.maximum defined numbers 0 1 (length inputs) 0
      ins = inputs_stand (length inputs) inputs_long

      lats : Stands h.maximum defined numbers h.inputs 2 (length latches) h.inputs
      lats = latches_stand (length latches) latches-long

      constant_off : value_of all 0 ≡ false
      constant_off =
          value_even all 0 0 refl
          ∙ (evaluated.given 0 (no_place_lem 0 (λ i l q. let v = section_variable h.maximum defined own once gates_stand i l in omega (arith, v.0)))
          ∙ (latches-put.kept 0 (λ i l q. let v = section_variable h.maximum defined own once lats i l in omega (arith, v.0))
          ∙ (inputs-put.kept 0 (λ i l q. let v = section_variable h.maximum defined own once ins i l in omega (arith, v.0)) ∙ off)))

      input_value : (i : ℕ) → i < length c.inputs → value_of all (input_at c i) ≡ value_at inputs i
      input_value i l =
          let k : i < h.inputs = let a = inputs_size in omega arith in
          let n : i < length inputs = omega arith in
          let x : ℕ = variable_at numbers 0 1 i in
          let v = section_variable h.maximum defined own once ins i n in
          value_even all x (input_at c i) (input_is i k ∙ v.2)
          ∙ (evaluated.given x (no_place_lem x (λ j m. sections_apart h.maximum defined own once gates_stand ins j i m n (λ q. omega arith)))
          ∙ (latches-put.kept x (λ j m. sections_apart h.maximum defined own once lats ins j i m n (λ q. omega arith))
          ∙ inputs-put.put_there i n))

      latch_value : (i : ℕ) → i < length c.latches → value_of all (latch_at c i).current ≡ value_at latches i
      latch_value i l =
          let k : i < h.latches = let a = latches_size in omega arith in
          let n : i < length latches = omega arith in
          let x : ℕ = variable_at numbers h.inputs 2 i in
          let v = section_variable h.maximum defined own once lats i n in
          value_even all x (latch_at c i).current (latch_is i k ∙ v.2)
          ∙ (evaluated.given x (no_place_lem x (λ j m. sections_apart h.maximum defined own once gates_stand lats j i m n (λ q. omega arith)))
          ∙ latches-put.put_there i n)

      gate_value : (i : ℕ) → i < length c.gates → value_of all (gate_at c i).lhs ≡ value_of all (gate_at c i).rhs0 && value_of all (gate_at c i).rhs1
      gate_value i l =
          let k : i < h.gates = let a = gates_size in omega arith in
          let x : ℕ = variable_at numbers gates_from_lem 3 i in
          let v = section_variable h.maximum defined own once gates_stand i k in
          let p : get_or places x 0 ≡ gates_from_lem + 3 * i + 1 = put.put_there i k in
          let s : get_or places x 0 + 1 ≡ gates_from_lem + 3 * i + 2 = omega arith in
          let z = evaluated.ands x v.1 (λ q. omega arith) in
          rw (gate_is i k)
          (value_even all x (literal_at numbers gates_from_lem 3 i) v.2
          ∙ (z ∙ ap₂ (λ a b. value_of all (get_or numbers a 0) && value_of all (get_or numbers b 0)) p s))

      -- THE VALUES OF THE CYCLE
      pub is_valuation : IsValuation c (value_at inputs) (value_at latches) (value_of all)
      is_valuation = record {
        constant = constant_off;
        negated = value_odd all;
        inputs_given = input_value;
        latches_given = latch_value;
        gates_and = gate_value;
      }
