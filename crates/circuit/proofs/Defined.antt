-- Each variable of a well-formed circuit is defined, at one place. Assumes nothing.
use Prim.Native.Nat.{ℕ, ◌+◌, ◌*◌, ◌-◌, ◌≤◌, ◌<◌}
use mathlib.Core.Path.{◌≡◌, sym, ap, ◌∙◌}
use mathlib.Core.HLevel.{Σ_prop_path, ×_prop}
use mathlib.Core.List.{List, ◌++◌, map}
use native.Mathlib.Bridge.{le_prop}
use native.Mathlib.Nat.{ℕ_set}
use native.Mathlib.Decide.{dec_lt}
use native.Mathlib.Omega.{arith}
use lib.ListN.{length, get_or, length-append, length-map, get_or-append, get_or-map}
use lib.Seq.{get_or-append-add}
use Rattle.circuit.specs.Circuit.{Latch, Gate, Circuit, input_at, latch_at, gate_at, maximum, defined_in, WellFormed}
use Rattle.circuit.proofs.Counting.{each_held}

-- what defines variable x, by its place
pub data Definition (c : Circuit) (x : ℕ) : Type 0 where
  input : (i : ℕ) → i < length c.inputs → input_at c i ≡ 2 * x → Definition c x
  latch : (i : ℕ) → i < length c.latches → (latch_at c i).current ≡ 2 * x → Definition c x
  gate : (i : ℕ) → i < length c.gates → (gate_at c i).lhs ≡ 2 * x → Definition c x

module _ (c : Circuit) where
  abbrev currents : List ℕ
  currents = map (λ (q : Latch). q.current) c.latches

  abbrev lefts : List ℕ
  lefts = map (λ (g : Gate). g.lhs) c.gates

  abbrev latches_from : ℕ
  latches_from = length c.inputs

  abbrev gates_from_lem : ℕ
  gates_from_lem = length c.inputs + length c.latches

  currents_size : length currents ≡ length c.latches
  currents_size = length-map c.latches (λ q. q.current)

  lefts_size : length lefts ≡ length c.gates
  lefts_size = length-map c.gates (λ g. g.lhs)

  pub defined_size : length (defined_in c) ≡ maximum c
  defined_size = length-append c.inputs (currents ++ lefts) ∙ (ap (λ n. length c.inputs + n) (length-append currents lefts) ∙ omega (arith, currents_size, lefts_size))

  -- the literals in the order of the file: the inputs, the latches, the gates
  module _ (i : ℕ) where
    pub defined_input : i < length c.inputs → get_or (defined_in c) i 0 ≡ input_at c i
    defined_input h = get_or-append c.inputs (currents ++ lefts) 0 i h

    pub defined_latch : i < length c.latches → get_or (defined_in c) (latches_from + i) 0 ≡ (latch_at c i).current
    defined_latch h =
        get_or-append-add c.inputs (currents ++ lefts) i 0
        ∙ (get_or-append currents lefts 0 i (omega (arith, currents_size)) ∙ get_or-map (λ q. q.current) c.latches i (record { current = 0; next = 0 }))

    pub defined_gate : i < length c.gates → get_or (defined_in c) (gates_from_lem + i) 0 ≡ (gate_at c i).lhs
    defined_gate h =
        let e : gates_from_lem + i ≡ length c.inputs + (length currents + i) = omega (arith, currents_size) in
        ap (λ n. get_or (defined_in c) n 0) e
        ∙ (get_or-append-add c.inputs (currents ++ lefts) (length currents + i) 0
        ∙ (get_or-append-add currents lefts i 0 ∙ get_or-map (λ g. g.lhs) c.gates i (record { lhs = 0; rhs0 = 0; rhs1 = 0 })))

  module _ (x : ℕ) where
    -- the definition at a place of that order
    definition_at : (i : ℕ) → i < length (defined_in c) → get_or (defined_in c) i 0 ≡ 2 * x → Definition c x
    definition_at i h e = by (dec_lt i latches_from) (dec_lt i gates_from_lem)
      where
        by : Dec (i < latches_from) → Dec (i < gates_from_lem) → Definition c x
        by (yes a) b = Definition.input i a (sym (defined_input i a) ∙ e)
        by (no a) (yes b) =
            let k : i - latches_from < length c.latches = omega arith in
            let s : latches_from + (i - latches_from) ≡ i = omega arith in
            Definition.latch (i - latches_from) k (sym (defined_latch (i - latches_from) k) ∙ (ap (λ n. get_or (defined_in c) n 0) s ∙ e))
        by (no a) (no b) =
            let k : i - gates_from_lem < length c.gates = omega (arith, defined_size) in
            let s : gates_from_lem + (i - gates_from_lem) ≡ i = omega arith in
            Definition.gate (i - gates_from_lem) k (sym (defined_gate (i - gates_from_lem) k) ∙ (ap (λ n. get_or (defined_in c) n 0) s ∙ e))

    -- and back
    place : Definition c x → ℕ
    place (Definition.input i h e) = i
    place (Definition.latch i h e) = latches_from + i
    place (Definition.gate i h e) = gates_from_lem + i

    place_below : (d : Definition c x) → place d < length (defined_in c)
    unfolding place
    place_below (Definition.input i h e) = omega (arith, defined_size)
    place_below (Definition.latch i h e) = omega (arith, defined_size)
    place_below (Definition.gate i h e) = omega (arith, defined_size)

    place_holds : (d : Definition c x) → get_or (defined_in c) (place d) 0 ≡ 2 * x
    unfolding place
    place_holds (Definition.input i h e) = defined_input i h ∙ e
    place_holds (Definition.latch i h e) = defined_latch i h ∙ e
    place_holds (Definition.gate i h e) = defined_gate i h ∙ e

    -- two definitions with one place are the same
    abbrev Found : ℕ → (ℕ → ℕ) → Type 0
    Found n at = (i : ℕ) × ((i < n) × (at i ≡ 2 * x))

    found_path : (n : ℕ) (at : ℕ → ℕ) (u v : Found n at) → u.0 ≡ v.0 → u ≡ v
    found_path n at u v = Σ_prop_path (λ i. ×_prop le_prop (ℕ_set _ _)) {u = u} {v = v}

    place_path : (d e : Definition c x) → place d ≡ place e → d ≡ e
    unfolding place
    place_path (Definition.input i h p) (Definition.input j k q) e =
        ap {A = Found (length c.inputs) (input_at c)} (λ w. Definition.input w.0 w.1.0 w.1.1) (found_path _ _ (i, (h, p)) (j, (k, q)) e)
    place_path (Definition.input i h p) (Definition.latch j k q) e = absurd (omega arith)
    place_path (Definition.input i h p) (Definition.gate j k q) e = absurd (omega arith)
    place_path (Definition.latch i h p) (Definition.input j k q) e = absurd (omega arith)
    place_path (Definition.latch i h p) (Definition.latch j k q) e =
        ap {A = Found (length c.latches) (λ n. (latch_at c n).current)} (λ w. Definition.latch w.0 w.1.0 w.1.1) (found_path _ _ (i, (h, p)) (j, (k, q)) (omega arith))
    place_path (Definition.latch i h p) (Definition.gate j k q) e = absurd (omega arith)
    place_path (Definition.gate i h p) (Definition.input j k q) e = absurd (omega arith)
    place_path (Definition.gate i h p) (Definition.latch j k q) e = absurd (omega arith)
    place_path (Definition.gate i h p) (Definition.gate j k q) e =
        ap {A = Found (length c.gates) (λ n. (gate_at c n).lhs)} (λ w. Definition.gate w.0 w.1.0 w.1.1) (found_path _ _ (i, (h, p)) (j, (k, q)) (omega arith))

-- EACH VARIABLE IS DEFINED
pub each_defined : (c : Circuit) → WellFormed c → (x : ℕ) → 1 ≤ x → x ≤ maximum c → Definition c x
each_defined c formed x least most =
    let w = each_held (defined_in c) (maximum c) (defined_size c) formed.variables formed.once x least most in
    definition_at c x w.0 w.1 w.2

-- ONCE
pub defined_once : (c : Circuit) → WellFormed c → (x : ℕ) (d e : Definition c x) → d ≡ e
defined_once c formed x d e = place_path c x d e (by (dec_lt (place c x d) (place c x e)) (dec_lt (place c x e) (place c x d)))
  where
    by : Dec (place c x d < place c x e) → Dec (place c x e < place c x d) → place c x d ≡ place c x e
    by (yes l) m = absurd (formed.once (place c x d) (place c x e) l (place_below c x e) (place_holds c x d ∙ sym (place_holds c x e)))
    by (no l) (yes m) = absurd (formed.once (place c x e) (place c x d) m (place_below c x d) (place_holds c x e ∙ sym (place_holds c x d)))
    by (no l) (no m) = omega arith

-- and nothing else is
pub defined_variable : (c : Circuit) → WellFormed c → (x : ℕ) → Definition c x → (1 ≤ x) × (x ≤ maximum c)
defined_variable c formed x d = let v = formed.variables (place c x d) (place_below c x d) in let e = place_holds c x d in (omega (arith, v.even, v.least, e), omega (arith, v.even, v.most, e))
