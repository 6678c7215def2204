-- The list of gates, three a row: which gate stands where. Assumes nothing.
use Prim.Native.Nat.{ℕ, zero, suc, ◌+◌, ◌*◌, ◌<◌}
use mathlib.Core.Path.{◌≡◌, refl, ap₂}
use mathlib.Core.List.{List, ◌∷◌, map}
use native.Mathlib.Nat.{add-zero}
use native.Mathlib.Omega.{arith}
use lib.ListN.{length, get_or}
use Rattle.tables.specs.Place.{tabulate_from}
use Rattle.tables.specs.declared.row.NormalForm.{NormalForm}
use Rattle.circuit.specs.Circuit.{Gate}
use Rattle.monitor_circuit.specs.Monitors.{latch_count, gate_of, gates_from}

module _ (g : NormalForm) where
  -- the gates of row k
  abbrev pub first_gate : ℕ → Gate
  first_gate k = gate_of g 1 (λ w. w.first) k

  abbrev pub second_gate : ℕ → Gate
  second_gate k = gate_of g 2 (λ w. w.second) k

  abbrev pub third_gate : ℕ → Gate
  third_gate k = gate_of g 3 (λ w. w.third) k

  abbrev none : Gate
  none = record { lhs = 0; rhs0 = 0; rhs1 = 0 }

  pub gates_count : (n k : ℕ) → length (gates_from g n k) ≡ 3 * n
  unfolding gates_from
  gates_count zero k = refl
  gates_count (suc n) k = let h = gates_count n (suc k) in omega arith

  -- where the gates of a row stand
  pub record RowAt (gates : List Gate) (i k : ℕ) : Type 0 where
    pub first_at : get_or gates (3 * i) none ≡ first_gate k
    pub second_at : get_or gates (3 * i + 1) none ≡ second_gate k
    pub third_at : get_or gates (3 * i + 2) none ≡ third_gate k

  row_from_lem : (n k i : ℕ) → i < n → RowAt (gates_from g n k) i (k + i)
  unfolding gates_from
  row_from_lem zero k i h = absurd (omega arith)
  row_from_lem (suc n) k zero h = rw add-zero (record { first_at = refl; second_at = refl; third_at = refl })
  row_from_lem (suc n) k (suc i) h =
      let r = row_from_lem n (suc k) i (omega arith) in
      let e : k + suc i ≡ suc k + i = omega arith in
      let a : 3 * suc i ≡ suc (suc (suc (3 * i))) = omega arith in
      let b : 3 * suc i + 1 ≡ suc (suc (suc (3 * i + 1))) = omega arith in
      let c : 3 * suc i + 2 ≡ suc (suc (suc (3 * i + 2))) = omega arith in
      record { first_at = rw (a, e) r.first_at; second_at = rw (b, e) r.second_at; third_at = rw (c, e) r.third_at }

  -- what holds of the gates of each row holds of all
  each_from : (P : Gate → Type 0) (n k : ℕ) → ((i : ℕ) → i < n → P (first_gate (k + i)) × P (second_gate (k + i)) × P (third_gate (k + i)))
      → (i : ℕ) → i < length (gates_from g n k) → P (get_or (gates_from g n k) i none)
  unfolding gates_from
  each_from P zero k each i h = absurd (omega arith)
  each_from P (suc n) k each zero h = rw add-zero at (each 0 (omega arith)).0
  each_from P (suc n) k each (suc zero) h = rw add-zero at (each 0 (omega arith)).1
  each_from P (suc n) k each (suc (suc zero)) h = rw add-zero at (each 0 (omega arith)).2
  each_from P (suc n) k each (suc (suc (suc i))) h =
      each_from P n (suc k) (λ j l. let e : suc k + j ≡ k + suc j = omega arith in rw e (each (suc j) (omega arith))) i (omega arith)

  -- and so in the circuit
  pub row_at_lem : (i : ℕ) → i < g.rows → RowAt (gates_from g g.rows 1) i (suc i)
  row_at_lem i h = let e : 1 + i ≡ suc i = omega arith in rw e at (row_from_lem g.rows 1 i h)

  pub gates_each : (P : Gate → Type 0) → ((i : ℕ) → i < g.rows → P (first_gate (suc i)) × P (second_gate (suc i)) × P (third_gate (suc i)))
      → (i : ℕ) → i < length (gates_from g g.rows 1) → P (get_or (gates_from g g.rows 1) i none)
  gates_each P each = each_from P g.rows 1 (λ i h. let e : 1 + i ≡ suc i = omega arith in rw e (each i h))

  -- THE LEFT SIDES GO ON BY TWO, from row i + 1 on
  pub lefts_from : (n i : ℕ) → map (λ (x : Gate). x.lhs) (gates_from g n (suc i)) ≡ tabulate_from (3 * n) (3 * i) (λ j. 2 * (g.signals + g.rows + latch_count g + suc j))
  unfolding gates_from tabulate_from
  lefts_from zero i = refl
  lefts_from (suc n) i =
      let h = lefts_from n (suc i) in
      let e : 3 * suc n ≡ suc (suc (suc (3 * n))) = omega arith in
      let s : 3 * suc i ≡ suc (suc (suc (3 * i))) = omega arith in
      rw (e, ← s) (ap₂ ◌∷◌ (omega arith) (ap₂ ◌∷◌ (omega arith) (ap₂ ◌∷◌ (omega arith) h)))
