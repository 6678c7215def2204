-- The monitors' circuit is well formed; its sizes. Assumes nothing.
use Prim.Native.Nat.{ℕ, suc, ◌+◌, ◌*◌, ◌-◌, ◌<◌}
use mathlib.Core.Path.{◌≡◌, refl, sym, ap, subst, ◌∙◌}
use mathlib.Core.List.{List, ◌++◌, map}
use native.Mathlib.Decide.{dec_lt}
use native.Mathlib.Omega.{arith}
use lib.ListN.{length, get_or, length-append, get_or-append}
use lib.Seq.{get_or-append-add, ext_get_or}
use Rattle.tables.specs.Place.{tabulate}
use Rattle.tables.proofs.Places.{length_tabulate, get_d_tabulate}
use Rattle.tables.specs.declared.row.NormalForm.{NormalForm}
use Rattle.meaning.specs.Satisfaction.{table_of}
use Rattle.meaning.proofs.Rows.{each_map, each_signal_map}
use Rattle.normal_form.specs.Form.{InNormalForm}
use Rattle.normal_form.proofs.FormTables.{form_operands, form_signals}
use Rattle.monitors.specs.State.{in_order, state_size, state_at}
use Rattle.monitors.proofs.States.{state_size_lem, map_order}
use Rattle.circuit.specs.Circuit.{Latch, Gate, maximum, defined_in, IsLiteral, WellFormed}
use Rattle.monitor_circuit.specs.Monitors.{signal_literal, activator_literal, gate_literal, wiring_of, by_row, latch_literal, state_literals, latch_count, latches_of, circuit_of}
use Rattle.monitor_circuit.proofs.GateRows.{gates_count, gates_each, lefts_from}
use Rattle.monitor_circuit.proofs.WellFormedRows.{Low, row_low}

-- ---- lists by their places

-- what holds at the places of both lists holds at those of the two in a row
appended_each : {A : Type 0} (P : ℕ → A → Type 0) (xs ys : List A) (d : A) → ((i : ℕ) → i < length xs → P i (get_or xs i d))
    → ((i : ℕ) → i < length ys → P (length xs + i) (get_or ys i d)) → (i : ℕ) → i < length (xs ++ ys) → P i (get_or (xs ++ ys) i d)
appended_each P xs ys d first second i h = by (dec_lt i (length xs))
  where
    by : Dec (i < length xs) → P i (get_or (xs ++ ys) i d)
    by (yes l) = subst (P i) (sym (get_or-append xs ys d i l)) (first i l)
    by (no l) =
        let e : length xs + (i - length xs) ≡ i = omega arith in
        let k : i - length xs < length ys = omega (arith, length-append xs ys) in
        subst (λ n. P n (get_or (xs ++ ys) n d)) e (subst (P (length xs + (i - length xs))) (sym (get_or-append-add xs ys (i - length xs) d)) (second (i - length xs) k))

tabulated_each : {A : Type 0} (P : ℕ → A → Type 0) (n : ℕ) (f : ℕ → A) (d : A) → ((i : ℕ) → i < n → P i (f i))
    → (i : ℕ) → i < length (tabulate n f) → P i (get_or (tabulate n f) i d)
tabulated_each P n f d each i h = let l : i < n = rw length_tabulate at h in subst (P i) (sym (get_d_tabulate n f i d l)) (each i l)

-- two tables in a row are one
tables_join : (m n : ℕ) (f h k : ℕ → ℕ) → ((i : ℕ) → i < m → f i ≡ k i) → ((i : ℕ) → i < n → h i ≡ k (m + i)) → tabulate m f ++ tabulate n h ≡ tabulate (m + n) k
tables_join m n f h k first second =
    ext_get_or 0 (tabulate m f ++ tabulate n h) (tabulate (m + n) k) (size ∙ sym (length_tabulate (m + n) 0 k))
    (λ i l. same i l ∙ sym (get_d_tabulate (m + n) k i 0 (omega (arith, size))))
  where
    size : length (tabulate m f ++ tabulate n h) ≡ m + n
    size = length-append (tabulate m f) (tabulate n h) ∙ omega (arith, length_tabulate m 0 f, length_tabulate n 0 h)

    same : (i : ℕ) → i < length (tabulate m f ++ tabulate n h) → get_or (tabulate m f ++ tabulate n h) i 0 ≡ k i
    same =
        appended_each (λ i x. x ≡ k i) (tabulate m f) (tabulate n h) 0 (tabulated_each (λ i x. x ≡ k i) m f 0 first)
        (tabulated_each (λ i x. x ≡ k (length (tabulate m f) + i)) n h 0 (λ i l. second i l ∙ ap (λ w. k (w + i)) (sym (length_tabulate m 0 f))))

-- the literals in the places of a state, in its order, are a table
order_places : (rows : ℕ) (x : ℕ → ℕ) → in_order rows (state_at rows x) ≡ tabulate (state_size rows) (λ j. x (suc j))
order_places rows x = refl

module _ (g : NormalForm) where
  -- what holds of each row holds in a table by row, and in three in a row
  rows_each : {A : Type 0} (P : A → Type 0) (x : ℕ → A) (d : A) → ((i : ℕ) → i < g.rows → P (x (suc i))) → (i : ℕ) → i < length (by_row g x) → P (get_or (by_row g x) i d)
  rows_each P x d each = tabulated_each (λ i. P) g.rows (λ i. x (suc i)) d each

  rows_each_thrice : {A : Type 0} (P : A → Type 0) (x y z : ℕ → A) (d : A) → ((i : ℕ) → i < g.rows → P (x (suc i))) → ((i : ℕ) → i < g.rows → P (y (suc i)))
      → ((i : ℕ) → i < g.rows → P (z (suc i))) → (i : ℕ) → i < length (by_row g x ++ (by_row g y ++ by_row g z)) → P (get_or (by_row g x ++ (by_row g y ++ by_row g z)) i d)
  rows_each_thrice P x y z d ex ey ez =
      appended_each (λ i. P) (by_row g x) (by_row g y ++ by_row g z) d (rows_each P x d ex)
      (appended_each (λ i. P) (by_row g y) (by_row g z) d (rows_each P y d ey) (rows_each P z d ez))

  -- ---- sizes

  rows_size : {A : Type 0} (x : ℕ → A) → length (by_row g x) ≡ g.rows
  rows_size x = length_tabulate g.rows 0 (λ i. x (suc i))

  rows_size_thrice : {A : Type 0} (x y z : ℕ → A) → length (by_row g x ++ (by_row g y ++ by_row g z)) ≡ 3 * g.rows
  rows_size_thrice x y z =
      length-append (by_row g x) (by_row g y ++ by_row g z)
      ∙ (ap (λ n. length (by_row g x) + n) (length-append (by_row g y) (by_row g z)) ∙ omega (arith, rows_size x, rows_size y, rows_size z))

  pub inputs_size : length (circuit_of g).inputs ≡ g.signals + g.rows
  inputs_size =
      length-append (tabulate g.signals (λ i. signal_literal g (suc i))) (by_row g (activator_literal g))
      ∙ omega (arith, length_tabulate g.signals 0 (λ i. signal_literal g (suc i)), rows_size (activator_literal g))

  pub latches_size : length (circuit_of g).latches ≡ latch_count g
  latches_size = state_size_lem g.rows (latches_of g)

  pub outputs_size : length (circuit_of g).outputs ≡ 3 * g.rows
  outputs_size = rows_size_thrice (λ k. (wiring_of g k).failed) (λ k. (wiring_of g k).accept) (λ k. (wiring_of g k).pending)

  pub gates_size : length (circuit_of g).gates ≡ 3 * g.rows
  gates_size = gates_count g g.rows 1

  pub maximum_is : maximum (circuit_of g) ≡ g.signals + g.rows + latch_count g + 3 * g.rows
  maximum_is = omega (arith, inputs_size, latches_size, gates_size)

  -- ---- what is defined: 2, 4, 6 and so on

  -- the variables' own literals behind variable a
  abbrev own_from : ℕ → ℕ → ℕ
  own_from a i = 2 * (a + suc i)

  lefts_are : map (λ (x : Gate). x.lhs) (circuit_of g).gates ≡ tabulate (3 * g.rows) (own_from (g.signals + g.rows + latch_count g))
  lefts_are = lefts_from g g.rows 0

  currents_are : map (λ (q : Latch). q.current) (circuit_of g).latches ≡ tabulate (latch_count g) (own_from (g.signals + g.rows))
  currents_are = map_order (λ (q : Latch). q.current) g.rows (latches_of g) ∙ order_places g.rows (latch_literal g)

  pub inputs_are : (circuit_of g).inputs ≡ tabulate (g.signals + g.rows) (λ i. 2 * suc i)
  inputs_are = tables_join g.signals g.rows _ _ (λ i. 2 * suc i) (λ i h. omega arith) (λ i h. omega arith)

  all_are : defined_in (circuit_of g) ≡ tabulate (g.signals + g.rows + (latch_count g + 3 * g.rows)) (λ i. 2 * suc i)
  all_are =
      rw (inputs_are, currents_are, lefts_are)
      (ap (λ l. tabulate (g.signals + g.rows) (λ i. 2 * suc i) ++ l)
      (tables_join (latch_count g) (3 * g.rows) _ _ (own_from (g.signals + g.rows)) (λ i h. omega arith) (λ i h. omega arith))
      ∙ tables_join (g.signals + g.rows) (latch_count g + 3 * g.rows) _ _ (λ i. 2 * suc i) (λ i h. omega arith) (λ i h. omega arith))

  -- THE DEFINED LITERALS ARE 2, 4, 6 AND SO ON, in the order of the file
  pub defined_are : defined_in (circuit_of g) ≡ tabulate (maximum (circuit_of g)) (λ i. 2 * suc i)
  defined_are = all_are ∙ ap (λ m. tabulate m (λ i. 2 * suc i)) (omega (arith, maximum_is))

  defined_at : (i : ℕ) → i < length (defined_in (circuit_of g)) → (i < maximum (circuit_of g)) × (get_or (defined_in (circuit_of g)) i 0 ≡ 2 * suc i)
  defined_at i h =
      let l : i < maximum (circuit_of g) = omega (arith, ap length defined_are, length_tabulate (maximum (circuit_of g)) 0 (λ j. 2 * suc j)) in
      (l, ap (λ d. get_or d i 0) defined_are ∙ get_d_tabulate (maximum (circuit_of g)) (λ j. 2 * suc j) i 0 l)

  module _ (ok : InNormalForm g) where
    -- ---- what is named

    pub wiring_low : (i : ℕ) → i < g.rows → Low (gate_literal g 1 (suc i)) (gate_literal g 2 (suc i)) (gate_literal g 3 (suc i)) (wiring_of g (suc i))
    wiring_low i h =
        row_low (activator_literal g (suc i)) ((state_literals g).pending (suc i)) (gate_literal g 1 (suc i)) (gate_literal g 2 (suc i)) (gate_literal g 3 (suc i)) (omega arith) (omega arith)
        (omega arith) (omega arith) (signal_literal g) (activator_literal g) (table_of g.places (suc i))
        (each_map _ _ (λ a x. omega (arith, x.1)) (table_of g.places (suc i)) (form_operands g ok (suc i) (omega arith)))
        (each_signal_map _ _ (table_of g.places (suc i)) (λ s x. omega (arith, x.1)) (form_signals g ok (suc i) (omega arith)))

    abbrev Named : ℕ → Type 0
    Named l = IsLiteral (maximum (circuit_of g)) l

    module _ (i : ℕ) (h : i < g.rows) where
      failed_named : Named (wiring_of g (suc i)).failed
      failed_named = omega (arith, (wiring_low i h).low_failed, maximum_is)

      accept_named : Named (wiring_of g (suc i)).accept
      accept_named = omega (arith, (wiring_low i h).low_accept, maximum_is)

      pending_named : Named (wiring_of g (suc i)).pending
      pending_named = omega (arith, (wiring_low i h).low_pending, maximum_is)

    -- THE MONITORS' CIRCUIT IS WELL FORMED
    pub circuit_well_formed : WellFormed (circuit_of g)
    circuit_well_formed =
        record {
          variables = λ i h. let e = defined_at i h in record { index = suc i; least = omega arith; most = omega (arith, e.0); even = e.1 };
          once = λ i j l h e. omega (arith, e, (defined_at i (omega arith)).1, (defined_at j h).1);
          nexts = rows_each (λ q. Named q.next) (latches_of g).pending _ pending_named;
          named = rows_each_thrice Named (λ k. (wiring_of g k).failed) (λ k. (wiring_of g k).accept) (λ k. (wiring_of g k).pending) _ failed_named accept_named pending_named;
          lower =
              gates_each g (λ x. (x.rhs0 < x.lhs) × (x.rhs1 < x.lhs))
              (λ i h. let w = wiring_low i h in (w.low_first, w.low_second, w.low_third));
        }
