-- DEMAND 3, FIRST SENTENCE: the endless take of the answered steps satisfies the rule. Assumes nothing.
use Prim.Native.Nat.{ℕ, zero, suc, ◌+◌, ◌≤◌, ◌<◌}
use mathlib.Core.Path.{◌≡◌, refl, sym, ap, subst⁻¹, ◌∙◌}
use mathlib.Core.Bool.{Bool, true, false}
use native.Mathlib.Omega.{arith}
use lib.ListN.{get_or}
use Rattle.tables.specs.declared.row.Formula.{Formula}
use Rattle.tables.specs.declared.row.NormalForm.{NormalForm}
use Rattle.rule_file.specs.Valid.{InRange}
use Rattle.meaning.specs.Reading.{classical, literal}
use Rattle.meaning.specs.Trace.{InfiniteTrace}
use Rattle.meaning.specs.Satisfaction.{Table, table_of, Satisfies, SatisfiesNormal}
use Rattle.meaning.proofs.Readings.{On, on_and_off, not_not_on, classical_full}
use Rattle.meaning.proofs.Rows.{each_signal_map}
use Rattle.meaning.proofs.Locality.{SameSignals, truth_everywhere}
use Rattle.normal_form.specs.declared.sign.Sign.TheVariants.{Plain}
use Rattle.normal_form.specs.Form.{InNormalForm}
use Rattle.normal_form.specs.Numbering.{normal_form}
use Rattle.normal_form.proofs.Ranges.{form_normal}
use Rattle.normal_form.proofs.FormTables.{form_ordered, form_positive, form_signals}
use Rattle.normal_form.proofs.Demand.{satisfied_alike}
use Rattle.monitors.specs.State.{State, state_at, fresh_state}
use Rattle.monitors.specs.Along.{Activators}
use Rattle.monitors.proofs.States.{SameState, RowTo}
use Rattle.monitors.proofs.Soundness.{output_in, HandedOn, Unfailing, active_row_true}
use Rattle.step.specs.Step.{digit_at, state_left, rows_in}
use Rattle.step_calls.specs.Calls.{Call, given, InOrder, kept, handed, answered, left, TakeOf, StepsPass}
use Rattle.step_calls.proofs.Order.{reached, later, first_unique, at_first, at_next, order_unique, listed, listed_in_order}
use Rattle.step_calls.proofs.Steps.{digit_one, digit_not_one, answered_range, left_failed, left_accept, handed_on, kept_back, handed_fresh}

-- what is so of each row; number 0 is no row
abbrev of_row : (ℕ → Bool) → ℕ → Bool
of_row x zero = false
of_row x (suc k) = x (suc k)

abbrev of_rows : State Bool → State Bool
of_rows s = record { pending = of_row s.pending }

of_row_lem :
    (rows : ℕ) (x y : ℕ → Bool) → y 0 ≡ false → ((k : ℕ) → k < rows → x (suc k) ≡ y (suc k))
    → (k : ℕ) → k < suc rows → of_row x k ≡ y k
of_row_lem rows x y none same zero h = sym none
of_row_lem rows x y none same (suc k) h = same k (omega arith)

module _ (f : Formula) (calls : ℕ → Call) where
  abbrev g : NormalForm
  g = normal_form f Plain

  abbrev table : Table
  table = table_of g.places

  -- ---- the answered calls as the monitors along a trace
  module _ (at : ℕ → ℕ) (order : InOrder (answered f calls) at) where
    abbrev signals : InfiniteTrace
    signals c s = digit_at (calls (at c)).signals s

    abbrev active : Activators
    active c k = digit_at (calls (at c)).activators k

    -- the state that the call of each cycle gets, and the one that it leaves
    abbrev state_of : ℕ → State Bool
    state_of c = state_at g.rows (digit_at (handed f calls (at c)))

    abbrev left_of : ℕ → State Bool
    left_of c = state_left g (handed f calls (at c)) (calls (at c)).activators (calls (at c)).signals

    abbrev states : ℕ → State Bool
    states c = of_rows (state_of c)

    range : InRange f
    range = answered_range f calls (at 0) (order.each 0)

    fresh_first : SameState (RowTo g.rows) (state_of 0) fresh_state
    unfolding kept
    fresh_first = handed_fresh f calls (at 0) (order.each 0) (at_first order (kept f calls) (kept_back f calls))

    left_next : (c : ℕ) → SameState (RowTo g.rows) (state_of (suc c)) (left_of c)
    left_next c =
        let rows : ℕ = (calls (at (suc c))).rows in
        subst⁻¹ (λ x. SameState (RowTo g.rows) (state_at g.rows (digit_at (given x rows))) (left_of c))
        (at_next order (kept f calls) (kept_back f calls) c) (handed_on f calls (at c) (order.each c) rows)

    states_handed_on : HandedOn table (suc g.rows) signals active states
    states_handed_on =
        record {
          fresh = record { same_pending = of_row_lem g.rows ((state_of 0).pending) _ refl (λ k h. fresh_first.same_pending (suc k) (omega arith, omega arith)) };
          next = λ c. record { same_pending = of_row_lem g.rows ((state_of (suc c)).pending) _ refl (λ k h. (left_next c).same_pending (suc k) (omega arith, omega arith)) };
        }

    module _ (passes : StepsPass f calls classical) where
      none_fail : Unfailing table (suc g.rows) signals active states
      none_fail = record { none_fails = clean; none_starves = returns }
        where
          clean : (k : ℕ) → k < suc g.rows → (c : ℕ) → (output_in table signals active states c k).failed ≡ false
          clean zero h c = refl
          clean (suc k) h c = digit_not_one _ (λ e. passes.none_fails (at c) k (order.each c) (omega arith) (left_failed f calls (at c) (order.each c) k (omega arith) ∙ e))

          accepts : (k c j : ℕ) → k < g.rows → get_or (left f calls j) (rows_in f + k) 0 ≡ 49 → at c ≡ j → (output_in table signals active states c (suc k)).accept ≡ true
          accepts k c j h e q =
              let b : answered f calls (at c) ≡ true = order.each c in
              digit_one _ (sym (left_accept f calls (at c) b k h) ∙ (ap (λ m. get_or (left f calls m) (rows_in f + k) 0) q ∙ e))

          returns : (k : ℕ) → k < suc g.rows → (c : ℕ) → ¬ ((d : ℕ) → c ≤ d → (output_in table signals active states d k).accept ≡ false)
          returns zero h c none = on_and_off refl (none c (omega arith))
          returns (suc k) h c none =
              passes.accepts_return k (omega arith) (at c)
              (λ x.
              let d = reached order x.0 x.1.1 in
              on_and_off (accepts k d.0 x.0 (omega arith) x.1.2 d.1) (none d.0 (later order c d.0 (subst⁻¹ (λ m. at c ≤ m) d.1 x.1.0))))

      root : active 0 g.rows ≡ true
      root =
          not_not_on (active 0 g.rows)
          (λ n. passes.root_active (λ x. n (subst⁻¹ (λ i. digit_at (calls i).activators (rows_in f) ≡ true) (first_unique order x.0 x.1.0.0 x.1.0.1) x.1.1)))

      answered_satisfy : SatisfiesNormal classical signals g
      answered_satisfy =
          let ok : InNormalForm g = form_normal f Plain range in
          active_row_true table (suc g.rows) signals active states (form_ordered g ok) (form_positive g ok) states_handed_on none_fail classical classical_full g.rows (omega arith) 0 root

  -- THE CLAIM: where the root is active in the first answered call, no answered call writes a failed of 1 and each row's accept is 1
  -- in endlessly many of them, the endless take of the answered calls satisfies the rule
  pub steps_satisfy : StepsPass f calls classical → (w : InfiniteTrace) → TakeOf f calls w → Satisfies classical w f
  unfolding normal_form
  steps_satisfy passes w take =
      let at : ℕ → ℕ = take.at in
      let fine : InRange f = range at take.in_order_lem in
      let ok : InNormalForm g = form_normal f Plain fine in
      let same : (i : ℕ) → SameSignals (suc g.rows) table w (signals at take.in_order_lem) i =
      λ i k h. each_signal_map _ _ (table k) (λ s x. take.cycles i s x.0 x.1) (form_signals g ok k h) in
      (satisfied_alike f fine w).0
      ((truth_everywhere classical w (signals at take.in_order_lem) table (suc g.rows) (form_ordered g ok) same g.rows (omega arith) 0).1
      (answered_satisfy at take.in_order_lem passes))

  -- there is one such take, as far as its signals go
  pub take_unique : (v w : InfiniteTrace) → TakeOf f calls v → TakeOf f calls w → (c s : ℕ) → 1 ≤ s → s ≤ f.signals → v c s ≡ w c s
  take_unique v w x y c s l h =
      x.cycles c s l h ∙ (ap (λ i. digit_at (calls i).signals s) (order_unique x.in_order_lem y.in_order_lem c) ∙ sym (y.cycles c s l h))

  -- ---- "in endlessly many answered calls", as it reads: from each call on there is another one
  module _ (passes : StepsPass f calls literal) where
    pub as_classical : StepsPass f calls classical
    as_classical =
        record {
          root_active = literal.sure passes.root_active;
          none_fails = passes.none_fails;
          accepts_return = λ k h i. literal.sure (passes.accepts_return k h i);
        }

    -- THE ENDLESS TAKE IS THERE
    pub take_exists : (w : InfiniteTrace) × TakeOf f calls w
    take_exists =
        let at : ℕ → ℕ = listed (answered f calls) more in
        (λ c s. digit_at (calls (at c)).signals s, record { at = at; in_order_lem = listed_in_order (answered f calls) more; cycles = λ c s l h. refl })
      where
        from_row : 1 ≤ g.rows → (i : ℕ) → ∥ ((j : ℕ) × (i ≤ j) × On (answered f calls j)) ∥₁
        from_row h i = ∥∥₁_rec squash₁ (λ x. ∣ (x.0, x.1.0, x.1.1) ∣₁) (passes.accepts_return 0 h i)

        more : (i : ℕ) → ∥ ((j : ℕ) × (i ≤ j) × On (answered f calls j)) ∥₁
        more i = ∥∥₁_rec squash₁ (λ x. from_row (form_normal f Plain (answered_range f calls x.0 x.1.0.0)).some_rows i) passes.root_active

    -- AND SATISFIES THE RULE
    pub steps_demand : ((w : InfiniteTrace) × TakeOf f calls w) × ((w : InfiniteTrace) → TakeOf f calls w → Satisfies classical w f)
    steps_demand = (take_exists, steps_satisfy as_classical)
