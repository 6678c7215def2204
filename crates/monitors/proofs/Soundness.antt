-- Soundness of the monitors: along an infinite trace on which no monitor ever fails and no accept stays 0 from some cycle on, a row
-- is true wherever it is active, in any full reading (active-true). The states may be any that are handed on from cycle to cycle;
-- those of Along are (handed-on), and there are no others (handed_on-unique). Assumes nothing.
use Prim.Native.Nat.{ℕ, zero, suc, ◌≤◌, ◌<◌}
use mathlib.Core.Path.{◌≡◌, refl, subst, sym, ap, ◌∙◌}
use mathlib.Core.Logic.{◌⊎◌, inl, inr}
use mathlib.Core.Bool.{Bool, true, false, not, ◌&&◌, ◌||◌}
use native.Mathlib.Nat.{eq-or-lt_of_le}
use native.Mathlib.Omega.{arith}
use Rattle.std.proofs.lemmas.Bool.{or_left, or_right, not_from_true}
use Rattle.meaning.specs.Reading.{Reading}
use Rattle.meaning.specs.Operator.{During, Until}
use Rattle.meaning.specs.Trace.{InfiniteTrace}
use Rattle.meaning.specs.Satisfaction.{Table, RowTrue}
use Rattle.meaning.specs.Rows.{Ordered, Positive}
use Rattle.meaning.specs.Pattern.{Pattern, Pattern.now, Pattern.next, Pattern.connective, Pattern.temporal}
use Rattle.meaning.specs.Pattern.{left, right, pattern_of, keep_bit, goal_bit, connective_bit, operand_bits}
use Rattle.meaning.proofs.Readings.{iff_refl, induction_from, row_induction, On, on_and_off, Full}
use Rattle.meaning.proofs.Rows.{each_map}
use Rattle.meaning.proofs.Truth.{Interprets, every_cycle, truth_interprets}
use Rattle.meaning.proofs.Pattern.{Keeps, Goals, Holds, OperandTrue, both_positive_operands}
use Rattle.meaning.proofs.MeaningByPattern.{holds_map, interprets_pattern}
use Rattle.meaning.proofs.PatternBits.{keep_iff, goal_iff, connective_iff, signal_iff}
use Rattle.monitors.specs.declared.Output.{Output}
use Rattle.monitors.specs.Monitor.{monitor}
use Rattle.monitors.specs.State.{State, fresh_state, row_state, output_from, next_state}
use Rattle.monitors.specs.Along.{Activators, state_before}
use Rattle.monitors.proofs.States.{SameState}
use Rattle.monitors.proofs.ByPattern.{done_bit, need_bit, pattern_monitor, monitor_by_pattern}

-- ---- Bools

-- not failed: what is active has what it needs
not_failed : (z x : Bool) → (z && not x) ≡ false → On z → On x
not_failed true true e h = refl
not_failed true false e h = sym e
not_failed false x e h = on_and_off h refl

-- a row that goes and does not fail meets its goal, or keeps and stays pending
goes_on :
    (f a b g : Bool) → On g → (g && not (need_bit f a b)) ≡ false
    → On (goal_bit f a b) ⊎ (On (keep_bit f a b) × On (g && not (done_bit f a b)))
goes_on f a b false h e = on_and_off h refl
goes_on true a true true h e = inl refl
goes_on true true false true h e = inr (refl, refl)
goes_on true false false true h e = on_and_off refl e
goes_on false true true true h e = inl refl
goes_on false false true true h e = inr (refl, refl)
goes_on false a false true h e = on_and_off refl e

-- ---- one pattern: a and b are the operands' activators, z the row's own, y its pendings

module _ (R : Reading) (full : Full R) (a b z y : ℕ → Bool) where
  abbrev A : ℕ → Type 0
  A j = On (a j)

  abbrev B : ℕ → Type 0
  B j = On (b j)

  abbrev says : Pattern → ℕ → Output
  says p j = pattern_monitor (a j) (b j) (record { active = z j; pending = y j }) p

  record Passes (p : Pattern) : Type 0 where
    hands : (j : ℕ) → y (suc j) ≡ (says p j).pending
    none_fails : (j : ℕ) → (says p j).failed ≡ false
    none_starves : (i : ℕ) → ¬ ((j : ℕ) → i ≤ j → (says p j).accept ≡ false)

  -- active, and the goal never met: it keeps and is pending for ever
  waits_forever :
      (K G : ℕ → Type 0) → ((j : ℕ) → On (z j || y j) → G j ⊎ (K j × On (y (suc j)))) → (i : ℕ) → On (z i) → ¬ Until R K G i → (j : ℕ)
      → i ≤ j → K j × On (y (suc j))
  waits_forever K G step i on never = induction_from (λ j. K j × On (y (suc j))) i (λ j l d. by j l d (step j (goes j (eq-or-lt_of_le l) d)))
    where
      goes : (j : ℕ) → (i ≡ j) ⊎ (i < j) → During (λ j. K j × On (y (suc j))) i j → On (z j || y j)
      goes j (inl e) d = or_left (z j) (y j) (subst (λ c. On (z c)) e on)
      goes zero (inr l) d = absurd (omega arith)
      goes (suc j) (inr l) d = or_right (z (suc j)) (y (suc j)) (d j (omega arith) (omega arith)).1

      by : (j : ℕ) → i ≤ j → During (λ j. K j × On (y (suc j))) i j → G j ⊎ (K j × On (y (suc j))) → K j × On (y (suc j))
      by j l d (inl g) = absurd (never (R.unit (j, (l, g, λ c p q. (d c p q).0))))
      by j l d (inr x) = x

  keeps_forever :
      (f : Bool) → ((j : ℕ) → y (suc j) ≡ ((z j || y j) && not (done_bit f (a j) (b j))))
      → ((j : ℕ) → ((z j || y j) && not (need_bit f (a j) (b j))) ≡ false) → (i : ℕ) → On (z i) → ¬ Until R (Keeps f A B) (Goals f A B) i → (j : ℕ)
      → i ≤ j → Keeps f A B j × On (y (suc j))
  keeps_forever f hands none_fails = waits_forever (Keeps f A B) (Goals f A B) (λ j g. by j (goes_on f (a j) (b j) (z j || y j) g (none_fails j)))
    where
      by :
          (j : ℕ) → On (goal_bit f (a j) (b j)) ⊎ (On (keep_bit f (a j) (b j)) × On ((z j || y j) && not (done_bit f (a j) (b j))))
          → Goals f A B j ⊎ (Keeps f A B j × On (y (suc j)))
      by j (inl g) = inl ((goal_iff f (a j) (b j) iff_refl iff_refl).1 g)
      by j (inr x) = inr ((keep_iff f (a j) (b j) iff_refl iff_refl).1 x.0, hands j ∙ x.1)

  holds_where_active : (p : Pattern) → Passes p → (i : ℕ) → On (z i) → Holds R A B p i
  holds_where_active now h i on = not_failed (z i) (b i) (h.none_fails i) on
  holds_where_active next h i on = not_failed (y (suc i)) (b (suc i)) (h.none_fails (suc i)) (h.hands i ∙ on)
  holds_where_active (connective f) h i on =
      (connective_iff R f (a i) (b i) iff_refl iff_refl).1 (not_failed (z i) (connective_bit f (a i) (b i)) (h.none_fails i) on)
  holds_where_active (temporal f true) h i on = full _ (λ n. n (inr (λ j l. (keeps_forever f h.hands h.none_fails i on (λ u. n (inl u)) j l).0)))
  holds_where_active (temporal f false) h i on =
      full _ (λ n. h.none_starves i (λ j l. not_from_true _ (sym (h.hands j) ∙ (keeps_forever f h.hands h.none_fails i on (λ u. R.sure u n) j l).1)))

-- ---- a table with any states: `states i` is what was handed on to cycle i

module _ (t : Table) (w : InfiniteTrace) (act : Activators) (states : ℕ → State Bool) where
  -- what row k's monitor says in cycle i
  abbrev pub output_in : ℕ → ℕ → Output
  output_in i k = output_from t (act i) (w i) (states i) k

  -- the same by the row's pattern; the activators are taken by rows first, as bits are
  abbrev pub pattern_output : ℕ → ℕ → Output
  pattern_output i k = pattern_monitor (operand_bits w (λ a j. act j a) (left (t k)) i) (operand_bits w (λ a j. act j a) (right (t k)) i)
      (row_state (act i) (states i) k) (pattern_of (t k))

  pub output_by_pattern : (k : ℕ) → Positive (t k) → (i : ℕ) → output_in i k ≡ pattern_output i k
  output_by_pattern k positive i = monitor_by_pattern (act i) (w i) (row_state (act i) (states i) k) (t k) positive

-- the rows below m
module _ (t : Table) (m : ℕ) (w : InfiniteTrace) (act : Activators) (states : ℕ → State Bool) where
  abbrev row_active : ℕ → ℕ → Bool
  row_active k i = act i k

  -- a fresh state at first, and then what each cycle leaves
  pub record HandedOn : Type 0 where
    pub fresh : SameState (λ k. k < m) (states 0) fresh_state
    pub next : (i : ℕ) → SameState (λ k. k < m) (states (suc i)) (next_state t (act i) (w i) (states i))

  -- no monitor ever fails, and none accepts no more from some cycle on
  pub record Unfailing : Type 0 where
    pub none_fails : (k : ℕ) → k < m → (i : ℕ) → (output_in t w act states i k).failed ≡ false
    pub none_starves : (k : ℕ) → k < m → (i : ℕ) → ¬ ((j : ℕ) → i ≤ j → (output_in t w act states j k).accept ≡ false)

  -- v gives the rows their meaning at the live cycles, and no row is active at any other cycle
  module _ (ordered : Ordered m t) (positive : (k : ℕ) → k < m → Positive (t k)) (handed : HandedOn) (passes : Unfailing)
      (R : Reading) (full : Full R) (live : ℕ → Bool) (alive : (k i : ℕ) → k < m → On (act i k) → On (live i))
      (v : ℕ → ℕ → Type 0) (interprets : Interprets R live w t m v) where
    pub active_true : (k : ℕ) → k < m → (i : ℕ) → On (act i k) → v k i
    active_true = row_induction (λ k. k < m → (i : ℕ) → On (act i k) → v k i) step
      where
        step : (k : ℕ) → ((a : ℕ) → a < k → a < m → (i : ℕ) → On (act i a) → v a i) → k < m → (i : ℕ) → On (act i k) → v k i
        step k ih h i on =
            let held = holds_where_active R full _ _ (λ j. act j k) (λ j. (states j).pending k) (pattern_of (t k)) row_passes i on in
            (interprets_pattern R w v live t m ordered interprets k h i).1
            (alive k i h on, holds_map R _ _ _ _ operands.0 operands.1 (pattern_of (t k)) i held)
          where
            operands : ((j : ℕ) → On (operand_bits w row_active (left (t k)) j) → OperandTrue w v (left (t k)) j) × ((j : ℕ) → On (operand_bits w row_active (right (t k)) j) → OperandTrue w v (right (t k)) j)
            operands = both_positive_operands (λ x. (j : ℕ) → On (operand_bits w row_active x j) → OperandTrue w v x j) (λ b j x. x) (λ b s j x. (signal_iff b (w j s)).1 x)
                (t k) (positive k h) (each_map _ _ (λ a l. ih a l (omega arith)) (t k) (ordered k h))

            said : (j : ℕ) → output_in t w act states j k ≡ pattern_output t w act states j k
            said = output_by_pattern t w act states k (positive k h)

            row_passes : Passes R full (operand_bits w row_active (left (t k))) (operand_bits w row_active (right (t k))) (λ j. act j k) (λ j. (states j).pending k) (pattern_of (t k))
            row_passes = record {
              hands = λ j. (handed.next j).same_pending k h ∙ ap (λ o. o.pending) (said j);
              none_fails = λ j. sym (ap (λ o. o.failed) (said j)) ∙ passes.none_fails k h j;
              none_starves = λ i none. passes.none_starves k h i (λ j l. ap (λ o. o.accept) (said j) ∙ none j l);
            }

  -- every cycle of an infinite trace is live
  pub active_row_true :
      Ordered m t → ((k : ℕ) → k < m → Positive (t k)) → HandedOn → Unfailing → (R : Reading) → Full R → (k : ℕ) → k < m → (i : ℕ) → On (act i k)
      → RowTrue R w t k i
  active_row_true ordered positive handed passes R full =
      active_true ordered positive handed passes R full every_cycle (λ k i h on. refl) (RowTrue R w t) (truth_interprets R w t m ordered)

-- ---- the states of Along

module _ (t : Table) (m : ℕ) (w : InfiniteTrace) (act : Activators) where
  pub handed_on : HandedOn t m w act (state_before t w act)
  unfolding state_before
  handed_on = record { fresh = record { same_pending = λ k h. refl }; next = λ i. record { same_pending = λ k h. refl } }

  -- all states that are handed on are those
  pub handed_on_unique : (states : ℕ → State Bool) → HandedOn t m w act states → (i : ℕ) → SameState (λ k. k < m) (states i) (state_before t w act i)
  unfolding state_before
  handed_on_unique states handed zero = handed.fresh
  handed_on_unique states handed (suc i) =
      let before = handed_on_unique states handed i in
      record {
        same_pending = λ k h. (handed.next i).same_pending k h
            ∙ ap (λ y. (monitor (act i) (w i) (t k) (record { active = act i k; pending = y })).pending) (before.same_pending k h);
      }

  module _ (ordered : Ordered m t) (positive : (k : ℕ) → k < m → Positive (t k)) (passes : Unfailing t m w act (state_before t w act)) (R : Reading) (full : Full R) where
    pub along_active_true :
        (live : ℕ → Bool) → ((k i : ℕ) → k < m → On (act i k) → On (live i)) → (v : ℕ → ℕ → Type 0) → Interprets R live w t m v → (k : ℕ) → k < m
        → (i : ℕ) → On (act i k) → v k i
    along_active_true = active_true t m w act (state_before t w act) ordered positive handed_on passes R full

    pub along_active_row_true : (k : ℕ) → k < m → (i : ℕ) → On (act i k) → RowTrue R w t k i
    along_active_row_true = active_row_true t m w act (state_before t w act) ordered positive handed_on passes R full
