-- THE EQUIVALENCE over sequences of inputs: each of them is a list of step calls that are all answered. Assumes nothing.
use Prim.Native.Nat.{ℕ, zero, suc, ◌+◌, ◌*◌, ◌-◌, ◌≤◌, ◌<◌}
use mathlib.Core.Path.{◌≡◌, refl, sym, ap, ◌∙◌}
use mathlib.Core.Bool.{Bool, true}
use mathlib.Core.Logic.{◌⊎◌, inl, inr}
use mathlib.Core.List.{List, ◌++◌}
use native.Mathlib.Omega.{arith}
use lib.Dec.{eqb}
use lib.ListN.{length, get_or, drop, replicate, length-append, length-drop, length-replicate}
use lib.Seq.{take_all}
use borrow.Author.Tests.{eq-eqb, le-leb}
use Rattle.tables.specs.Place.{tabulate}
use Rattle.tables.specs.declared.refusal.Outcome.TheVariants.{Accepted}
use Rattle.tables.specs.declared.row.Formula.{Formula}
use Rattle.tables.specs.declared.row.NormalForm.{NormalForm}
use Rattle.tables.proofs.Places.{length_tabulate, get_d_tabulate, map_tabulate}
use Rattle.text.specs.Digits.{are_digits}
use Rattle.text.specs.Written.{digits_text}
use Rattle.text.proofs.Laws.{are_written}
use Rattle.rule_file.specs.Outcome.{rule_outcome}
use Rattle.meaning.proofs.Readings.{lt_or_le}
use Rattle.normal_form.specs.declared.sign.Sign.TheVariants.{Plain}
use Rattle.normal_form.specs.Numbering.{normal_form}
use Rattle.circuit.specs.Valuation.{Valuation, output_values, next_latches, IsRun}
use Rattle.monitors.specs.State.{State, in_order, state_size, fresh_state}
use Rattle.step.specs.Step.{digit_of, output_size, state_digits, state_left, form_outcome, form_output, rows_in}
use Rattle.step_calls.specs.Calls.{Call, given, InOrder, kept, handed, answered, left}
use Rattle.step_calls.proofs.Steps.{digit_says, state_digits_size, left_is, kept_is}
use Rattle.monitor_circuit.specs.Steps.{rule_circuit, inputs_in, call_with}
use Rattle.monitor_circuit.proofs.Values.{in_first, behind_first, stripes_size}
use Rattle.monitor_circuit.proofs.Calls.{output_size_lem}
use Rattle.monitor_circuit.proofs.Written.{outputs_are, nexts_are}

-- ---- a call of so many digits is accepted

-- so many digits
pub record SoManyDigits (n : ℕ) (ds : List ℕ) : Type 0 where
  pub each_digit : are_digits ds ≡ true
  pub size : length ds ≡ n

digits_of_lem : (n : ℕ) (b : ℕ → Bool) → SoManyDigits n (tabulate n (λ i. digit_of (b i)))
digits_of_lem n b =
    record {
      each_digit = ap are_digits (sym (map_tabulate digit_of n b)) ∙ are_written (tabulate n b);
      size = length_tabulate n 0 (λ i. digit_of (b i));
    }

digits_of_state : (rows : ℕ) (s : State Bool) → SoManyDigits (state_size rows) (state_digits rows s)
digits_of_state rows s =
    record { each_digit = are_written (in_order rows s); size = state_digits_size rows s }

accepts : (g : NormalForm) (p a s : List ℕ) (room : ℕ) → SoManyDigits (state_size g.rows) p → SoManyDigits g.rows a → SoManyDigits g.signals s
    → output_size g.rows ≤ room → form_outcome g p a s room ≡ Accepted
accepts g p a s room dp da ds h =
    rw (
      dp.each_digit,
      da.each_digit,
      ds.each_digit,
      eq-eqb (length s) g.signals ds.size,
      eq-eqb (length p) (state_size g.rows) dp.size,
      eq-eqb (length a) g.rows da.size,
      le-leb (output_size g.rows) room h,
    ) refl

module _ (f : Formula) (own : rule_outcome f ≡ Accepted) (inputs : ℕ → ℕ → Bool) where
  abbrev g : NormalForm
  g = normal_form f Plain

  -- the calls with these inputs
  abbrev pub calls_with : ℕ → Call
  calls_with i = call_with f (inputs i)

  -- ---- they are all answered
  kept_digits : (i : ℕ) → ((j : ℕ) → j < i → answered f calls_with j ≡ true) → SoManyDigits (state_size (rows_in f)) (handed f calls_with i)
  unfolding kept
  kept_digits zero each = digits_of_state (rows_in f) fresh_state
  kept_digits (suc i) each =
      rw (kept_is f calls_with i (each i (omega arith)))
      (digits_of_state (rows_in f) (state_left g (handed f calls_with i) (calls_with i).activators (calls_with i).signals))

  pub all_answered : (i : ℕ) → answered f calls_with i ≡ true
  all_answered i = go (suc i) i (omega arith)
    where
      here : (i : ℕ) → ((j : ℕ) → j < i → answered f calls_with j ≡ true) → answered f calls_with i ≡ true
      here i each =
          let p : List ℕ = handed f calls_with i in
          let a : List ℕ = (calls_with i).activators in
          let s : List ℕ = (calls_with i).signals in
          let o : form_outcome g p a s (length (calls_with i).buffer) ≡ Accepted =
          accepts g p a s (length (calls_with i).buffer) (kept_digits i each) (digits_of_lem (rows_in f) (λ k. inputs i (f.signals + k)))
          (unfold normal_form in digits_of_lem f.signals (inputs i)) (rw length-replicate (omega arith)) in
          rw (own, o)

      go : (n i : ℕ) → i < n → answered f calls_with i ≡ true
      go zero i h = absurd (omega arith)
      go (suc n) i h = here i (λ j l. go n j (omega arith))

  in_order_lem : InOrder (answered f calls_with) (λ i. i)
  in_order_lem =
      record { first = λ j h. absurd (omega arith); each = all_answered; rises = λ c. omega arith; between = λ c j h l. absurd (omega arith) }

  -- ---- and give these inputs
  given_back : (i j : ℕ) → j < f.signals + rows_in f → inputs_in (calls_with i) j ≡ inputs i j
  given_back i j h = by (lt_or_le j f.signals)
    where
      s : ℕ → ℕ
      s k = digit_of (inputs i k)

      a : ℕ → ℕ
      a k = digit_of (inputs i (f.signals + k))

      z : suc j - 1 ≡ j
      z = omega arith

      by : (j < f.signals) ⊎ (f.signals ≤ j) → inputs_in (calls_with i) j ≡ inputs i j
      by (inl l) = ap (λ m. eqb (get_or ((calls_with i).signals ++ (calls_with i).activators) m 0) 49) z ∙ (ap (λ d. eqb d 49) (in_first f.signals s (tabulate (rows_in f) a) 0 j l) ∙ digit_says (inputs i j))
      by (inr l) =
          let k : ℕ = j - f.signals in
          let e : j ≡ f.signals + k = omega arith in
          ap (λ m. eqb (get_or ((calls_with i).signals ++ (calls_with i).activators) m 0) 49) (z ∙ e)
          ∙ (ap (λ d. eqb d 49) (behind_first f.signals s (tabulate (rows_in f) a) 0 k ∙ get_d_tabulate (rows_in f) a k 0 (omega arith))
          ∙ (digit_says (inputs i (f.signals + k)) ∙ ap (inputs i) (sym e)))

  module _ (n : ℕ) (values : ℕ → Valuation) (run : IsRun (rule_circuit f) n inputs values) where
    same_run : IsRun (rule_circuit f) n (λ i. inputs_in (calls_with i)) values
    unfolding normal_form
    same_run i h =
        let v = run i h in
        record {
          constant = v.constant;
          negated = v.negated;
          inputs_given = λ j l. v.inputs_given j l ∙ sym (given_back i j (rw stripes_size at l));
          latches_given = v.latches_given;
          gates_and = v.gates_and;
        }

    -- THE CLAIM: for every rule and every sequence of inputs, the circuit's outputs in each cycle from latches at 0 are what the step
    -- writes from a fresh start, and its next latches the state that the step hands on
    pub outputs_step : (i : ℕ) → i < n → left f calls_with i ≡ digits_text (output_values (rule_circuit f) (values i))
    outputs_step i h =
        let out : List ℕ = form_output g (handed f calls_with i) (calls_with i).activators (calls_with i).signals in
        let e : left f calls_with i ≡ out ++ drop (output_size (rows_in f)) (replicate (output_size (rows_in f)) 0) = left_is f calls_with i (all_answered i) in
        let size : length (left f calls_with i) ≤ 3 * rows_in f = rw (e, length-append, output_size_lem, length-drop, length-replicate) (omega arith) in
        sym (take_all (3 * rows_in f) (left f calls_with i) size) ∙ outputs_are f calls_with (λ i. i) in_order_lem n values same_run i h

    pub nexts_step : (i : ℕ) → i < n → handed f calls_with (suc i) ≡ digits_text (next_latches (rule_circuit f) (values i))
    nexts_step i h = ap (λ k. given k (rows_in f)) (nexts_are f calls_with (λ i. i) in_order_lem n values same_run i h)
