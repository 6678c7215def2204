-- What an answered call of the step service leaves, byte by byte, and the state that it hands on. Assumes nothing.
use Prim.Native.Nat.{ℕ, zero, suc, ◌+◌, ◌*◌, ◌-◌, ◌<◌}
use mathlib.Core.Path.{◌≡◌, refl, sym, ap, subst⁻¹, fun_ext, ◌∙◌}
use mathlib.Core.Bool.{Bool, true, false}
use mathlib.Core.List.{List, [], ◌∷◌, ◌++◌, append_assoc}
use native.Mathlib.Omega.{arith}
use lib.Dec.{eqb}
use lib.ListN.{length, get_or, drop, length-append, length-map, get_or-append}
use lib.Seq.{get_or-append-add, take_at, drop_at}
use Rattle.tables.specs.Place.{tabulate}
use Rattle.tables.specs.Refusal.{on_outcome}
use Rattle.tables.proofs.Places.{length_tabulate, get_d_tabulate}
use Rattle.tables.proofs.Outcomes.{both_accept}
use Rattle.tables.specs.declared.refusal.Refusal.{Refusal}
use Rattle.tables.specs.declared.refusal.Outcome.{Outcome}
use Rattle.tables.specs.declared.refusal.Outcome.TheVariants.{Accepted, Refused}
use Rattle.tables.specs.declared.row.Formula.{Formula}
use Rattle.tables.specs.declared.row.NormalForm.{NormalForm}
use Rattle.text.specs.Result.{outcome_of}
use Rattle.text.specs.Search.{part}
use Rattle.text.specs.Written.{digits_text}
use Rattle.tables.proofs.Choices.{clash}
use Rattle.rule_file.specs.Rule.{parse_rule}
use Rattle.rule_file.specs.Valid.{InRange}
use Rattle.rule_file.specs.Written.{written_rule}
use Rattle.rule_file.proofs.Rules.{checked}
use Rattle.normal_form.specs.declared.sign.Sign.TheVariants.{Plain}
use Rattle.normal_form.specs.Numbering.{normal_form}
use Rattle.monitors.specs.State.{State, in_order, state_size, state_at, fresh_state}
use Rattle.monitors.proofs.States.{SameState, RowTo, state_size_lem, state_read}
use Rattle.writing.specs.declared.answer.Bytes.{Bytes}
use Rattle.writing.specs.declared.answer.Bytes.TheVariants.{Count, Refused as BytesRefused}
use Rattle.step.specs.Fitting.{Fitting}
use Rattle.step.specs.Step.{digit_at, digit_of, output_size, state_digits, state_left, row_output, form_outcome, form_output, rows_in, step_outcome, step_answer}
use Rattle.step.proofs.Outputs.{failed_digit, accept_digit}
use Rattle.step.proofs.Checks.{accepted_fits}
use Rattle.step.proofs.Answers.{answered_answer, answered_left}
use Rattle.step_calls.specs.Calls.{Call, Kept.fresh, Kept.wrote, given, on_answer, kept, handed, answered, left}

-- a digit is 1 exactly where it stands for true
pub digit_says : (b : Bool) → eqb (digit_of b) 49 ≡ b
digit_says true = refl
digit_says false = refl

pub digit_one : (b : Bool) → digit_of b ≡ 49 → b ≡ true
digit_one true e = refl
digit_one false e = absurd (omega arith)

pub digit_not_one : (b : Bool) → ¬ (digit_of b ≡ 49) → b ≡ false
digit_not_one true n = absurd (n refl)
digit_not_one false n = refl

-- digits say what they were written for, and 0 where there is none
digits_say : (bs : List Bool) (i : ℕ) → eqb (get_or (digits_text bs) i 0) 49 ≡ get_or bs i false
digits_say [] i = refl
digits_say (b ∷ bs) zero = digit_says b
digits_say (b ∷ bs) (suc i) = digits_say bs i

-- A STATE IS READ FROM ITS DIGITS AGAIN
pub state_digits_lem : (rows : ℕ) (s : State Bool) → SameState (RowTo rows) (state_at rows (digit_at (state_digits rows s))) s
state_digits_lem rows s =
    subst⁻¹ (λ x. SameState (RowTo rows) (state_at rows x) s) (fun_ext λ j. digits_say (in_order rows s) (j - 1)) (state_read rows s false)

pub state_digits_size : (rows : ℕ) (s : State Bool) → length (state_digits rows s) ≡ state_size rows
state_digits_size rows s = length-map (in_order rows s) digit_of ∙ state_size_lem rows s

-- ---- the parts of the output
module _ (g : NormalForm) (p a s rest : List ℕ) where
  abbrev n : ℕ
  n = g.rows

  failed : List ℕ
  failed = tabulate n (failed_digit g p a s)

  accept : List ℕ
  accept = tabulate n (accept_digit g p a s)

  state : List ℕ
  state = state_digits n (state_left g p a s)

  parts : form_output g p a s ++ rest ≡ failed ++ (accept ++ (state ++ rest))
  unfolding form_output failed accept state
  parts = rw (append_assoc, append_assoc)

  failed_size : length failed ≡ n
  unfolding failed
  failed_size = length_tabulate n 0 (failed_digit g p a s)

  accept_size : length accept ≡ n
  unfolding accept
  accept_size = length_tabulate n 0 (accept_digit g p a s)

  module _ (k : ℕ) (h : k < n) where
    pub failed_byte : get_or (form_output g p a s ++ rest) k 0 ≡ failed_digit g p a s k
    unfolding failed
    failed_byte =
        ap (λ l. get_or l k 0) parts ∙ (get_or-append failed (accept ++ (state ++ rest)) 0 k (omega (arith, failed_size)) ∙ get_d_tabulate n (failed_digit g p a s) k 0 h)

    pub accept_byte : get_or (form_output g p a s ++ rest) (n + k) 0 ≡ accept_digit g p a s k
    unfolding accept
    accept_byte =
        ap (λ l. get_or l (n + k) 0) parts
        ∙ (ap (λ m. get_or (failed ++ (accept ++ (state ++ rest))) (m + k) 0) (sym failed_size)
        ∙ (get_or-append-add failed (accept ++ (state ++ rest)) k 0
        ∙ (get_or-append accept (state ++ rest) 0 k (omega (arith, accept_size)) ∙ get_d_tabulate n (accept_digit g p a s) k 0 h)))

  pub state_part : part (2 * n) (output_size n) (form_output g p a s ++ rest) ≡ state_digits n (state_left g p a s)
  unfolding state
  state_part =
      let e : output_size n - 2 * n ≡ state_size n = omega arith in
      let l : length (failed ++ accept) ≡ 2 * n = simp length-append (omega (arith, failed_size, accept_size)) in
      let w : form_output g p a s ++ rest ≡ (failed ++ accept) ++ (state ++ rest) = parts ∙ sym (append_assoc failed accept (state ++ rest)) in
      rw (e, w, drop_at (failed ++ accept) (state ++ rest) (2 * n) l) (take_at state rest (state_size n) (state_digits_size n (state_left g p a s)))

-- ---- a call

module _ (f : Formula) (calls : ℕ → Call) (i : ℕ) where
  abbrev g : NormalForm
  g = normal_form f Plain

  abbrev p : List ℕ
  p = handed f calls i

  abbrev a : List ℕ
  a = (calls i).activators

  abbrev s : List ℕ
  s = (calls i).signals

  abbrev outcome : Outcome
  outcome = step_outcome f p a s (calls i).buffer

  accepts : answered f calls i ≡ true → outcome ≡ Accepted
  accepts e = by outcome e
    where
      by : (o : Outcome) → on_answer (on_outcome o BytesRefused (Count (output_size g.rows))) true false ≡ true → o ≡ Accepted
      by Accepted e = refl
      by (Refused r) e = clash (cc)

  -- a call is answered only where the rule passes its check
  pub answered_range : answered f calls i ≡ true → InRange f
  answered_range e = checked f (both_accept (outcome_of 1 (parse_rule (written_rule f))) (form_outcome g p a s (length (calls i).buffer)) (accepts e)).0

  -- and where its digits are those of the rule's normal form
  pub answered_fits : answered f calls i ≡ true → Fitting g p a s (length (calls i).buffer)
  answered_fits e = accepted_fits g p a s (length (calls i).buffer) (both_accept (outcome_of 1 (parse_rule (written_rule f))) (form_outcome g p a s (length (calls i).buffer)) (accepts e)).1

  module _ (e : answered f calls i ≡ true) where
    -- WHAT AN ANSWERED CALL LEAVES, AND WHAT IS KEPT OF IT
    pub left_is : left f calls i ≡ form_output g p a s ++ drop (output_size g.rows) (calls i).buffer
    left_is = answered_left f p a s (calls i).buffer (accepts e)

    pub kept_is : kept f calls (suc i) ≡ wrote (state_digits (rows_in f) (state_left g p a s))
    unfolding kept
    kept_is =
        rw (answered_answer f p a s (calls i).buffer (accepts e))
        (ap wrote (ap (part (2 * g.rows) (output_size g.rows)) left_is ∙ state_part g p a s (drop (output_size g.rows) (calls i).buffer)))

    -- the state that the next call gets, for whatever number of rows it would have got a fresh one before
    pub handed_on : (rows : ℕ) → SameState (RowTo (rows_in f)) (state_at (rows_in f) (digit_at (given (kept f calls (suc i)) rows))) (state_left g p a s)
    handed_on rows =
        subst⁻¹ (λ x. SameState (RowTo (rows_in f)) (state_at (rows_in f) (digit_at (given x rows))) (state_left g p a s)) kept_is
        (state_digits_lem (rows_in f) (state_left g p a s))

    -- and a fresh one has the right number of rows where it is answered
    pub handed_fresh : kept f calls i ≡ fresh → SameState (RowTo (rows_in f)) (state_at (rows_in f) (digit_at p)) fresh_state
    handed_fresh start =
        let handed-is : p ≡ state_digits (calls i).rows fresh_state = ap (λ x. given x (calls i).rows) start in
        let size : length p ≡ state_size (calls i).rows = ap length handed-is ∙ state_digits_size (calls i).rows fresh_state in
        let rows : (calls i).rows ≡ rows_in f = omega (arith, size, (answered_fits e).state_agrees) in
        subst⁻¹ (λ x. SameState (RowTo (rows_in f)) (state_at (rows_in f) (digit_at x)) fresh_state)
        (handed-is ∙ ap (λ r. state_digits r fresh_state) rows) (state_digits_lem (rows_in f) fresh_state)

    module _ (k : ℕ) (h : k < rows_in f) where
      pub left_failed : get_or (left f calls i) k 0 ≡ digit_of (row_output g p a s (suc k)).failed
      left_failed = ap (λ l. get_or l k 0) left_is ∙ failed_byte g p a s (drop (output_size g.rows) (calls i).buffer) k h

      pub left_accept : get_or (left f calls i) (rows_in f + k) 0 ≡ digit_of (row_output g p a s (suc k)).accept
      left_accept = ap (λ l. get_or l (rows_in f + k) 0) left_is ∙ accept_byte g p a s (drop (output_size g.rows) (calls i).buffer) k h

  -- "A refused call changes none of them"
  pub kept_back : answered f calls i ≡ false → kept f calls (suc i) ≡ kept f calls i
  unfolding kept
  kept_back e = rw (by (step_answer f p a s (calls i).buffer) e).1 refl
    where
      by : (b : Bytes) → on_answer b true false ≡ false → (r : Refusal) × (b ≡ BytesRefused r)
      by (Count m) e = clash (cc)
      by (BytesRefused r) e = (r, refl)
