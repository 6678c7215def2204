-- The step service (01, "Monitors"): when it refuses, what it answers, and what it leaves in the lent buffer. Assumes nothing.
use Rattle.std.specs.Prelude.{ℕ, suc, ◌+◌, ◌*◌, ◌-◌, Bool, ◌&&◌, List, ◌++◌, eqb, leb, length, get_or, drop}
use Rattle.tables.specs.Choice.{pick}
use Rattle.tables.specs.Place.{tabulate}
use Rattle.tables.specs.Refusal.{and_then, call_refused, numbered, on_outcome}
use Rattle.tables.specs.declared.refusal.Outcome.{Outcome}
use Rattle.tables.specs.declared.refusal.Outcome.TheVariants.{Accepted}
use Rattle.tables.specs.declared.row.Formula.{Formula}
use Rattle.tables.specs.declared.row.NormalForm.{NormalForm}
use Rattle.text.specs.Digits.{are_digits}
use Rattle.text.specs.Written.{digits_text}
use Rattle.rule_file.specs.Outcome.{rule_outcome}
use Rattle.meaning.specs.Satisfaction.{table_of}
use Rattle.normal_form.specs.declared.sign.Sign.TheVariants.{Plain}
use Rattle.normal_form.specs.Numbering.{normal_form}
use Rattle.monitors.specs.declared.Output.{Output}
use Rattle.monitors.specs.State.{State, in_order, state_size, state_at, output_from, next_state}
use Rattle.writing.specs.declared.answer.Bytes.{Bytes}
use Rattle.writing.specs.declared.answer.Bytes.TheVariants.{Count, Refused}

-- "as digits 0 or 1": the digit of row or signal k, which count from 1; and the digit (byte 48 or 49) that is written
abbrev pub digit_at : List ℕ → ℕ → Bool
digit_at digits k = eqb (get_or digits (k - 1) 0) 49

abbrev pub digit_of : Bool → ℕ
digit_of b = pick b 49 48

-- how many digits are written for so many rows: failed, accept and what is handed on
abbrev pub output_size : ℕ → ℕ
output_size rows = 2 * rows + state_size rows

-- a state as digits, in its order
abbrev pub state_digits : ℕ → State Bool → List ℕ
state_digits rows s = digits_text (in_order rows s)

-- ---- the step of a normal form: "each row's pending one cycle earlier, each row's activator and each signal"

module _ (g : NormalForm) (given activators signals : List ℕ) where
  -- the state that is given
  abbrev pub state_given : State Bool
  state_given = state_at g.rows (digit_at given)

  -- what row k's monitor says, and the state that is handed on
  abbrev pub row_output : ℕ → Output
  row_output k = output_from (table_of g.places) (digit_at activators) (digit_at signals) state_given k

  abbrev pub state_left : State Bool
  state_left = next_state (table_of g.places) (digit_at activators) (digit_at signals) state_given

  -- "the digits of failed, then accept, then pending, each by row"
  unfoldable pub form_output : List ℕ
  form_output =
      tabulate g.rows (λ i. digit_of (row_output (suc i)).failed)
      ++ (tabulate g.rows (λ i. digit_of (row_output (suc i)).accept)
      ++ state_digits g.rows state_left)

  -- "another byte gives 2, another number of signals 7, of pendings or activators 9, a short buffer 10, in that order, with file and
  -- line 0"
  abbrev pub form_outcome : ℕ → Outcome
  form_outcome room =
      and_then (pick ((are_digits given && are_digits activators) && are_digits signals) Accepted (call_refused (numbered 2)))
      (and_then (pick (eqb (length signals) g.signals) Accepted (call_refused (numbered 7)))
      (and_then (pick (eqb (length given) (state_size g.rows) && eqb (length activators) g.rows) Accepted (call_refused (numbered 9)))
      (pick (leb (output_size g.rows) room) Accepted (call_refused (numbered 10)))))

  -- the answer and the bytes left, in a buffer `buf`: the first refusal, or all digits
  abbrev pub form_answer : List ℕ → Bytes
  form_answer buf = on_outcome (form_outcome (length buf)) Refused (Count (output_size g.rows))

  abbrev pub form_left : List ℕ → List ℕ
  form_left buf = on_outcome (form_outcome (length buf)) (λ r. buf) (form_output ++ drop (output_size g.rows) buf)

-- ---- the service

-- how many rows a rule's normal form has
abbrev pub rows_in : Formula → ℕ
rows_in f = (normal_form f Plain).rows

abbrev pub step_output : Formula → List ℕ → List ℕ → List ℕ → List ℕ
step_output f given activators signals = form_output (normal_form f Plain) given activators signals

module _ (f : Formula) (given activators signals buf : List ℕ) where
  -- "After the rule's own refusals": "A table handed to a service is checked as if written out as its file"
  abbrev pub step_outcome : Outcome
  step_outcome = and_then (rule_outcome f)
      (form_outcome (normal_form f Plain) given activators signals (length buf))

  -- the first refusal, or how many bytes were written
  abbrev pub step_answer : Bytes
  step_answer = on_outcome step_outcome Refused (Count (output_size (rows_in f)))

  -- a refused call leaves every byte; "an output fills its own length and the bytes behind it stay" (demand 1)
  abbrev pub step_left : List ℕ
  step_left = on_outcome step_outcome (λ r. buf) (step_output f given activators signals ++ drop (output_size (rows_in f)) buf)
