-- The answer of the step service by its cases. Assumes nothing.
use Prim.Native.Nat.{ℕ}
use mathlib.Core.Path.{◌≡◌, sym, ap, ◌∙◌}
use mathlib.Core.List.{List, ◌++◌}
use lib.ListN.{length, drop}
use Rattle.tables.specs.Refusal.{and_then, on_outcome}
use Rattle.tables.specs.declared.refusal.Refusal.{Refusal}
use Rattle.tables.specs.declared.refusal.Outcome.{Outcome}
use Rattle.tables.specs.declared.refusal.Outcome.TheVariants.{Accepted, Refused}
use Rattle.tables.specs.declared.row.Formula.{Formula}
use Rattle.tables.specs.declared.row.NormalForm.{NormalForm}
use Rattle.text.specs.Result.{outcome_of}
use Rattle.rule_file.specs.Rule.{parse_rule}
use Rattle.rule_file.specs.Written.{written_rule}
use Rattle.normal_form.specs.declared.sign.Sign.TheVariants.{Plain}
use Rattle.normal_form.specs.Numbering.{normal_form}
use Rattle.writing.specs.declared.answer.Bytes.TheVariants.{Count, Refused as BytesRefused}
use Rattle.step.specs.Step.{form_answer, form_left, form_outcome, form_output, output_size, rows_in, step_outcome, step_output, step_answer, step_left}

module _ (f : Formula) (p a s buf : List ℕ) where
  -- refused: no byte changes
  module _ {r : Refusal} (e : step_outcome f p a s buf ≡ Refused r) where
    pub refused_both : (BytesRefused r ≡ step_answer f p a s buf) × (buf ≡ step_left f p a s buf)
    refused_both = (
      sym (ap (λ o. on_outcome o BytesRefused (Count (output_size (rows_in f)))) e),
      sym (ap (λ o. on_outcome o (λ r. buf) (step_output f p a s ++ drop (output_size (rows_in f)) buf)) e),
    )

  -- answered
  module _ (e : step_outcome f p a s buf ≡ Accepted) where
    pub answered_answer : step_answer f p a s buf ≡ Count (output_size (rows_in f))
    answered_answer = ap (λ o. on_outcome o BytesRefused (Count (output_size (rows_in f)))) e

    pub answered_left : step_left f p a s buf ≡ step_output f p a s ++ drop (output_size (rows_in f)) buf
    answered_left = ap (λ o. on_outcome o (λ r. buf) (step_output f p a s ++ drop (output_size (rows_in f)) buf)) e

  -- by the rule's own outcome
  module _ (own : outcome_of 1 (parse_rule (written_rule f)) ≡ Accepted) where
    pub met_answer : step_answer f p a s buf ≡ form_answer (normal_form f Plain) p a s buf
    met_answer = ap (λ o. on_outcome (and_then o (form_outcome (normal_form f Plain) p a s (length buf))) BytesRefused (Count (output_size (rows_in f)))) own

    pub met_left : step_left f p a s buf ≡ form_left (normal_form f Plain) p a s buf
    met_left = ap (λ o. on_outcome (and_then o (form_outcome (normal_form f Plain) p a s (length buf))) (λ r. buf) (step_output f p a s ++ drop (output_size (rows_in f)) buf)) own

  pub own_refused : {r : Refusal} → outcome_of 1 (parse_rule (written_rule f)) ≡ Refused r → step_outcome f p a s buf ≡ Refused r
  own_refused own = ap (λ o. and_then o (form_outcome (normal_form f Plain) p a s (length buf))) own

-- the call's own outcome, for the normal form at hand
module _ (h : NormalForm) (p a s buf : List ℕ) {g : NormalForm} (form : g ≡ h) {o : Outcome} (call : o ≡ form_outcome g p a s (length buf)) where
  outcome : form_outcome h p a s (length buf) ≡ o
  outcome = sym (call ∙ ap (λ (x : NormalForm). form_outcome x p a s (length buf)) form)

  pub call_refused_both : {r : Refusal} → o ≡ Refused r → (BytesRefused r ≡ form_answer h p a s buf) × (buf ≡ form_left h p a s buf)
  call_refused_both e = (
    sym (ap (λ o. on_outcome o BytesRefused (Count (output_size h.rows))) (outcome ∙ e)),
    sym (ap (λ o. on_outcome o (λ r. buf) (form_output h p a s ++ drop (output_size h.rows) buf)) (outcome ∙ e)),
  )

  pub stepped :
      {m : List ℕ} {total : ℕ} → o ≡ Accepted → m ≡ form_output g p a s ++ drop (output_size g.rows) buf → total ≡ output_size g.rows
      → (Count total ≡ form_answer h p a s buf) × (m ≡ form_left h p a s buf)
  stepped ok left size = (
    ap Count (size ∙ ap (λ (x : NormalForm). output_size x.rows) form) ∙ sym (ap (λ o. on_outcome o BytesRefused (Count (output_size h.rows))) (outcome ∙ ok)),
    left
        ∙ (ap (λ (x : NormalForm). form_output x p a s ++ drop (output_size x.rows) buf) form
        ∙ sym (ap (λ o. on_outcome o (λ r. buf) (form_output h p a s ++ drop (output_size h.rows) buf)) (outcome ∙ ok))),
  )
