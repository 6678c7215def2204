-- DEMAND 3 ON THE CHECK: "our check says `passes` exactly of the passing ones", and each other finding exactly in its case. Assumes
-- nothing.
use mathlib.Core.Path.{◌≡◌, sym, ap, subst}
use mathlib.Core.Logic.{◌↔◌}
use Rattle.tables.specs.declared.refusal.Outcome.TheVariants.{Accepted}
use Rattle.tables.specs.declared.row.Formula.{Formula}
use Rattle.tables.specs.declared.row.NormalForm.{NormalForm}
use Rattle.tables.specs.declared.trace.Activation.{Activation}
use Rattle.tables.specs.declared.trace.Trace.{Trace}
use Rattle.normal_form.specs.declared.sign.Sign.TheVariants.{Plain}
use Rattle.normal_form.specs.Numbering.{normal_form}
use Rattle.monitors.specs.Sheet.{Passes as SheetPasses}
use Rattle.checking.specs.declared.finding.Finding.{Finding}
use Rattle.meeting.specs.Meeting.{covered_take}
use Rattle.checking.specs.declared.finding.Finding.TheVariants.{Passes}
use Rattle.checking.specs.declared.finding.CheckAnswer.{CheckAnswer}
use Rattle.checking.specs.declared.finding.CheckAnswer.TheVariants.{Refused as CheckRefused, Checked}
use Rattle.checking.specs.Finding.{FindingSays, FindingOf}
use Rattle.checking.specs.Answer.{CheckAnswers, check_outcome}

-- each finding is given exactly when what it says is so
pub finding_exactly : (g : NormalForm) (t : Trace) (a : Activation) (x : Finding) → FindingOf g t a x → (y : Finding) → FindingSays g t a t.ending y ↔ (y ≡ x)
finding_exactly g t a x is y = (is.only y, λ e. subst (FindingSays g t a t.ending) (sym e) is.said)

-- the finding in an answer
abbrev pub finding_or : Finding → CheckAnswer → Finding
finding_or x (CheckRefused why) = x
finding_or x (Checked y) = y

accepted_passes : (f : Formula) (t : Trace) (a : Activation) (r : CheckAnswer) → CheckAnswers Accepted f t a r → (r ≡ Checked Passes) ↔ SheetPasses (normal_form f Plain) (covered_take f t) a
accepted_passes f t a r (x, e, is) = (
  λ p. subst (FindingSays (normal_form f Plain) (covered_take f t) a (covered_take f t).ending) (same p) is.said,
  λ p. subst (λ y. r ≡ Checked y) (sym (is.only Passes p)) e,
)
  where
    same : r ≡ Checked Passes → x ≡ Passes
    same p = let q : Checked x ≡ Checked Passes = subst (λ y. y ≡ Checked Passes) e p in ap (finding_or Passes) q

-- REFUSALS ASIDE, THE CHECK SAYS `passes` EXACTLY OF THE PASSING SHEETS: of what the contract of `check_sheet` allows, where no check
-- refuses
pub passes_exactly : (f : Formula) (t : Trace) (a : Activation) → check_outcome f t a ≡ Accepted
    → (r : CheckAnswer) → CheckAnswers (check_outcome f t a) f t a r → (r ≡ Checked Passes) ↔ SheetPasses (normal_form f Plain) (covered_take f t) a
passes_exactly f t a accepted r answers = accepted_passes f t a r (subst (λ o. CheckAnswers o f t a r) accepted answers)
