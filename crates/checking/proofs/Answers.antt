-- The answers of a sheet check by their cases. Assumes nothing.
use Prim.Native.Nat.{ℕ}
use mathlib.Core.Path.{◌≡◌, refl, sym, ap, ap₂, subst, subst⁻¹, ◌∙◌}
use mathlib.Core.Bool.{Bool, true, false, ◌&&◌}
use lib.Dec.{eqb}
use Rattle.tables.specs.Choice.{pick}
use Rattle.tables.specs.Only.{TheOnly}
use Rattle.tables.specs.Refusal.{and_then, call_refused}
use Rattle.tables.specs.declared.refusal.Reason.TheVariants.{WrongForm, SizeDiffers}
use Rattle.tables.proofs.Outcomes.{refused_only}
use Rattle.tables.specs.declared.refusal.Refusal.{Refusal}
use Rattle.tables.specs.declared.refusal.Outcome.{Outcome}
use Rattle.tables.specs.declared.refusal.Outcome.TheVariants.{Accepted, Refused}
use Rattle.tables.specs.declared.row.Formula.{Formula}
use Rattle.tables.specs.declared.row.NormalForm.{NormalForm}
use Rattle.tables.specs.declared.trace.Activation.{Activation}
use Rattle.tables.specs.declared.trace.Trace.{Trace}
use Rattle.normal_form.specs.declared.sign.Sign.TheVariants.{Plain}
use Rattle.normal_form.specs.Numbering.{normal_form}
use Rattle.meeting.specs.Meeting.{meeting_outcome, covered_take}
use Rattle.meeting.specs.declared.Wanted.TheVariants.{Either}
use Rattle.meeting.proofs.Laws.{meeting_line}
use Rattle.checking.specs.declared.finding.Finding.{Finding}
use Rattle.checking.specs.declared.finding.Finding.TheVariants.{Root}
use Rattle.checking.specs.declared.finding.CheckAnswer.{CheckAnswer}
use Rattle.checking.specs.declared.finding.CheckAnswer.TheVariants.{Refused as CheckRefused, Checked}
use Rattle.checking.specs.Finding.{FindingOf}
use Rattle.checking.specs.Answer.{tables_outcome, sizes_outcome, nine_outcome, met_outcome, check_outcome, CheckAnswers}

-- THE CONTRACT LEAVES ONE ANSWER
one_finding : (o : Outcome) (f : Formula) (t : Trace) (a : Activation) (x y : CheckAnswer) → CheckAnswers o f t a x → CheckAnswers o f t a y → x ≡ y
one_finding (Refused why) f t a x y p q = p ∙ sym q
one_finding Accepted f t a x y (v, e, is) (u, d, also) = e ∙ ap Checked (also.only v is.said) ∙ sym d

pub only_found : (o : Outcome) (f : Formula) (t : Trace) (a : Activation) (x : CheckAnswer) → CheckAnswers o f t a x → TheOnly (CheckAnswers o f t a) x
only_found o f t a x p = record { so = p; only = λ y q. one_finding o f t a y x q p }

line_in : Outcome → ℕ
line_in Accepted = 0
line_in (Refused x) = x.line

module _ (f : Formula) (t : Trace) (a : Activation) where
  -- the sizes of the normal form and the covered take at hand, which are the rule's and the take's where nothing is refused before
  pub met_sizes : (o : Outcome) (g : NormalForm) (u : Trace) → (o ≡ Accepted → g ≡ normal_form f Plain) → (o ≡ Accepted → u ≡ covered_take f t)
      → and_then o (sizes_outcome g u a) ≡ and_then o (nine_outcome f t a)
  met_sizes Accepted g u e d = ap₂ (λ (g : NormalForm) (u : Trace). sizes_outcome g u a) (e refl) (d refl)
  met_sizes (Refused x) g u e d = refl

  module _ (o : Outcome) where
    pub refused_answer : {x : Refusal} → o ≡ Refused x → TheOnly (CheckAnswers o f t a) (CheckRefused x)
    refused_answer {x} e = only_found o f t a (CheckRefused x) (subst⁻¹ (λ o. CheckAnswers o f t a (CheckRefused x)) e refl)

    pub found_answer : o ≡ Accepted → (x : Finding) → FindingOf (normal_form f Plain) (covered_take f t) a x → TheOnly (CheckAnswers o f t a) (Checked x)
    found_answer e x is = only_found o f t a (Checked x) (subst⁻¹ (λ o. CheckAnswers o f t a (Checked x)) e (x, refl, is))

  -- tables that pass their own checks, by those of the three together
  pub met_answer : {r : CheckAnswer} → tables_outcome f t a ≡ Accepted → TheOnly (CheckAnswers (met_outcome f t a) f t a) r → TheOnly (CheckAnswers (check_outcome f t a) f t a) r
  met_answer {r} e x = subst⁻¹ (λ o. TheOnly (CheckAnswers (and_then o (met_outcome f t a)) f t a) r) e x

-- ---- what an answer tells of the checks before it

why_in : CheckAnswer → Refusal
why_in (CheckRefused why) = why
why_in (Checked x) = record { reason = WrongForm; file = 0; line = 0 }

finding_in : CheckAnswer → Finding
finding_in (CheckRefused why) = Root
finding_in (Checked x) = x

IsChecked : CheckAnswer → Type 0
IsChecked (CheckRefused why) = ⊥
IsChecked (Checked x) = Unit {0}

module _ (f : Formula) (t : Trace) (a : Activation) where
  pub told_refused : (o : Outcome) {r : CheckAnswer} {why : Refusal} → CheckAnswers o f t a r → r ≡ CheckRefused why → o ≡ Refused why
  unfolding why_in IsChecked
  told_refused (Refused x) p e = ap (λ r. Refused (why_in r)) (sym p ∙ e)
  told_refused Accepted (x, p, is) e = absurd (subst IsChecked (sym p ∙ e) tt)

  pub told_checked : (o : Outcome) {r : CheckAnswer} {x : Finding} → CheckAnswers o f t a r → r ≡ Checked x → (o ≡ Accepted) × FindingOf (normal_form f Plain) (covered_take f t) a x
  unfolding finding_in IsChecked
  told_checked (Refused y) p e = absurd (subst IsChecked (sym e ∙ p) tt)
  told_checked Accepted (y, p, is) e = (refl, subst (FindingOf (normal_form f Plain) (covered_take f t) a) (ap finding_in (sym p ∙ e)) is)

  -- "file and line 0 for 7 to 10"
  pub met_line : {x : Refusal} → met_outcome f t a ≡ Refused x → x.line ≡ 0
  unfolding line_in
  met_line {x} e = by (meeting_outcome Either f t) refl e
    where
      nine : (b : Bool) → pick b Accepted (call_refused SizeDiffers) ≡ Refused x → x.line ≡ 0
      nine true q = refused_only q refl
      nine false q = sym (ap line_in q)

      by : (o : Outcome) → meeting_outcome Either f t ≡ o → and_then o (nine_outcome f t a) ≡ Refused x → x.line ≡ 0
      by Accepted m q = nine (eqb a.rows (normal_form f Plain).rows && eqb a.cycles (covered_take f t).cycles) q
      by (Refused y) m q = meeting_line Either f t (m ∙ q)
