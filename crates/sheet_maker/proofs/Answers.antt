-- The sheet maker's answers by their cases. Assumes nothing.
use Prim.Native.Nat.{ℕ}
use mathlib.Core.Path.{◌≡◌, refl, sym, ap, subst⁻¹, ◌∙◌}
use mathlib.Core.Logic.{◌↔◌}
use mathlib.Core.Bool.{Bool, true, false}
use mathlib.Core.List.{List}
use Rattle.tables.specs.Only.{TheOnlyPair}
use Rattle.tables.specs.declared.refusal.Refusal.{Refusal}
use Rattle.tables.specs.declared.refusal.Outcome.{Outcome}
use Rattle.tables.specs.declared.refusal.Outcome.TheVariants.{Accepted, Refused}
use Rattle.tables.specs.declared.row.Formula.{Formula}
use Rattle.tables.specs.declared.row.NormalForm.{NormalForm}
use Rattle.tables.specs.declared.trace.Activation.{Activation}
use Rattle.tables.specs.declared.trace.Trace.{Trace}
use Rattle.tables.specs.Refusal.{and_then}
use Rattle.tables.proofs.Outcomes.{both_accept}
use Rattle.rule_file.specs.Valid.{InRange as FormulaInRange}
use Rattle.rule_file.proofs.Rules.{checked}
use Rattle.sheet_file.specs.Written.{written_sheet}
use Rattle.meaning.proofs.Readings.{on_and_off}
use Rattle.normal_form.specs.declared.sign.Sign.TheVariants.{Plain}
use Rattle.normal_form.specs.Numbering.{normal_form}
use Rattle.normal_form.proofs.Ranges.{form_normal}
use Rattle.monitors.specs.Sheet.{activator_at}
use Rattle.meeting.proofs.Covered.{HaveMet}
use Rattle.meeting.specs.Meeting.{own_outcome, meeting_outcome, pair_outcome, covered_take}
use Rattle.meeting.specs.declared.Wanted.TheVariants.{Either}
use Rattle.writing.specs.Answer.{written_answer, Delivers}
use Rattle.writing.specs.declared.answer.Bytes.{Bytes}
use Rattle.writing.specs.Lent.{overlaid}
use Rattle.sheet_maker.specs.declared.MakerAnswer.{MakerAnswer}
use Rattle.sheet_maker.specs.declared.MakerAnswer.TheVariants.{None, Refused as MakerRefused}
use Rattle.sheet_maker.specs.Made.{Satisfied, IsMade}
use Rattle.sheet_maker.specs.Answer.{answer_of, Answers, Answers.sheet, Answers.none, MakesOn, Makes}
use Rattle.sheet_maker.proofs.Sheets.{made_met, root_set, made_unique}

-- THE CONTRACT FIXES ANSWER AND BYTES
module _ (f : Formula) (t : Trace) (before : List ℕ) (after other : List ℕ) (answer reply : MakerAnswer) where
  answers_once : FormulaInRange f → Answers f t before after answer → Answers f t before other reply → (answer ≡ reply) × (after ≡ other)
  answers_once fine (sheet s a made p q) (sheet r b again u w) =
      let e : written_sheet a ≡ written_sheet b = made_unique (normal_form f Plain) (covered_take f t) a b (form_normal f Plain fine).most_rows made again in
      (p ∙ ap (λ x. answer_of (written_answer x before)) e ∙ sym u, q ∙ ap (λ x. overlaid x before) e ∙ sym w)
  answers_once fine (sheet s a made p q) (none r u w) = absurd (r s)
  answers_once fine (none s p q) (sheet r b again u w) = absurd (s r)
  answers_once fine (none s p q) (none r u w) = (p ∙ sym u, q ∙ sym w)

  -- whatever checks come before, if what they accept is in range
  pub makes_once : (o : Outcome) → (o ≡ Accepted → FormulaInRange f) → MakesOn o f t before after answer → MakesOn o f t before other reply → (answer ≡ reply) × (after ≡ other)
  makes_once Accepted fine x y = answers_once (fine refl) x y
  makes_once (Refused why) fine x y = (x.0 ∙ sym y.0, x.1 ∙ sym y.1)

-- tables that are not refused are in range
pub pair_fine : (f : Formula) (t : Trace) → pair_outcome Either f t ≡ Accepted → FormulaInRange f
pair_fine f t e = checked f (both_accept _ _ (both_accept _ _ e).0).0

module _ (o : Outcome) (f : Formula) (t : Trace) (before : List ℕ) (fine : o ≡ Accepted → FormulaInRange f) where
  pub only_makes : (after : List ℕ) (answer : MakerAnswer) → MakesOn o f t before after answer → TheOnlyPair (MakesOn o f t before) after answer
  only_makes after answer x = record { so = x; only = λ other reply y. let e = makes_once f t before other after reply answer o fine y x in (e.1, e.0) }

  pub refused_makes : {why : Refusal} → o ≡ Refused why → TheOnlyPair (MakesOn o f t before) before (MakerRefused why)
  refused_makes {why} e = only_makes before (MakerRefused why) (subst⁻¹ (λ o. MakesOn o f t before before (MakerRefused why)) e (refl, refl))

  module _ {g : NormalForm} {u : Trace} (met : HaveMet f t g u) {a : Activation} (made : IsMade g u a) (e : o ≡ Accepted) {b : Bool} (bit : b ≡ activator_at a 0 a.rows) where
    root : (b ≡ true) ↔ Satisfied f t
    root = root_set met made bit

    pub sheet_makes : b ≡ true → {after : List ℕ} {bytes : Bytes} {answer : MakerAnswer} → answer ≡ answer_of bytes → Delivers (written_sheet a) before after bytes → TheOnlyPair (MakesOn o f t before) after answer
    sheet_makes y {after} {bytes} {answer} p d =
        only_makes after answer (subst⁻¹ (λ o. MakesOn o f t before after answer) e (sheet (root.0 y) a (made_met met made) (p ∙ ap answer_of d.answered) d.left))

    pub none_makes : b ≡ false → TheOnlyPair (MakesOn o f t before) before None
    none_makes n = only_makes before None (subst⁻¹ (λ o. MakesOn o f t before before None) e (none (λ x. on_and_off (root.1 x) n) refl refl))

-- tables that pass their own checks, by those of the two together
pub met_makes : (f : Formula) (t : Trace) (before : List ℕ) {after : List ℕ} {answer : MakerAnswer} → own_outcome f t ≡ Accepted
    → TheOnlyPair (MakesOn (meeting_outcome Either f t) f t before) after answer → TheOnlyPair (Makes f t before) after answer
met_makes f t before {after} {answer} e x = subst⁻¹ (λ o. TheOnlyPair (MakesOn (and_then o (meeting_outcome Either f t)) f t before) after answer) e x
