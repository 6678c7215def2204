-- The length service's answers by their cases, and that there is one. Assumes nothing.
use Prim.Native.Nat.{ℕ, ◌≤◌}
use mathlib.Core.Path.{◌≡◌, refl, sym, ap, subst⁻¹, ◌∙◌}
use mathlib.Core.Logic.{◌↔◌}
use mathlib.Core.Bool.{Bool, true, false}
use native.Mathlib.Omega.{arith}
use lib.ListN.{length}
use Rattle.tables.specs.Only.{TheOnly}
use Rattle.tables.specs.Refusal.{and_then}
use Rattle.tables.specs.declared.refusal.Refusal.{Refusal}
use Rattle.tables.specs.declared.refusal.Outcome.{Outcome}
use Rattle.tables.specs.declared.refusal.Outcome.TheVariants.{Accepted, Refused}
use Rattle.tables.specs.declared.row.Formula.{Formula}
use Rattle.tables.specs.declared.row.NormalForm.{NormalForm}
use Rattle.tables.specs.declared.trace.Activation.{Activation}
use Rattle.tables.specs.declared.trace.Trace.{Trace}
use Rattle.tables.proofs.Choices.{clash}
use Rattle.rule_file.specs.Valid.{InRange as FormulaInRange}
use Rattle.sheet_file.specs.Written.{written_sheet}
use Rattle.meaning.proofs.Readings.{on_and_off}
use Rattle.normal_form.specs.declared.sign.Sign.TheVariants.{Plain}
use Rattle.normal_form.specs.Numbering.{normal_form}
use Rattle.normal_form.proofs.Ranges.{form_normal}
use Rattle.monitors.specs.Sheet.{activator_at}
use Rattle.meeting.proofs.Covered.{HaveMet, met_form, met_range}
use Rattle.meeting.specs.Meeting.{own_outcome, meeting_outcome, covered_take}
use Rattle.meeting.specs.declared.Wanted.TheVariants.{Either}
use Rattle.sheet_maker.specs.Length.{sheet_length}
use Rattle.sheet_maker.specs.Made.{Satisfied, IsMade}
use Rattle.sheet_maker.proofs.Lengths.{sheet_size}
use Rattle.sheet_maker.proofs.Sheets.{made_met, root_set, made_unique}
use Rattle.writing.specs.declared.answer.Bytes.{Bytes}
use Rattle.writing.specs.declared.answer.Bytes.TheVariants.{Count, Refused as BytesRefused}
use Rattle.sheet_length.specs.Answer.{Measured, Measured.sheet, Measured.none, MeasuresOn, Measures}

-- the file of a sheet that is made has the length that its rows and cycles give
pub made_size : (g : NormalForm) (t : Trace) (a : Activation) → g.rows ≤ 128 → t.cycles ≤ 256 → IsMade g t a → length (written_sheet a) ≡ sheet_length a.rows a.cycles
made_size g t a rows cycles made = sheet_size a made.places (omega (arith, made.rows)) (omega (arith, made.cycles))

-- a length that is measured is no refusal
pub never_refused : {f : Formula} {t : Trace} {why : Refusal} → Measured f t (BytesRefused why) → ⊥
never_refused (sheet s a made p) = clash (cc)
never_refused (none s p) = clash (cc)

-- THE CONTRACT FIXES THE ANSWER
module _ (f : Formula) (t : Trace) (answer reply : Bytes) where
  measured_once : FormulaInRange f → Measured f t answer → Measured f t reply → answer ≡ reply
  measured_once fine (sheet s a made p) (sheet r b again q) =
      p ∙ ap (λ x. Count (length x)) (made_unique (normal_form f Plain) (covered_take f t) a b (form_normal f Plain fine).most_rows made again) ∙ sym q
  measured_once fine (sheet s a made p) (none r q) = absurd (r s)
  measured_once fine (none s p) (sheet r b again q) = absurd (s r)
  measured_once fine (none s p) (none r q) = p ∙ sym q

  -- whatever checks come before, if what they accept is in range
  pub measures_once : (o : Outcome) → (o ≡ Accepted → FormulaInRange f) → MeasuresOn o f t answer → MeasuresOn o f t reply → answer ≡ reply
  measures_once Accepted fine x y = measured_once (fine refl) x y
  measures_once (Refused why) fine x y = x ∙ sym y

module _ (o : Outcome) (f : Formula) (t : Trace) (fine : o ≡ Accepted → FormulaInRange f) where
  only_measures : (answer : Bytes) → MeasuresOn o f t answer → TheOnly (MeasuresOn o f t) answer
  only_measures answer x = record { so = x; only = λ reply y. measures_once f t reply answer o fine y x }

  pub refused_measures : {why : Refusal} → o ≡ Refused why → TheOnly (MeasuresOn o f t) (BytesRefused why)
  refused_measures {why} e = only_measures (BytesRefused why) (subst⁻¹ (λ o. MeasuresOn o f t (BytesRefused why)) e refl)

  module _ {g : NormalForm} {u : Trace} (met : HaveMet f t g u) {a : Activation} (made : IsMade g u a) (e : o ≡ Accepted) {b : Bool} (bit : b ≡ activator_at a 0 a.rows) where
    root : (b ≡ true) ↔ Satisfied f t
    root = root_set met made bit

    pub sheet_measures : b ≡ true → {n : ℕ} → n ≡ sheet_length a.rows a.cycles → TheOnly (MeasuresOn o f t) (Count n)
    sheet_measures y {n} p =
        let size = made_size g u a (met_form met).most_rows (met_range met).most_cycles made in
        only_measures (Count n) (subst⁻¹ (λ o. MeasuresOn o f t (Count n)) e (sheet (root.0 y) a (made_met met made) (ap Count (p ∙ sym size))))

    pub none_measures : b ≡ false → TheOnly (MeasuresOn o f t) (Count 0)
    none_measures n = only_measures (Count 0) (subst⁻¹ (λ o. MeasuresOn o f t (Count 0)) e (none (λ x. on_and_off (root.1 x) n) refl))

-- tables that pass their own checks, by those of the two together
pub met_measures : (f : Formula) (t : Trace) {answer : Bytes} → own_outcome f t ≡ Accepted → TheOnly (MeasuresOn (meeting_outcome Either f t) f t) answer → TheOnly (Measures f t) answer
met_measures f t {answer} e x = subst⁻¹ (λ o. TheOnly (MeasuresOn (and_then o (meeting_outcome Either f t)) f t) answer) e x
