-- What the cases on a sheet's length have to compute, and that it makes them so. Assumes nothing.
use Prim.Native.Nat.{ℕ}
use mathlib.Core.Path.{◌≡◌, refl, sym, ap, subst, subst⁻¹}
use lib.ListN.{length}
use Rattle.tables.proofs.Choices.{clash}
use Rattle.tables.proofs.Outcomes.{agree}
use Rattle.tables.specs.declared.refusal.Outcome.TheVariants.{Accepted}
use Rattle.tables.specs.declared.row.Formula.{Formula}
use Rattle.tables.specs.declared.row.NormalForm.{NormalForm}
use Rattle.tables.specs.declared.trace.Activation.{Activation}
use Rattle.tables.specs.declared.trace.Ending.{Ending}
use Rattle.tables.specs.declared.trace.Ending.TheVariants.{Open as NoLoop, Loop}
use Rattle.tables.specs.declared.trace.Trace.{Trace}
use Rattle.rule_file.specs.Valid.{Valid as FormulaValid}
use Rattle.rule_file.proofs.Rules.{rule_written_lem}
use Rattle.take_file.specs.Valid.{Valid as TraceValid}
use Rattle.take_file.proofs.Takes.{take_written_lem}
use Rattle.sheet_file.specs.Written.{written_sheet}
use Rattle.normal_form.specs.declared.sign.Sign.TheVariants.{Plain}
use Rattle.normal_form.specs.Form.{InNormalForm}
use Rattle.normal_form.specs.Numbering.{normal_form}
use Rattle.normal_form.proofs.Ranges.{form_normal}
use Rattle.meeting.specs.Meeting.{pair_outcome, covered_take}
use Rattle.meeting.specs.declared.Wanted.TheVariants.{Either}
use Rattle.judging.specs.Verdict.{SaysOf}
use Rattle.judging.specs.declared.verdict.Verdict.{Verdict}
use Rattle.judging.specs.declared.verdict.Verdict.TheVariants.{Holds, Breaks, Kept, Broken, Open}
use Rattle.judging.proofs.ByBits.{computed_verdict, verdict_computed}
use Rattle.writing.specs.declared.answer.Bytes.TheVariants.{Count}
use Rattle.sheet_maker.specs.Length.{sheet_length}
use Rattle.written_out.proofs.Laws.{covered_itself, covers_itself}
use Rattle.sheet_maker.specs.Made.{SatisfiedIn, IsMade}
use Rattle.sheet_maker.proofs.Demand.{sheet_made}
use Rattle.sheet_length.specs.Answer.{Measured, Measured.sheet, Measured.none, Measures}
use Rattle.sheet_length.proofs.Answers.{made_size}

-- there is a sheet where the verdict is one of these
abbrev pub length_by : ℕ → Verdict → ℕ
length_by n Holds = n
length_by n Kept = n
length_by n Breaks = 0
length_by n Broken = 0
length_by n Open = 0

-- the signals agree, and the length is that of a sheet of the normal form's rows and the take's cycles, if the verdict asks for one
abbrev pub MeasuresTo : ℕ → Formula → Trace → Type 0
MeasuresTo n f t = (f.signals ≡ t.signals) × (length_by (sheet_length (normal_form f Plain).rows t.cycles) (computed_verdict f t) ≡ n)

module _ (f : Formula) (t : Trace) (rule : FormulaValid f) (take : TraceValid t) where
  abbrev g : NormalForm
  g = normal_form f Plain

  -- the sheet that is made
  made : SatisfiedIn f t t.ending → Measured f t (Count (sheet_length g.rows t.cycles))
  made satisfied =
      let ok : InNormalForm g = form_normal f Plain rule.in_range_lem in
      let itself : covered_take f t ≡ t = covered_itself g t in
      let s = sheet_made g t ok take.range.most_cycles take.range.loop (covers_itself g t take.range) in
      let a : Activation = s.0 in
      let is : IsMade g t a = s.1 in
      let size = made_size g t a ok.most_rows take.range.most_cycles is in
      let same : length (written_sheet a) ≡ sheet_length g.rows t.cycles = rw (is.rows, is.cycles) at size in
      sheet satisfied a (subst⁻¹ (λ u. IsMade g u a) itself is) (ap Count (sym same))

  settled : (e : Ending) (v : Verdict) → (SatisfiedIn f t e → Measured f t (Count (sheet_length g.rows t.cycles))) → (¬ SatisfiedIn f t e → Measured f t (Count 0))
      → SaysOf f t e v → ((u : Verdict) → SaysOf f t e u → u ≡ v) → Measured f t (Count (length_by (sheet_length g.rows t.cycles) v))
  settled (Loop l) Holds some lacks s only = some s
  settled (Loop l) Breaks some lacks s only = lacks s
  settled (Loop l) Kept some lacks s only = absurd s
  settled (Loop l) Broken some lacks s only = absurd s
  settled (Loop l) Open some lacks s only = absurd s
  settled NoLoop Holds some lacks s only = absurd s
  settled NoLoop Breaks some lacks s only = absurd s
  settled NoLoop Kept some lacks s only = some s
  settled NoLoop Broken some lacks s only = lacks (λ kept. let q = only Kept kept in clash (cc))
  settled NoLoop Open some lacks s only = lacks s.0

  pub measure_computed : (n : ℕ) → MeasuresTo n f t → Measures f t (Count n)
  measure_computed n (same, e) =
      let tables : pair_outcome Either f t ≡ Accepted = rw (rule_written_lem f rule, take_written_lem t take, sym (agree f.signals t.signals same)) refl in
      let verdict = verdict_computed f t rule.in_range_lem take.range in
      rw (tables, ← e) (settled t.ending (computed_verdict f t) made (λ not. none not refl) verdict.said verdict.only)
