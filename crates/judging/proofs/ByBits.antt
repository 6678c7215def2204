-- The verdict, computed: on a looped take by the bits of the rule as written, on an open one by those of both normal forms
-- (verdict-computed); and that the contract of a service leaves one answer (one_answer). Assumes nothing.
use Prim.Native.Nat.{ℕ, suc, ◌+◌, ◌-◌, ◌<◌}
use mathlib.Core.Path.{◌≡◌, refl, sym, ap, ◌∙◌}
use mathlib.Core.Logic.{◌↔◌}
use mathlib.Core.Bool.{Bool, true, false}
use native.Mathlib.Omega.{arith}
use Rattle.tables.specs.Only.{TheOnly}
use Rattle.tables.specs.Choice.{pick}
use Rattle.tables.specs.declared.refusal.Refusal.{Refusal}
use Rattle.tables.specs.declared.refusal.Outcome.{Outcome}
use Rattle.tables.specs.declared.refusal.Outcome.TheVariants.{Accepted, Refused}
use Rattle.tables.specs.declared.row.Formula.{Formula}
use Rattle.tables.specs.declared.row.NormalForm.{NormalForm}
use Rattle.tables.specs.declared.trace.Ending.{Ending}
use Rattle.tables.specs.declared.trace.Ending.TheVariants.{Open as NoLoop, Loop}
use Rattle.tables.specs.declared.trace.Trace.{Trace}
use Rattle.rule_file.specs.Valid.{InRange as FormulaInRange, Valid as FormulaValid}
use Rattle.rule_file.proofs.Rules.{rule_written_lem}
use Rattle.take_file.specs.Valid.{Below as LoopBelow, InRange as TraceInRange, Valid as TraceValid}
use Rattle.take_file.proofs.Takes.{take_written_lem}
use Rattle.meaning.specs.Reading.{classical}
use Rattle.meaning.specs.Trace.{signal_at, unrolled, position}
use Rattle.meaning.specs.Satisfaction.{table_of, Satisfies}
use Rattle.meaning.proofs.Truth.{every_cycle}
use Rattle.meaning.proofs.Readings.{On, on_and_off}
use Rattle.meaning.proofs.Evaluation.{bits_of, bits_computed}
use Rattle.meaning.proofs.Nesting.{nested_none}
use Rattle.meaning.proofs.Lasso.{lasso_bits_computed, lasso_truth, covers_unnested}
use Rattle.meaning.proofs.StrongTruth.{cycles_below}
use Rattle.meaning.proofs.Prefix.{prefix, to_end, prefix_truth}
use Rattle.normal_form.specs.declared.sign.Sign.{Sign}
use Rattle.normal_form.specs.declared.sign.Sign.TheVariants.{Plain, Negated}
use Rattle.normal_form.specs.Form.{InNormalForm}
use Rattle.normal_form.specs.Numbering.{normal_form}
use Rattle.normal_form.proofs.Ranges.{form_normal}
use Rattle.normal_form.proofs.FormTables.{table_ordered, form_ordered, form_positive}
use Rattle.judging.specs.declared.verdict.Verdict.{Verdict}
use Rattle.judging.specs.declared.verdict.Verdict.TheVariants.{Holds, Breaks, Kept, Broken, Open}
use Rattle.judging.specs.declared.verdict.Answer.{Answer}
use Rattle.judging.specs.declared.verdict.Answer.TheVariants.{Judged, Refused as AnswerRefused}
use Rattle.judging.specs.Verdict.{StronglyTrue, VerdictOf}
use Rattle.meeting.specs.Meeting.{pair_outcome, eight_outcome}
use Rattle.meeting.specs.declared.Wanted.{Wanted}
use Rattle.judging.specs.Answer.{Answers}
use Rattle.tables.proofs.Outcomes.{agree}
use Rattle.judging.proofs.Verdicts.{kept_not_broken, holds_verdict, breaks_verdict, kept_verdict, broken_verdict, open_verdict}

-- ---- the bits

-- the root of a rule as written, at the first cycle of the unrolled lasso: to the end of the recording, and once more round
abbrev pub looped_bit : Formula → Trace → ℕ → Bool
looped_bit f t l = bits_of every_cycle (unrolled t l) (λ i. (t.cycles - i) + (t.cycles - l)) (table_of f.places) f.rows 0

-- the root of a normal form, at the first cycle of the prefix
abbrev pub open_bit : NormalForm → Trace → Bool
open_bit g t = bits_of (cycles_below t.cycles) (prefix t.cycles (signal_at t)) (to_end t.cycles (signal_at t)) (table_of g.places) g.rows 0

module _ (f : Formula) (t : Trace) (fine : FormulaInRange f) where
  looped_is : (l : ℕ) → l < t.cycles → Satisfies classical (unrolled t l) f ↔ On (looped_bit f t l)
  unfolding position
  looped_is l below =
      let ordered = table_ordered f.signals f.rows f.places fine.rows_in_range in
      let covers = covers_unnested t.cycles l below (signal_at t) (table_of f.places) (suc f.rows) (λ k h. nested_none (table_of f.places) k) in
      let computed = lasso_bits_computed t.cycles l below (signal_at t) (table_of f.places) (suc f.rows) ordered covers in
      lasso_truth t.cycles l below (signal_at t) (table_of f.places) (suc f.rows) ordered covers _ computed classical f.rows (omega arith) 0

  open_is : 0 < t.cycles → (s : Sign) → StronglyTrue t (normal_form f s) ↔ On (open_bit (normal_form f s) t)
  open_is some s =
      let g : NormalForm = normal_form f s in
      let ok : InNormalForm g = form_normal f s fine in
      let n : ℕ = t.cycles in
      let w = signal_at t in
      let computed = bits_computed (cycles_below n) (prefix n w) (to_end n w) (table_of g.places) (suc g.rows) (form_ordered g ok) in
      let e = prefix_truth n w (table_of g.places) (suc g.rows) (form_ordered g ok) (form_positive g ok) _ computed classical g.rows (omega arith) 0 in
      (λ x. e.0 (some, x), λ x. (e.1 x).1)

-- ---- the verdict

abbrev pub verdict_in : Formula → Trace → Ending → Verdict
verdict_in f t (Loop l) = pick (looped_bit f t l) Holds Breaks
verdict_in f t NoLoop = pick (open_bit (normal_form f Plain) t) Kept (pick (open_bit (normal_form f Negated) t) Broken Open)

abbrev pub computed_verdict : Formula → Trace → Verdict
computed_verdict f t = verdict_in f t t.ending

module _ (f : Formula) (t : Trace) (fine : FormulaInRange f) (range : TraceInRange t) where
  -- WHAT IS COMPUTED IS THE VERDICT
  pub verdict_computed : VerdictOf f t (computed_verdict f t)
  verdict_computed = by t.ending refl range.loop
    where
      looped : (l : ℕ) → t.ending ≡ Loop l → (b : Bool) → Satisfies classical (unrolled t l) f ↔ On b → VerdictOf f t (pick b Holds Breaks)
      looped l e true is = holds_verdict f t l e (is.1 refl)
      looped l e false is = breaks_verdict f t l e (λ x. on_and_off (is.0 x) refl)

      prefixed : t.ending ≡ NoLoop → (b c : Bool) → StronglyTrue t (normal_form f Plain) ↔ On b → StronglyTrue t (normal_form f Negated) ↔ On c → VerdictOf f t (pick b Kept (pick c Broken Open))
      prefixed e true c p q = kept_verdict f t e (kept_not_broken f t fine range.some_cycles) (p.1 refl)
      prefixed e false true p q = broken_verdict f t e (kept_not_broken f t fine range.some_cycles) (q.1 refl)
      prefixed e false false p q = open_verdict f t e (kept_not_broken f t fine range.some_cycles) (λ x. on_and_off (p.0 x) refl) (λ x. on_and_off (q.0 x) refl)

      by : (ending : Ending) → t.ending ≡ ending → LoopBelow t.cycles ending → VerdictOf f t (verdict_in f t ending)
      by (Loop l) e below = looped l e _ (looped_is f t fine l below)
      by NoLoop e below = prefixed e _ _ (open_is f t fine range.some_cycles Plain) (open_is f t fine range.some_cycles Negated)

-- ---- the answer, to tables that were read

module _ (f : Formula) (t : Trace) (rule : FormulaValid f) (take : TraceValid t) (same : f.signals ≡ t.signals) where
  -- a service for this kind of take gives the computed verdict
  pub answered : (wanted : Wanted) → eight_outcome wanted t.ending ≡ Accepted → Answers (pair_outcome wanted f t) f t (Judged (computed_verdict f t))
  answered wanted e =
      rw (rule_written_lem f rule, take_written_lem t take, sym (agree f.signals t.signals same), e)
      (computed_verdict f t, refl, verdict_computed f t rule.in_range_lem take.range)

-- THE CONTRACT LEAVES ONE ANSWER
pub one_answer : (o : Outcome) (f : Formula) (t : Trace) (r s : Answer) → Answers o f t r → Answers o f t s → r ≡ s
one_answer (Refused why) f t r s x y = x ∙ sym y
one_answer Accepted f t r s (v, e, is) (u, d, other) = e ∙ ap Judged (other.only v is.said) ∙ sym d

only_answer : (o : Outcome) (f : Formula) (t : Trace) (r : Answer) → Answers o f t r → TheOnly (Answers o f t) r
only_answer o f t r x = record { so = x; only = λ s y. one_answer o f t s r y x }

module _ (f : Formula) (t : Trace) where
  pub only_refused : (why : Refusal) → TheOnly (Answers (Refused why) f t) (AnswerRefused why)
  only_refused why = only_answer (Refused why) f t (AnswerRefused why) refl

  pub only_judged : (v : Verdict) → VerdictOf f t v → TheOnly (Answers Accepted f t) (Judged v)
  only_judged v is = only_answer Accepted f t (Judged v) (v, refl, is)
