-- What the cases on sheets have to compute, and that it makes them so. Assumes nothing.
use Prim.Native.Nat.{ℕ, zero, suc, ◌+◌, ◌-◌, ◌≤◌, ◌<◌}
use mathlib.Core.Path.{◌≡◌, refl, sym, ap, subst, subst⁻¹, ◌∙◌}
use mathlib.Core.Logic.{◌↔◌, ◌⊎◌, inl, inr}
use mathlib.Core.Bool.{Bool, true, false, ◌&&◌}
use mathlib.Core.List.{List}
use native.Mathlib.Nat.{eq-or-lt_of_le}
use native.Mathlib.Omega.{arith}
use lib.Dec.{eqb}
use lib.ListN.{length}
use borrow.Author.Tests.{eq-eqb}
use Rattle.tables.proofs.Places.{length_tabulate}
use Rattle.tables.proofs.Outcomes.{agree}
use Rattle.tables.specs.declared.refusal.Outcome.TheVariants.{Accepted}
use Rattle.tables.specs.declared.row.Formula.{Formula}
use Rattle.tables.specs.declared.row.NormalForm.{NormalForm}
use Rattle.tables.specs.declared.trace.Activation.{Activation}
use Rattle.tables.specs.declared.trace.Ending.{Ending}
use Rattle.tables.specs.declared.trace.Ending.TheVariants.{Open, Loop}
use Rattle.tables.specs.declared.trace.Trace.{Trace}
use Rattle.text.specs.Result.Result.{refused}
use Rattle.rule_file.specs.Valid.{Valid as FormulaValid}
use Rattle.rule_file.proofs.Rules.{rule_written_lem}
use Rattle.take_file.specs.Valid.{Below as LoopBelow, Valid as TraceValid}
use Rattle.take_file.proofs.Takes.{take_written_lem}
use Rattle.sheet_file.specs.Valid.{Valid as SheetValid}
use Rattle.sheet_file.specs.Written.{written_sheet}
use Rattle.sheet_file.proofs.Sheets.{sheet_written}
use Rattle.meaning.specs.Reading.{classical}
use Rattle.meaning.specs.Trace.{signal_at, unrolled}
use Rattle.meaning.specs.Satisfaction.{table_of, RowTrue}
use Rattle.meaning.proofs.Readings.{On, on_and_off}
use Rattle.meaning.proofs.Truth.{every_cycle}
use Rattle.meaning.proofs.Periodic.{position_first}
use Rattle.meaning.proofs.Evaluation.{bits_of}
use Rattle.meaning.proofs.Nesting.{nested_none}
use Rattle.meaning.proofs.Lasso.{lasso_bits_computed, lasso_truth, covers_unnested}
use Rattle.normal_form.specs.declared.sign.Sign.TheVariants.{Plain}
use Rattle.normal_form.specs.Form.{InNormalForm}
use Rattle.normal_form.specs.Numbering.{normal_form}
use Rattle.normal_form.proofs.Ranges.{form_normal}
use Rattle.normal_form.proofs.FormTables.{form_ordered}
use Rattle.lanes.specs.Truth.{TrueIn}
use Rattle.monitors.specs.Sheet.{activator_at, IsRow}
use Rattle.writing.specs.Answer.{written_answer}
use Rattle.writing.specs.Lent.{overlaid}
use Rattle.judging.specs.declared.verdict.Verdict.TheVariants.{Holds}
use Rattle.judging.specs.Verdict.{SaysOf, VerdictOf}
use Rattle.meeting.specs.Meeting.{pair_outcome, covered_take}
use Rattle.meeting.specs.declared.Wanted.TheVariants.{Either}
use Rattle.judging.proofs.ByBits.{computed_verdict, verdict_computed}
use Rattle.sheet_maker.specs.Made.{SatisfiedIn, Satisfied, IsMade}
use Rattle.sheet_maker.specs.Answer.{answer_of, Answers.sheet, Makes}
use Rattle.checking.specs.declared.finding.Finding.{Finding}
use Rattle.checking.specs.declared.finding.CheckAnswer.TheVariants.{Checked}
use Rattle.written_out.proofs.Laws.{covered_itself}
use Rattle.checking.specs.Finding.{FindingOf}
use Rattle.checking.specs.Answer.{check_outcome, CheckAnswers}
use Rattle.checking.proofs.Answers.{found_answer}
use Rattle.checking.proofs.ByReport.{computed_finding, finding_computed}

-- ---- a check

-- the signals and the sizes agree, and the finding is what is computed
pub record ChecksTo (f : Formula) (t : Trace) (a : Activation) (x : Finding) : Type 0 where
  pub signals : f.signals ≡ t.signals
  pub rows : a.rows ≡ (normal_form f Plain).rows
  pub cycles : a.cycles ≡ t.cycles
  pub found : computed_finding (normal_form f Plain) t a ≡ x

module _ (f : Formula) (t : Trace) (a : Activation) (rule : FormulaValid f) (take : TraceValid t) (sheet : SheetValid a) where
  pub check_computed : (x : Finding) → ChecksTo f t a x → CheckAnswers (check_outcome f t a) f t a (Checked x)
  check_computed x c =
      let sizes : (eqb a.rows (normal_form f Plain).rows && eqb a.cycles t.cycles) ≡ true = rw (eq-eqb a.rows (normal_form f Plain).rows c.rows, eq-eqb a.cycles t.cycles c.cycles) refl in
      let itself : covered_take f t ≡ t = covered_itself (normal_form f Plain) t in
      let checks : check_outcome f t a ≡ Accepted =
      rw (rule_written_lem f rule, take_written_lem t take, sheet_written a sheet, sym (agree f.signals t.signals c.signals), itself, sizes) refl in
      (found_answer f t a (check_outcome f t a) checks x
      (subst⁻¹ (λ u. FindingOf (normal_form f Plain) u a x) itself (subst (FindingOf (normal_form f Plain) t a) c.found (finding_computed (normal_form f Plain) t a take.range)))).so

-- ---- a sheet made, on a looped take

-- f holds of each number below n
abbrev pub all_below : ℕ → (ℕ → Bool) → Bool
all_below zero f = true
all_below (suc n) f = f n && all_below n f

all_below_lem : (n : ℕ) (f : ℕ → Bool) → all_below n f ≡ true → (k : ℕ) → k < n → f k ≡ true
all_below_lem zero f e k h = absurd (omega arith)
all_below_lem (suc n) f e k h = by (f n) refl (let l : k ≤ n = omega arith in eq-or-lt_of_le l) (all_below_lem n f)
  where
    by : (b : Bool) → f n ≡ b → (k ≡ n) ⊎ (k < n) → (all_below n f ≡ true → (k : ℕ) → k < n → f k ≡ true) → f k ≡ true
    by true q (inl p) rec = rw p q
    by true q (inr l) rec = rec (subst (λ b. (b && all_below n f) ≡ true) q e) k l
    by false q d rec = on_and_off (subst (λ b. (b && all_below n f) ≡ true) q e) refl

abbrev pub same_bit : Bool → Bool → Bool
same_bit true b = b
same_bit false true = false
same_bit false false = true

same_bit_lem : (x y : Bool) → same_bit x y ≡ true → x ≡ y
same_bit_lem true y e = sym e
same_bit_lem false true e = on_and_off e refl
same_bit_lem false false e = refl

-- the computed bits of row k at cycle c
abbrev pub lasso_bit : NormalForm → Trace → ℕ → ℕ → ℕ → Bool
lasso_bit g t l k c = bits_of every_cycle (unrolled t l) (λ i. (t.cycles - i) + (t.cycles - l)) (table_of g.places) k c

-- each digit of the sheet is the computed bit
abbrev pub sheet_is : NormalForm → Trace → Activation → ℕ → Bool
sheet_is g t a l = all_below g.rows (λ k. all_below t.cycles (λ c. same_bit (activator_at a c (suc k)) (lasso_bit g t l (suc k) c)))

-- the sheet's digits are what is computed, on a looped take
abbrev pub DigitsIn : NormalForm → Trace → Activation → Ending → Type 0
DigitsIn g t a Open = ⊥
DigitsIn g t a (Loop l) = sheet_is g t a l ≡ true

-- the signals and the sizes agree, the take is looped and holds, and the text is that of the sheet with the computed digits
pub record MakesTo (text : List ℕ) (f : Formula) (t : Trace) (a : Activation) : Type 0 where
  pub signals : f.signals ≡ t.signals
  pub rows : a.rows ≡ (normal_form f Plain).rows
  pub cycles : a.cycles ≡ t.cycles
  pub holds : computed_verdict f t ≡ Holds
  pub digits : DigitsIn (normal_form f Plain) t a t.ending
  pub written : text ≡ written_sheet a

module _ {text : List ℕ} (f : Formula) (t : Trace) (a : Activation) (rule : FormulaValid f) (take : TraceValid t) (valid : SheetValid a) (c : MakesTo text f t a) where
  abbrev g : NormalForm
  g = normal_form f Plain

  told : (e : Ending) → LoopBelow t.cycles e → DigitsIn g t a e → (k i : ℕ) → IsRow g k → i < t.cycles → (activator_at a i k ≡ true) ↔ TrueIn g t e k i
  told Open below d k i h l = absurd d
  told (Loop l) below d k i h b =
      let n : ℕ = t.cycles in
      let ok : InNormalForm g = form_normal f Plain rule.in_range_lem in
      let ordered = form_ordered g ok in
      let covers = covers_unnested n l below (signal_at t) (table_of g.places) (suc g.rows) (λ k h. nested_none (table_of g.places) k) in
      let p : suc (k - 1) ≡ k = omega (arith, h.0) in
      let same = same_bit_lem _ _ (all_below_lem n _ (all_below_lem g.rows _ d (k - 1) (omega (arith, h.0, h.1))) i b) in
      let bit : activator_at a i k ≡ lasso_bit g t l k i = subst (λ j. activator_at a i j ≡ lasso_bit g t l j i) p same in
      let true-there = subst (λ j. RowTrue classical (unrolled t l) (table_of g.places) k i ↔ On (lasso_bit g t l k j)) (position_first n l i b)
      (lasso_truth n l below (signal_at t) (table_of g.places) (suc g.rows) ordered covers _
      (lasso_bits_computed n l below (signal_at t) (table_of g.places) (suc g.rows) ordered covers) classical k (omega (arith, h.1)) i) in
      (λ x. true-there.1 (sym bit ∙ x), λ x. bit ∙ true-there.0 x)

  made : IsMade g (covered_take f t) a
  made = subst⁻¹ (λ u. IsMade g u a) (covered_itself g t) (record {
    places = ap length valid.unused ∙ length_tabulate 128 0 _;
    rows = c.rows;
    cycles = c.cycles;
    digits = told t.ending take.range.loop c.digits;
  })

  satisfied : Satisfied f t
  satisfied = by t.ending (subst (VerdictOf f t) c.holds (verdict_computed f t rule.in_range_lem take.range)).said
    where
      by : (e : Ending) → SaysOf f t e Holds → SatisfiedIn f t e
      by Open s = absurd s
      by (Loop l) s = s

  pub make_computed : (before : List ℕ) → Makes f t before (overlaid text before) (answer_of (written_answer text before))
  make_computed before =
      let tables : pair_outcome Either f t ≡ Accepted = rw (rule_written_lem f rule, take_written_lem t take, sym (agree f.signals t.signals c.signals)) refl in
      rw (c.written, tables) (sheet satisfied a made refl refl)
