-- DEMAND 3 ON THE SHEET MAKER: "A looped take has a passing activator sheet of its own cycles and loop exactly when its endless
-- repetition satisfies the rule. An open take has a passing sheet, with nothing failed and nothing pending after its last cycle, exactly
-- when it is kept, and then every endless continuation satisfies the rule. Refusals aside, we write a passing sheet exactly when there
-- is one and answer `none` otherwise". Assumes nothing.
use Prim.Native.Nat.{ℕ, suc, ◌-◌, ◌≤◌, ◌<◌}
use mathlib.Core.Path.{◌≡◌, refl, sym, ap, subst, subst⁻¹, ◌∙◌}
use mathlib.Core.Logic.{◌↔◌}
use mathlib.Core.Bool.{Bool, true}
use mathlib.Core.List.{List, []}
use native.Mathlib.Omega.{arith}
use Rattle.tables.specs.Bit.{bit_at, lane_of}
use Rattle.tables.specs.Place.{tabulate}
use Rattle.tables.proofs.Places.{length_tabulate, get_d_tabulate}
use Rattle.tables.proofs.Bits.{bit_of_lane}
use Rattle.tables.specs.declared.refusal.Outcome.TheVariants.{Accepted}
use Rattle.tables.specs.declared.row.Formula.{Formula}
use Rattle.tables.specs.declared.row.NormalForm.{NormalForm}
use Rattle.tables.specs.declared.trace.Activation.{Activation}
use Rattle.tables.specs.declared.trace.Ending.{Ending}
use Rattle.tables.specs.declared.trace.Ending.TheVariants.{Open, Loop}
use Rattle.tables.specs.declared.trace.Lane.{Lane}
use Rattle.tables.specs.declared.trace.Trace.{Trace}
use Rattle.tables.proofs.Outcomes.{both_accept}
use Rattle.rule_file.specs.Valid.{InRange as FormulaInRange}
use Rattle.take_file.specs.Valid.{Below as LoopBelow, InRange as TraceInRange}
use Rattle.text.specs.Result.Result.{accepted}
use Rattle.sheet_file.specs.Sheet.{parse_sheet}
use Rattle.sheet_file.specs.Written.{written_sheet}
use Rattle.meaning.specs.Reading.{classical}
use Rattle.meaning.specs.Trace.{InfiniteTrace, unrolled, Extends}
use Rattle.meaning.specs.Satisfaction.{Satisfies}
use Rattle.normal_form.specs.declared.sign.Sign.TheVariants.{Plain}
use Rattle.normal_form.specs.Form.{InNormalForm}
use Rattle.normal_form.specs.Numbering.{normal_form}
use Rattle.normal_form.proofs.Ranges.{form_normal}
use Rattle.normal_form.proofs.FormTables.{form_operands, form_positive}
use Rattle.normal_form.proofs.Demand.{satisfied_alike}
use Rattle.lanes.specs.Truth.{TrueIn}
use Rattle.truth.proofs.Told.{told_bits}
use Rattle.judging.specs.Verdict.{IsKept}
use Rattle.meeting.specs.Meeting.{meeting_outcome, own_outcome, pair_outcome, covered_take, covered_loop}
use Rattle.meeting.specs.declared.Wanted.TheVariants.{Either}
use Rattle.judging.proofs.Verdicts.{kept_continued}
use Rattle.monitors.specs.Sheet.{activator_at, Fits, IsRow, PassesLooped, PassesOpen, PassesIn, Passes}
use Rattle.meaning.specs.Covers.{CoversIn, CoversForm}
use Rattle.written_out.specs.Covered.{CoverableIn, Coverable}
use Rattle.written_out.proofs.Laws.{coverable, covered_itself}
use Rattle.meeting.proofs.Covered.{met_coverable, HaveMet, met_range, met_covers, met_open, met_ending}
use Rattle.monitors.proofs.Facts.{looped_passing_true, looped_true_passing, open_passing_true, open_true_passing}
use Rattle.writing.specs.declared.answer.Bytes.{Bytes}
use Rattle.writing.specs.declared.answer.Bytes.TheVariants.{Count, Refused as BytesRefused}
use Rattle.writing.specs.Answer.{written_answer}
use Rattle.writing.specs.Lent.{overlaid}
use Rattle.sheet_maker.specs.declared.MakerAnswer.{MakerAnswer}
use Rattle.sheet_maker.specs.declared.MakerAnswer.TheVariants.{Written, None, Refused as MakerRefused}
use Rattle.sheet_maker.specs.Made.{SatisfiedIn, Satisfied, IsMade}
use Rattle.sheet_maker.specs.Answer.{answer_of, Answers, Answers.sheet, Answers.none, MakesOn, Makes}
use Rattle.sheet_maker.proofs.Sheets.{satisfied_covered}
use Rattle.sheet_maker.proofs.ReadBack.{made_read}

-- ---- there is a sheet of the rows' truth

module _ (g : NormalForm) (t : Trace) (ok : InNormalForm g) (most : t.cycles ≤ 256) where
  -- the sheet of bits
  sheet_of : (ℕ → ℕ → Bool) → Activation
  sheet_of bits = record { rows = g.rows; cycles = t.cycles; lanes = tabulate 128 (λ i. lane_of (bits (suc i))) }

  sheet_bit : (bits : ℕ → ℕ → Bool) (k c : ℕ) → IsRow g k → c < t.cycles → activator_at (sheet_of bits) c k ≡ bits k c
  unfolding sheet_of
  sheet_bit bits k c h b =
      let e : suc (k - 1) ≡ k = omega (arith, h.0) in
      ap (λ (l : Lane). bit_at l c) (get_d_tabulate 128 (λ i. lane_of (bits (suc i))) (k - 1) (record { words = [] }) (omega (arith, h.0, h.1, ok.most_rows)))
      ∙ bit_of_lane (bits (suc (k - 1))) c (omega arith) ∙ ap (λ j. bits j c) e

  pub sheet_made : LoopBelow t.cycles t.ending → CoversForm g t → (a : Activation) × IsMade g t a
  unfolding sheet_of
  sheet_made below covers =
      let x = told_bits g t ok t.ending below covers in (
        sheet_of x.0,
        record {
          places = length_tabulate 128 0 (λ i. lane_of (x.0 (suc i)));
          rows = refl;
          cycles = refl;
          digits = λ k c h b.
              let e = sheet_bit x.0 k c h b in
              let y = x.1 k (omega (arith, h.1)) c b in
              (λ on. y.1 (sym e ∙ on), λ true-there. e ∙ y.0 true-there);
        },
      )

-- ---- sheets that pass

-- some sheet for the rule's normal form and the take's own cycles and loop passes: those of the take that it covers
abbrev pub HasSheet : Formula → Trace → Type 0
HasSheet f t = (a : Activation) × Fits (normal_form f Plain) (covered_take f t) a × Passes (normal_form f Plain) (covered_take f t) a

-- a take that covers the normal form
module _ (f : Formula) (t : Trace) (fine : FormulaInRange f) (range : TraceInRange t) (covers : CoversForm (normal_form f Plain) t) where
  form : NormalForm
  form = normal_form f Plain

  normal : InNormalForm form
  unfolding form
  normal = form_normal f Plain fine

  passes_in : (a : Activation) (ending : Ending) → LoopBelow t.cycles ending → CoversIn form t ending
      → ((k : ℕ) → IsRow form k → (c : ℕ) → c < t.cycles → (activator_at a c k ≡ true) ↔ TrueIn form t ending k c) → SatisfiedIn f t ending → PassesIn form t ending a
  unfolding form
  passes_in a Open below late tells x = open_true_passing form (form_operands form normal) (form_positive form normal) normal.some_rows t a range.some_cycles classical tells x
  passes_in a (Loop l) below late tells x = looped_true_passing form (form_operands form normal) (form_positive form normal) normal.some_rows t a l below late classical tells ((satisfied_alike f fine (unrolled t l)).1 x)

  sheet_passes : (a : Activation) → Satisfied f t → IsMade (normal_form f Plain) t a → Passes (normal_form f Plain) t a
  unfolding form
  sheet_passes a x made = passes_in a t.ending range.loop covers (λ k h c b. made.digits k c h b) x

  satisfied_in : (a : Activation) (ending : Ending) → LoopBelow t.cycles ending → PassesIn form t ending a → SatisfiedIn f t ending
  unfolding form
  satisfied_in a Open below p = open_passing_true form (form_operands form normal) (form_positive form normal) normal.some_rows t a range.some_cycles p classical
  satisfied_in a (Loop l) below p = (satisfied_alike f fine (unrolled t l)).0 (looped_passing_true form (form_operands form normal) (form_positive form normal) normal.some_rows t a l below p classical)

  sheet_satisfied : (a : Activation) → Passes (normal_form f Plain) t a → Satisfied f t
  unfolding form
  sheet_satisfied a p = satisfied_in a t.ending range.loop p

  made_sheet : Satisfied f t → (a : Activation) × Fits (normal_form f Plain) t a × Passes (normal_form f Plain) t a
  unfolding form
  made_sheet x =
      let s = sheet_made form t normal range.most_cycles range.loop covers in
      (s.0, record { rows = s.1.rows; cycles = s.1.cycles }, sheet_passes s.0 x s.1)

-- a rule and a take that are not refused for want of a take to cover
module _ (f : Formula) (t : Trace) (fine : FormulaInRange f) (range : TraceInRange t) (able : Coverable (normal_form f Plain) t) where
  met : HaveMet f t (normal_form f Plain) (covered_take f t)
  met = record { fine = fine; range = range; able = able; form = refl; take = refl }

  -- THE SHEET MADE PASSES
  pub made_passes : (a : Activation) → Satisfied f t → IsMade (normal_form f Plain) (covered_take f t) a → Passes (normal_form f Plain) (covered_take f t) a
  made_passes a x = sheet_passes f (covered_take f t) fine (met_range met) (met_covers met) a ((satisfied_covered met).1 x)

  pub passing_satisfied : (a : Activation) → Passes (normal_form f Plain) (covered_take f t) a → Satisfied f t
  passing_satisfied a p = (satisfied_covered met).0 (sheet_satisfied f (covered_take f t) fine (met_range met) (met_covers met) a p)

  -- THERE IS A PASSING SHEET EXACTLY WHEN THE RULE IS SATISFIED, OR KEPT
  pub sheet_exists : HasSheet f t ↔ Satisfied f t
  sheet_exists = (λ x. passing_satisfied x.0 x.2, λ x. made_sheet f (covered_take f t) fine (met_range met) (met_covers met) ((satisfied_covered met).1 x))

  -- of a looped take: a passing sheet for the cycles and the loop of the take that it covers
  pub covered_sheet : (l : ℕ) → t.ending ≡ Loop l
      → ((a : Activation) × Fits (normal_form f Plain) (covered_take f t) a × PassesLooped (normal_form f Plain) (covered_take f t) (covered_loop f t l) a) ↔ Satisfies classical (unrolled t l) f
  covered_sheet l e =
      subst (λ y. ((a : Activation) × Fits (normal_form f Plain) (covered_take f t) a × PassesIn (normal_form f Plain) (covered_take f t) y a) ↔ Satisfies classical (unrolled t l) f) (met_ending met l e)
      (subst (λ y. HasSheet f t ↔ SatisfiedIn f t y) e sheet_exists)

module _ (f : Formula) (t : Trace) (fine : FormulaInRange f) (range : TraceInRange t) where
  -- "A looped take has a passing activator sheet of its own cycles and loop exactly when its endless repetition satisfies the rule.":
  -- the take that a sheet covers is the take itself
  pub looped_sheet : (l : ℕ) → t.ending ≡ Loop l → ((a : Activation) × Fits (normal_form f Plain) t a × PassesLooped (normal_form f Plain) t l a) ↔ Satisfies classical (unrolled t l) f
  looped_sheet l e =
      subst (λ y. ((a : Activation) × Fits (normal_form f Plain) t a × PassesIn (normal_form f Plain) t y a) ↔ SatisfiedIn f t y) e
      (subst (λ u. ((a : Activation) × Fits (normal_form f Plain) u a × Passes (normal_form f Plain) u a) ↔ Satisfied f t) (covered_itself (normal_form f Plain) t)
      (sheet_exists f t fine range (coverable (normal_form f Plain) t range)))

  -- "An open take has a passing sheet, with nothing failed and nothing pending after its last cycle, exactly when it is kept,
  module _ (e : t.ending ≡ Open) where
    pub open_sheet : ((a : Activation) × Fits (normal_form f Plain) t a × PassesOpen (normal_form f Plain) t a) ↔ IsKept f t
    open_sheet =
        let able = subst⁻¹ (CoverableIn (normal_form f Plain) t) e tt in
        subst (λ y. ((a : Activation) × Fits (normal_form f Plain) t a × PassesIn (normal_form f Plain) t y a) ↔ SatisfiedIn f t y) e
        (subst (λ u. ((a : Activation) × Fits (normal_form f Plain) u a × Passes (normal_form f Plain) u a) ↔ Satisfied f t) (met_open (met f t fine range able) e) (sheet_exists f t fine range able))

    -- and then every endless continuation satisfies the rule."
    pub open_sheet_continued : f.signals ≡ t.signals → (a : Activation) → Fits (normal_form f Plain) t a → PassesOpen (normal_form f Plain) t a → (w : InfiniteTrace) → Extends w t → Satisfies classical w f
    open_sheet_continued same a fits p = kept_continued f t fine range.some_cycles same (open_sheet.0 (a, fits, p))

-- ---- what the maker does

-- the answer and the bytes are those of a text that is read as a passing sheet: its length, or 10 where the buffer is shorter
pub record WritesPassing (f : Formula) (t : Trace) (before after : List ℕ) (answer : MakerAnswer) : Type 0 where
  pub text : List ℕ
  pub sheet : Activation
  pub reads : parse_sheet text ≡ accepted sheet
  pub fits : Fits (normal_form f Plain) (covered_take f t) sheet
  pub passes : Passes (normal_form f Plain) (covered_take f t) sheet
  pub answered : answer ≡ answer_of (written_answer text before)
  pub left : after ≡ overlaid text before

IsNone : MakerAnswer → Type 0
IsNone (Written n) = ⊥
IsNone None = Unit {0}
IsNone (MakerRefused why) = ⊥

pub never_none : (b : Bytes) → answer_of b ≡ None → ⊥
unfolding IsNone
never_none (Count n) e = subst⁻¹ IsNone e tt
never_none (BytesRefused why) e = subst⁻¹ IsNone e tt

module _ (f : Formula) (t : Trace) (fine : FormulaInRange f) (range : TraceInRange t) (able : Coverable (normal_form f Plain) t) (before after : List ℕ) (answer : MakerAnswer) where
  writes : HasSheet f t → Answers f t before after answer → WritesPassing f t before after answer
  writes x (sheet s a made p q) =
      let b = made_read (normal_form f Plain) (covered_take f t) a (form_normal f Plain fine) (met_range (met f t fine range able)) made in
      record {
        text = written_sheet a;
        sheet = b.0;
        reads = b.1;
        fits = record { rows = b.2.rows; cycles = b.2.cycles };
        passes = made_passes f t fine range able b.0 s b.2;
        answered = p;
        left = q;
      }
  writes x (none s p q) = absurd (s ((sheet_exists f t fine range able).0 x))

  silent : ¬ HasSheet f t → Answers f t before after answer → (answer ≡ None) × (after ≡ before)
  silent n (sheet s a made p q) = absurd (n ((sheet_exists f t fine range able).1 s))
  silent n (none s p q) = (p, q)

  said : Answers f t before after answer → answer ≡ None → ¬ HasSheet f t
  said (sheet s a made p q) e x = never_none (written_answer (written_sheet a) before) (sym p ∙ e)
  said (none s p q) e x = s ((sheet_exists f t fine range able).0 x)

-- "Refusals aside, we write
module _ (f : Formula) (t : Trace) (fine : FormulaInRange f) (range : TraceInRange t) (before after : List ℕ) (answer : MakerAnswer)
    (fine-pair : pair_outcome Either f t ≡ Accepted) (makes : Makes f t before after answer) where
  able : Coverable (normal_form f Plain) t
  able = met_coverable Either f t range (both_accept (own_outcome f t) (meeting_outcome Either f t) fine-pair).1

  answers : Answers f t before after answer
  answers = subst (λ o. MakesOn o f t before after answer) fine-pair makes

  -- a passing sheet exactly when there is one
  pub maker_writes : HasSheet f t ↔ WritesPassing f t before after answer
  maker_writes = (λ x. writes f t fine range able before after answer x answers, λ w. (w.sheet, w.fits, w.passes))

  -- and answer `none` otherwise";
  pub maker_none : (¬ HasSheet f t) ↔ (answer ≡ None)
  maker_none = (λ n. (silent f t fine range able before after answer n answers).0, said f t fine range able before after answer answers)

  -- every byte then stays
  pub maker_leaves : answer ≡ None → after ≡ before
  maker_leaves e = (silent f t fine range able before after answer (maker_none.1 e) answers).1
