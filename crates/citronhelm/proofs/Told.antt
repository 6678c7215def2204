-- A length that is answered is never taken for a refusal: it is at most what include/citronhelm.h says, which lies far below the highest
-- bit. Assumes nothing.
use Prim.Native.Nat.{ℕ, ◌≤◌, ◌<◌}
use mathlib.Core.Path.{◌≡◌, sym, ◌∙◌}
use mathlib.Core.List.{List, []}
use native.Mathlib.Omega.{arith}
use lib.ListN.{length}
use Rattle.tables.specs.Refusal.{on_outcome}
use Rattle.tables.specs.declared.refusal.Outcome.{Outcome}
use Rattle.tables.specs.declared.refusal.Outcome.TheVariants.{Accepted, Refused}
use Rattle.tables.specs.declared.row.Formula.{Formula}
use Rattle.tables.specs.declared.trace.Activation.{Activation}
use Rattle.tables.specs.declared.trace.Trace.{Trace}
use Rattle.tables.proofs.Choices.{clash}
use Rattle.text.specs.Result.Result.{accepted}
use Rattle.rule_file.specs.Rule.{parse_rule}
use Rattle.rule_file.specs.Valid.{InRange as FormulaInRange}
use Rattle.rule_file.proofs.Rules.{rule_valid}
use Rattle.take_file.specs.Take.{parse_take}
use Rattle.take_file.proofs.Takes.{take_valid}
use Rattle.sheet_file.specs.Written.{written_sheet}
use Rattle.normal_form.specs.declared.sign.Sign.{Sign}
use Rattle.normal_form.specs.declared.sign.Sign.TheVariants.{Plain}
use Rattle.normal_form.specs.Numbering.{normal_form}
use Rattle.normal_form.proofs.Ranges.{form_normal}
use Rattle.meeting.specs.Meeting.{meeting_outcome, covered_take}
use Rattle.meeting.specs.declared.Wanted.TheVariants.{Either}
use Rattle.meeting.proofs.Covered.{accepted_range}
use Rattle.writing.specs.Answer.{written_answer}
use Rattle.writing.specs.declared.answer.Bytes.{Bytes}
use Rattle.writing.specs.declared.answer.Bytes.TheVariants.{Count, Refused as BytesRefused}
use Rattle.writing.proofs.Room.{written_length}
use Rattle.normal_file.specs.Answer.{bound_of, output}
use Rattle.judge_text.specs.Answer.{Prints}
use Rattle.step.specs.Step.{form_answer, form_outcome, output_size}
use Rattle.sheet_maker.specs.declared.MakerAnswer.TheVariants.{Written}
use Rattle.sheet_maker.specs.Made.{IsMade}
use Rattle.sheet_maker.specs.Answer.{Answers, Answers.none, Answers.sheet, MakesOn, answer_of}
use Rattle.sheet_length.specs.Answer.{Measured.sheet, Measured.none, MeasuresOn}
use Rattle.sheet_length.proofs.Lending.{sheet_some}
use Rattle.circuit_writer.specs.Answer.{circuit_text}
use Rattle.circuit_writer.proofs.Lengths.{circuit_most}
use Rattle.simulator.specs.Simulation.{Simulates}
use Rattle.simulator.proofs.Told.{simulated_few}
use Rattle.run_state.specs.State.{state_of}
use Rattle.citronhelm.proofs.Runs.{state_length}
use Rattle.citronhelm.proofs.Lengths.{normal_enough, sheet_enough, step_enough, text_enough}

-- NO LENGTH IS TAKEN FOR A REFUSAL: the highest bit of a length of at most 33,567 is not set
pub length_below : (n : ℕ) → n ≤ 33567 → n < 9223372036854775808
length_below n h = omega arith

-- what was read is in range
module _ (rule : List ℕ) (f : Formula) (read : parse_rule rule ≡ accepted f) where
  fine : FormulaInRange f
  fine = (rule_valid rule f read).in_range_lem

  -- the normal form, and the bound on it
  pub normal_told : (s : Sign) (buf : List ℕ) (n : ℕ) → written_answer (output f s) buf ≡ Count n → n ≤ 2845
  normal_told s buf n q = omega (arith, written_length (output f s) buf q, normal_enough f s fine)

  pub normal_length_told : (s : Sign) → length (output f s) ≤ 2845
  normal_length_told s = normal_enough f s fine

  pub bound_told : bound_of f ≤ 2845
  bound_told = omega (arith, fine.most_rows)

  -- a step
  pub step_told : (pendings activators signals buf : List ℕ) (n : ℕ) → form_answer (normal_form f Plain) pendings activators signals buf ≡ Count n → n ≤ 384
  step_told pendings activators signals buf n answered = by (form_outcome (normal_form f Plain) pendings activators signals (length buf)) answered
    where
      by : (o : Outcome) → on_outcome o BytesRefused (Count (output_size (normal_form f Plain).rows)) ≡ Count n → n ≤ 384
      by Accepted q = let same : output_size (normal_form f Plain).rows ≡ n = cc in omega (arith, step_enough f Plain fine)
      by (Refused why) q = clash (cc)

  -- a circuit
  pub circuit_told : (buf : List ℕ) (n : ℕ) → written_answer (circuit_text f) buf ≡ Count n → n ≤ 9789
  circuit_told buf n q = omega (arith, written_length (circuit_text f) buf q, circuit_most f fine)

  -- a run that begins
  pub begin_told : (buf : List ℕ) (n : ℕ) → written_answer (state_of f []) buf ≡ Count n → n ≡ 1220
  begin_told buf n q = written_length (state_of f []) buf q ∙ state_length f []

  -- a sheet, which has some bytes, so that it is not taken for `none` either; and its length
  module _ (take : List ℕ) (t : Trace) (taken : parse_take take ≡ accepted t) where
    made_short : meeting_outcome Either f t ≡ Accepted → (a : Activation) → IsMade (normal_form f Plain) (covered_take f t) a → length (written_sheet a) ≤ 33567
    made_short met a made =
        let range = accepted_range Either f t (take_valid take t taken).range met in
        sheet_enough a made.places (omega (arith, made.rows, (form_normal f Plain fine).most_rows)) (omega (arith, made.cycles, range.most_cycles))

    sheet_written : meeting_outcome Either f t ≡ Accepted → (before after : List ℕ) (n : ℕ) → Answers f t before after (Written n) → (0 < n) × (n ≤ 33567)
    sheet_written met before after n (sheet s a made answered left) =
        let same : n ≡ length (written_sheet a) = written_length (written_sheet a) before (by (written_answer (written_sheet a) before) answered) in
        (omega (arith, same, sheet_some a), omega (arith, same, made_short met a made))
      where
        by : (b : Bytes) → Written n ≡ answer_of b → b ≡ Count n
        by (Count m) q = cc
        by (BytesRefused why) q = clash (cc)
    sheet_written met before after n (none s answered left) = clash (cc)

    pub sheet_told : (before after : List ℕ) (n : ℕ) (o : Outcome) → meeting_outcome Either f t ≡ o → MakesOn o f t before after (Written n) → (0 < n) × (n ≤ 33567)
    sheet_told before after n Accepted met x = sheet_written met before after n x
    sheet_told before after n (Refused why) met x = let q = x.0 in clash (cc)

    pub sheet_length_told : (n : ℕ) (o : Outcome) → meeting_outcome Either f t ≡ o → MeasuresOn o f t (Count n) → n ≤ 33567
    sheet_length_told n Accepted met (sheet s a made e) = let same : n ≡ length (written_sheet a) = cc in omega (arith, same, made_short met a made)
    sheet_length_told n Accepted met (none s e) = let same : n ≡ 0 = cc in omega arith
    sheet_length_told n (Refused why) met e = clash (cc)

-- the text of `judge`
pub text_told : (rule take before after : List ℕ) (n : ℕ) → Prints rule take before after (Count n) → n ≤ 64
text_told rule take before after n prints =
    omega (
      arith,
      written_length prints.text before (sym prints.delivered.answered),
      text_enough (parse_rule rule) (parse_take take) prints.text prints.is_text,
    )

-- a cycle of a circuit
pub simulated_told : (circuit inputs latches before after : List ℕ) (n : ℕ) → Simulates circuit inputs latches before after (Count n) → n ≤ 32768
simulated_told = simulated_few
