-- A CALLER ASKS FOR THE LENGTH, LENDS SO MANY BYTES, AND IS ANSWERED THE SAME NUMBER (02, request 3), by the numbers that C and Rust get.
-- Assumes nothing.
use Prim.Native.Nat.{ℕ, ◌≤◌, ◌<◌}
use mathlib.Core.Path.{◌≡◌, refl, sym, ap, ◌∙◌}
use mathlib.Core.List.{List}
use native.Mathlib.Decide.{dec_lt}
use native.Mathlib.Omega.{arith}
use lib.ListN.{length}
use Rattle.tables.specs.declared.refusal.Outcome.{Outcome}
use Rattle.tables.specs.declared.refusal.Outcome.TheVariants.{Accepted, Refused}
use Rattle.tables.specs.declared.refusal.Refusal.{Refusal}
use Rattle.tables.specs.declared.row.Formula.{Formula}
use Rattle.tables.specs.declared.trace.Trace.{Trace}
use Rattle.text.specs.Result.{Result}
use Rattle.text.specs.Result.Result.{accepted, refused}
use Rattle.rule_file.specs.Rule.{parse_rule}
use Rattle.rule_file.specs.Valid.{InRange as FormulaInRange}
use Rattle.rule_file.proofs.Rules.{rule_valid}
use Rattle.take_file.specs.Take.{parse_take}
use Rattle.rule_and_take.specs.File.{OnFile, OnPair}
use Rattle.normal_file.specs.Answer.{output as normalText}
use Rattle.meeting.specs.Meeting.{meeting_outcome}
use Rattle.meeting.specs.declared.Wanted.TheVariants.{Either}
use Rattle.sheet_maker.specs.declared.MakerAnswer.{MakerAnswer}
use Rattle.sheet_maker.specs.Answer.{MakesOn}
use Rattle.sheet_length.specs.Answer.{MeasuresOn}
use Rattle.sheet_length.proofs.Answers.{never_refused}
use Rattle.sheet_length.proofs.Lending.{Both, both_on, none_there, refused_there, written_there}
use Rattle.writing.specs.Answer.{too_short}
use Rattle.writing.specs.declared.answer.Bytes.{Bytes}
use Rattle.writing.specs.declared.answer.Bytes.TheVariants.{Count, Refused as BytesRefused}
use Rattle.writing.proofs.Answers.{short_delivers}
use Rattle.writing.proofs.Room.{room_enough}
use Rattle.answer_code.specs.Code.{bytes_code, maker_code, refusal_code, sign_of}
use Rattle.answer_code.proofs.Codes.{code_refused}
use Rattle.citronhelm.specs.Service.{MadeAs, MeasuredAs, Turned, WrittenAs}
use Rattle.citronhelm.proofs.Told.{length_below, normal_length_told, sheet_length_told}

-- what a length service's number r says of a writer's number w for the same files: a refusal is the writer's too, and a length is just
-- how many bytes the writer needs
pub record Lends (r : ℕ) (before after : List ℕ) (w : ℕ) : Type 0 where
  pub refused_alike : 9223372036854775808 ≤ r → (w ≡ r) × (after ≡ before)
  pub enough : r < 9223372036854775808 → r ≤ length before → w ≡ r
  pub fewer : r < 9223372036854775808 → length before < r → (w ≡ refusal_code too_short) × (after ≡ before)

-- both are refused alike
refused_lends : (why : Refusal) {r w : ℕ} {before after : List ℕ} → r ≡ refusal_code why → Turned before after w why → Lends r before after w
refused_lends why e t = record {
  refused_alike = λ h. (t.0 ∙ sym e, t.1);
  enough = λ h l. absurd (omega (arith, code_refused why));
  fewer = λ h l. absurd (omega (arith, code_refused why));
}

-- `citronhelm_normal_length` AND `citronhelm_normal`
pub normal_lends : (rule : List ℕ) (negated : ℕ) (before after : List ℕ) (r w : ℕ)
    → OnFile 1 (parse_rule rule) (λ why. r ≡ refusal_code why) (λ f. r ≡ length (normalText f (sign_of negated)))
    → OnFile 1 (parse_rule rule) (Turned before after w) (λ f. WrittenAs (normalText f (sign_of negated)) before after w)
    → Lends r before after w
normal_lends rule negated before after r w = by (parse_rule rule) refl
  where
    by : (p : Result Formula) → parse_rule rule ≡ p → OnFile 1 p (λ why. r ≡ refusal_code why) (λ f. r ≡ length (normalText f (sign_of negated)))
        → OnFile 1 p (Turned before after w) (λ f. WrittenAs (normalText f (sign_of negated)) before after w) → Lends r before after w
    by (refused e n) read x y = refused_lends (record { reason = e; file = 1; line = n }) x y
    by (accepted f) read x y =
        let text : List ℕ = normalText f (sign_of negated) in
        let short : r < 9223372036854775808 = let h = normal_length_told rule f read (sign_of negated) in length_below r (omega arith) in
        record {
          refused_alike = λ h. absurd (omega arith);
          enough = λ h l. y.0 ∙ ap bytes_code (room_enough text before (omega arith)) ∙ sym x;
          fewer = λ h l.
              let shorter : length before < length text = omega arith in
              let d = short_delivers shorter in
              (y.0 ∙ ap bytes_code (sym d.answered), y.1 ∙ sym d.left);
        }

-- `citronhelm_sheet_length` AND `citronhelm_make_sheet`, whose number is 0 for `none`
module _ (f : Formula) (t : Trace) (fine : FormulaInRange f) (before after : List ℕ) (answer : MakerAnswer) where
  -- a length that is answered
  length_lends : (n : ℕ) (o : Outcome) → n ≤ 33567 → MeasuresOn o f t (Count n) → MakesOn o f t before after answer → Lends n before after (maker_code answer)
  length_lends n o few measures makes =
      let both = both_on f t before after answer n o (λ e. fine) measures makes in
      record {
        refused_alike = λ h. absurd (omega arith);
        enough = λ h l. by both l (dec_lt 0 n);
        fewer = λ h l. let x = refused_there f t before after answer n both l in (ap maker_code x.0, x.1);
      }
    where
      by : Both f t before after answer n → n ≤ length before → Dec (0 < n) → maker_code answer ≡ n
      by both l (yes some) = ap maker_code (written_there f t before after answer n both some l)
      by both l (no few) = let z : n ≡ 0 = omega arith in ap maker_code ((none_there f t before after answer n both).0 z) ∙ sym z

  met_lends : (o : Outcome) (b : Bytes) → ((n : ℕ) → MeasuresOn o f t (Count n) → n ≤ 33567) → MeasuresOn o f t b → MakesOn o f t before after answer → Lends (bytes_code b) before after (maker_code answer)
  met_lends o (Count n) few m x = length_lends n o (few n m) m x
  met_lends (Refused told) (BytesRefused why) few m x = refused_lends told (ap bytes_code m) (ap maker_code x.0, x.1)
  met_lends Accepted (BytesRefused why) few m x = absurd (never_refused m)

pub sheet_lends : (rule take before after : List ℕ) (r w : ℕ)
    → OnPair (parse_rule rule) (parse_take take) (λ why. r ≡ refusal_code why) (λ f t. MeasuredAs f t r)
    → OnPair (parse_rule rule) (parse_take take) (Turned before after w) (λ f t. MadeAs f t before after w)
    → Lends r before after w
sheet_lends rule take before after r w = by (parse_rule rule) (parse_take take) refl refl
  where
    by : (p : Result Formula) (q : Result Trace) → parse_rule rule ≡ p → parse_take take ≡ q
        → OnPair p q (λ why. r ≡ refusal_code why) (λ f t. MeasuredAs f t r) → OnPair p q (Turned before after w) (λ f t. MadeAs f t before after w) → Lends r before after w
    by (refused e n) q read taken x y = refused_lends (record { reason = e; file = 1; line = n }) x y
    by (accepted f) (refused e n) read taken x y = refused_lends (record { reason = e; file = 2; line = n }) x y
    by (accepted f) (accepted t) read taken x y =
        let o : Outcome = meeting_outcome Either f t in
        let fine = (rule_valid rule f read).in_range_lem in
        let lends = met_lends f t fine before after y.answer o x.answer (λ n. sheet_length_told rule f read take t taken n o refl) x.measures.so y.makes.so in
        rw (x.coded, y.coded) lends
