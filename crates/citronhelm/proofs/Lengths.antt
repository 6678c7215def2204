-- How many bytes are always enough for what a service writes: the numbers that include/citronhelm.h gives. Assumes nothing.
use Prim.Native.Nat.{ℕ, ◌+◌, ◌*◌, ◌≤◌, min}
use mathlib.Core.Path.{◌≡◌, subst⁻¹}
use mathlib.Core.Bool.{Bool}
use mathlib.Core.List.{List, [], ◌∷◌, map}
use native.Mathlib.Omega.{arith}
use lib.ListN.{length, take, length-take}
use Rattle.tables.specs.Bit.{bit_at}
use Rattle.tables.specs.Bytes.{bytes}
use Rattle.tables.specs.Place.{tabulate}
use Rattle.tables.specs.Refusal.{number}
use Rattle.tables.specs.declared.refusal.Refusal.{Refusal}
use Rattle.tables.specs.declared.row.Formula.{Formula}
use Rattle.tables.specs.declared.trace.Activation.{Activation}
use Rattle.tables.specs.declared.trace.Ending.{Ending}
use Rattle.tables.specs.declared.trace.Ending.TheVariants.{Open, Loop}
use Rattle.tables.specs.declared.trace.Lane.{Lane}
use Rattle.tables.specs.declared.trace.Trace.{Trace}
use Rattle.tables.proofs.Places.{length_tabulate}
use Rattle.text.specs.Result.{Result}
use Rattle.text.specs.Result.Result.{accepted, refused}
use Rattle.text.specs.Written.{decimal, digits_text, written_body, written_line}
use Rattle.text.proofs.Laws.{text_length, decimal_short, line_length}
use Rattle.rule_file.specs.Valid.{InRange}
use Rattle.take_file.specs.Written.{ending_text}
use Rattle.sheet_file.specs.Written.{rows_of, written_sheet}
use Rattle.normal_form.specs.Numbering.{normal_form}
use Rattle.normal_form.specs.declared.sign.Sign.{Sign}
use Rattle.normal_form.proofs.Ranges.{form_normal}
use Rattle.writing.specs.Refusal.{refusal_text}
use Rattle.step.specs.Step.{output_size}
use Rattle.normal_file.specs.Answer.{output}
use Rattle.normal_file.proofs.Lengths.{output_most}
use Rattle.writing.proofs.Lengths.{decimal_most}
use Rattle.judging.specs.declared.verdict.Verdict.{Verdict}
use Rattle.judging.specs.declared.verdict.Verdict.TheVariants.{Holds, Breaks, Kept, Broken, Open as Undecided}
use Rattle.judge_text.specs.Text.{verdict_text, verdict_word}
use Rattle.meeting.specs.Meeting.{meeting_outcome}
use Rattle.meeting.specs.declared.Wanted.TheVariants.{Either}
use Rattle.tables.specs.declared.refusal.Outcome.{Outcome}
use Rattle.tables.specs.declared.refusal.Outcome.TheVariants.{Accepted, Refused}
use Rattle.writing.specs.Refusal.{Told}
use Rattle.judge_text.specs.Answer.{IsVerdictText, IsText}

-- ---- the text of `judge`: 64 bytes

word_most : (v : Verdict) → length (verdict_word v) ≤ 6
word_most Holds = omega arith
word_most Breaks = omega arith
word_most Kept = omega arith
word_most Broken = omega arith
word_most Undecided = omega arith

ending_most : (e : Ending) → length (ending_text e) ≤ 5
ending_most Open = omega arith
ending_most (Loop l) = decimal_short l

verdict_most : (signals rows cycles : ℕ) (e : Ending) (v : Verdict) → length (verdict_text signals rows cycles e v) ≤ 64
unfolding verdict_text
verdict_most signals rows cycles e v =
    let last : List ℕ = written_line (bytes "verdict") (verdict_word v) [] in
    let fourth : List ℕ = written_line (bytes "loop") (ending_text e) last in
    let third : List ℕ = written_line (bytes "cycles") (decimal cycles) fourth in
    let second : List ℕ = written_line (bytes "rows") (decimal rows) third in
    omega (
      arith,
      line_length (bytes "signals") (decimal signals) second,
      line_length (bytes "rows") (decimal rows) third,
      line_length (bytes "cycles") (decimal cycles) fourth,
      line_length (bytes "loop") (ending_text e) last,
      line_length (bytes "verdict") (verdict_word v) [],
      decimal_short signals,
      decimal_short rows,
      decimal_short cycles,
      ending_most e,
      word_most v,
    )

refusal_most : (r : Refusal) → length (refusal_text r) ≤ 64
unfolding refusal_text
refusal_most r =
    let last : List ℕ = written_line (bytes "line") (decimal r.line) [] in
    let second : List ℕ = written_line (bytes "file") (decimal r.file) last in
    omega (
      arith,
      line_length (bytes "refused") (decimal (number r.reason)) second,
      line_length (bytes "file") (decimal r.file) last,
      line_length (bytes "line") (decimal r.line) [],
      decimal_short (number r.reason),
      decimal_short r.file,
      decimal_short r.line,
    )

short_as : {text u : List ℕ} → text ≡ u → length u ≤ 64 → length text ≤ 64
short_as e h = subst⁻¹ (λ l. length l ≤ 64) e h

met_most : (o : Outcome) (f : Formula) (t : Trace) (text : List ℕ) → Told o (IsVerdictText f t) text → length text ≤ 64
met_most Accepted f t text x = short_as x.2 (verdict_most _ _ _ _ _)
met_most (Refused why) f t text e = short_as e (refusal_most _)

pub text_enough : (p : Result Formula) (q : Result Trace) (text : List ℕ) → IsText p q text → length text ≤ 64
text_enough (refused e n) q text is = short_as is (refusal_most _)
text_enough (accepted f) (refused e n) text is = short_as is (refusal_most _)
text_enough (accepted f) (accepted t) text is = met_most (meeting_outcome Either f t) f t text is

-- ---- the normal form: 2,845 bytes; a step: 384
module _ (f : Formula) (s : Sign) (ok : InRange f) where
  pub normal_enough : length (output f s) ≤ 2845
  normal_enough = omega (arith, output_most f s ok, ok.most_rows)

  pub step_enough : output_size (normal_form f s).rows ≤ 384
  step_enough = omega (arith, (form_normal f s ok).most_rows)

-- ---- a sheet: 33,567 bytes
module _ (cycles : ℕ) (few : cycles ≤ 256) where
  digits : Lane → List Bool
  digits l = tabulate (min cycles 256) (bit_at l)

  rows_most : (ls : List Lane) (k : ℕ) → k + length ls ≤ 1000 → length (written_body 122 digits_text k (map digits ls)) ≤ 262 * length ls
  unfolding written_body
  rows_most [] k h = omega arith
  rows_most (l ∷ ls) k h =
      let rest : List ℕ = written_body 122 digits_text (k + 1) (map digits ls) in
      let size : length (digits_text (digits l)) ≤ 256 = unfold digits in rw (text_length, length_tabulate (min cycles 256) 0 (bit_at l)) (omega arith) in
      omega (arith, line_length (122 ∷ decimal k) (digits_text (digits l)) rest, decimal_most k (omega arith), rows_most ls (k + 1) (omega arith))

pub sheet_enough : (a : Activation) → length a.lanes ≡ 128 → a.rows ≤ 128 → a.cycles ≤ 256 → length (written_sheet a) ≤ 33567
unfolding written_sheet digits
sheet_enough a full rows cycles =
    let body : List ℕ = written_body 122 digits_text 1 (rows_of a) in
    let third : List ℕ = written_line (bytes "cycles") (decimal a.cycles) body in
    let second : List ℕ = written_line (bytes "rows") (decimal a.rows) third in
    let size : length (take a.rows a.lanes) ≡ min a.rows (length a.lanes) = length-take a.rows a.lanes in
    let most : length body ≤ 262 * length (take a.rows a.lanes) = rows_most a.cycles cycles (take a.rows a.lanes) 1 (omega arith) in
    omega (
      arith,
      line_length (bytes "format") (decimal 1) second,
      line_length (bytes "rows") (decimal a.rows) third,
      line_length (bytes "cycles") (decimal a.cycles) body,
      decimal_most 1 (omega arith),
      decimal_most a.rows (omega arith),
      decimal_most a.cycles (omega arith),
    )
