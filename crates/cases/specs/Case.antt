-- The kinds of cases, and what a case says: the answers are those of the services' contracts. Assumes nothing.
use Rattle.std.specs.Prelude.{ℕ, Bool, ◌≡◌, List, [], ◌∷◌, ◌++◌, length}
use Prim.Native.String.{String}
use Rattle.tables.specs.Bytes.{bytes}
use Rattle.tables.specs.declared.refusal.Outcome.{Outcome}
use Rattle.tables.specs.declared.refusal.Outcome.TheVariants.{Accepted}
use Rattle.tables.specs.declared.row.Formula.{Formula}
use Rattle.tables.specs.declared.trace.Activation.{Activation}
use Rattle.tables.specs.declared.trace.Trace.{Trace}
use Rattle.text.specs.Digits.{digits_in}
use Rattle.text.specs.Result.{Result}
use Rattle.text.specs.Result.Result.{accepted, refused}
use Rattle.rule_file.specs.Rule.{parse_rule}
use Rattle.take_file.specs.Take.{parse_take}
use Rattle.sheet_file.specs.Sheet.{parse_sheet}
use Rattle.normal_form.specs.declared.sign.Sign.{Sign}
use Rattle.writing.specs.Answer.{written_answer}
use Rattle.writing.specs.Lent.{overlaid}
use Rattle.writing.specs.declared.answer.Bytes.TheVariants.{Count}
use Rattle.normal_file.specs.Answer.{normal_answer, normal_left, bound_answer}
use Rattle.normal_length.specs.Answer.{length_answer}
use Rattle.judging.specs.declared.verdict.Verdict.{Verdict}
use Rattle.judging.specs.declared.verdict.Answer.{Answer}
use Rattle.judging.specs.declared.verdict.Answer.TheVariants.{Judged}
use Rattle.meeting.specs.Meeting.{pair_outcome}
use Rattle.meeting.specs.declared.Wanted.TheVariants.{Looped, Unlooped}
use Rattle.judging.specs.Answer.{Answers}
use Rattle.judge_text.specs.Answer.{IsText}
use Rattle.run.specs.Cycles.{cycle_outcome}
use Rattle.run.specs.Verdict.{VerdictSoFar}
use Rattle.sheet_maker.specs.Answer.{answer_of, Makes}
use Rattle.sheet_length.specs.Answer.{Measures}
use Rattle.checking.specs.declared.finding.Finding.{Finding}
use Rattle.checking.specs.declared.finding.CheckAnswer.TheVariants.{Checked}
use Rattle.checking.specs.Answer.{check_outcome, CheckAnswers}

-- a file, by its lines
abbrev pub File : Type 0
File = List String

-- its bytes: a line feed (byte 10) ends each line
abbrev pub file_bytes : File → List ℕ
file_bytes [] = []
file_bytes (l ∷ ls) = bytes l ++ (10 ∷ file_bytes ls)

-- a cycle, as its digits, and the verdict when it has been taken
pub record Watched : Type 0 where
  pub digits : String
  pub verdict : Verdict

-- the first file is that of a rule, and the second that of a take where there is one
pub data Case : Type 0 where
  -- the file of its normal form, or of its negation's
  normal_form_case : File → Sign → File → Case
  -- the bound on that file's length, and the length itself
  bound : File → ℕ → Case
  normal_length : File → Sign → ℕ → Case
  -- the verdict on a looped take, and on an open one
  looped opened : File → File → Verdict → Case
  -- the text that `judge` prints
  prints : File → File → File → Case
  -- the sheet that is made, and the length of that, 0 where there is none
  makes : File → File → File → Case
  sheet_length_case : File → File → ℕ → Case
  -- what a check of a sheet finds
  checks : File → File → File → Finding → Case
  -- a run: its cycles, each with the verdict behind it
  runs : File → List Watched → Case

-- accepted, and what was read is so
abbrev pub AcceptedAs : {A : Type 0} → (A → Type 0) → Result A → Type 0
AcceptedAs P (accepted x) = P x
AcceptedAs P (refused e n) = ⊥

-- the file is that of a formula, and the formula is so
abbrev pub OnRule : File → (Formula → Type 0) → Type 0
OnRule rule P = AcceptedAs P (parse_rule (file_bytes rule))

-- the file is that of a trace, and the trace is so
abbrev pub OnTake : File → (Trace → Type 0) → Type 0
OnTake take P = AcceptedAs P (parse_take (file_bytes take))

-- the file is that of an activation table, and the table is so
abbrev pub OnSheet : File → (Activation → Type 0) → Type 0
OnSheet sheet P = AcceptedAs P (parse_sheet (file_bytes sheet))

-- the service's answer, and what it leaves in the buffer, are those of the output `out`
abbrev pub Writes : Formula → Sign → List ℕ → Type 0
Writes f s out = (buf : List ℕ) → (normal_answer f s buf ≡ written_answer out buf) × (normal_left f s buf ≡ overlaid out buf)

-- the contract of a service that judges lets it give this answer, and no other (judging/proofs, `one_answer`)
abbrev pub Answered : (Formula → Trace → Outcome) → File → File → Answer → Type 0
Answered outcome rule take r = OnRule rule (λ f. OnTake take (λ t. Answers (outcome f t) f t r))

-- behind these cycles a run takes the next, gets the verdict, and goes on
abbrev pub Runs : Formula → List (List Bool) → List Watched → Type 0
Runs f cs [] = Unit {0}
Runs f cs (w ∷ ws) =
    let more : List (List Bool) = cs ++ (digits_in (bytes w.digits) ∷ []) in
    (cycle_outcome f.signals (length cs) (bytes w.digits) ≡ Accepted) × VerdictSoFar f more (Judged w.verdict) × Runs f more ws

-- of `prints` too: no other text is the text of `judge` for the two files (proofs, `one_text`); of `sheet_length_case` too: no other length
-- is (sheet_length/proofs, `measures_once`)
abbrev pub Says : Case → Type 0
Says (normal_form_case rule s out) = OnRule rule (λ f. Writes f s (file_bytes out))
Says (bound rule n) = OnRule rule (λ f. bound_answer f ≡ Count n)
Says (normal_length rule s n) = OnRule rule (λ f. length_answer f s ≡ Count n)
Says (looped rule take v) = Answered (pair_outcome Looped) rule take (Judged v)
Says (opened rule take v) = Answered (pair_outcome Unlooped) rule take (Judged v)
Says (prints rule take text) = IsText (parse_rule (file_bytes rule)) (parse_take (file_bytes take)) (file_bytes text)
Says (makes rule take sheet) =
    OnRule rule
    (λ f. OnTake take
    (λ t. (before : List ℕ) → Makes f t before (overlaid (file_bytes sheet) before) (answer_of (written_answer (file_bytes sheet) before))))
Says (sheet_length_case rule take n) = OnRule rule (λ f. OnTake take (λ t. Measures f t (Count n)))
Says (checks rule take sheet x) =
    OnRule rule
    (λ f. OnTake take (λ t. OnSheet sheet (λ a. CheckAnswers (check_outcome f t a) f t a (Checked x))))
Says (runs rule watched) = OnRule rule (λ f. Runs f [] watched)

-- every element is so
pub data Each {A : Type 0} (P : A → Type 0) : List A → Type 0 where
  none : Each P []
  first : {x : A} {xs : List A} → P x → Each P xs → Each P (x ∷ xs)
