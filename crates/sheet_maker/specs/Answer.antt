-- What the sheet maker answers, and what it leaves in the lent buffer. Assumes nothing.
use Rattle.std.specs.Prelude.{ℕ, ◌≡◌, List}
use Rattle.tables.specs.declared.refusal.Outcome.{Outcome}
use Rattle.tables.specs.declared.refusal.Outcome.TheVariants.{Accepted, Refused}
use Rattle.tables.specs.declared.row.Formula.{Formula}
use Rattle.tables.specs.declared.trace.Activation.{Activation}
use Rattle.tables.specs.declared.trace.Trace.{Trace}
use Rattle.sheet_file.specs.Written.{written_sheet}
use Rattle.normal_form.specs.declared.sign.Sign.TheVariants.{Plain}
use Rattle.normal_form.specs.Numbering.{normal_form}
use Rattle.meeting.specs.Meeting.{pair_outcome, covered_take}
use Rattle.meeting.specs.declared.Wanted.TheVariants.{Either}
use Rattle.writing.specs.declared.answer.Bytes.{Bytes}
use Rattle.writing.specs.declared.answer.Bytes.TheVariants.{Count, Refused as BytesRefused}
use Rattle.writing.specs.Answer.{written_answer}
use Rattle.writing.specs.Lent.{overlaid}
use Rattle.sheet_maker.specs.declared.MakerAnswer.{MakerAnswer}
use Rattle.sheet_maker.specs.declared.MakerAnswer.TheVariants.{Written, None, Refused as MakerRefused}
use Rattle.sheet_maker.specs.Made.{Satisfied, IsMade}

-- the answer where a sheet is written: its length, or 10
abbrev pub answer_of : Bytes → MakerAnswer
answer_of (Count n) = Written n
answer_of (BytesRefused why) = MakerRefused why

-- a sheet for the take that it covers, written whole or refused with 10; or "if the rule is not satisfied or not kept, the answer is
-- `none`", and "`none` needs no buffer length and writes nothing"
pub data Answers (f : Formula) (t : Trace) (before after : List ℕ) (answer : MakerAnswer) : Type 0 where
  sheet : Satisfied f t → (a : Activation) → IsMade (normal_form f Plain) (covered_take f t) a
      → answer ≡ answer_of (written_answer (written_sheet a) before)
      → after ≡ overlaid (written_sheet a) before → Answers f t before after answer
  none : ¬ Satisfied f t → answer ≡ None → after ≡ before → Answers f t before after answer

-- by the outcome of the checks; a refused call leaves every byte
abbrev pub MakesOn : Outcome → Formula → Trace → List ℕ → List ℕ → MakerAnswer → Type 0
MakesOn (Refused why) f t before after answer = (answer ≡ MakerRefused why) × (after ≡ before)
MakesOn Accepted f t before after answer = Answers f t before after answer

-- "Files go rule, take"; "Then 7 to 10 in order": of any two tables
abbrev pub Makes : Formula → Trace → List ℕ → List ℕ → MakerAnswer → Type 0
Makes f t before after answer = MakesOn (pair_outcome Either f t) f t before after answer
