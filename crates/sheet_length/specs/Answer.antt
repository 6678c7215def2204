-- What the length service of the sheet answers (02, request 3). Assumes nothing.
use Rattle.std.specs.Prelude.{◌≡◌, length}
use Rattle.tables.specs.declared.refusal.Outcome.{Outcome}
use Rattle.tables.specs.declared.refusal.Outcome.TheVariants.{Accepted, Refused}
use Rattle.tables.specs.declared.row.Formula.{Formula}
use Rattle.tables.specs.declared.trace.Activation.{Activation}
use Rattle.tables.specs.declared.trace.Trace.{Trace}
use Rattle.sheet_file.specs.Written.{written_sheet}
use Rattle.normal_form.specs.declared.sign.Sign.TheVariants.{Plain}
use Rattle.normal_form.specs.Numbering.{normal_form}
use Rattle.meeting.specs.Meeting.{pair_outcome, covered_take}
use Rattle.meeting.specs.declared.Wanted.TheVariants.{Either}
use Rattle.sheet_maker.specs.Made.{Satisfied, IsMade}
use Rattle.writing.specs.declared.answer.Bytes.{Bytes}
use Rattle.writing.specs.declared.answer.Bytes.TheVariants.{Count, Refused as BytesRefused}

-- "exactly the bytes .. of the sheet for a rule and take": how many the file of the sheet made has; "Where the sheet's answer is `none`,
-- its length is 0"
pub data Measured (f : Formula) (t : Trace) (answer : Bytes) : Type 0 where
  sheet : Satisfied f t → (a : Activation) → IsMade (normal_form f Plain) (covered_take f t) a
      → answer ≡ Count (length (written_sheet a)) → Measured f t answer
  none : ¬ Satisfied f t → answer ≡ Count 0 → Measured f t answer

-- by the outcome of the checks, which are the sheet maker's
abbrev pub MeasuresOn : Outcome → Formula → Trace → Bytes → Type 0
MeasuresOn (Refused why) f t answer = answer ≡ BytesRefused why
MeasuresOn Accepted f t answer = Measured f t answer

-- of any two tables
abbrev pub Measures : Formula → Trace → Bytes → Type 0
Measures f t answer = MeasuresOn (pair_outcome Either f t) f t answer
