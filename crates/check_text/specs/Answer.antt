-- The text of `check_sheet` for three files. Assumes nothing.
use Rattle.std.specs.Prelude.{ℕ, ◌≡◌, List}
use Rattle.tables.specs.Only.{TheOnlyPair}
use Rattle.tables.specs.declared.row.Formula.{Formula}
use Rattle.tables.specs.declared.trace.Activation.{Activation}
use Rattle.tables.specs.declared.trace.Trace.{Trace}
use Rattle.text.specs.Result.{Result}
use Rattle.rule_file.specs.Rule.{parse_rule}
use Rattle.take_file.specs.Take.{parse_take}
use Rattle.rule_and_take.specs.declared.Pair.{Pair}
use Rattle.rule_and_take.specs.File.{OnFile, OnPair, OfRead}
use Rattle.sheet_file.specs.declared.sheet.SheetAnswer.{SheetAnswer}
use Rattle.sheet_file.specs.Sheet.{parse_sheet, sheet_answer}
use Rattle.normal_form.specs.declared.sign.Sign.TheVariants.{Plain}
use Rattle.normal_form.specs.Numbering.{normal_form}
use Rattle.writing.specs.declared.answer.Bytes.{Bytes}
use Rattle.writing.specs.Answer.{Printed}
use Rattle.writing.specs.Refusal.{refusal_text, Told}
use Rattle.checking.specs.declared.finding.Finding.{Finding}
use Rattle.meeting.specs.Meeting.{covered_take}
use Rattle.checking.specs.Finding.{FindingOf}
use Rattle.checking.specs.Answer.{met_outcome}
use Rattle.check_text.specs.Text.{finding_text}

-- the lines with the finding on the normal form
abbrev pub IsFindingText : Formula → Trace → Activation → List ℕ → Type 0
IsFindingText f t a text = (x : Finding) × FindingOf (normal_form f Plain) (covered_take f t) a x × (text ≡ finding_text x)

-- three tables: what is refused of them together, or the finding
abbrev pub IsMetText : Formula → Trace → Activation → List ℕ → Type 0
IsMetText f t a = Told (met_outcome f t a) (IsFindingText f t a)

-- a sheet file that is turned back, or the sheet that was read
abbrev pub IsSheetText : Formula → Trace → Result Activation → List ℕ → Type 0
IsSheetText f t s text = OnFile 3 s (λ why. text ≡ refusal_text why) (λ a. IsMetText f t a text)

-- "Files go rule, take, sheet"
abbrev pub IsCheckText : Result Formula → Result Trace → Result Activation → List ℕ → Type 0
IsCheckText p q s text = OnPair p q (λ why. text ≡ refusal_text why) (λ f t. IsSheetText f t s text)

-- the text goes into the buffer whole, or nothing does
abbrev pub Prints : List ℕ → List ℕ → List ℕ → List ℕ → List ℕ → Bytes → Type 0
Prints rule take sheet = Printed (IsCheckText (parse_rule rule) (parse_take take) (parse_sheet sheet))

-- the answer is what the bytes of some sheet file give
abbrev pub SheetWasRead : SheetAnswer → Type 0
SheetWasRead third = (sheet : List ℕ) × (third ≡ sheet_answer (parse_sheet sheet))

-- what holds of whichever sheet file was read
abbrev pub OfSheet : SheetAnswer → (List ℕ → Type 0) → Type 0
OfSheet third P = (sheet : List ℕ) → third ≡ sheet_answer (parse_sheet sheet) → P sheet

-- what tables that were read, one file after the other, leave in the buffer, and the answer: as whichever files they were read from
abbrev pub PrintsRead : Pair → SheetAnswer → List ℕ → List ℕ → Bytes → Type 0
PrintsRead pair third before after answer =
    OfRead pair (λ rule take. OfSheet third (λ sheet. TheOnlyPair (Prints rule take sheet before) after answer))
