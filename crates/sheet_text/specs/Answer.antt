-- The text of `sheet` for two files. Assumes nothing.
use Rattle.std.specs.Prelude.{ℕ, ◌≡◌, List, [], ◌∷◌, ◌++◌}
use Rattle.tables.specs.Bytes.{bytes}
use Rattle.tables.specs.Only.{TheOnlyPair}
use Rattle.tables.specs.declared.row.Formula.{Formula}
use Rattle.tables.specs.declared.trace.Activation.{Activation}
use Rattle.tables.specs.declared.trace.Trace.{Trace}
use Rattle.text.specs.Result.{Result}
use Rattle.rule_file.specs.Rule.{parse_rule}
use Rattle.take_file.specs.Take.{parse_take}
use Rattle.rule_and_take.specs.declared.Pair.{Pair}
use Rattle.rule_and_take.specs.File.{OnPair, OfRead}
use Rattle.sheet_file.specs.Written.{written_sheet}
use Rattle.normal_form.specs.declared.sign.Sign.TheVariants.{Plain}
use Rattle.normal_form.specs.Numbering.{normal_form}
use Rattle.writing.specs.declared.answer.Bytes.{Bytes}
use Rattle.meeting.specs.Meeting.{meeting_outcome, covered_take}
use Rattle.meeting.specs.declared.Wanted.TheVariants.{Either}
use Rattle.writing.specs.Answer.{Printed}
use Rattle.writing.specs.Refusal.{refusal_text, Told}
use Rattle.sheet_maker.specs.Made.{Satisfied, IsMade}

-- the line `none`; 10 is the line feed
abbrev pub none_text : List ℕ
none_text = bytes "none" ++ (10 ∷ [])

-- the file of the sheet made; "if the rule is not satisfied or not kept, the answer is `none`"
pub data IsMadeText (f : Formula) (t : Trace) (text : List ℕ) : Type 0 where
  sheet : Satisfied f t → (a : Activation) → IsMade (normal_form f Plain) (covered_take f t) a → text ≡ written_sheet a → IsMadeText f t text
  none : ¬ Satisfied f t → text ≡ none_text → IsMadeText f t text

-- two tables: what is refused of them together, or what is made
abbrev pub IsMetText : Formula → Trace → List ℕ → Type 0
IsMetText f t = Told (meeting_outcome Either f t) (IsMadeText f t)

-- a file that is turned back, or two tables
abbrev pub IsText : Result Formula → Result Trace → List ℕ → Type 0
IsText p q text = OnPair p q (λ why. text ≡ refusal_text why) (λ f t. IsMetText f t text)

-- the text goes into the buffer whole, or nothing does
abbrev pub Prints : List ℕ → List ℕ → List ℕ → List ℕ → Bytes → Type 0
Prints rule take = Printed (IsText (parse_rule rule) (parse_take take))

-- what tables that were read, one file after the other, leave in the buffer, and the answer: as whichever files they were read from
abbrev pub PrintsRead : Pair → List ℕ → List ℕ → Bytes → Type 0
PrintsRead pair before after answer = OfRead pair (λ rule take. TheOnlyPair (Prints rule take before) after answer)
