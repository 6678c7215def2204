-- The text of `judge` for two files. Assumes nothing.
use Rattle.std.specs.Prelude.{ℕ, ◌≡◌, List}
use Rattle.tables.specs.Only.{TheOnlyPair}
use Rattle.tables.specs.declared.row.Formula.{Formula}
use Rattle.tables.specs.declared.trace.Trace.{Trace}
use Rattle.text.specs.Result.{Result}
use Rattle.rule_file.specs.Rule.{parse_rule}
use Rattle.take_file.specs.Take.{parse_take}
use Rattle.rule_and_take.specs.declared.Pair.{Pair}
use Rattle.rule_and_take.specs.File.{OnPair, OfRead}
use Rattle.normal_form.specs.declared.sign.Sign.TheVariants.{Plain}
use Rattle.normal_form.specs.Numbering.{normal_form}
use Rattle.meeting.specs.Meeting.{meeting_outcome}
use Rattle.meeting.specs.declared.Wanted.TheVariants.{Either}
use Rattle.writing.specs.declared.answer.Bytes.{Bytes}
use Rattle.writing.specs.Answer.{Printed}
use Rattle.writing.specs.Refusal.{refusal_text, Told}
use Rattle.judging.specs.declared.verdict.Verdict.{Verdict}
use Rattle.judging.specs.Verdict.{VerdictOf}
use Rattle.judge_text.specs.Text.{verdict_text}

-- the five lines with the verdict on a formula and a trace
abbrev pub IsVerdictText : Formula → Trace → List ℕ → Type 0
IsVerdictText f t text = (v : Verdict) × VerdictOf f t v
    × (text ≡ verdict_text f.signals (normal_form f Plain).rows t.cycles t.ending v)

-- two tables: what is refused of them together, or the verdict
abbrev pub IsMetText : Formula → Trace → List ℕ → Type 0
IsMetText f t = Told (meeting_outcome Either f t) (IsVerdictText f t)

-- a file that is turned back, or two tables
abbrev pub IsText : Result Formula → Result Trace → List ℕ → Type 0
IsText p q text = OnPair p q (λ why. text ≡ refusal_text why) (λ f t. IsMetText f t text)

-- the text goes into the buffer whole, or nothing does
abbrev pub Prints : List ℕ → List ℕ → List ℕ → List ℕ → Bytes → Type 0
Prints rule take = Printed (IsText (parse_rule rule) (parse_take take))

-- what tables that were read, one file after the other, leave in the buffer, and the answer: as whichever files they were read from
abbrev pub PrintsRead : Pair → List ℕ → List ℕ → Bytes → Type 0
PrintsRead pair before after answer = OfRead pair (λ rule take. TheOnlyPair (Prints rule take before) after answer)
