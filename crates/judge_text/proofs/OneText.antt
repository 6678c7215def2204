-- The contract of `judge` leaves one text, so one answer and one buffer. Assumes nothing.
use Prim.Native.Nat.{ℕ}
use mathlib.Core.Path.{◌≡◌, sym, ap, ◌∙◌}
use mathlib.Core.List.{List}
use Rattle.tables.specs.Only.{TheOnlyPair}
use Rattle.tables.specs.declared.refusal.Outcome.{Outcome}
use Rattle.tables.specs.declared.refusal.Outcome.TheVariants.{Accepted, Refused}
use Rattle.tables.specs.declared.row.Formula.{Formula}
use Rattle.tables.specs.declared.trace.Trace.{Trace}
use Rattle.text.specs.Result.{Result}
use Rattle.text.specs.Result.Result.{accepted, refused}
use Rattle.rule_file.specs.Rule.{parse_rule}
use Rattle.take_file.specs.Take.{parse_take}
use Rattle.normal_form.specs.declared.sign.Sign.TheVariants.{Plain}
use Rattle.normal_form.specs.Numbering.{normal_form}
use Rattle.meeting.specs.Meeting.{meeting_outcome}
use Rattle.meeting.specs.declared.Wanted.TheVariants.{Either}
use Rattle.writing.specs.declared.answer.Bytes.{Bytes}
use Rattle.writing.specs.Refusal.{Told}
use Rattle.writing.proofs.Answers.{only_printed}
use Rattle.judge_text.specs.Text.{verdict_text}
use Rattle.judge_text.specs.Answer.{IsVerdictText, IsText, Prints}

module _ (text other : List ℕ) where
  one_told : (o : Outcome) (f : Formula) (t : Trace) → Told o (IsVerdictText f t) text → Told o (IsVerdictText f t) other → text ≡ other
  one_told (Refused why) f t x y = x ∙ sym y
  one_told Accepted f t (v, is, e) (u, also, d) = e ∙ ap (verdict_text f.signals (normal_form f Plain).rows t.cycles t.ending) (also.only v is.said) ∙ sym d

  pub one_text : (p : Result Formula) (q : Result Trace) → IsText p q text → IsText p q other → text ≡ other
  one_text (refused e n) q x y = x ∙ sym y
  one_text (accepted f) (refused e n) x y = x ∙ sym y
  one_text (accepted f) (accepted t) x y = one_told (meeting_outcome Either f t) f t x y

pub only_prints : (rule take before after : List ℕ) (answer : Bytes) → Prints rule take before after answer → TheOnlyPair (Prints rule take before) after answer
only_prints rule take = only_printed (IsText (parse_rule rule) (parse_take take)) (λ s t x y. one_text s t (parse_rule rule) (parse_take take) x y)
