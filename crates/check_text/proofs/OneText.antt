-- The contract of `check_sheet` leaves one text, so one answer and one buffer. Assumes nothing.
use Prim.Native.Nat.{ℕ}
use mathlib.Core.Path.{◌≡◌, sym, ap, ◌∙◌}
use mathlib.Core.List.{List}
use Rattle.tables.specs.Only.{TheOnlyPair}
use Rattle.tables.specs.declared.refusal.Outcome.{Outcome}
use Rattle.tables.specs.declared.refusal.Outcome.TheVariants.{Accepted, Refused}
use Rattle.tables.specs.declared.row.Formula.{Formula}
use Rattle.tables.specs.declared.trace.Activation.{Activation}
use Rattle.tables.specs.declared.trace.Trace.{Trace}
use Rattle.text.specs.Result.{Result}
use Rattle.text.specs.Result.Result.{accepted, refused}
use Rattle.rule_file.specs.Rule.{parse_rule}
use Rattle.take_file.specs.Take.{parse_take}
use Rattle.sheet_file.specs.Sheet.{parse_sheet}
use Rattle.writing.specs.declared.answer.Bytes.{Bytes}
use Rattle.checking.specs.Answer.{met_outcome}
use Rattle.check_text.specs.Text.{finding_text}
use Rattle.writing.specs.Refusal.{Told}
use Rattle.writing.proofs.Answers.{only_printed}
use Rattle.check_text.specs.Answer.{IsFindingText, IsCheckText, Prints}

module _ (text other : List ℕ) where
  one_told : (o : Outcome) (f : Formula) (t : Trace) (a : Activation) → Told o (IsFindingText f t a) text → Told o (IsFindingText f t a) other → text ≡ other
  one_told (Refused why) f t a x y = x ∙ sym y
  one_told Accepted f t a (v, is, e) (u, also, d) = e ∙ ap finding_text (also.only v is.said) ∙ sym d

  pub one_text : (p : Result Formula) (q : Result Trace) (s : Result Activation) → IsCheckText p q s text → IsCheckText p q s other → text ≡ other
  one_text (refused e n) q s x y = x ∙ sym y
  one_text (accepted f) (refused e n) s x y = x ∙ sym y
  one_text (accepted f) (accepted t) (refused e n) x y = x ∙ sym y
  one_text (accepted f) (accepted t) (accepted a) x y = one_told (met_outcome f t a) f t a x y

pub only_prints : (rule take sheet before after : List ℕ) (answer : Bytes) → Prints rule take sheet before after answer → TheOnlyPair (Prints rule take sheet before) after answer
only_prints rule take sheet =
    only_printed (IsCheckText (parse_rule rule) (parse_take take) (parse_sheet sheet)) (λ s t x y. one_text s t (parse_rule rule) (parse_take take) (parse_sheet sheet) x y)
