-- The contract of `sheet` leaves one text, so one answer and one buffer. Assumes nothing.
use mathlib.Core.Path.{◌≡◌, refl, sym, ap, ◌∙◌}
use Rattle.tables.specs.declared.refusal.Outcome.{Outcome}
use Rattle.tables.specs.declared.refusal.Outcome.TheVariants.{Accepted, Refused}
use mathlib.Core.List.{List}
use Prim.Native.Nat.{ℕ}
use Rattle.tables.specs.Only.{TheOnlyPair}
use Rattle.tables.specs.declared.row.Formula.{Formula}
use Rattle.tables.specs.declared.trace.Trace.{Trace}
use Rattle.text.specs.Result.{Result}
use Rattle.text.specs.Result.Result.{accepted, refused}
use Rattle.rule_file.specs.Rule.{parse_rule}
use Rattle.rule_file.specs.Valid.{InRange}
use Rattle.rule_file.proofs.Rules.{rule_valid}
use Rattle.take_file.specs.Take.{parse_take}
use Rattle.normal_form.specs.declared.sign.Sign.TheVariants.{Plain}
use Rattle.normal_form.specs.Numbering.{normal_form}
use Rattle.normal_form.proofs.Ranges.{form_normal}
use Rattle.writing.specs.declared.answer.Bytes.{Bytes}
use Rattle.meeting.specs.Meeting.{meeting_outcome, covered_take}
use Rattle.meeting.specs.declared.Wanted.TheVariants.{Either}
use Rattle.writing.specs.Refusal.{Told}
use Rattle.writing.proofs.Answers.{only_printed}
use Rattle.sheet_maker.proofs.Sheets.{made_unique}
use Rattle.sheet_text.specs.Answer.{IsMadeText, IsMadeText.sheet, IsMadeText.none, IsText, Prints}

module _ (f : Formula) (t : Trace) (fine : InRange f) (text other : List ℕ) where
  one_made : IsMadeText f t text → IsMadeText f t other → text ≡ other
  one_made (sheet s a made p) (sheet r b again q) = p ∙ made_unique (normal_form f Plain) (covered_take f t) a b (form_normal f Plain fine).most_rows made again ∙ sym q
  one_made (sheet s a made p) (none r q) = absurd (r s)
  one_made (none s p) (sheet r b again q) = absurd (s r)
  one_made (none s p) (none r q) = p ∙ sym q

  one_told : (o : Outcome) → Told o (IsMadeText f t) text → Told o (IsMadeText f t) other → text ≡ other
  one_told Accepted x y = one_made x y
  one_told (Refused why) x y = x ∙ sym y

module _ (rule : List ℕ) (q : Result Trace) (text other : List ℕ) where
  on : (p : Result Formula) → parse_rule rule ≡ p → (q : Result Trace) → IsText p q text → IsText p q other → text ≡ other
  on (refused e n) r q x y = x ∙ sym y
  on (accepted f) r (refused e n) x y = x ∙ sym y
  on (accepted f) r (accepted t) x y = one_told f t (rule_valid rule f r).in_range_lem text other (meeting_outcome Either f t) x y

  pub one_text : IsText (parse_rule rule) q text → IsText (parse_rule rule) q other → text ≡ other
  one_text x y = on (parse_rule rule) refl q x y

pub only_prints : (rule take before after : List ℕ) (answer : Bytes) → Prints rule take before after answer → TheOnlyPair (Prints rule take before) after answer
only_prints rule take = only_printed (IsText (parse_rule rule) (parse_take take)) (one_text rule (parse_take take))
