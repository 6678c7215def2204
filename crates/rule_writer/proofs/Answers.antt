-- The answer by its cases. Assumes nothing.
use Prim.Native.Nat.{ℕ}
use mathlib.Core.Path.{◌≡◌, sym, ◌∙◌}
use mathlib.Core.List.{List}
use Rattle.tables.specs.declared.refusal.Refusal.{Refusal}
use Rattle.tables.specs.declared.refusal.Outcome.TheVariants.{Accepted, Refused}
use Rattle.tables.specs.declared.row.Formula.{Formula}
use Rattle.rule_file.specs.Written.{written_rule}
use Rattle.writing.specs.Answer.{Delivers}
use Rattle.writing.specs.declared.answer.Bytes.{Bytes}
use Rattle.writing.specs.declared.answer.Bytes.TheVariants.{Refused as BytesRefused}
use Rattle.rule_file.specs.Outcome.{rule_outcome}
use Rattle.rule_writer.specs.Answer.{rule_written, rule_left}

module _ (f : Formula) (buf : List ℕ) where
  pub refused_both : {r : Refusal} → rule_outcome f ≡ Refused r → (BytesRefused r ≡ rule_written f buf) × (buf ≡ rule_left f buf)
  refused_both e = (sym (rw e), sym (rw e))

  pub written_both : {after : List ℕ} {r : Bytes} → rule_outcome f ≡ Accepted → Delivers (written_rule f) buf after r → (r ≡ rule_written f buf) × (after ≡ rule_left f buf)
  written_both e d = (d.answered ∙ sym (rw e), d.left ∙ sym (rw e))
