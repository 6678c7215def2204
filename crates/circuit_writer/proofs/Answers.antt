-- The service's answer by its cases. Assumes nothing.
use Prim.Native.Nat.{ℕ}
use mathlib.Core.Path.{◌≡◌, sym, ◌∙◌}
use mathlib.Core.List.{List}
use Rattle.tables.specs.declared.refusal.Refusal.{Refusal}
use Rattle.tables.specs.declared.refusal.Outcome.TheVariants.{Accepted, Refused}
use Rattle.tables.specs.declared.row.Formula.{Formula}
use Rattle.rule_file.specs.Outcome.{rule_outcome}
use Rattle.writing.specs.Answer.{Delivers}
use Rattle.writing.specs.declared.answer.Bytes.{Bytes}
use Rattle.writing.specs.declared.answer.Bytes.TheVariants.{Refused as BytesRefused}
use Rattle.circuit_writer.specs.Answer.{circuit_text, writer_answer, writer_left}

module _ (f : Formula) (buf : List ℕ) where
  pub refused : {r : Refusal} → rule_outcome f ≡ Refused r → (BytesRefused r ≡ writer_answer f buf) × (buf ≡ writer_left f buf)
  refused e = (sym (rw e), sym (rw e))

  -- what is delivered to a formula in range is what the service answers and leaves
  pub written : {after : List ℕ} {answer : Bytes} → rule_outcome f ≡ Accepted → Delivers (circuit_text f) buf after answer
      → (answer ≡ writer_answer f buf) × (after ≡ writer_left f buf)
  written e d = (d.answered ∙ sym (rw e), d.left ∙ sym (rw e))
