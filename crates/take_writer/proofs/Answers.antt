-- The answer by its cases. Assumes nothing.
use Prim.Native.Nat.{ℕ}
use mathlib.Core.Path.{◌≡◌, sym, ◌∙◌}
use mathlib.Core.List.{List}
use Rattle.tables.specs.declared.refusal.Refusal.{Refusal}
use Rattle.tables.specs.declared.refusal.Outcome.TheVariants.{Accepted, Refused}
use Rattle.tables.specs.declared.trace.Trace.{Trace}
use Rattle.take_file.specs.Written.{written_take}
use Rattle.writing.specs.Answer.{Delivers}
use Rattle.writing.specs.declared.answer.Bytes.{Bytes}
use Rattle.writing.specs.declared.answer.Bytes.TheVariants.{Refused as BytesRefused}
use Rattle.take_file.specs.Outcome.{take_outcome}
use Rattle.take_writer.specs.Answer.{take_written, take_left}

module _ (t : Trace) (buf : List ℕ) where
  pub refused_both : {r : Refusal} → take_outcome t ≡ Refused r → (BytesRefused r ≡ take_written t buf) × (buf ≡ take_left t buf)
  refused_both e = (sym (rw e), sym (rw e))

  pub written_both : {after : List ℕ} {r : Bytes} → take_outcome t ≡ Accepted → Delivers (written_take t) buf after r → (r ≡ take_written t buf) × (after ≡ take_left t buf)
  written_both e d = (d.answered ∙ sym (rw e), d.left ∙ sym (rw e))
