-- The answers of the services by their cases. Assumes nothing.
use mathlib.Core.Path.{◌≡◌, sym, ◌∙◌}
use mathlib.Core.List.{List}
use Prim.Native.Nat.{ℕ}
use Rattle.tables.specs.declared.refusal.Refusal.{Refusal}
use Rattle.tables.specs.declared.refusal.Outcome.TheVariants.{Accepted, Refused}
use Rattle.tables.specs.declared.row.Formula.{Formula}
use Rattle.normal_form.specs.declared.sign.Sign.{Sign}
use Rattle.writing.specs.Answer.{Delivers}
use Rattle.writing.specs.declared.answer.Bytes.{Bytes}
use Rattle.writing.specs.declared.answer.Bytes.TheVariants.{Refused as BytesRefused}
use Rattle.rule_file.specs.Outcome.{rule_outcome}
use Rattle.normal_file.specs.Answer.{output, normal_answer, normal_left}

module _ (f : Formula) (s : Sign) (buf : List ℕ) where
  module _ {r : Refusal} (e : rule_outcome f ≡ Refused r) where
    pub refused_answer : BytesRefused r ≡ normal_answer f s buf
    refused_answer = sym (rw e)

    pub refused_left : buf ≡ normal_left f s buf
    refused_left = sym (rw e)

  -- what is delivered to a formula in range is what the service answers and leaves
  module _ (e : rule_outcome f ≡ Accepted) {after : List ℕ} {r : Bytes} (d : Delivers (output f s) buf after r) where
    pub written_answer_lem : r ≡ normal_answer f s buf
    written_answer_lem = d.answered ∙ sym (rw e)

    pub written_left : after ≡ normal_left f s buf
    written_left = d.left ∙ sym (rw e)
