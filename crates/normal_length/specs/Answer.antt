-- What the length service of the normal form answers (02, request 3). Assumes nothing.
use Rattle.std.specs.Prelude.{length}
use Rattle.tables.specs.Refusal.{on_outcome}
use Rattle.tables.specs.declared.row.Formula.{Formula}
use Rattle.rule_file.specs.Outcome.{rule_outcome}
use Rattle.normal_form.specs.declared.sign.Sign.{Sign}
use Rattle.normal_file.specs.Answer.{output}
use Rattle.writing.specs.declared.answer.Bytes.{Bytes}
use Rattle.writing.specs.declared.answer.Bytes.TheVariants.{Count, Refused as BytesRefused}

-- "A service shall answer exactly the bytes of the normal form, without writing it": how many the writer's output has, or the rule's own
-- refusal, which is the writer's
abbrev pub length_answer : Formula → Sign → Bytes
length_answer f s = on_outcome (rule_outcome f) BytesRefused (Count (length (output f s)))
