-- The bound service's number is enough: a header of at most 29 bytes, and two lines of at most 22 bytes for each row of the rule.
-- Assumes nothing.
use Prim.Native.Nat.{ℕ, ◌+◌, ◌*◌, ◌≤◌, ◌<◌}
use mathlib.Core.Path.{◌≡◌, refl}
use mathlib.Core.List.{List}
use native.Mathlib.Omega.{arith}
use lib.ListN.{length}
use Rattle.tables.specs.declared.row.Row.{Row}
use Rattle.tables.specs.Refusal.{on_outcome}
use Rattle.tables.specs.declared.refusal.Outcome.{Outcome}
use Rattle.tables.specs.declared.refusal.Outcome.TheVariants.{Accepted, Refused}
use Rattle.tables.specs.declared.row.Formula.{Formula}
use Rattle.tables.proofs.Choices.{clash}
use Rattle.rule_file.specs.Valid.{InRange}
use Rattle.rule_file.proofs.Rules.{checked}
use Rattle.normal_form.specs.declared.sign.Sign.{Sign}
use Rattle.normal_form.specs.Numbering.{normal_rows, normal_form}
use Rattle.normal_form.proofs.Ranges.{rows_double, form_normal, form_rows_lem}
use Rattle.writing.specs.declared.answer.Bytes.TheVariants.{Count, Refused as BytesRefused}
use Rattle.row_writer.specs.Normal.{written_normal}
use Rattle.row_writer.proofs.Lengths.{text_most}
use Rattle.rule_file.specs.Outcome.{rule_outcome}
use Rattle.normal_file.specs.Answer.{bound_answer, bound_of, output}

-- 29 bytes and 44 for each row of the rule are enough
pub output_most : (f : Formula) (s : Sign) → InRange f → length (output f s) ≤ 29 + 44 * f.rows
unfolding written_normal normal_form
output_most f s ok =
    let g = form_normal f s ok in
    let rs : List Row = normal_rows f s in
    let few : length rs < 1000 = omega (arith, rows_double f s ok, ok.most_rows) in
    let a = text_most f.signals (length rs) rs ok.most_signals few few (rw (form_rows_lem f s ok) at g.rows_in_range) in
    rw (form_rows_lem f s ok) (omega (arith, rows_double f s ok))

-- THE BOUND SERVICE'S ANSWER IS NEVER LESS THAN THE OUTPUT'S LENGTH, whichever sign is written
pub bound_enough : (f : Formula) (s : Sign) (n : ℕ) → bound_answer f ≡ Count n → length (output f s) ≤ n
bound_enough f s n answered = by (rule_outcome f) refl answered
  where
    by : (o : Outcome) → rule_outcome f ≡ o → on_outcome o BytesRefused (Count (bound_of f)) ≡ Count n → length (output f s) ≤ n
    by Accepted e q = let same : bound_of f ≡ n = cc in omega (arith, output_most f s (checked f e))
    by (Refused why) e q = clash (cc)
