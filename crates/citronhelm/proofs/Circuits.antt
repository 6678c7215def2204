-- WHAT `citronhelm_circuit` WRITES IS WHAT `citronhelm_simulate` READS (02, request 4), by the number that C and Rust get. Assumes nothing.
use Prim.Native.Nat.{ℕ, ◌<◌}
use mathlib.Core.Path.{◌≡◌, refl, ap, ◌∙◌}
use mathlib.Core.List.{List}
use native.Mathlib.Omega.{arith}
use lib.ListN.{take}
use Rattle.tables.specs.declared.refusal.Outcome.TheVariants.{Accepted}
use Rattle.tables.specs.declared.row.Formula.{Formula}
use Rattle.text.specs.Result.{Result}
use Rattle.text.specs.Result.Result.{accepted, refused}
use Rattle.rule_file.specs.Rule.{parse_rule}
use Rattle.rule_file.proofs.Rules.{rule_valid}
use Rattle.rule_and_take.specs.File.{OnFile}
use Rattle.writing.specs.declared.answer.Bytes.{Bytes}
use Rattle.writing.specs.declared.answer.Bytes.TheVariants.{Count, Refused}
use Rattle.writing.specs.Answer.{written_answer}
use Rattle.writing.proofs.Answered.{answered_text}
use Rattle.circuit_file.specs.File.{parse_circuit}
use Rattle.monitor_circuit.specs.Steps.{rule_circuit}
use Rattle.monitor_circuit.proofs.ReadBack.{form_file_read}
use Rattle.normal_form.specs.declared.sign.Sign.TheVariants.{Plain}
use Rattle.normal_form.specs.Numbering.{normal_form}
use Rattle.normal_form.proofs.Ranges.{form_normal}
use Rattle.circuit_writer.specs.Answer.{circuit_text}
use Rattle.answer_code.specs.Code.{bytes_code}
use Rattle.answer_code.proofs.Codes.{code_refused}
use Rattle.citronhelm.specs.Service.{Turned, WrittenAs}

-- an answer r that is no refusal: the rule was read, the first r bytes are its circuit's file, and that file is read as the circuit
pub record CircuitWritten (rule after : List ℕ) (r : ℕ) : Type 0 where
  pub formula : Formula
  pub read : parse_rule rule ≡ accepted formula
  pub file : take r after ≡ circuit_text formula
  pub read_back : parse_circuit (take r after) ≡ accepted (rule_circuit formula)

pub circuit_answered : (rule before after : List ℕ) (r : ℕ)
    → OnFile 1 (parse_rule rule) (Turned before after r) (λ f. WrittenAs (circuit_text f) before after r) → r < 9223372036854775808 → CircuitWritten rule after r
circuit_answered rule before after r = by (parse_rule rule) refl
  where
    count : (b : Bytes) → r ≡ bytes_code b → r < 9223372036854775808 → b ≡ Count r
    count (Count n) e h = cc
    count (Refused why) e h = absurd (omega (arith, code_refused why))

    by : (p : Result Formula) → parse_rule rule ≡ p → OnFile 1 p (Turned before after r) (λ f. WrittenAs (circuit_text f) before after r) → r < 9223372036854775808
        → CircuitWritten rule after r
    by (refused e n) read x h = absurd (omega (arith, code_refused (record { reason = e; file = 1; line = n }), x.0))
    by (accepted f) read x h =
        let same : take r after ≡ circuit_text f =
        ap (take r) x.1 ∙ (answered_text Accepted (circuit_text f) before r (count (written_answer (circuit_text f) before) x.0 h)).1 in
        record {
          formula = f;
          read = read;
          file = same;
          read_back = ap parse_circuit same ∙ form_file_read (normal_form f Plain) (form_normal f Plain (rule_valid rule f read).in_range_lem);
        }
