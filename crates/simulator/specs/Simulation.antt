-- The simulator (02, 4): "from a file, one input cycle and the latches' digits it writes the outputs, then the next latches, as the report
-- has them". Assumes nothing.
use Rattle.std.specs.Prelude.{ℕ, ◌≡◌, ◌&&◌, List, ◌++◌, eqb, length}
use Rattle.tables.specs.Choice.{pick}
use Rattle.tables.specs.Refusal.{and_then, call_refused, numbered}
use Rattle.tables.specs.declared.refusal.Outcome.{Outcome}
use Rattle.tables.specs.declared.refusal.Outcome.TheVariants.{Accepted, Refused}
use Rattle.tables.specs.declared.refusal.Refusal.{Refusal}
use Rattle.text.specs.Digits.{are_digits, value_at}
use Rattle.text.specs.Result.{Result}
use Rattle.text.specs.Result.Result.{accepted, refused}
use Rattle.text.specs.Written.{digits_text}
use Rattle.writing.specs.declared.answer.Bytes.{Bytes}
use Rattle.writing.specs.declared.answer.Bytes.TheVariants.{Refused as BytesRefused}
use Rattle.writing.specs.Answer.{Printed}
use Rattle.circuit.specs.Circuit.{Circuit}
use Rattle.circuit.specs.Valuation.{Valuation, IsValuation, output_values, next_latches}
use Rattle.circuit_file.specs.File.{parse_circuit}

-- "the outputs, then the next latches, as the report has them": by the values of the literals in a cycle with these inputs and latches
pub record IsCycle (c : Circuit) (inputs latches text : List ℕ) : Type 0 where
  pub values : Valuation
  pub valuation : IsValuation c (value_at inputs) (value_at latches) values
  pub written : text ≡ digits_text (output_values c values ++ next_latches c values)

-- "then, with file and line 0, another byte by 2, another number of inputs by 7, of latches by 9"; there
-- are i inputs and l latches
abbrev pub digits_outcome : ℕ → ℕ → List ℕ → List ℕ → Outcome
digits_outcome i l inputs latches =
    and_then (pick (are_digits inputs && are_digits latches) Accepted (call_refused (numbered 2)))
    (and_then (pick (eqb (length inputs) i) Accepted (call_refused (numbered 7)))
    (pick (eqb (length latches) l) Accepted (call_refused (numbered 9))))

-- a refused call: it leaves every byte
abbrev pub TurnedBack : List ℕ → List ℕ → Bytes → Refusal → Type 0
TurnedBack before after answer why = (answer ≡ BytesRefused why) × (after ≡ before)

-- a cycle of a circuit, where nothing is wrong with the digits; "a short buffer by 10" is part of what `Printed` says
abbrev pub CyclesOn : Outcome → Circuit → List ℕ → List ℕ → List ℕ → List ℕ → Bytes → Type 0
CyclesOn (Refused why) c inputs latches before after answer = TurnedBack before after answer why
CyclesOn Accepted c inputs latches before after answer = Printed (IsCycle c inputs latches) before after answer

abbrev pub Cycles : Circuit → List ℕ → List ℕ → List ℕ → List ℕ → Bytes → Type 0
Cycles c inputs latches = CyclesOn (digits_outcome (length c.inputs) (length c.latches) inputs latches) c inputs latches

-- a file that is refused, "as a wrong form at its line (file 1)", or the cycle of its circuit
abbrev pub OnCircuit : Result Circuit → List ℕ → List ℕ → List ℕ → List ℕ → Bytes → Type 0
OnCircuit (accepted c) inputs latches before after answer = Cycles c inputs latches before after answer
OnCircuit (refused e n) inputs latches before after answer =
    TurnedBack before after answer (record { reason = e; file = 1; line = n })

-- what the simulator answers, and what it leaves in the lent buffer
abbrev pub Simulates : List ℕ → List ℕ → List ℕ → List ℕ → List ℕ → Bytes → Type 0
Simulates file = OnCircuit (parse_circuit file)
