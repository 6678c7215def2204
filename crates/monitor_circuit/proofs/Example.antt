-- Rule A's circuit as its file, computed (docs/CIRCUIT.md has it line by line). Assumes nothing.
use Prim.Native.Nat.{ℕ}
use Prim.Native.String.{String}
use mathlib.Core.Path.{◌≡◌, refl, ap, ◌∙◌}
use mathlib.Core.List.{List, [], ◌∷◌, ◌++◌}
use Rattle.tables.specs.Bytes.{bytes}
use Rattle.tables.specs.Place.{tabulate_from, placed}
use Rattle.tables.specs.Kind.{kinds, kind_at, dual_of}
use Rattle.tables.specs.declared.row.NormalForm.{NormalForm}
use Rattle.tables.specs.declared.row.SignalKind.TheVariants.{Sig, Nsig}
use Rattle.tables.specs.declared.row.UnaryKind.TheVariants.{Always, Ever}
use Rattle.tables.specs.declared.row.BinaryKind.TheVariants.{Or}
use Rattle.tables.specs.declared.row.Row.TheVariants.{Signal, Unary, Binary}
use Rattle.text.specs.Written.{decimal_in, decimal}
use Rattle.rule_file.specs.Rule.{in_place, unused}
use Rattle.circuit.specs.Circuit.{Circuit, Latch, Gate}
use Rattle.circuit_file.specs.Written.{spaced, written_lines, written_circuit}
use Rattle.normal_form.specs.declared.sign.Sign.TheVariants.{Plain}
use Rattle.normal_form.specs.Reach.{marked_down, reach}
use Rattle.normal_form.specs.Numbering.{listing, normal_listing, normal_form}
use Rattle.step_calls.proofs.Witness.{rule_a}
use Rattle.monitor_circuit.specs.Monitors.{gates_from, circuit_of}
use Rattle.monitor_circuit.specs.Steps.{rule_circuit}

-- its normal form: `nsig 1`, `sig 2`, `ever 2`, `or 1 3`, `always 4`
abbrev form_a : NormalForm
form_a = record { signals = 2; rows = 5; places = placed 128 in_place unused (Signal Nsig 1 ∷ Signal Sig 2 ∷ Unary Ever 2 ∷ Binary Or 1 3 ∷ Unary Always 4 ∷ []) }

form_is : normal_form rule_a Plain ≡ form_a
unfolding marked_down reach listing normal_listing normal_form kinds kind_at dual_of tabulate_from
form_is = refl

abbrev latch : ℕ → ℕ → Latch
latch l n = record { current = l; next = n }

abbrev gate : ℕ → ℕ → ℕ → Gate
gate l a b = record { lhs = l; rhs0 = a; rhs1 = b }

abbrev circuit_a : Circuit
circuit_a =
    record {
      inputs = 2 ∷ 4 ∷ 6 ∷ 8 ∷ 10 ∷ 12 ∷ 14 ∷ [];
      latches = latch 16 0 ∷ latch 18 0 ∷ latch 20 40 ∷ latch 22 0 ∷ latch 24 51 ∷ [];
      outputs = 26 ∷ 32 ∷ 0 ∷ 46 ∷ 52 ∷ 1 ∷ 1 ∷ 41 ∷ 1 ∷ 1 ∷ 0 ∷ 0 ∷ 40 ∷ 0 ∷ 51 ∷ [];
      gates =
          gate 26 6 2 ∷ gate 28 0 0 ∷ gate 30 0 0
          ∷ gate 32 8 5 ∷ gate 34 0 0 ∷ gate 36 0 0
          ∷ gate 38 11 21 ∷ gate 40 39 9 ∷ gate 42 0 0
          ∷ gate 44 7 11 ∷ gate 46 12 44 ∷ gate 48 0 0
          ∷ gate 50 15 25 ∷ gate 52 51 13 ∷ gate 54 0 0 ∷ [];
    }

circuit_is : circuit_of form_a ≡ circuit_a
unfolding tabulate_from gates_from
circuit_is = refl

-- the bytes of lines, each with its line feed (byte 10)
abbrev pub file_bytes : List String → List ℕ
file_bytes [] = []
file_bytes (l ∷ ls) = bytes l ++ (10 ∷ file_bytes ls)

abbrev pub lines_a : List String
lines_a =
    "aag 27 7 5 15 15" ∷ "2" ∷ "4" ∷ "6" ∷ "8" ∷ "10" ∷ "12" ∷ "14" ∷ "16 0" ∷ "18 0" ∷ "20 40" ∷ "22 0" ∷ "24 51" ∷ "26" ∷
    "32" ∷ "0" ∷ "46" ∷ "52" ∷ "1" ∷ "1" ∷ "41" ∷ "1" ∷ "1" ∷ "0" ∷ "0" ∷ "40" ∷ "0" ∷ "51" ∷ "26 6 2" ∷ "28 0 0" ∷
    "30 0 0" ∷ "32 8 5" ∷ "34 0 0" ∷ "36 0 0" ∷ "38 11 21" ∷ "40 39 9" ∷ "42 0 0" ∷ "44 7 11" ∷ "46 12 44" ∷ "48 0 0" ∷
    "50 15 25" ∷ "52 51 13" ∷ "54 0 0" ∷ []

written : written_circuit circuit_a ≡ file_bytes lines_a
unfolding written_circuit written_lines spaced decimal decimal_in
written = refl

pub rule_a_file : written_circuit (rule_circuit rule_a) ≡ file_bytes lines_a
rule_a_file = ap (λ g. written_circuit (circuit_of g)) form_is ∙ (ap written_circuit circuit_is ∙ written)
