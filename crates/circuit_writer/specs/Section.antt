-- The lines of a normal form's circuit, section by section. Assumes nothing.
use Rattle.std.specs.Prelude.{ℕ, ◌≡◌, List, [], ◌∷◌, map}
use Rattle.tables.specs.declared.row.NormalForm.{NormalForm}
use Rattle.circuit.specs.Circuit.{Latch, Gate}
use Rattle.monitor_circuit.specs.Wiring.{Wiring as MeantWiring}
use Rattle.monitor_circuit.specs.Monitors.{by_row, circuit_of, wiring_of}
use Rattle.row_wiring.specs.declared.Wiring.{Wiring}
use Rattle.row_wiring.specs.Own.{wiring_as}

abbrev pub input_lines : NormalForm → List (List ℕ)
input_lines g = map (λ l. l ∷ []) (circuit_of g).inputs

abbrev pub latch_lines : NormalForm → List (List ℕ)
latch_lines g = map (λ (q : Latch). q.current ∷ q.next ∷ []) (circuit_of g).latches

-- the literals of what a row's monitor says
abbrev pub said_literals : Wiring → List ℕ
said_literals w = w.failed ∷ w.accept ∷ w.pending ∷ []

-- a closure with these results says this of a wiring
abbrev pub Says : (Wiring → ℕ → Type 0) → (MeantWiring → ℕ) → Type 0
Says post said = (w : Wiring) (l : ℕ) → post w l → l ≡ said (wiring_as w)

abbrev pub said_lines : (MeantWiring → ℕ) → NormalForm → List (List ℕ)
said_lines said g = map (λ l. l ∷ []) (by_row g (λ k. said (wiring_of g k)))

abbrev pub output_lines : NormalForm → List (List ℕ)
output_lines g = map (λ l. l ∷ []) (circuit_of g).outputs

abbrev pub gate_lines : NormalForm → List (List ℕ)
gate_lines g = map (λ (e : Gate). e.lhs ∷ e.rhs0 ∷ e.rhs1 ∷ []) (circuit_of g).gates
