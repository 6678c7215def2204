-- One row: its gates say what its monitor says. Assumes nothing.
use Prim.Native.Nat.{ℕ}
use mathlib.Core.Path.{◌≡◌, refl, ap, ap₂, ◌∙◌}
use mathlib.Core.Bool.{Bool, true, false, not, ◌&&◌, ◌||◌}
use Rattle.tables.specs.declared.row.ConstantKind.{ConstantKind}
use Rattle.tables.specs.declared.row.ConstantKind.TheVariants.{True, False}
use Rattle.tables.specs.declared.row.SignalKind.{SignalKind}
use Rattle.tables.specs.declared.row.SignalKind.TheVariants.{Sig, Nsig}
use Rattle.tables.specs.declared.row.UnaryKind.{UnaryKind}
use Rattle.tables.specs.declared.row.UnaryKind.TheVariants.{Not, Next, Always, Ever}
use Rattle.tables.specs.declared.row.BinaryKind.{BinaryKind}
use Rattle.tables.specs.declared.row.BinaryKind.TheVariants.{And, Or, Weak, Until, Release, Srelease}
use Rattle.tables.specs.declared.row.Row.{Row}
use Rattle.tables.specs.declared.row.Row.TheVariants.{Constant, Signal, Unary, Binary}
use Rattle.meaning.specs.Rows.{Each, EachSignal}
use Rattle.circuit.proofs.Inverters.{either}
use Rattle.monitors.specs.declared.Output.{Output}
use Rattle.monitors.specs.declared.RowState.{RowState}
use Rattle.monitors.specs.Monitor.{constant_monitor, signal_monitor, unary_monitor, binary_monitor, monitor}
use Rattle.monitor_circuit.specs.Wiring.{Operands, Wiring, negated, constant_wiring, signal_wiring, unary_wiring, binary_wiring, row_wiring}

neither : (a b : Bool) → not a && not b ≡ not (a || b)
neither true b = refl
neither false b = refl

module _ (v : ℕ → Bool) where
  -- the literals of a wiring have the values that a monitor's output has
  pub record Says (w : Wiring) (o : Output) : Type 0 where
    pub says_failed : v w.failed ≡ o.failed
    pub says_accept : v w.accept ≡ o.accept
    pub says_pending : v w.pending ≡ o.pending

  -- a gate is the and of its operands
  abbrev pub Ands : ℕ → Operands → Type 0
  Ands x p = v x ≡ v p.rhs0 && v p.rhs1

  -- and the gates of a wiring
  pub record Gates (x1 x2 x3 : ℕ) (w : Wiring) : Type 0 where
    pub first_and : Ands x1 w.first
    pub second_and : Ands x2 w.second
    pub third_and : Ands x3 w.third

  abbrev pub Negates : ℕ → Type 0
  Negates l = v (negated l) ≡ not (v l)

  -- the row goes: it is active, or was pending
  module _ {z Y x : ℕ} (nz : Negates z) (nY : Negates Y) (nx : Negates x) (s : RowState) (active : v z ≡ s.active) (pending : v Y ≡ s.pending)
      (idle : v x ≡ v (negated z) && v (negated Y)) where
    runs : v (negated x) ≡ s.active || s.pending
    runs = let rests : v x ≡ not s.active && not s.pending = rw (idle, nz, nY, active, pending) in rw (nx, rests) (either s.active s.pending)

    runs_without : {B y : ℕ} {b : Bool} → Negates B → v B ≡ b → v y ≡ v (negated x) && v (negated B) → v y ≡ (s.active || s.pending) && not b
    runs_without nB is_b e = rw (e, runs, nB, is_b)

  module _ (off : v 0 ≡ false) (on : v 1 ≡ true) (z Y x1 x2 x3 : ℕ) (nz : Negates z) (nY : Negates Y) (n1 : Negates x1) (n2 : Negates x2) (s : RowState)
      (active : v z ≡ s.active) (pending : v Y ≡ s.pending) where
    abbrev goes_without : v x1 ≡ v (negated z) && v (negated Y) → {B y : ℕ} {b : Bool} → Negates B → v B ≡ b → v y ≡ v (negated x1) && v (negated B) → v y ≡ (s.active || s.pending) && not b
    goes_without idle = runs_without nz nY n1 s active pending idle

    constant_says : (c : ConstantKind) → Gates x1 x2 x3 (constant_wiring z Y x1 x2 x3 c) → Says (constant_wiring z Y x1 x2 x3 c) (constant_monitor c s)
    constant_says True e = record { says_failed = off; says_accept = on; says_pending = off }
    constant_says False e = record { says_failed = active; says_accept = on; says_pending = off }

    module _ {A : ℕ} (nA : Negates A) {a : Bool} (is-a : v A ≡ a) where
      signal_says : (c : SignalKind) → Gates x1 x2 x3 (signal_wiring z Y x1 x2 x3 c A) → Says (signal_wiring z Y x1 x2 x3 c A) (signal_monitor c a s)
      signal_says Sig e = record { says_failed = rw (e.first_and, nA, active, is-a); says_accept = on; says_pending = off }
      signal_says Nsig e = record { says_failed = rw (e.first_and, active, is-a); says_accept = on; says_pending = off }

      unary_says : (c : UnaryKind) → Gates x1 x2 x3 (unary_wiring z Y x1 x2 x3 c A) → Says (unary_wiring z Y x1 x2 x3 c A) (unary_monitor c a s)
      unary_says Not e = record { says_failed = off; says_accept = on; says_pending = off }
      unary_says Next e = record { says_failed = e.first_and ∙ ap₂ ◌&&◌ pending (nA ∙ ap not is-a); says_accept = on; says_pending = active }
      unary_says Always e =
          record { says_failed = goes_without e.first_and nA is-a e.second_and; says_accept = on; says_pending = runs nz nY n1 s active pending e.first_and }
      unary_says Ever e =
          let p = goes_without e.first_and nA is-a e.second_and in
          record { says_failed = off; says_accept = n2 ∙ ap not p; says_pending = p }

      module _ {B : ℕ} (nB : Negates B) {b : Bool} (is_b : v B ≡ b) where
        binary_says : (c : BinaryKind) → Gates x1 x2 x3 (binary_wiring z Y x1 x2 x3 c A B) → Says (binary_wiring z Y x1 x2 x3 c A B) (binary_monitor c a b s)
        binary_says And e =
            record { says_failed = rw (e.second_and, n1, e.first_and, active, is-a, is_b); says_accept = on; says_pending = off }
        binary_says Or e =
            record { says_failed = rw (e.second_and, e.first_and, nA, nB, active, is-a, is_b, neither a b); says_accept = on; says_pending = off }
        binary_says Weak e =
            let p = goes_without e.first_and nB is_b e.second_and in
            record { says_failed = rw (e.third_and, nA, p, is-a); says_accept = on; says_pending = p }
        binary_says Until e =
            let p = goes_without e.first_and nB is_b e.second_and in
            record { says_failed = rw (e.third_and, nA, p, is-a); says_accept = n2 ∙ ap not p; says_pending = p }
        binary_says Release e =
            record {
              says_failed = goes_without e.first_and nB is_b e.third_and;
              says_accept = on;
              says_pending = goes_without e.first_and nA is-a e.second_and;
            }
        binary_says Srelease e =
            let p = goes_without e.first_and nA is-a e.second_and in
            record { says_failed = goes_without e.first_and nB is_b e.third_and; says_accept = n2 ∙ ap not p; says_pending = p }

    -- THE GATES OF A ROW SAY WHAT ITS MONITOR SAYS
    module _ (signal activator : ℕ → ℕ) (n-signal : (k : ℕ) → Negates (signal k)) (n-activator : (k : ℕ) → Negates (activator k)) (act signals : ℕ → Bool) where
      pub row_says : (r : Row) → Each (λ a. v (activator a) ≡ act a) r → EachSignal (λ n. v (signal n) ≡ signals n) r
          → Gates x1 x2 x3 (row_wiring z Y x1 x2 x3 signal activator r) → Says (row_wiring z Y x1 x2 x3 signal activator r) (monitor act signals r s)
      row_says (Constant c) e g gates = constant_says c gates
      row_says (Signal c n) e g gates = signal_says (n-signal n) g c gates
      row_says (Unary c a) e g gates = unary_says (n-activator a) e c gates
      row_says (Binary c a b) e g gates = binary_says (n-activator a) e.0 (n-activator b) e.1 c gates
