-- When a sheet passes (01, "Monitors"). Assumes nothing.
use Rattle.std.specs.Prelude.{ℕ, ◌-◌, ◌≤◌, ◌<◌, ◌≡◌, Bool, true, false, [], get_or}
use Rattle.tables.specs.Bit.{bit_at}
use Rattle.tables.specs.declared.row.NormalForm.{NormalForm}
use Rattle.tables.specs.declared.trace.Activation.{Activation}
use Rattle.tables.specs.declared.trace.Ending.{Ending}
use Rattle.tables.specs.declared.trace.Ending.TheVariants.{Open, Loop}
use Rattle.tables.specs.declared.trace.Trace.{Trace}
use Rattle.meaning.specs.Reading.{classical, Some}
use Rattle.meaning.specs.Trace.{signal_at, position, unrolled}
use Rattle.meaning.specs.Satisfaction.{table_of}
use Rattle.monitors.specs.declared.Output.{Output}
use Rattle.monitors.specs.Along.{Activators, output}

-- the sheet's digit for row k at cycle c
abbrev pub activator_at : Activation → ℕ → ℕ → Bool
activator_at a c k = bit_at (get_or a.lanes (k - 1) (record { words = [] })) c

-- "A sheet for a looped take is repeated with it."
abbrev pub repeated : Activation → Trace → ℕ → Activators
repeated a t l i = activator_at a (position t.cycles l i)

-- what row k's monitor says in cycle i of the endless repetition of a looped take, and of an open take
abbrev pub looped_output : NormalForm → Trace → ℕ → Activation → ℕ → ℕ → Output
looped_output g t l a i k = output (table_of g.places) (unrolled t l) (repeated a t l) i k

abbrev pub open_output : NormalForm → Trace → Activation → ℕ → ℕ → Output
open_output g t a i k = output (table_of g.places) (signal_at t) (activator_at a) i k

-- the sheet is for this normal form and this take: "of its own cycles and loop" (demand 3)
pub record Fits (g : NormalForm) (t : Trace) (a : Activation) : Type 0 where
  pub rows : a.rows ≡ g.rows
  pub cycles : a.cycles ≡ t.cycles

-- row k of the normal form
abbrev pub IsRow : NormalForm → ℕ → Type 0
IsRow g k = (1 ≤ k) × (k ≤ g.rows)

-- "It passes when the root is set in cycle 0, nothing ever fails, and each accept is 1 infinitely often."
pub record PassesLooped (g : NormalForm) (t : Trace) (l : ℕ) (a : Activation) : Type 0 where
  pub root_set : activator_at a 0 g.rows ≡ true
  pub none_fails : (i k : ℕ) → IsRow g k → (looped_output g t l a i k).failed ≡ false
  pub accepts_return : (k : ℕ) → IsRow g k → (i : ℕ) → Some classical (λ j. (i ≤ j) × ((looped_output g t l a j k).accept ≡ true))

-- "For an open take the last condition is that no row's pending is 1 in the last cycle."
pub record PassesOpen (g : NormalForm) (t : Trace) (a : Activation) : Type 0 where
  pub root_set : activator_at a 0 g.rows ≡ true
  pub none_fails : (i k : ℕ) → i < t.cycles → IsRow g k → (open_output g t a i k).failed ≡ false
  pub none_pending : (k : ℕ) → IsRow g k → (open_output g t a (t.cycles - 1) k).pending ≡ false

abbrev pub PassesIn : NormalForm → Trace → Ending → Activation → Type 0
PassesIn g t Open a = PassesOpen g t a
PassesIn g t (Loop l) a = PassesLooped g t l a

-- the sheet passes for the normal form and the take
abbrev pub Passes : NormalForm → Trace → Activation → Type 0
Passes g t a = PassesIn g t t.ending a
