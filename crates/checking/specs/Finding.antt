-- What each finding of a sheet check says (01, "Monitors"; demand 3). Assumes nothing.
use Rattle.std.specs.Prelude.{ℕ, ◌-◌, ◌≤◌, ◌<◌, ◌≡◌, true, false}
use Rattle.tables.specs.declared.row.NormalForm.{NormalForm}
use Rattle.tables.specs.declared.trace.Activation.{Activation}
use Rattle.tables.specs.declared.trace.Ending.{Ending}
use Rattle.tables.specs.declared.trace.Ending.TheVariants.{Open, Loop}
use Rattle.tables.specs.declared.trace.Trace.{Trace}
use Rattle.meaning.specs.Reading.{classical, Some}
use Rattle.monitors.specs.declared.Output.{Output}
use Rattle.monitors.specs.Sheet.{activator_at, looped_output, open_output, IsRow, PassesIn}
use Rattle.checking.specs.declared.finding.Finding.{Finding}
use Rattle.checking.specs.declared.finding.Finding.TheVariants.{Root, Failed, Starved, Pending, Passes}

module _ (g : NormalForm) (t : Trace) (a : Activation) where
  -- what row k's monitor says in cycle i, "counted along the endless take"
  abbrev pub output_in : Ending → ℕ → ℕ → Output
  output_in Open i k = open_output g t a i k
  output_in (Loop l) i k = looped_output g t l a i k

  -- an open take ends
  abbrev pub IsCycle : Ending → ℕ → Type 0
  IsCycle Open i = i < t.cycles
  IsCycle (Loop l) i = Unit {0}

  abbrev pub RootSet : Type 0
  RootSet = activator_at a 0 g.rows ≡ true

  -- "nothing ever fails"
  abbrev pub NoneFails : Ending → Type 0
  NoneFails e = (i k : ℕ) → IsCycle e i → IsRow g k → (output_in e i k).failed ≡ false

  -- row k's accept "is 1 infinitely often"
  abbrev pub Returns : ℕ → ℕ → Type 0
  Returns l k = (i : ℕ) → Some classical (λ j. (i ≤ j) × ((looped_output g t l a j k).accept ≡ true))

  -- "else `failed` with the earliest cycle, counted along the endless take, then the lowest row"
  pub record FailsFirst (e : Ending) (row cycle : ℕ) : Type 0 where
    pub root_set : RootSet
    pub a_row : IsRow g row
    pub a_cycle : IsCycle e cycle
    pub fails : (output_in e cycle row).failed ≡ true
    pub earliest : (i k : ℕ) → i < cycle → IsRow g k → (output_in e i k).failed ≡ false
    pub lowest : (k : ℕ) → IsRow g k → k < row → (output_in e cycle k).failed ≡ false

  -- "else `starved` (accept stops returning) …, with the lowest row"
  pub record StarvesFirst (l row : ℕ) : Type 0 where
    pub root_set : RootSet
    pub none_fails : NoneFails (Loop l)
    pub a_row : IsRow g row
    pub starves : ¬ Returns l row
    pub lowest : (k : ℕ) → IsRow g k → k < row → Returns l k

  -- "or, for an open take, `pending`, with the lowest row"
  pub record PendsFirst (row : ℕ) : Type 0 where
    pub root_set : RootSet
    pub none_fails : NoneFails Open
    pub a_row : IsRow g row
    pub pends : (open_output g t a (t.cycles - 1) row).pending ≡ true
    pub lowest : (k : ℕ) → IsRow g k → k < row → (open_output g t a (t.cycles - 1) k).pending ≡ false

  abbrev pub StarvesIn : Ending → ℕ → Type 0
  StarvesIn Open row = ⊥
  StarvesIn (Loop l) row = StarvesFirst l row

  abbrev pub PendsIn : Ending → ℕ → Type 0
  PendsIn Open row = PendsFirst row
  PendsIn (Loop l) row = ⊥

  -- "The answer to a sheet check holds its finding, with row and cycle where it has them: `root`; else …; else `passes`."
  abbrev pub FindingSays : Ending → Finding → Type 0
  FindingSays e Root = activator_at a 0 g.rows ≡ false
  FindingSays e (Failed row cycle) = FailsFirst e row cycle
  FindingSays e (Starved row) = StarvesIn e row
  FindingSays e (Pending row) = PendsIn e row
  FindingSays e Passes = PassesIn g t e a

  -- the finding: what it says is so, and what no other finding says is
  pub record FindingOf (x : Finding) : Type 0 where
    pub said : FindingSays t.ending x
    pub only : (y : Finding) → FindingSays t.ending y → y ≡ x
