-- A run as it is held, and the states that calls lead to (02, request 1). Assumes nothing.
use Rattle.std.specs.Prelude.{Bool, List, ◌≡◌, length}
use Rattle.tables.specs.declared.row.Formula.{Formula}
use Rattle.tables.specs.declared.run.Run.{Run}
use Rattle.recording.specs.Recording.{words_of}
use Rattle.run.specs.Cycles.{Led}

-- the run of a rule and the cycles so far
abbrev pub run_of : Formula → List (List Bool) → Run
run_of f cs = record { formula = f; cycles = length cs; words = words_of cs }

-- a state of which `Is` says when it is that of a rule and cycles
module _ (Is : Formula → List (List Bool) → Type 0) where
  -- calls lead to the state
  pub record LedTo : Type 0 where
    pub formula : Formula
    pub cycles : List (List Bool)
    pub led : Led formula cycles
    pub is : Is formula cycles

  -- "A run in a state that no calls lead to is refused with 4 before anything else": `turned` where no calls lead to the state, and where
  -- they lead to this rule and these cycles, `goes` of these
  pub record InState (turned : Type 0) (goes : Formula → List (List Bool) → Type 0) : Type 0 where
    pub no_calls : ¬ LedTo → turned
    pub by_calls : (f : Formula) (cs : List (List Bool)) → Led f cs → Is f cs → goes f cs
