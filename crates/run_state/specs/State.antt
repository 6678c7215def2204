-- A run in bytes that the caller lends and keeps between calls. Assumes nothing.
use Rattle.std.specs.Prelude.{ℕ, Bool, List}
use Rattle.tables.specs.declared.row.Formula.{Formula}
use Rattle.run.specs.Run.{run_of}
use Rattle.run_bytes.specs.Bytes.{run_bytes}

-- the bytes of a rule and the cycles so far
abbrev pub state_of : Formula → List (List Bool) → List ℕ
state_of f cs = run_bytes (run_of f cs)
