-- Lassos on which the truth of every row repeats from the loop on (02, request 6: "their truth repeats at the latest after as many loop
-- rounds as past operators are nested along one branch of the normal form"). Assumes nothing.
use Rattle.std.specs.Prelude.{ℕ, suc, ◌+◌, ◌*◌, ◌-◌, ◌≤◌, ◌<◌, ◌≡◌, Bool}
use Rattle.tables.specs.declared.row.NormalForm.{NormalForm}
use Rattle.tables.specs.declared.trace.Ending.{Ending}
use Rattle.tables.specs.declared.trace.Ending.TheVariants.{Open, Loop}
use Rattle.tables.specs.declared.trace.Trace.{Trace}
use Rattle.meaning.specs.Trace.{signal_at, position}
use Rattle.meaning.specs.Satisfaction.{Table, table_of}
use Rattle.meaning.specs.Nesting.{nested}

-- a recording of n cycles with its loop at l covers the rows below m: from where its signals repeat, its loop begins as many rounds
-- later as rows that look back are nested
pub record Covers (n l : ℕ) (recording : ℕ → ℕ → Bool) (t : Table) (m : ℕ) : Type 0 where
  pub since : ℕ
  pub repeats : (s i : ℕ) → since ≤ i → recording (position n l (i + (n - l))) s ≡ recording (position n l i) s
  pub late : (k : ℕ) → k < m → since + nested t k * (n - l) ≤ l

-- a take covers a normal form; an open one has no loop
abbrev pub CoversIn : NormalForm → Trace → Ending → Type 0
CoversIn g t Open = Unit {0}
CoversIn g t (Loop l) = Covers t.cycles l (signal_at t) (table_of g.places) (suc g.rows)

abbrev pub CoversForm : NormalForm → Trace → Type 0
CoversForm g t = CoversIn g t t.ending
