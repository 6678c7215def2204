-- The take that the sheets of a normal form cover (02, request 6: "sheets for such rules cover the take with that many rounds written out
-- before its loop"). Assumes nothing.
use Rattle.std.specs.Prelude.{◌+◌, ◌≤◌}
use Rattle.std.specs.Result.{result_unwrap_or}
use Rattle.tables.specs.declared.row.NormalForm.{NormalForm}
use Rattle.tables.specs.declared.trace.Ending.{Ending}
use Rattle.tables.specs.declared.trace.Ending.TheVariants.{Open, Loop}
use Rattle.tables.specs.declared.trace.Trace.{Trace}
use Rattle.meaning.specs.Nesting.{nesting}
use Rattle.written_out.specs.WrittenOut.{round_cycles, written_out}

-- "that many": as many as past operators are nested. None is yet, so it is the take itself (law `covered_itself`). Where there is no
-- written-out form it is the take itself too.
unfoldable pub covered : NormalForm → Trace → Trace
covered g t = result_unwrap_or (written_out t (nesting g)) t

-- the written-out form has at most 256 cycles
abbrev pub CoverableIn : NormalForm → Trace → Ending → Type 0
CoverableIn g t Open = Unit {0}
CoverableIn g t (Loop l) = t.cycles + round_cycles t l (nesting g) ≤ 256

abbrev pub Coverable : NormalForm → Trace → Type 0
Coverable g t = CoverableIn g t t.ending
