-- What program `check_sheet` prints for a finding (01, "Monitors"). Assumes nothing.
use Rattle.std.specs.Prelude.{ℕ, ◌<◌, List, []}
use Rattle.tables.specs.Bytes.{bytes}
use Rattle.text.specs.Written.{decimal, written_line}
use Rattle.checking.specs.declared.finding.Finding.{Finding}
use Rattle.checking.specs.declared.finding.Finding.TheVariants.{Root, Failed, Starved, Pending, Passes}

-- "`root`; else `failed` …; else `starved` (accept stops returning) or, for an open take, `pending` …; else `passes`"
abbrev pub finding_word : Finding → List ℕ
finding_word Root = bytes "root"
finding_word (Failed row cycle) = bytes "failed"
finding_word (Starved row) = bytes "starved"
finding_word (Pending row) = bytes "pending"
finding_word Passes = bytes "passes"

-- "with row and cycle where it has them": `failed` has both, `starved` and `pending` have a row
abbrev pub finding_place : Finding → List ℕ
finding_place Root = []
finding_place (Failed row cycle) = written_line (bytes "row") (decimal row) (written_line (bytes "cycle") (decimal cycle) [])
finding_place (Starved row) = written_line (bytes "row") (decimal row) []
finding_place (Pending row) = written_line (bytes "row") (decimal row) []
finding_place Passes = []

-- "The answer to a sheet check holds its finding": the line `finding=`, then `row=` and `cycle=`
unfoldable pub finding_text : Finding → List ℕ
finding_text x = written_line (bytes "finding") (finding_word x) (finding_place x)

-- the finding's cycle lies below n
abbrev pub CycleBelow : ℕ → Finding → Type 0
CycleBelow n Root = Unit {0}
CycleBelow n (Failed row cycle) = cycle < n
CycleBelow n (Starved row) = Unit {0}
CycleBelow n (Pending row) = Unit {0}
CycleBelow n Passes = Unit {0}
