-- The cycle of a finding. Assumes nothing.
use native.Mathlib.Omega.{arith}
use Rattle.tables.specs.declared.row.NormalForm.{NormalForm}
use Rattle.tables.specs.declared.trace.Activation.{Activation}
use Rattle.tables.specs.declared.trace.Trace.{Trace}
use Rattle.take_file.specs.Valid.{InRange}
use Rattle.checking.specs.declared.finding.Finding.{Finding}
use Rattle.checking.specs.declared.finding.Finding.TheVariants.{Root, Failed, Starved, Pending, Passes}
use Rattle.checking.specs.Finding.{FindingOf}
use Rattle.checking.proofs.Bounds.{failed_cycle}
use Rattle.check_text.specs.Text.{CycleBelow}

-- a finding's cycle has at most three digits
pub finding_cycle : (g : NormalForm) (t : Trace) (a : Activation) → InRange t → (x : Finding) → FindingOf g t a x → CycleBelow 1000 x
finding_cycle g t a r Root f = tt
finding_cycle g t a r (Failed row cycle) f = omega (arith, failed_cycle g t a r row cycle f)
finding_cycle g t a r (Starved row) f = tt
finding_cycle g t a r (Pending row) f = tt
finding_cycle g t a r Passes f = tt
