use Prim.Native.Nat.{ℕ, ◌-◌, ◌<◌}
use mathlib.Core.Path.{◌≡◌}
use mathlib.Core.Bool.{false}
use mathlib.Core.List.{List}
use Rattle.tables.specs.declared.trace.Ending.TheVariants.{Loop}
use Rattle.tables.specs.declared.trace.Trace.{Trace}
use Rattle.meaning.specs.Covers.{CoversIn}
use Rattle.normal_form.specs.Form.{InNormalForm}
use Rattle.rounds.specs.Recorded.{SpreadTo}
use Rattle.rounds.proofs.Loops.{Looping}
use Rattle.rounds.proofs.looped.fill_looped.Given as goal

abbrev pub invariant-rounds : goal.invariant-rounds
invariant-rounds l = (t : Trace) → t.cycles ≡ l.last → SpreadTo l.form.signals t.cycles t.lanes l.digits
    → (ok : InNormalForm l.form) (h : l.start < t.cycles) (covers : CoversIn l.form t (Loop l.start))
    → (words : List ℕ) × Looping l.form t l.start ok h covers l.rounds l.cells words l.sure false

abbrev pub decreases-rounds : goal.decreases-rounds
decreases-rounds l = l.form.rows - l.rounds
