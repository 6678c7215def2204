-- The sheet that is made (01, "Monitors"), and when. Assumes nothing.
use Rattle.std.specs.Prelude.{ℕ, ◌<◌, ◌≡◌, ◌↔◌, true, length}
use Rattle.tables.specs.declared.row.Formula.{Formula}
use Rattle.tables.specs.declared.row.NormalForm.{NormalForm}
use Rattle.tables.specs.declared.trace.Activation.{Activation}
use Rattle.tables.specs.declared.trace.Ending.{Ending}
use Rattle.tables.specs.declared.trace.Ending.TheVariants.{Open, Loop}
use Rattle.tables.specs.declared.trace.Trace.{Trace}
use Rattle.meaning.specs.Reading.{classical}
use Rattle.meaning.specs.Trace.{unrolled}
use Rattle.meaning.specs.Satisfaction.{Satisfies}
use Rattle.lanes.specs.Truth.{TrueAt}
use Rattle.judging.specs.Verdict.{IsKept}
use Rattle.monitors.specs.Sheet.{activator_at, IsRow}

-- a looped take's endless repetition satisfies the rule; an open take is kept
abbrev pub SatisfiedIn : Formula → Trace → Ending → Type 0
SatisfiedIn f t (Loop l) = Satisfies classical (unrolled t l) f
SatisfiedIn f t Open = IsKept f t

-- not so where "the rule is not satisfied or not kept"
abbrev pub Satisfied : Formula → Trace → Type 0
Satisfied f t = SatisfiedIn f t t.ending

-- "The sheet made has a 1 where the row is true at that cycle (strongly, for an open take)": the rows are the normal form's and the
-- cycles the take's; the table has its 128 places, as every one has
pub record IsMade (g : NormalForm) (t : Trace) (a : Activation) : Type 0 where
  pub places : length a.lanes ≡ 128
  pub rows : a.rows ≡ g.rows
  pub cycles : a.cycles ≡ t.cycles
  pub digits : (k c : ℕ) → IsRow g k → c < t.cycles → (activator_at a c k ≡ true) ↔ TrueAt g t k c
