-- What each verdict says (01, "Meaning"; demand 2). Assumes nothing.
use Rattle.std.specs.Prelude.{◌≡◌}
use Rattle.tables.specs.declared.row.Formula.{Formula}
use Rattle.tables.specs.declared.row.NormalForm.{NormalForm}
use Rattle.tables.specs.declared.trace.Ending.{Ending}
use Rattle.tables.specs.declared.trace.Ending.TheVariants.{Open as NoLoop, Loop}
use Rattle.tables.specs.declared.trace.Trace.{Trace}
use Rattle.meaning.specs.Reading.{classical}
use Rattle.meaning.specs.Trace.{signal_at, unrolled}
use Rattle.meaning.specs.Satisfaction.{table_of, Satisfies}
use Rattle.meaning.specs.Strong.{RowStronglyTrue}
use Rattle.normal_form.specs.declared.sign.Sign.TheVariants.{Plain, Negated}
use Rattle.normal_form.specs.Numbering.{normal_form}
use Rattle.judging.specs.declared.verdict.Verdict.{Verdict}
use Rattle.judging.specs.declared.verdict.Verdict.TheVariants.{Holds, Breaks, Kept, Broken, Open}

-- a normal form is strongly true at 0
abbrev pub StronglyTrue : Trace → NormalForm → Type 0
StronglyTrue t g = RowStronglyTrue classical t.cycles (signal_at t) (table_of g.places) g.rows 0

-- "A take is kept when the normal form is strongly true at 0,
abbrev pub IsKept : Formula → Trace → Type 0
IsKept f t = StronglyTrue t (normal_form f Plain)

-- broken when that of the negated rule is"
abbrev pub IsBroken : Formula → Trace → Type 0
IsBroken f t = StronglyTrue t (normal_form f Negated)

-- "A looped take is said to hold exactly when its endless repetition satisfies the rule, … at the first cycle" (demand 2); "kept",
-- "broken", "else open". A verdict of the other kind of take is never so.
abbrev pub SaysOf : Formula → Trace → Ending → Verdict → Type 0
SaysOf f t (Loop l) Holds = Satisfies classical (unrolled t l) f
SaysOf f t (Loop l) Breaks = ¬ Satisfies classical (unrolled t l) f
SaysOf f t (Loop l) Kept = ⊥
SaysOf f t (Loop l) Broken = ⊥
SaysOf f t (Loop l) Open = ⊥
SaysOf f t NoLoop Holds = ⊥
SaysOf f t NoLoop Breaks = ⊥
SaysOf f t NoLoop Kept = IsKept f t
SaysOf f t NoLoop Broken = IsBroken f t
SaysOf f t NoLoop Open = (¬ IsKept f t) × (¬ IsBroken f t)

abbrev pub Says : Formula → Trace → Verdict → Type 0
Says f t v = SaysOf f t t.ending v

-- the verdict: what it says is so, and what no other verdict says is
pub record VerdictOf (f : Formula) (t : Trace) (v : Verdict) : Type 0 where
  pub said : Says f t v
  pub only : (u : Verdict) → Says f t u → u ≡ v
