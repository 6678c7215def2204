-- The sheet that is made: from lanes that tell the truth; what its root says; and that its text is fixed. Assumes nothing.
use Prim.Native.Nat.{ℕ, suc, ◌-◌, ◌≤◌, ◌<◌, min}
use mathlib.Core.Path.{◌≡◌, refl, sym, ap, subst, subst⁻¹, ◌∙◌}
use mathlib.Core.Logic.Iff
use mathlib.Core.Logic.{◌↔◌}
use mathlib.Core.Bool.{Bool, true, false}
use mathlib.Core.List.{List, [], map}
use native.Mathlib.Omega.{arith}
use lib.ListN.{length, take}
use lib.Seq.{length-take-le, get_or-take}
use Rattle.tables.specs.Bit.{bit_at}
use Rattle.tables.specs.Place.{tabulate}
use Rattle.tables.proofs.Places.{tabulate_ext, tabulate_get_d, map_tabulate}
use Rattle.tables.specs.declared.row.Formula.{Formula}
use Rattle.tables.specs.declared.row.NormalForm.{NormalForm}
use Rattle.tables.specs.declared.trace.Activation.{Activation}
use Rattle.tables.specs.declared.trace.Ending.{Ending}
use Rattle.tables.specs.declared.trace.Ending.TheVariants.{Open, Loop}
use Rattle.tables.specs.declared.trace.Lane.{Lane}
use Rattle.tables.specs.declared.trace.Trace.{Trace}
use Rattle.rule_file.specs.Valid.{InRange as FormulaInRange}
use Rattle.sheet_file.specs.Written.{rows_of, written_sheet}
use Rattle.normal_form.specs.declared.sign.Sign.TheVariants.{Plain}
use Rattle.normal_form.specs.Form.{InNormalForm}
use Rattle.normal_form.specs.Numbering.{normal_form}
use Rattle.normal_form.proofs.Ranges.{form_normal}
use Rattle.normal_form.proofs.Demand.{satisfied_alike}
use Rattle.meaning.specs.Reading.{classical}
use Rattle.meeting.specs.Meeting.{covered_take, covered_loop}
use Rattle.meeting.proofs.Covered.{HaveMet, met_form, met_range, met_open, met_ending, satisfies_covered}
use Rattle.lanes.specs.Truth.{lane_in, TrueIn, TrueAt, Filled}
use Rattle.lanes.proofs.Shown.{shown_bit}
use Rattle.monitors.specs.Sheet.{activator_at, IsRow}
use Rattle.sheet_maker.specs.Made.{SatisfiedIn, Satisfied, IsMade}

-- lanes that tell where their rows are true
pub filled_made : (g : NormalForm) (t : Trace) (a : Activation) → t.cycles ≤ 256 → length a.lanes ≡ 128 → a.rows ≡ g.rows → a.cycles ≡ t.cycles → Filled g t a.lanes → IsMade g t a
filled_made g t a most e r n filled = record { places = e; rows = r; cycles = n; digits = told }
  where
    told : (k c : ℕ) → IsRow g k → c < t.cycles → (activator_at a c k ≡ true) ↔ TrueAt g t k c
    told k c h b =
        let x = filled (k - 1) (omega (arith, h.0, h.1)) in
        let s : suc (k - 1) ≡ k = omega (arith, h.0) in
        let bit = shown_bit t.cycles (lane_in a.lanes (k - 1)) x.0 most x.1 c b in
        let truth = subst (λ j. TrueAt g t j c ↔ (x.0 c ≡ true)) s (x.2 c b) in
        (λ y. truth.1 (sym bit ∙ y), λ y. bit ∙ truth.0 y)

-- the root at the first cycle
module _ (f : Formula) (t : Trace) (fine : FormulaInRange f) where
  root_in : (ending : Ending) → TrueIn (normal_form f Plain) t ending (normal_form f Plain).rows 0 ↔ SatisfiedIn f t ending
  root_in Open = (λ x. x, λ x. x)
  root_in (Loop l) = satisfied_alike f fine _

  pub root_satisfied : TrueAt (normal_form f Plain) t (normal_form f Plain).rows 0 ↔ Satisfied f t
  root_satisfied = root_in t.ending

  made_root : (a : Activation) → 1 ≤ t.cycles → IsMade (normal_form f Plain) t a → (activator_at a 0 (normal_form f Plain).rows ≡ true) ↔ Satisfied f t
  made_root a some made =
      let ok : InNormalForm (normal_form f Plain) = form_normal f Plain fine in
      Iff.trans (made.digits (normal_form f Plain).rows 0 (ok.some_rows, omega arith) some) root_satisfied

-- the rule and the take that have met: what is made is a sheet for the take that it covers
module _ {f : Formula} {t : Trace} {g : NormalForm} {u : Trace} (met : HaveMet f t g u) where
  pub satisfied_covered : Satisfied f u ↔ Satisfied f t
  satisfied_covered = by t.ending refl
    where
      by : (ending : Ending) → t.ending ≡ ending → Satisfied f u ↔ Satisfied f t
      by Open e = subst⁻¹ (λ u. Satisfied f u ↔ Satisfied f t) (met_open met e) (λ x. x, λ x. x)
      by (Loop l) e = subst⁻¹ (λ y. SatisfiedIn f u y ↔ SatisfiedIn f t t.ending) (met_ending met l e)
          (subst⁻¹ (λ y. SatisfiedIn f u (Loop (covered_loop f t l)) ↔ SatisfiedIn f t y) e (satisfies_covered met classical l e))

  module _ {a : Activation} (made : IsMade g u a) where
    -- it has room in its table
    pub rows_met : (1 ≤ a.rows) × (a.rows ≤ 128)
    rows_met = (omega (arith, made.rows, (met_form met).some_rows), omega (arith, made.rows, (met_form met).most_rows))

    pub cycles_met : a.cycles ≤ 256
    cycles_met = omega (arith, made.cycles, (met_range met).most_cycles)

    pub made_met : IsMade (normal_form f Plain) (covered_take f t) a
    made_met = subst (λ u. IsMade (normal_form f Plain) u a) met.take (subst (λ g. IsMade g u a) met.form made)

    -- a Bool that says whether it sets its root
    pub root_set : {b : Bool} → b ≡ activator_at a 0 a.rows → (b ≡ true) ↔ Satisfied f t
    root_set bit =
        let form = subst (λ g. IsMade g u a) met.form made in
        subst⁻¹ (λ x. (x ≡ true) ↔ Satisfied f t) (bit ∙ ap (activator_at a 0) form.rows)
        (Iff.trans (made_root f u met.fine a (met_range met).some_cycles form) satisfied_covered)

-- Bools that are on in the same case
same_on : (P : Type 0) (x y : Bool) → (x ≡ true) ↔ P → (y ≡ true) ↔ P → x ≡ y
same_on P true true p q = refl
same_on P true false p q = sym (q.1 (p.0 refl))
same_on P false true p q = p.1 (q.0 refl)
same_on P false false p q = refl

-- the digits of a table's used rows, by their places
pub rows_by_place : (a : Activation) → a.rows ≤ length a.lanes → rows_of a ≡ tabulate a.rows (λ k. tabulate (min a.cycles 256) (bit_at (lane_in a.lanes k)))
rows_by_place a h =
    let digits : Lane → List Bool = λ l. tabulate (min a.cycles 256) (bit_at l) in
    let l : length (take a.rows a.lanes) ≡ a.rows = length-take-le a.rows a.lanes h in
    ap (map digits) (sym (tabulate_get_d (take a.rows a.lanes) a.rows (record { words = [] }) l))
    ∙ map_tabulate digits a.rows (lane_in (take a.rows a.lanes))
    ∙ tabulate_ext a.rows _ _ (λ k b. ap digits (get_or-take a.rows a.lanes k (record { words = [] }) b))

-- THE TEXT OF THE SHEET MADE IS FIXED
pub made_unique : (g : NormalForm) (t : Trace) (a b : Activation) → g.rows ≤ 128 → IsMade g t a → IsMade g t b → written_sheet a ≡ written_sheet b
unfolding written_sheet
made_unique g t a b most x y =
    rw (rows_by_place a (omega (arith, x.places, x.rows)), rows_by_place b (omega (arith, y.places, y.rows)), x.rows, y.rows, x.cycles, y.cycles, same)
  where
    bits : Activation → ℕ → List Bool
    bits s k = tabulate (min t.cycles 256) (bit_at (lane_in s.lanes k))

    on : (s : Activation) → IsMade g t s → (k c : ℕ) → k < g.rows → c < t.cycles → (bit_at (lane_in s.lanes k) c ≡ true) ↔ TrueAt g t (suc k) c
    on s z k c h l = let e : suc k - 1 ≡ k = omega arith in subst (λ j. (bit_at (lane_in s.lanes j) c ≡ true) ↔ TrueAt g t (suc k) c) e (z.digits (suc k) c (omega arith, omega arith) l)

    same : tabulate g.rows (bits a) ≡ tabulate g.rows (bits b)
    same = tabulate_ext g.rows (bits a) (bits b)
        (λ k h. tabulate_ext (min t.cycles 256) _ _ (λ c l. same_on (TrueAt g t (suc k) c) _ _ (on a x k c h (omega arith)) (on b y k c h (omega arith))))
