-- The take that the sheets of a rule cover, where the two have met: it is in range and covers the rule's normal form (met-range, met-covers), and
-- judging it is judging the take itself (satisfies-covered, covered-open). Assumes nothing.
use Prim.Native.Nat.{ℕ, suc, ◌≤◌}
use mathlib.Core.Path.{◌≡◌, sym, subst⁻¹, ◌∙◌}
use mathlib.Core.Logic.{◌↔◌}
use native.Mathlib.Omega.{arith}
use Rattle.tables.specs.declared.refusal.Outcome.{Outcome}
use Rattle.tables.specs.declared.refusal.Outcome.TheVariants.{Accepted}
use Rattle.tables.specs.declared.row.Formula.{Formula}
use Rattle.tables.specs.declared.row.NormalForm.{NormalForm}
use Rattle.tables.specs.declared.trace.Ending.TheVariants.{Open, Loop}
use Rattle.tables.specs.declared.trace.Trace.{Trace}
use Rattle.rule_file.specs.Valid.{InRange as FormulaInRange}
use Rattle.take_file.specs.Valid.{InRange as TraceInRange}
use Rattle.meaning.specs.Reading.{Reading}
use Rattle.meaning.specs.Trace.{InfiniteTrace, unrolled}
use Rattle.meaning.specs.Satisfaction.{table_of, Satisfies}
use Rattle.meaning.specs.Covers.{CoversForm}
use Rattle.meaning.proofs.Rows.{each_signal_map}
use Rattle.meaning.proofs.Locality.{SameSignals, truth_everywhere}
use Rattle.normal_form.specs.declared.sign.Sign.TheVariants.{Plain}
use Rattle.normal_form.specs.Form.{InNormalForm}
use Rattle.normal_form.specs.Numbering.{normal_form}
use Rattle.normal_form.proofs.Ranges.{form_normal}
use Rattle.normal_form.proofs.FormTables.{table_ordered, table_signals}
use Rattle.written_out.specs.Covered.{Coverable}
use Rattle.written_out.proofs.Laws.{coverable, covered_open, covered_range, covered_covers, covered_loop_lem, covered_unrolled}
use Rattle.meeting.specs.declared.Wanted.{Wanted}
use Rattle.meeting.specs.Meeting.{meeting_outcome, covered_take, covered_loop}

-- what is not refused has a take that its sheets cover: no row looks back yet, so nothing is refused for want of it
pub met_coverable : (wanted : Wanted) (f : Formula) (t : Trace) → TraceInRange t → meeting_outcome wanted f t ≡ Accepted → Coverable (normal_form f Plain) t
met_coverable wanted f t range e = coverable (normal_form f Plain) t range

pub accepted_range : (wanted : Wanted) (f : Formula) (t : Trace) → TraceInRange t → meeting_outcome wanted f t ≡ Accepted → TraceInRange (covered_take f t)
accepted_range wanted f t range e = covered_range (normal_form f Plain) t range (met_coverable wanted f t range e)

-- a rule and a take in range that have met, and what the meeting hands on
pub record HaveMet (f : Formula) (t : Trace) (g : NormalForm) (u : Trace) : Type 0 where
  pub fine : FormulaInRange f
  pub range : TraceInRange t
  pub able : Coverable (normal_form f Plain) t
  pub form : g ≡ normal_form f Plain
  pub take : u ≡ covered_take f t

pub have_met : (wanted : Wanted) (f : Formula) (t : Trace) → FormulaInRange f × TraceInRange t → {o : Outcome} {g : NormalForm} {u : Trace}
    → (o ≡ meeting_outcome wanted f t) × ((o ≡ Accepted → g ≡ normal_form f Plain) × (o ≡ Accepted → u ≡ covered_take f t)) → o ≡ Accepted → HaveMet f t g u
have_met wanted f t r m e =
    record { fine = r.0; range = r.1; able = met_coverable wanted f t r.1 (sym m.0 ∙ e); form = m.1.0 e; take = m.1.1 e }

module _ {f : Formula} {t : Trace} {g : NormalForm} {u : Trace} (met : HaveMet f t g u) where
  pub met_form : InNormalForm g
  met_form = subst⁻¹ InNormalForm met.form (form_normal f Plain met.fine)

  pub met_range : TraceInRange u
  met_range = subst⁻¹ TraceInRange met.take (covered_range (normal_form f Plain) t met.range met.able)

  pub met_covers : CoversForm g u
  met_covers =
      subst⁻¹ (λ g. CoversForm g u) met.form
      (subst⁻¹ (CoversForm (normal_form f Plain)) met.take (covered_covers (normal_form f Plain) t met.range met.able))

  -- an open take is covered as it stands
  pub met_open : t.ending ≡ Open → u ≡ t
  met_open e = met.take ∙ covered_open (normal_form f Plain) t e

  pub met_ending : (l : ℕ) → t.ending ≡ Loop l → u.ending ≡ Loop (covered_loop f t l)
  met_ending l e = subst⁻¹ (λ (x : Trace). x.ending ≡ Loop (covered_loop f t l)) met.take (covered_loop_lem (normal_form f Plain) t l e met.able).ending

  -- THE COVERED TAKE SATISFIES THE RULE EXACTLY WHERE THE TAKE ITSELF DOES
  pub satisfies_covered : (R : Reading) (l : ℕ) → t.ending ≡ Loop l → Satisfies R (unrolled u (covered_loop f t l)) f ↔ Satisfies R (unrolled t l) f
  satisfies_covered R l e =
      let w : InfiniteTrace = unrolled u (covered_loop f t l) in
      let signal : (i s : ℕ) → s ≤ 32 → w i s ≡ unrolled t l i s =
      subst⁻¹ (λ x. (i s : ℕ) → s ≤ 32 → unrolled x (covered_loop f t l) i s ≡ unrolled t l i s) met.take (covered_unrolled (normal_form f Plain) t l e met.able met.range) in
      let same : (i : ℕ) → SameSignals (suc f.rows) (table_of f.places) w (unrolled t l) i =
      λ i k h. each_signal_map _ _ (table_of f.places k) (λ s x. signal i s (omega (arith, x.1, met.fine.most_signals)))
      (table_signals f.signals f.rows f.places met.fine.rows_in_range k h) in
      truth_everywhere R w (unrolled t l) (table_of f.places) (suc f.rows) (table_ordered f.signals f.rows f.places met.fine.rows_in_range) same f.rows (omega arith) 0
