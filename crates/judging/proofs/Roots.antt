-- What is found at the root is what the verdicts speak of. Assumes nothing.
use Prim.Native.Nat.{ℕ, suc, ◌-◌}
use mathlib.Core.Path.{◌≡◌, refl, sym, ap, subst, ◌∙◌}
use mathlib.Core.Logic.{◌↔◌}
use mathlib.Core.Bool.{Bool, true, false}
use mathlib.Core.List.{List}
use native.Mathlib.Omega.{arith}
use Rattle.tables.specs.Bit.{bit_at}
use Rattle.tables.specs.declared.row.Formula.{Formula}
use Rattle.tables.specs.declared.row.NormalForm.{NormalForm}
use Rattle.tables.specs.declared.trace.Ending.{Ending}
use Rattle.tables.specs.declared.trace.Ending.TheVariants.{Open as NoLoop, Loop}
use Rattle.tables.specs.declared.trace.Lane.{Lane}
use Rattle.tables.specs.declared.trace.Trace.{Trace}
use Rattle.rule_file.specs.Valid.{InRange as FormulaInRange}
use Rattle.take_file.specs.Valid.{InRange as TraceInRange}
use Rattle.meaning.proofs.Readings.{on_and_off}
use Rattle.normal_form.specs.declared.sign.Sign.{Sign}
use Rattle.normal_form.specs.declared.sign.Sign.TheVariants.{Plain, Negated}
use Rattle.normal_form.specs.Form.{InNormalForm}
use Rattle.normal_form.specs.Numbering.{normal_form}
use Rattle.normal_form.proofs.Demand.{satisfied_alike}
use Rattle.lanes.specs.Truth.{lane_in, TrueIn, TrueAt, Filled}
use Rattle.lanes.proofs.Shown.{shown_bit}
use Rattle.judging.specs.declared.verdict.Verdict.TheVariants.{Holds, Breaks, Kept, Broken, Open}
use Rattle.judging.specs.Verdict.{VerdictOf}
use Rattle.judging.proofs.Verdicts.{kept_not_broken, holds_verdict, breaks_verdict, kept_verdict, broken_verdict, open_verdict}

-- the root's lane at the first cycle
pub root_bit : (g : NormalForm) (t : Trace) (lanes : List Lane) → Filled g t lanes → InNormalForm g → TraceInRange t → {b : Bool} → b ≡ bit_at (lane_in lanes (g.rows - 1)) 0 → TrueAt g t g.rows 0 ↔ (b ≡ true)
root_bit g t lanes filled ok range e =
    let told = filled (g.rows - 1) (omega (arith, ok.some_rows)) in
    let last : suc (g.rows - 1) ≡ g.rows = omega (arith, ok.some_rows) in
    let bit = e ∙ shown_bit t.cycles _ told.0 range.most_cycles told.1 0 range.some_cycles in
    let root = subst (λ k. TrueAt g t k 0 ↔ (told.0 0 ≡ true)) last (told.2 0 range.some_cycles) in
    (λ x. bit ∙ root.0 x, λ x. root.1 (sym bit ∙ x))

module _ (f : Formula) (t : Trace) (fine : FormulaInRange f) (range : TraceInRange t) where
  module _ {g : NormalForm} (s : Sign) (form : g ≡ normal_form f s) {ending : Ending} (e : t.ending ≡ ending) {b : Bool} (found : TrueAt g t g.rows 0 ↔ (b ≡ true)) where
    root_in : TrueIn (normal_form f s) t ending (normal_form f s).rows 0 ↔ (b ≡ true)
    root_in = subst (λ y. TrueIn (normal_form f s) t y (normal_form f s).rows 0 ↔ (b ≡ true)) e (subst (λ (y : NormalForm). TrueAt y t y.rows 0 ↔ (b ≡ true)) form found)

    root_not : b ≡ false → ¬ TrueIn (normal_form f s) t ending (normal_form f s).rows 0
    root_not n x = on_and_off (root_in.0 x) n

  module _ {g : NormalForm} (form : g ≡ normal_form f Plain) {b : Bool} (found : TrueAt g t g.rows 0 ↔ (b ≡ true)) where
    pub found_holds : {l : ℕ} → t.ending ≡ Loop l → b ≡ true → VerdictOf f t Holds
    found_holds {l} e y = holds_verdict f t l e ((satisfied_alike f fine _).0 ((root_in Plain form e found).1 y))

    pub found_breaks : {l : ℕ} → t.ending ≡ Loop l → b ≡ false → VerdictOf f t Breaks
    found_breaks {l} e n = breaks_verdict f t l e (λ x. root_not Plain form e found n ((satisfied_alike f fine _).1 x))

    module _ (e : t.ending ≡ NoLoop) where
      pub found_kept : b ≡ true → VerdictOf f t Kept
      found_kept y = kept_verdict f t e (kept_not_broken f t fine range.some_cycles) ((root_in Plain form e found).1 y)

      module _ (n : b ≡ false) {h : NormalForm} (negated : h ≡ normal_form f Negated) {d : Bool} (opposite : TrueAt h t h.rows 0 ↔ (d ≡ true)) where
        pub found_broken : d ≡ true → VerdictOf f t Broken
        found_broken y = broken_verdict f t e (kept_not_broken f t fine range.some_cycles) ((root_in Negated negated e opposite).1 y)

        pub found_open : d ≡ false → VerdictOf f t Open
        found_open m = open_verdict f t e (kept_not_broken f t fine range.some_cycles) (root_not Plain form e found n) (root_not Negated negated e opposite m)
