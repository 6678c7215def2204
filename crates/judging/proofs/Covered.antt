-- The verdict on the take that sheets cover is the verdict on the take itself. Assumes nothing.
use Prim.Native.Nat.{ℕ}
use mathlib.Core.Path.{◌≡◌, refl, subst, subst⁻¹}
use mathlib.Core.Logic.{◌↔◌}
use Rattle.tables.specs.declared.row.Formula.{Formula}
use Rattle.tables.specs.declared.row.NormalForm.{NormalForm}
use Rattle.tables.specs.declared.trace.Ending.{Ending}
use Rattle.tables.specs.declared.trace.Ending.TheVariants.{Open as NoLoop, Loop}
use Rattle.tables.specs.declared.trace.Trace.{Trace}
use Rattle.meaning.specs.Reading.{classical}
use Rattle.meeting.specs.Meeting.{covered_loop}
use Rattle.meeting.proofs.Covered.{HaveMet, met_open, met_ending, satisfies_covered}
use Rattle.judging.specs.declared.verdict.Verdict.{Verdict}
use Rattle.judging.specs.declared.verdict.Verdict.TheVariants.{Holds, Breaks, Kept, Broken, Open}
use Rattle.judging.specs.Verdict.{SaysOf, VerdictOf}

module _ {f : Formula} {t : Trace} {g : NormalForm} {u : Trace} (met : HaveMet f t g u) where
  says_covered : (l : ℕ) → t.ending ≡ Loop l → (v : Verdict) → SaysOf f u (Loop (covered_loop f t l)) v ↔ SaysOf f t (Loop l) v
  says_covered l e Holds = satisfies_covered met classical l e
  says_covered l e Breaks = let s = satisfies_covered met classical l e in (λ n x. n (s.1 x), λ n x. n (s.0 x))
  says_covered l e Kept = (λ x. x, λ x. x)
  says_covered l e Broken = (λ x. x, λ x. x)
  says_covered l e Open = (λ x. x, λ x. x)

  pub verdict_covered : (v : Verdict) → VerdictOf f u v → VerdictOf f t v
  verdict_covered v x = by t.ending refl
    where
      by : (ending : Ending) → t.ending ≡ ending → VerdictOf f t v
      by NoLoop e = subst (λ y. VerdictOf f y v) (met_open met e) x
      by (Loop l) e =
          let ends = met_ending met l e in
          record {
            said = subst⁻¹ (λ y. SaysOf f t y v) e ((says_covered l e v).0 (subst (λ y. SaysOf f u y v) ends x.said));
            only = λ w s. x.only w (subst⁻¹ (λ y. SaysOf f u y w) ends ((says_covered l e w).1 (subst (λ y. SaysOf f t y w) e s)));
          }
