-- Each take has one verdict; and a kept take is satisfied however it goes on, a broken one is not. Assumes nothing.
use Prim.Native.Nat.{ℕ, suc, ◌≤◌, ◌<◌}
use mathlib.Core.Path.{◌≡◌, refl, sym, ap, subst, ◌∙◌}
use mathlib.Core.Logic.{◌↔◌}
use mathlib.Core.Bool.{true}
use native.Mathlib.Omega.{arith}
use Rattle.tables.specs.declared.row.Formula.{Formula}
use Rattle.tables.specs.declared.row.NormalForm.{NormalForm}
use Rattle.tables.specs.declared.trace.Ending.{Ending}
use Rattle.tables.specs.declared.trace.Ending.TheVariants.{Open as NoLoop, Loop}
use Rattle.tables.specs.declared.trace.Trace.{Trace}
use Rattle.rule_file.specs.Valid.{InRange as FormulaInRange}
use Rattle.take_file.specs.Valid.{InRange as TraceInRange}
use Rattle.meaning.specs.Reading.{classical, literal}
use Rattle.meaning.specs.Trace.{InfiniteTrace, signal_at, unrolled, Extends}
use Rattle.meaning.specs.Satisfaction.{table_of, Satisfies, SatisfiesNormal}
use Rattle.meaning.specs.Published.{PublishedSatisfies}
use Rattle.meaning.specs.Informative.{Informative}
use Rattle.meaning.proofs.Rows.{each_signal, each_signal_map}
use Rattle.meaning.proofs.Locality.{SameSignals}
use Rattle.meaning.proofs.StrongTruth.{strong_true, extends_same}
use Rattle.meaning.proofs.Informative.{informative_strong}
use Rattle.meaning.proofs.Published.{published_on_lasso}
use Rattle.normal_form.specs.declared.sign.Sign.{Sign}
use Rattle.normal_form.specs.declared.sign.Sign.TheVariants.{Plain, Negated}
use Rattle.normal_form.specs.Form.{InNormalForm}
use Rattle.normal_form.specs.Numbering.{normal_form}
use Rattle.normal_form.proofs.Ranges.{form_normal}
use Rattle.normal_form.proofs.FormTables.{table_ordered, form_ordered, form_positive, form_signals}
use Rattle.normal_form.proofs.Demand.{satisfied_alike, satisfied_opposite}
use Rattle.judging.specs.declared.verdict.Verdict.{Verdict}
use Rattle.judging.specs.declared.verdict.Verdict.TheVariants.{Holds, Breaks, Kept, Broken, Open}
use Rattle.judging.specs.Verdict.{StronglyTrue, IsKept, IsBroken, SaysOf, VerdictOf}

module _ (f : Formula) (t : Trace) (range : FormulaInRange f) (some_cycles : 1 ≤ t.cycles) where
  -- ---- strong truth lasts

  -- a trace that begins with the take's cycles, as far as the rows of the normal form name signals
  Begins : Sign → InfiniteTrace → Type 0
  Begins s w = (i : ℕ) → i < t.cycles → SameSignals (suc (normal_form f s).rows) (table_of (normal_form f s).places) (signal_at t) w i

  strong_satisfies : (s : Sign) (w : InfiniteTrace) → Begins s w → StronglyTrue t (normal_form f s) → SatisfiesNormal classical w (normal_form f s)
  unfolding Begins
  strong_satisfies s w same x =
      let g : NormalForm = normal_form f s in
      let ok : InNormalForm g = form_normal f s range in
      strong_true classical (table_of g.places) (suc g.rows) (form_ordered g ok) (form_positive g ok) t.cycles (signal_at t) w same g.rows (omega arith) 0 some_cycles x

  begins_itself : (s : Sign) → Begins s (signal_at t)
  unfolding Begins
  begins_itself s i l k h = each_signal _ (λ a. refl) (table_of (normal_form f s).places k)

  begins_extended : f.signals ≡ t.signals → (s : Sign) (w : InfiniteTrace) → Extends w t → Begins s w
  unfolding Begins normal_form
  begins_extended same s w e =
      let g : NormalForm = normal_form f s in
      extends_same t w e (table_of g.places) (suc g.rows) (λ k h. each_signal_map _ _ (table_of g.places k) (λ a x. (x.0, rw same at x.1)) (form_signals g (form_normal f s range) k h))

  -- NO TAKE IS BOTH
  pub kept_not_broken : IsKept f t → ¬ IsBroken f t
  kept_not_broken x y =
      (satisfied_opposite f range (signal_at t)).0 (strong_satisfies Negated (signal_at t) (begins_itself Negated) y)
      ((satisfied_alike f range (signal_at t)).0 (strong_satisfies Plain (signal_at t) (begins_itself Plain) x))

  -- A KEPT TAKE'S EVERY ENDLESS CONTINUATION SATISFIES THE RULE,
  pub kept_continued : f.signals ≡ t.signals → IsKept f t → (w : InfiniteTrace) → Extends w t → Satisfies classical w f
  kept_continued same x w e = (satisfied_alike f range w).0 (strong_satisfies Plain w (begins_extended same Plain w e) x)

  -- A BROKEN TAKE'S NONE
  pub broken_continued : f.signals ≡ t.signals → IsBroken f t → (w : InfiniteTrace) → Extends w t → ¬ Satisfies classical w f
  broken_continued same x w e = (satisfied_opposite f range w).0 (strong_satisfies Negated w (begins_extended same Negated w e) x)

  -- ---- informative prefixes

  -- the take is an informative prefix (document 000, definition 1) for the rule, in its normal form, or for its negation
  abbrev pub InformativeFor : Sign → Type 0
  InformativeFor s = Informative t.cycles (signal_at t) (table_of (normal_form f s).places) (normal_form f s).rows

  informative_is : (s : Sign) → InformativeFor s ↔ StronglyTrue t (normal_form f s)
  informative_is s =
      let g : NormalForm = normal_form f s in
      let ok : InNormalForm g = form_normal f s range in
      informative_strong t.cycles (signal_at t) (table_of g.places) (suc g.rows) (form_ordered g ok) (form_positive g ok) g.rows (omega arith) some_cycles classical

  -- KEPT EXACTLY WHEN IT IS AN INFORMATIVE PREFIX FOR THE RULE,
  pub kept_informative : InformativeFor Plain ↔ IsKept f t
  kept_informative = informative_is Plain

  -- BROKEN EXACTLY WHEN IT IS ONE FOR THE RULE'S NEGATION
  pub broken_informative : InformativeFor Negated ↔ IsBroken f t
  broken_informative = informative_is Negated

-- ---- one verdict

module _ (f : Formula) (t : Trace) where
  verdict_by : (ending : Ending) → t.ending ≡ ending → (v : Verdict) → SaysOf f t ending v → ((u : Verdict) → SaysOf f t ending u → u ≡ v) → VerdictOf f t v
  verdict_by ending e v x only = record { said = subst (λ y. SaysOf f t y v) (sym e) x; only = λ u s. only u (subst (λ y. SaysOf f t y u) e s) }

  module _ (l : ℕ) (e : t.ending ≡ Loop l) where
    pub holds_verdict : Satisfies classical (unrolled t l) f → VerdictOf f t Holds
    holds_verdict x = verdict_by (Loop l) e Holds x only
      where
        only : (u : Verdict) → SaysOf f t (Loop l) u → u ≡ Holds
        only Holds s = refl
        only Breaks s = absurd (s x)
        only Kept s = absurd s
        only Broken s = absurd s
        only Open s = absurd s

    pub breaks_verdict : ¬ Satisfies classical (unrolled t l) f → VerdictOf f t Breaks
    breaks_verdict x = verdict_by (Loop l) e Breaks x only
      where
        only : (u : Verdict) → SaysOf f t (Loop l) u → u ≡ Breaks
        only Holds s = absurd (x s)
        only Breaks s = refl
        only Kept s = absurd s
        only Broken s = absurd s
        only Open s = absurd s

  module _ (e : t.ending ≡ NoLoop) (one : IsKept f t → ¬ IsBroken f t) where
    pub kept_verdict : IsKept f t → VerdictOf f t Kept
    kept_verdict x = verdict_by NoLoop e Kept x only
      where
        only : (u : Verdict) → SaysOf f t NoLoop u → u ≡ Kept
        only Holds s = absurd s
        only Breaks s = absurd s
        only Kept s = refl
        only Broken s = absurd (one x s)
        only Open s = absurd (s.0 x)

    pub broken_verdict : IsBroken f t → VerdictOf f t Broken
    broken_verdict x = verdict_by NoLoop e Broken x only
      where
        only : (u : Verdict) → SaysOf f t NoLoop u → u ≡ Broken
        only Holds s = absurd s
        only Breaks s = absurd s
        only Kept s = absurd (one s x)
        only Broken s = refl
        only Open s = absurd (s.1 x)

    pub open_verdict : ¬ IsKept f t → ¬ IsBroken f t → VerdictOf f t Open
    open_verdict x y = verdict_by NoLoop e Open (x, y) only
      where
        only : (u : Verdict) → SaysOf f t NoLoop u → u ≡ Open
        only Holds s = absurd s
        only Breaks s = absurd s
        only Kept s = absurd (x s)
        only Broken s = absurd (y s)
        only Open s = refl

-- ---- by the published meaning

-- A LOOPED TAKE HOLDS EXACTLY WHEN ITS ENDLESS REPETITION SATISFIES THE RULE BY FIGURE 1 of document 003, read with the prover's own
-- "or" and "there is"; it breaks exactly when it does not
module _ (f : Formula) (t : Trace) (range : FormulaInRange f) (l : ℕ) (e : t.ending ≡ Loop l) (below : l < t.cycles) where
  same : Satisfies classical (unrolled t l) f ↔ PublishedSatisfies literal (unrolled t l) f
  same = published_on_lasso f (table_ordered f.signals f.rows f.places range.rows_in_range) t l below

  pub holds_published : VerdictOf f t Holds ↔ PublishedSatisfies literal (unrolled t l) f
  holds_published = (λ v. same.0 (subst (λ y. SaysOf f t y Holds) e v.said), λ x. holds_verdict f t l e (same.1 x))

  pub breaks_published : VerdictOf f t Breaks ↔ (¬ PublishedSatisfies literal (unrolled t l) f)
  breaks_published = (λ v x. subst (λ y. SaysOf f t y Breaks) e v.said (same.1 x), λ n. breaks_verdict f t l e (λ x. n (same.0 x)))
