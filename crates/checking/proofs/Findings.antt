-- Each sheet has one finding. Assumes nothing.
use Prim.Native.Nat.{ℕ, ◌<◌}
use mathlib.Core.Path.{◌≡◌, refl, sym, ap, ap₂, subst, ◌∙◌}
use mathlib.Core.Logic.{◌⊎◌, inl, inr}
use mathlib.Core.Bool.{false}
use Rattle.std.proofs.lemmas.Bool.{cases_order}
use Rattle.tables.specs.declared.row.NormalForm.{NormalForm}
use Rattle.tables.specs.declared.trace.Activation.{Activation}
use Rattle.tables.specs.declared.trace.Ending.{Ending}
use Rattle.tables.specs.declared.trace.Ending.TheVariants.{Open, Loop}
use Rattle.tables.specs.declared.trace.Trace.{Trace}
use Rattle.meaning.proofs.Readings.{on_and_off}
use Rattle.monitors.specs.Sheet.{activator_at, PassesLooped, PassesOpen, PassesIn}
use Rattle.checking.specs.declared.finding.Finding.{Finding}
use Rattle.checking.specs.declared.finding.Finding.TheVariants.{Root, Failed, Starved, Pending, Passes}
use Rattle.checking.specs.Finding.{RootSet, NoneFails, FailsFirst, StarvesFirst, PendsFirst, FindingSays, FindingOf}

module _ (g : NormalForm) (t : Trace) (a : Activation) where
  -- ---- where a finding stands: at the root, at a failure, or behind both

  data Stage (e : Ending) (y : Finding) : Type 0 where
    at_root : y ≡ Root → activator_at a 0 g.rows ≡ false → Stage e y
    at_failure : (row cycle : ℕ) → y ≡ Failed row cycle → FailsFirst g t a e row cycle → Stage e y
    behind : RootSet g t a → NoneFails g t a e → Stage e y

  passes_behind : (e : Ending) → PassesIn g t e a → RootSet g t a × NoneFails g t a e
  passes_behind Open p = (p.root_set, λ i k c r. p.none_fails i k c r)
  passes_behind (Loop l) p = (p.root_set, λ i k c r. p.none_fails i k r)

  stage : (e : Ending) (y : Finding) → FindingSays g t a e y → Stage e y
  stage e Root s = Stage.at_root refl s
  stage e (Failed row cycle) s = Stage.at_failure row cycle refl s
  stage Open (Starved row) s = absurd s
  stage (Loop l) (Starved row) s = Stage.behind s.root_set s.none_fails
  stage Open (Pending row) s = Stage.behind s.root_set s.none_fails
  stage (Loop l) (Pending row) s = absurd s
  stage e Passes s = let p = passes_behind e s in Stage.behind p.0 p.1

  -- ---- one finding at each

  pub root_only : (e : Ending) → activator_at a 0 g.rows ≡ false → (y : Finding) → FindingSays g t a e y → y ≡ Root
  root_only e unset y s = by (stage e y s)
    where
      by : Stage e y → y ≡ Root
      by (Stage.at_root q u) = q
      by (Stage.at_failure row cycle q f) = on_and_off f.root_set unset
      by (Stage.behind r n) = on_and_off r unset

  -- no two first failures
  one_failure : (e : Ending) {r c r' c' : ℕ} → FailsFirst g t a e r c → FailsFirst g t a e r' c' → (r' ≡ r) × (c' ≡ c)
  one_failure e {r} {c} {r'} {c'} x y = by (cases_order c' c)
    where
      same : c' ≡ c → (r' ≡ r) ⊎ ((r' < r) ⊎ (r < r')) → (r' ≡ r) × (c' ≡ c)
      same q (inl p) = (p, q)
      same q (inr (inl h)) = on_and_off y.fails (rw q (x.lowest r' y.a_row h))
      same q (inr (inr h)) = on_and_off x.fails (rw (sym q) (y.lowest r x.a_row h))

      by : (c' ≡ c) ⊎ ((c' < c) ⊎ (c < c')) → (r' ≡ r) × (c' ≡ c)
      by (inl q) = same q (cases_order r' r)
      by (inr (inl h)) = on_and_off y.fails (x.earliest c' r' h y.a_row)
      by (inr (inr h)) = on_and_off x.fails (y.earliest c r h x.a_row)

  pub failed_only : (e : Ending) (row cycle : ℕ) → FailsFirst g t a e row cycle → (y : Finding) → FindingSays g t a e y → y ≡ Failed row cycle
  failed_only e row cycle x y s = by (stage e y s)
    where
      by : Stage e y → y ≡ Failed row cycle
      by (Stage.at_root q u) = on_and_off x.root_set u
      by (Stage.at_failure r c q f) = let p = one_failure e x f in q ∙ ap₂ Failed p.0 p.1
      by (Stage.behind r n) = on_and_off x.fails (n cycle row x.a_cycle x.a_row)

  pub starved_only : (l row : ℕ) → StarvesFirst g t a l row → (y : Finding) → FindingSays g t a (Loop l) y → y ≡ Starved row
  starved_only l row x Root s = on_and_off x.root_set s
  starved_only l row x (Failed r c) s = on_and_off s.fails (x.none_fails c r s.a_cycle s.a_row)
  starved_only l row x (Starved r) s = by (cases_order r row)
    where
      by : (r ≡ row) ⊎ ((r < row) ⊎ (row < r)) → Starved r ≡ Starved row
      by (inl q) = ap Starved q
      by (inr (inl h)) = absurd (s.starves (x.lowest r s.a_row h))
      by (inr (inr h)) = absurd (x.starves (s.lowest row x.a_row h))
  starved_only l row x (Pending r) s = absurd s
  starved_only l row x Passes s = absurd (x.starves (s.accepts_return row x.a_row))

  pub pending_only : (row : ℕ) → PendsFirst g t a row → (y : Finding) → FindingSays g t a Open y → y ≡ Pending row
  pending_only row x Root s = on_and_off x.root_set s
  pending_only row x (Failed r c) s = on_and_off s.fails (x.none_fails c r s.a_cycle s.a_row)
  pending_only row x (Starved r) s = absurd s
  pending_only row x (Pending r) s = by (cases_order r row)
    where
      by : (r ≡ row) ⊎ ((r < row) ⊎ (row < r)) → Pending r ≡ Pending row
      by (inl q) = ap Pending q
      by (inr (inl h)) = on_and_off s.pends (x.lowest r s.a_row h)
      by (inr (inr h)) = on_and_off x.pends (s.lowest row x.a_row h)
  pending_only row x Passes s = on_and_off x.pends (s.none_pending row x.a_row)

  pub looped_only : (l : ℕ) → PassesLooped g t l a → (y : Finding) → FindingSays g t a (Loop l) y → y ≡ Passes
  looped_only l x Root s = on_and_off x.root_set s
  looped_only l x (Failed r c) s = on_and_off s.fails (x.none_fails c r s.a_row)
  looped_only l x (Starved r) s = absurd (s.starves (x.accepts_return r s.a_row))
  looped_only l x (Pending r) s = absurd s
  looped_only l x Passes s = refl

  pub open_only : PassesOpen g t a → (y : Finding) → FindingSays g t a Open y → y ≡ Passes
  open_only x Root s = on_and_off x.root_set s
  open_only x (Failed r c) s = on_and_off s.fails (x.none_fails c r s.a_cycle s.a_row)
  open_only x (Starved r) s = absurd s
  open_only x (Pending r) s = on_and_off s.pends (x.none_pending r s.a_row)
  open_only x Passes s = refl

  -- the finding, where the ending is known
  pub finding_by : (e : Ending) → t.ending ≡ e → (x : Finding) → FindingSays g t a e x → ((y : Finding) → FindingSays g t a e y → y ≡ x) → FindingOf g t a x
  finding_by e q x s only = record { said = subst (λ d. FindingSays g t a d x) (sym q) s; only = λ y u. only y (subst (λ d. FindingSays g t a d y) q u) }
