-- The steps of a normal form as they are put: first the `next` rows, from the last, then the others. Assumes nothing.
use Prim.Native.Nat.{ℕ, suc, ◌+◌, ◌-◌, ◌≤◌, ◌<◌}
use mathlib.Core.Path.{◌≡◌, sym, ap, subst, ◌∙◌}
use mathlib.Core.Bool.{Bool, true, false, not}
use mathlib.Core.List.{List}
use mathlib.Core.Logic.{◌⊎◌, inl, inr}
use native.Mathlib.Decide.{ℕ_discrete}
use native.Mathlib.Omega.{arith}
use lib.ListN.{length, set, length-set}
use Rattle.tables.specs.declared.row.NormalForm.{NormalForm}
use Rattle.meaning.specs.Satisfaction.{table_of}
use Rattle.meaning.proofs.Readings.{on_or_off, on_and_off}
use Rattle.normal_form.specs.Form.{InNormalForm}
use Rattle.normal_form.proofs.FormTables.{form_operands}
use Rattle.cycle_rows.specs.declared.prepare.Step.{Step}
use Rattle.cycle_rows.specs.Steps.{StepFor, StepsOf, step_in}
use Rattle.cycle_rows.proofs.Steps.{step_put, step_stays}
use Rattle.cycle_rows.proofs.Turns.{count, count_none, count_more, count_same, next_at, other_at, turn_of, turn_next, turn_other, next_next, next_other, other_other, turn_below, RowAt, row_at_lem, turns_right}

abbrev pub form_turn : NormalForm → ℕ → ℕ
form_turn g = turn_of (table_of g.places) g.rows

abbrev pub form_next : NormalForm → ℕ → Bool
form_next g = next_at (table_of g.places)

abbrev pub nexts : NormalForm → ℕ → ℕ
nexts g = count (form_next g)

abbrev pub others : NormalForm → ℕ → ℕ
others g = count (other_at (table_of g.places))

-- the rows that have P are put as steps
pub record Stepped (g : NormalForm) (P : ℕ → Type 0) (steps : List Step) : Type 0 where
  pub long : length steps ≡ 128
  pub put : (k : ℕ) → 1 ≤ k → k ≤ g.rows → P k → StepFor (step_in steps (form_turn g k)) k (table_of g.places k)

-- the `next` rows above k are put: i steps
pub record NextsTo (g : NormalForm) (k i : ℕ) (steps : List Step) : Type 0 where
  pub within : k ≤ g.rows
  pub counted : i + nexts g k ≡ nexts g g.rows
  pub stepped : Stepped g (λ m. (k < m) × (form_next g m ≡ true)) steps

-- all `next` rows are put, and the others up to k: i steps
pub record OthersTo (g : NormalForm) (k i : ℕ) (steps : List Step) : Type 0 where
  pub within : k ≤ g.rows
  pub counted : i ≡ nexts g g.rows + others g k
  pub stepped : Stepped g (λ m. (form_next g m ≡ true) ⊎ (m ≤ k)) steps

-- ---- one more step

module _ {g : NormalForm} {P : ℕ → Type 0} {steps : List Step} where
  stepped_more : (k i : ℕ) (Q : ℕ → Type 0) (step : Step) → Stepped g P steps → form_turn g k ≡ i → i < 128 → StepFor step k (table_of g.places k)
      → ((m : ℕ) → 1 ≤ m → m ≤ g.rows → (m ≡ k → ⊥) → Q m → P m × (form_turn g m ≡ i → ⊥)) → Stepped g Q (set steps i step)
  stepped_more k i Q step s e room here old = record { long = length-set steps i step ∙ s.long; put = λ m a b q. by m a b q (ℕ_discrete m k) }
    where
      by : (m : ℕ) → 1 ≤ m → m ≤ g.rows → Q m → Dec (m ≡ k) → StepFor (step_in (set steps i step) (form_turn g m)) m (table_of g.places m)
      by m a b q (yes d) = subst (λ n. StepFor (step_in (set steps i step) (form_turn g n)) n (table_of g.places n)) (sym d)
          (subst (λ j. StepFor (step_in (set steps i step) j) k (table_of g.places k)) (sym e) (step_put steps i step k (table_of g.places k) (omega (arith, s.long)) here))
      by m a b q (no d) = let o = old m a b d q in step_stays steps i step m (table_of g.places m) (form_turn g m) o.1 (s.put m a b o.0)

module _ {g : NormalForm} {P Q : ℕ → Type 0} {steps : List Step} where
  stepped_same : Stepped g P steps → ((m : ℕ) → 1 ≤ m → m ≤ g.rows → Q m → P m) → Stepped g Q steps
  stepped_same s f = record { long = s.long; put = λ m a b q. s.put m a b (f m a b q) }

-- ---- the `next` rows

module _ {g : NormalForm} {steps : List Step} where
  pub nexts_none : length steps ≡ 128 → NextsTo g g.rows 0 steps
  nexts_none l = record { within = omega arith; counted = omega arith; stepped = record { long = l; put = λ k x y p. absurd (omega (arith, p.0)) } }

  -- the code counts down before it reads
  pub nexts_at : {k i : ℕ} → NextsTo g k i steps → 0 < k → NextsTo g (suc (k - 1)) i steps
  nexts_at {k} {i} n h = let e : k ≡ suc (k - 1) = omega arith in subst (λ m. NextsTo g m i steps) e n

  pub nexts_turn : {k i : ℕ} → NextsTo g (suc k) i steps → form_next g (suc k) ≡ true → form_turn g (suc k) ≡ i
  nexts_turn {k} n e = omega (arith, turn_next (table_of g.places) g.rows (suc k) e, n.counted)

  pub nexts_room : {k i : ℕ} → InNormalForm g → NextsTo g (suc k) i steps → form_next g (suc k) ≡ true → i < 128
  nexts_room {k} ok n e = omega (arith, nexts_turn n e, turn_below (table_of g.places) g.rows (suc k) (omega arith) n.within, ok.most_rows)

  pub nexts_skip : {k i : ℕ} → NextsTo g (suc k) i steps → form_next g (suc k) ≡ false → NextsTo g k i steps
  nexts_skip {k} n e = record {
    within = omega (arith, n.within);
    counted = omega (arith, n.counted, count_same (form_next g) k e);
    stepped = stepped_same n.stepped (λ m a b q. by m q (ℕ_discrete m (suc k)));
  }
    where
      by : (m : ℕ) → (k < m) × (form_next g m ≡ true) → Dec (m ≡ suc k) → (suc k < m) × (form_next g m ≡ true)
      by m q (yes d) = on_and_off q.1 (rw d e)
      by m q (no d) = let h = q.0 in (omega arith, q.1)

  pub nexts_put : {k i : ℕ} (step : Step) → InNormalForm g → NextsTo g (suc k) i steps → form_next g (suc k) ≡ true
      → StepFor step (k + 1) (table_of g.places (suc k)) → NextsTo g k (i + 1) (set steps i step)
  nexts_put {k} {i} step ok n e put = record {
    within = omega (arith, n.within);
    counted = omega (arith, n.counted, count_more (form_next g) k e);
    stepped = stepped_more (suc k) i (λ m. (k < m) × (form_next g m ≡ true)) step n.stepped (nexts_turn n e) (nexts_room ok n e) (let d : k + 1 ≡ suc k = omega arith in rw d at put) (λ m a b d q. old m b d q);
  }
    where
      old : (m : ℕ) → m ≤ g.rows → (m ≡ suc k → ⊥) → (k < m) × (form_next g m ≡ true) → ((suc k < m) × (form_next g m ≡ true)) × (form_turn g m ≡ i → ⊥)
      old m b d q = let h = q.0 in ((omega arith, q.1), λ z. omega (arith, nexts_turn n e, next_next (table_of g.places) g.rows (suc k) m (omega arith) b (omega arith) e q.1))

  -- ---- the others

  pub others_none : {i : ℕ} → NextsTo g 0 i steps → OthersTo g 0 i steps
  others_none n = record {
    within = omega arith;
    counted = omega (arith, n.counted, count_none (form_next g), count_none (other_at (table_of g.places)));
    stepped = stepped_same n.stepped (λ m a b q. by m a q);
  }
    where
      by : (m : ℕ) → 1 ≤ m → (form_next g m ≡ true) ⊎ (m ≤ 0) → (0 < m) × (form_next g m ≡ true)
      by m a (inl e) = (a, e)
      by m a (inr h) = absurd (omega arith)

  pub others_turn : {k i : ℕ} → OthersTo g k i steps → form_next g (suc k) ≡ false → form_turn g (suc k) ≡ i
  others_turn {k} n e = omega (arith, turn_other (table_of g.places) g.rows (suc k) e, n.counted, count_more (other_at (table_of g.places)) k (ap not e))

  pub others_room : {k i : ℕ} → InNormalForm g → OthersTo g k i steps → k < g.rows → form_next g (suc k) ≡ false → i < 128
  others_room {k} ok n l e = omega (arith, others_turn n e, turn_below (table_of g.places) g.rows (suc k) (omega arith) l, ok.most_rows)

  pub others_skip : {k i : ℕ} → OthersTo g k i steps → k < g.rows → form_next g (suc k) ≡ true → OthersTo g (suc k) i steps
  others_skip {k} n l e = record {
    within = l;
    counted = omega (arith, n.counted, count_same (other_at (table_of g.places)) k (ap not e));
    stepped = stepped_same n.stepped (λ m a b q. by m q (ℕ_discrete m (suc k)));
  }
    where
      by : (m : ℕ) → (form_next g m ≡ true) ⊎ (m ≤ suc k) → Dec (m ≡ suc k) → (form_next g m ≡ true) ⊎ (m ≤ k)
      by m q (yes d) = inl (rw d e)
      by m (inl q) (no d) = inl q
      by m (inr q) (no d) = inr (omega arith)

  pub others_put : {k i : ℕ} (step : Step) → InNormalForm g → OthersTo g k i steps → k < g.rows → form_next g (suc k) ≡ false
      → StepFor step (k + 1) (table_of g.places (suc k)) → OthersTo g (suc k) (i + 1) (set steps i step)
  others_put {k} {i} step ok n l e put = record {
    within = l;
    counted = omega (arith, n.counted, count_more (other_at (table_of g.places)) k (ap not e));
    stepped = stepped_more (suc k) i (λ m. (form_next g m ≡ true) ⊎ (m ≤ suc k)) step n.stepped (others_turn n e) (others_room ok n l e) (let d : k + 1 ≡ suc k = omega arith in rw d at put) (λ m a b d q. old m a b d q (on_or_off (form_next g m)));
  }
    where
      old : (m : ℕ) → 1 ≤ m → m ≤ g.rows → (m ≡ suc k → ⊥) → (form_next g m ≡ true) ⊎ (m ≤ suc k) → (form_next g m ≡ true) ⊎ (form_next g m ≡ false) → ((form_next g m ≡ true) ⊎ (m ≤ k)) × (form_turn g m ≡ i → ⊥)
      old m a b d q (inl f) = (inl f, λ z. omega (arith, others_turn n e, next_other (table_of g.places) g.rows (suc k) m (omega arith) b a f e))
      old m a b d (inl q) (inr f) = on_and_off q f
      old m a b d (inr q) (inr f) = (inr (omega arith), λ z. omega (arith, others_turn n e, other_other (table_of g.places) g.rows m (suc k) a l (omega arith) f e))

-- ---- all rows

module _ {g : NormalForm} (ok : InNormalForm g) {steps : List Step} {i : ℕ} (n : OthersTo g g.rows i steps) where
  step_of : (k : ℕ) → 1 ≤ k → k ≤ g.rows → StepFor (step_in steps (form_turn g k)) k (table_of g.places k)
  step_of k a b = n.stepped.put k a b (inr b)

  -- a step names its row by the row's cell
  abbrev number_at : ℕ → ℕ
  number_at j = (step_in steps j).own - 31

  number_turn : (k : ℕ) → 1 ≤ k → k ≤ g.rows → number_at (form_turn g k) ≡ k
  number_turn k a b = omega (arith, (step_of k a b).into)

  module _ {j : ℕ} (r : RowAt (table_of g.places) g.rows j) where
    number_is : r.number ≡ number_at j
    number_is = sym (subst (λ x. number_at x ≡ r.number) r.turns (number_turn r.number r.some r.most))

    number_right : (1 ≤ number_at j) × (number_at j ≤ g.rows) × (form_turn g (number_at j) ≡ j)
    number_right = subst (λ k. (1 ≤ k) × (k ≤ g.rows) × (form_turn g k ≡ j)) number_is (r.some, r.most, r.turns)

    number_step : StepFor (step_in steps j) (number_at j) (table_of g.places (number_at j))
    number_step = subst (λ k. StepFor (step_in steps j) k (table_of g.places k)) number_is
        (subst (λ x. StepFor (step_in steps x) r.number (table_of g.places r.number)) r.turns (step_of r.number r.some r.most))

  pub steps_all : StepsOf g steps
  steps_all = record {
    row_at = number_at;
    turn = form_turn g;
    stepped = λ j h. number_right (row_at_lem (table_of g.places) g.rows j h);
    turned = λ k a b. (turn_below (table_of g.places) g.rows k a b, number_turn k a b);
    step = λ j h. number_step (row_at_lem (table_of g.places) g.rows j h);
    in_turn = λ k a b. turns_right (table_of g.places) g.rows k a b (form_operands g ok k (omega arith));
  }
