-- The facts about sheets in the words of specs/Sheet, for a normal form and a take: a sheet that passes shows that the normal form is
-- satisfied (looped-passing-true), or on an open take strongly true (open-passing-true); where it is, the sheet that has where each
-- row is true passes (looped-true-passing, open-true-passing); and which cycles decide whether a sheet passes on a looped take
-- (looped-checked-passing, looped-starved). The true row 0, which no file has, is no matter. Assumes nothing.
use Prim.Native.Nat.{ℕ, zero, suc, ◌+◌, ◌-◌, ◌≤◌, ◌<◌}
use mathlib.Core.Path.{◌≡◌, refl, sym, ap, ◌∙◌}
use mathlib.Core.Logic.{◌↔◌}
use mathlib.Core.Bool.{true, false}
use native.Mathlib.Omega.{arith}
use Rattle.tables.specs.declared.row.NormalForm.{NormalForm}
use Rattle.tables.specs.declared.trace.Activation.{Activation}
use Rattle.tables.specs.declared.trace.Ending.TheVariants.{Loop}
use Rattle.tables.specs.declared.trace.Trace.{Trace}
use Rattle.meaning.specs.Reading.{Reading}
use Rattle.meaning.specs.Trace.{InfiniteTrace, signal_at, position, unrolled}
use Rattle.meaning.specs.Covers.{CoversIn}
use Rattle.meaning.specs.Satisfaction.{Table, table_of, RowTrue, SatisfiesNormal}
use Rattle.meaning.specs.Strong.{RowStronglyTrue}
use Rattle.meaning.specs.Rows.{Each, Ordered, Positive}
use Rattle.meaning.proofs.Readings.{On}
use Rattle.meaning.proofs.Rows.{each_map, each_signal}
use Rattle.meaning.proofs.Truth.{true_means, strongly_true_means}
use Rattle.meaning.proofs.Periodic.{position_first}
use Rattle.monitors.specs.Along.{Activators, output}
use Rattle.monitors.specs.Sheet.{activator_at, repeated, looped_output, open_output, IsRow, PassesLooped, PassesOpen}
use Rattle.monitors.proofs.Locality.{output_local}
use Rattle.monitors.proofs.Sheets.{lasso_output, PassesLasso, lasso_passing, lasso_passing_active, lasso_truth_passes, PassesPrefix, prefix_passing, prefix_passing_active, prefix_truth_passes}
use Rattle.monitors.proofs.Periods.{lasso_output_periodic, lasso_never_fails, lasso_accepts, lasso_starved}

-- ---- row 0

-- the sheet with the true row 0 always active
with_true : Activators → Activators
with_true sheet c zero = true
with_true sheet c (suc k) = sheet c (suc k)

with_same : (sheet : Activators) (c k : ℕ) → 1 ≤ k → with_true sheet c k ≡ sheet c k
unfolding with_true
with_same sheet c zero h = absurd (omega arith)
with_same sheet c (suc k) h = refl

-- each of the rows of g has its operands among the earlier ones, none is a `not`, and there is one
module _ (g : NormalForm) (operands : (k : ℕ) → k < suc g.rows → Each (λ a. (1 ≤ a) × (a < k)) (table_of g.places k))
    (positive : (k : ℕ) → k < suc g.rows → Positive (table_of g.places k)) (some : 1 ≤ g.rows) where
  abbrev table : Table
  table = table_of g.places

  ordered : Ordered (suc g.rows) table
  ordered k h = each_map _ _ (λ a x. x.1) (table k) (operands k h)

  closed : (k : ℕ) → IsRow g k → Each (IsRow g) (table k)
  closed k h = each_map _ _ (λ a x. (x.0, omega (arith, x.1, h.1))) (table k) (operands k (omega (arith, h.1)))

  -- a row's monitor does not see row 0
  with_output : (w : InfiniteTrace) (act act' : Activators) → ((i k : ℕ) → 1 ≤ k → act i k ≡ act' i k) → (k : ℕ) → IsRow g k → (i : ℕ) → output table w act i k ≡ output table w act' i k
  with_output w act act' same k h i = output_local table (IsRow g) closed w w act act' (suc i) (λ j l a x. each_signal _ (λ s. refl) (table a)) (λ j l a x. same j a x.0) k h i (omega arith)

  -- what holds of row 0 and of the rows of g
  all_rows : (P : ℕ → Type 0) → P 0 → ((k : ℕ) → IsRow g k → P k) → (k : ℕ) → k < suc g.rows → P k
  all_rows P z f zero h = z
  all_rows P z f (suc k) h = f (suc k) (omega arith, omega arith)

  row_0_true : (R : Reading) (w : InfiniteTrace) (i : ℕ) → RowTrue R w table 0 i
  row_0_true R w i = (true_means R w table (suc g.rows) ordered 0 (omega arith) i).1 tt

  row_0_strongly_true : (R : Reading) (n : ℕ) (w : InfiniteTrace) (i : ℕ) → RowStronglyTrue R n w table 0 i
  row_0_strongly_true R n w i = (strongly_true_means R n w table (suc g.rows) ordered 0 (omega arith) i).1 tt

  module _ (t : Trace) (a : Activation) where
    -- ---- looped takes

    module _ (l : ℕ) (l<n : l < t.cycles) where
      module _ (passes : PassesLooped g t l a) where
        lasso_passes : PassesLasso t.cycles l l<n (signal_at t) table (suc g.rows) g.rows (activator_at a)
        lasso_passes = record {
          root_set = passes.root_set;
          none_fails = λ k h i. all_rows (λ k. (looped_output g t l a i k).failed ≡ false) refl (λ k r. passes.none_fails i k r) k h;
          accepts_return = λ k h i. all_rows (λ k. ¬ ¬ ((j : ℕ) × ((i ≤ j) × On (looped_output g t l a j k).accept))) (λ none. none (i, (omega arith, refl))) (λ k r. passes.accepts_return k r i) k h;
        }

        -- in any reading
        pub looped_passing_true : (R : Reading) → SatisfiesNormal R (unrolled t l) g
        looped_passing_true = lasso_passing t.cycles l l<n (signal_at t) table (suc g.rows) g.rows (omega arith) ordered positive (activator_at a) lasso_passes

        -- every row is true wherever the sheet has it active
        pub looped_passing_rows : (R : Reading) (k : ℕ) → IsRow g k → (c : ℕ) → c < t.cycles → On (activator_at a c k) → RowTrue R (unrolled t l) (table_of g.places) k c
        looped_passing_rows R k h c b on = lasso_passing_active t.cycles l l<n (signal_at t) table (suc g.rows) g.rows (omega arith) ordered positive (activator_at a) lasso_passes R k (omega (arith, h.1)) c
            (ap (λ i. activator_at a i k) (position_first t.cycles l c b) ∙ on)

      -- the sheet has where each row is true, on a take that covers the normal form
      pub looped_true_passing :
          CoversIn g t (Loop l) → (R : Reading) → ((k : ℕ) → IsRow g k → (c : ℕ) → c < t.cycles → (activator_at a c k ≡ true) ↔ RowTrue R (unrolled t l) (table_of g.places) k c)
          → SatisfiesNormal R (unrolled t l) g → PassesLooped g t l a
      unfolding with_true
      looped_true_passing covers R tells satisfied = record {
        root_set = sym (with_same (activator_at a) 0 g.rows some) ∙ passes.root_set;
        none_fails = λ i k h. ap (λ o. o.failed) (same k h i) ∙ passes.none_fails k (omega (arith, h.1)) i;
        accepts_return = λ k h i none. passes.accepts_return k (omega (arith, h.1)) i (λ x. none (x.0, (x.1.0, ap (λ o. o.accept) (same k h x.0) ∙ x.1.1)));
      }
        where
          tells_all : (c : ℕ) → c < t.cycles → (k : ℕ) → k < suc g.rows → On (with_true (activator_at a) c k) ↔ RowTrue R (unrolled t l) table k c
          tells_all c b zero h = (λ x. row_0_true R (unrolled t l) c, λ x. refl)
          tells_all c b (suc k) h = tells (suc k) (omega arith, omega arith) c b

          passes : PassesLasso t.cycles l l<n (signal_at t) table (suc g.rows) g.rows (with_true (activator_at a))
          passes = lasso_truth_passes t.cycles l l<n (signal_at t) table (suc g.rows) g.rows (omega arith) ordered positive covers R (with_true (activator_at a)) (λ k h c b. tells_all c b k h) satisfied

          same : (k : ℕ) → IsRow g k → (i : ℕ) → looped_output g t l a i k ≡ lasso_output t.cycles l l<n (signal_at t) table (with_true (activator_at a)) i k
          same = with_output (unrolled t l) (repeated a t l) (λ i. with_true (activator_at a) (position t.cycles l i)) (λ i k h. sym (with_same (activator_at a) (position t.cycles l i) k h))

    -- ---- open takes

    module _ (n>0 : 1 ≤ t.cycles) where
      module _ (passes : PassesOpen g t a) where
        prefix_passes : PassesPrefix t.cycles (signal_at t) table (suc g.rows) g.rows (activator_at a)
        prefix_passes = record {
          root_set = passes.root_set;
          none_fails = λ k h i b. all_rows (λ k. (open_output g t a i k).failed ≡ false) refl (λ k r. passes.none_fails i k b r) k h;
          none_pending = all_rows (λ k. (open_output g t a (t.cycles - 1) k).pending ≡ false) refl passes.none_pending;
        }

        -- in any reading
        pub open_passing_true : (R : Reading) → RowStronglyTrue R t.cycles (signal_at t) (table_of g.places) g.rows 0
        open_passing_true = prefix_passing t.cycles (signal_at t) table n>0 (suc g.rows) g.rows (omega arith) ordered positive (activator_at a) prefix_passes

        pub open_passing_rows : (R : Reading) (k : ℕ) → IsRow g k → (c : ℕ) → c < t.cycles → On (activator_at a c k) → RowStronglyTrue R t.cycles (signal_at t) (table_of g.places) k c
        open_passing_rows R k h = prefix_passing_active t.cycles (signal_at t) table n>0 (suc g.rows) g.rows (omega arith) ordered positive (activator_at a) prefix_passes R k (omega (arith, h.1))

      -- the sheet has where each row is strongly true
      pub open_true_passing :
          (R : Reading)
          → ((k : ℕ) → IsRow g k → (c : ℕ) → c < t.cycles → (activator_at a c k ≡ true) ↔ RowStronglyTrue R t.cycles (signal_at t) (table_of g.places) k c)
          → RowStronglyTrue R t.cycles (signal_at t) (table_of g.places) g.rows 0 → PassesOpen g t a
      unfolding with_true
      open_true_passing R tells satisfied = record {
        root_set = sym (with_same (activator_at a) 0 g.rows some) ∙ passes.root_set;
        none_fails = λ i k b h. ap (λ o. o.failed) (same k h i) ∙ passes.none_fails k (omega (arith, h.1)) i b;
        none_pending = λ k h. ap (λ o. o.pending) (same k h (t.cycles - 1)) ∙ passes.none_pending k (omega (arith, h.1));
      }
        where
          tells_all : (c : ℕ) → c < t.cycles → (k : ℕ) → k < suc g.rows → On (with_true (activator_at a) c k) ↔ RowStronglyTrue R t.cycles (signal_at t) table k c
          tells_all c b zero h = (λ x. row_0_strongly_true R t.cycles (signal_at t) c, λ x. refl)
          tells_all c b (suc k) h = tells (suc k) (omega arith, omega arith) c b

          passes : PassesPrefix t.cycles (signal_at t) table (suc g.rows) g.rows (with_true (activator_at a))
          passes = prefix_truth_passes t.cycles (signal_at t) table n>0 (suc g.rows) g.rows (omega arith) ordered positive R (with_true (activator_at a)) (λ k h c b. tells_all c b k h) satisfied

          same : (k : ℕ) → IsRow g k → (i : ℕ) → open_output g t a i k ≡ output table (signal_at t) (with_true (activator_at a)) i k
          same = with_output (signal_at t) (activator_at a) (with_true (activator_at a)) (λ i k h. sym (with_same (activator_at a) i k h))

-- ---- which cycles decide on a looped take

module _ (g : NormalForm) (t : Trace) (a : Activation) (l : ℕ) (l<n : l < t.cycles) where
  pub looped_output_periodic : (i k : ℕ) → t.cycles ≤ i → looped_output g t l a (i + (t.cycles - l)) k ≡ looped_output g t l a i k
  looped_output_periodic i k h = lasso_output_periodic t.cycles l l<n (signal_at t) (table_of g.places) (activator_at a) k i h

  -- no fail in the take and one more round of its loop, and an accept in that round or later
  pub looped_checked_passing :
      activator_at a 0 g.rows ≡ true → ((i k : ℕ) → i < t.cycles + (t.cycles - l) → IsRow g k → (looped_output g t l a i k).failed ≡ false)
      → ((k : ℕ) → IsRow g k → (i : ℕ) × (t.cycles ≤ i) × ((looped_output g t l a i k).accept ≡ true)) → PassesLooped g t l a
  looped_checked_passing set none_fails accepts = record {
    root_set = set;
    none_fails = λ i k h. lasso_never_fails t.cycles l l<n (signal_at t) (table_of g.places) (activator_at a) k (λ j b. none_fails j k b h) i;
    accepts_return = λ k h i none.
        let x = accepts k h in
        let r = lasso_accepts t.cycles l l<n (signal_at t) (table_of g.places) (activator_at a) k x.0 x.1 x.2 i in
        none (r.0, (r.1, r.2));
  }

  -- a row that accepts nowhere in that round
  pub looped_starved :
      (k : ℕ) → IsRow g k → ((i : ℕ) → t.cycles ≤ i → i < t.cycles + (t.cycles - l) → (looped_output g t l a i k).accept ≡ false)
      → ¬ PassesLooped g t l a
  looped_starved k h none passes = lasso_starved t.cycles l l<n (signal_at t) (table_of g.places) (activator_at a) k none (passes.accepts_return k h)
