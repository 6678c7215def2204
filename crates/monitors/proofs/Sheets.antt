-- A sheet passes on a lasso only where the root is true (lasso-passing), and where the root is true the sheet that has each row's
-- truth passes (lasso-bits-pass, lasso-truth-passes). The same on a prefix for strong truth, whatever a sheet has behind the end
-- (prefix-passing, prefix-bits-pass, prefix-truth-passes). A sheet is any activators by cycle and row. Assumes nothing.
use Prim.Native.Nat.{ℕ, suc, ◌+◌, ◌-◌, ◌≤◌, ◌<◌}
use mathlib.Core.Path.{◌≡◌, refl, subst, subst⁻¹, sym, ap, ◌∙◌, fun_ext}
use mathlib.Core.Logic.{◌↔◌, ◌⊎◌, inl, inr}
use mathlib.Core.Bool.{Bool, true, false, ◌&&◌}
use native.Mathlib.Decide.{le_ind}
use native.Mathlib.Omega.{arith}
use lib.Dec.{ltb}
use borrow.Author.Tests.{lt-ltb, le-ltb}
use Rattle.std.proofs.lemmas.Bool.{and_parts}
use Rattle.meaning.specs.Reading.{Reading, classical, Some}
use Rattle.meaning.specs.Trace.{InfiniteTrace, position}
use Rattle.meaning.specs.Satisfaction.{Table, RowTrue}
use Rattle.meaning.specs.Strong.{RowStronglyTrue}
use Rattle.meaning.specs.Rows.{Each, EachSignal, Ordered, Positive}
use Rattle.meaning.specs.Covers.{Covers}
use Rattle.meaning.specs.Pattern.{Pattern, Pattern.now, Pattern.next, Pattern.connective, Pattern.temporal, left, right, pattern_of, operand_bits}
use Rattle.meaning.proofs.Readings.{lt_or_le, On, on_and_off, bools_equal, classical_full}
use Rattle.meaning.proofs.Rows.{each_map, each_signal}
use Rattle.meaning.proofs.Truth.{every_cycle}
use Rattle.meaning.proofs.Periodic.{position_first, position_below}
use Rattle.meaning.proofs.PatternBits.{row_bit}
use Rattle.meaning.proofs.Evaluation.{Computes, Evaluation, bits_of, bits_computed, row_bit_local}
use Rattle.meaning.proofs.Lasso.{two_rounds, lasso, ComputesLasso, lasso_evaluation, lasso_bits_computed, lasso_unrolls, lasso_truth, lasso_readings}
use Rattle.meaning.proofs.StrongTruth.{cycles_below, Inside, strong_interprets}
use Rattle.meaning.proofs.Prefix.{prefix, to_end, prefix_same, prefix_evaluation, prefix_truth, prefix_readings}
use Rattle.monitors.specs.declared.Output.{Output}
use Rattle.monitors.specs.Along.{Activators, state_before, pending_before, output}
use Rattle.monitors.proofs.ByPattern.{pattern_monitor}
use Rattle.monitors.proofs.Soundness.{output_by_pattern, Unfailing, along_active_true, along_active_row_true}
use Rattle.monitors.proofs.Made.{bits_never_fail, bits_accept, bits_not_pending}
use Rattle.monitors.proofs.Locality.{output_local}

-- ---- lassos: n cycles with the loop at l, and the sheet repeated with them

module _ (n l : ℕ) (l<n : l < n) (recording : ℕ → ℕ → Bool) (t : Table) where
  -- what row k's monitor says in cycle i
  abbrev pub lasso_output : Activators → ℕ → ℕ → Output
  lasso_output sheet = output t (lasso n l l<n recording) (λ i. sheet (position n l i))

  -- the rows below m
  pub record PassesLasso (m root : ℕ) (sheet : Activators) : Type 0 where
    pub root_set : On (sheet 0 root)
    pub none_fails : (k : ℕ) → k < m → (i : ℕ) → (lasso_output sheet i k).failed ≡ false
    pub accepts_return : (k : ℕ) → k < m → (i : ℕ) → Some classical (λ j. (i ≤ j) × On (lasso_output sheet j k).accept)

  module _ (m root : ℕ) (root<m : root < m) (ordered : Ordered m t) (positive : (k : ℕ) → k < m → Positive (t k)) where
    module _ (sheet : Activators) (passes : PassesLasso m root sheet) where
      unfailing : Unfailing t m (lasso n l l<n recording) (λ i. sheet (position n l i)) (state_before t (lasso n l l<n recording) (λ i. sheet (position n l i)))
      unfailing = record {
        none_fails = passes.none_fails;
        none_starves = λ k h i none. passes.accepts_return k h i (λ x. on_and_off x.1.1 (none x.0 x.1.0));
      }

      -- a passing sheet marks only what is true
      pub lasso_passing_active : (R : Reading) (k : ℕ) → k < m → (i : ℕ) → On (sheet (position n l i) k) → RowTrue R (lasso n l l<n recording) t k i
      lasso_passing_active R k h i on = (lasso_readings n l l<n recording t m ordered classical R k h i).0
          (along_active_row_true t m (lasso n l l<n recording) (λ i. sheet (position n l i)) ordered positive unfailing classical classical_full k h i on)

      pub lasso_passing : (R : Reading) → RowTrue R (lasso n l l<n recording) t root 0
      unfolding position
      lasso_passing R = lasso_passing_active R root root<m 0 passes.root_set

    -- a sheet that agrees with computed bits, on a lasso that covers the rows
    module _ (covers : Covers n l recording t m) (bits : ℕ → ℕ → Bool) (computes : ComputesLasso n l l<n recording t m ordered bits) (sheet : Activators)
        (agrees : (k : ℕ) → k < m → (c : ℕ) → c < n → sheet c k ≡ bits k c) where
      sheet_computes : ComputesLasso n l l<n recording t m ordered (λ k c. sheet c k)
      sheet_computes k h c b = agrees k h c b ∙ computes k h c b ∙ ap (λ f. f c) (row_bit_local every_cycle (lasso n l l<n recording) (two_rounds n l l<n) t _ _ (t k)
          (each_map _ _ (λ a x. fun_ext (λ i. sym (agrees a (omega arith) (position n l i) (position_below n l l<n i)))) (t k) (ordered k h)))

      evaluation : Evaluation every_cycle (lasso n l l<n recording) t m (λ k i. sheet (position n l i) k)
      evaluation = lasso_evaluation n l l<n recording t m ordered covers _ (lasso_unrolls n l l<n recording t m ordered covers (λ k c. sheet c k) sheet_computes)

      pub lasso_bits_pass : (R : Reading) → RowTrue R (lasso n l l<n recording) t root 0 → PassesLasso m root sheet
      unfolding position
      lasso_bits_pass R x = record {
        root_set = (lasso_truth n l l<n recording t m ordered covers (λ k c. sheet c k) sheet_computes R root root<m 0).0 x;
        none_fails = bits_never_fail every_cycle (lasso n l l<n recording) t m _ evaluation positive;
        accepts_return = λ k h i none. let r = bits_accept every_cycle (lasso n l l<n recording) t m _ evaluation positive k h i in none (r.0, (r.1, r.2));
      }

    -- a sheet that has where each row is true
    pub lasso_truth_passes :
        Covers n l recording t m → (R : Reading) (sheet : Activators) → ((k : ℕ) → k < m → (c : ℕ) → c < n → On (sheet c k) ↔ RowTrue R (lasso n l l<n recording) t k c)
        → RowTrue R (lasso n l l<n recording) t root 0 → PassesLasso m root sheet
    lasso_truth_passes covers R sheet tells =
        let computed = lasso_bits_computed n l l<n recording t m ordered covers in
        lasso_bits_pass covers _ computed sheet (λ k h c b.
        let e = subst (λ i. RowTrue R (lasso n l l<n recording) t k c ↔ On (bits_of every_cycle (lasso n l l<n recording) (two_rounds n l l<n) t k i)) (position_first n l c b)
        (lasso_truth n l l<n recording t m ordered covers _ computed R k h c) in
        bools_equal _ _ (λ x. e.0 ((tells k h c b).0 x)) (λ x. (tells k h c b).1 (e.1 x))) R

-- ---- prefixes: behind the end nothing is active

abbrev Rests : Output → Type 0
Rests o = (o.pending ≡ false) × (o.failed ≡ false) × On o.accept

-- what is neither active nor pending rests
rests : (p : Pattern) (a b z y : Bool) → z ≡ false → y ≡ false → Rests (pattern_monitor a b (record { active = z; pending = y }) p)
rests p a b true y e f = on_and_off refl e
rests p a b false true e f = on_and_off refl f
rests now a b false false e f = (refl, refl, refl)
rests next a b false false e f = (refl, refl, refl)
rests (connective g) a b false false e f = (refl, refl, refl)
rests (temporal g true) a b false false e f = (refl, refl, refl)
rests (temporal g false) a b false false e f = (refl, refl, refl)

-- the first n cycles of w
module _ (n : ℕ) (w : InfiniteTrace) (t : Table) where
  -- the rows below m
  pub record PassesPrefix (m root : ℕ) (sheet : Activators) : Type 0 where
    pub root_set : On (sheet 0 root)
    pub none_fails : (k : ℕ) → k < m → (i : ℕ) → i < n → (output t w sheet i k).failed ≡ false
    pub none_pending : (k : ℕ) → k < m → (output t w sheet (n - 1) k).pending ≡ false

  -- nothing is active behind the end
  abbrev cut : Activators → Activators
  cut sheet i k = ltb i n && sheet i k

  module _ (n>0 : 0 < n) (m root : ℕ) (root<m : root < m) (ordered : Ordered m t) (positive : (k : ℕ) → k < m → Positive (t k)) where
    module _ (sheet : Activators) where
      closed : (k : ℕ) → k < m → Each (λ a. a < m) (t k)
      closed k h = each_map _ _ (λ a l. omega arith) (t k) (ordered k h)

      same_signals : (i : ℕ) → i < n → (k : ℕ) → k < m → EachSignal (λ s. w i s ≡ prefix n w i s) (t k)
      same_signals i l k h = each_signal _ (λ s. prefix_same n w i s l) (t k)

      same_activators : (i : ℕ) → i < n → (k : ℕ) → k < m → sheet i k ≡ cut sheet i k
      same_activators i l k h = sym (ap (λ b. b && sheet i k) (lt-ltb i n l))

      cut_output : (k : ℕ) → k < m → (i : ℕ) → i < n → output t w sheet i k ≡ output t (prefix n w) (cut sheet) i k
      cut_output = output_local t (λ k. k < m) closed w (prefix n w) sheet (cut sheet) n same_signals same_activators

      -- the pendings behind the end are those of the last cycle
      last_pending : (k : ℕ) → k < m → pending_before t (prefix n w) (cut sheet) n k ≡ (output t w sheet (n - 1) k).pending
      unfolding state_before
      last_pending k h =
          let e : suc (n - 1) ≡ n = omega arith in
          subst (λ i. pending_before t (prefix n w) (cut sheet) i k ≡ (output t w sheet (n - 1) k).pending) e (before (n - 1) (omega arith))
        where
          before : (i : ℕ) → i < n → pending_before t (prefix n w) (cut sheet) (suc i) k ≡ (output t w sheet i k).pending
          before i l = sym (ap (λ o. o.pending) (cut_output k h i l))

    module _ (sheet : Activators) (passes : PassesPrefix m root sheet) where
      rest : (k : ℕ) → k < m → (i : ℕ) → n ≤ i → pending_before t (prefix n w) (cut sheet) i k ≡ false → Rests (output t (prefix n w) (cut sheet) i k)
      rest k h i l e = subst⁻¹ Rests (output_by_pattern t (prefix n w) (cut sheet) (state_before t (prefix n w) (cut sheet)) k (positive k h) i)
          (rests (pattern_of (t k)) (operand_bits (prefix n w) (λ a j. cut sheet j a) (left (t k)) i) (operand_bits (prefix n w) (λ a j. cut sheet j a) (right (t k)) i) _ _ (ap (λ b. b && sheet i k) (le-ltb i n l)) e)

      still : (k : ℕ) → k < m → (i : ℕ) → n ≤ i → pending_before t (prefix n w) (cut sheet) i k ≡ false
      unfolding state_before
      still k h = le_ind (λ i. pending_before t (prefix n w) (cut sheet) i k ≡ false) (last_pending sheet k h ∙ passes.none_pending k h) (λ i l e. (rest k h i l e).0)

      cut_unfailing : Unfailing t m (prefix n w) (cut sheet) (state_before t (prefix n w) (cut sheet))
      cut_unfailing = record {
        none_fails = λ k h i. by k h i (lt_or_le i n);
        none_starves = λ k h i none. on_and_off (rest k h (i + n) (omega arith) (still k h (i + n) (omega arith))).2 (none (i + n) (omega arith));
      }
        where
          by : (k : ℕ) → k < m → (i : ℕ) → (i < n) ⊎ (n ≤ i) → (output t (prefix n w) (cut sheet) i k).failed ≡ false
          by k h i (inl l) = sym (ap (λ o. o.failed) (cut_output sheet k h i l)) ∙ passes.none_fails k h i l
          by k h i (inr l) = (rest k h i l (still k h i l)).1

      -- a passing sheet marks only what is strongly true
      pub prefix_passing_active : (R : Reading) (k : ℕ) → k < m → (i : ℕ) → i < n → On (sheet i k) → RowStronglyTrue R n w t k i
      prefix_passing_active R k h i l on = (prefix_readings n w t m ordered positive classical R k h i l).0
          (along_active_true t m (prefix n w) (cut sheet) ordered positive cut_unfailing classical classical_full (cycles_below n) (λ k i h e. (and_parts (ltb i n) _ e).0)
          (λ k. Inside n (RowStronglyTrue classical n w t k)) (strong_interprets classical n w (prefix n w) t m ordered positive (λ i l. same_signals sheet i l))
          k h i (sym (same_activators sheet i l k h) ∙ on)).1

      pub prefix_passing : (R : Reading) → RowStronglyTrue R n w t root 0
      prefix_passing R = prefix_passing_active R root root<m 0 n>0 passes.root_set

    -- a sheet that agrees below n with computed bits
    module _ (bits : ℕ → ℕ → Bool) (computes : Computes (cycles_below n) (prefix n w) (to_end n w) t m bits) (sheet : Activators)
        (agrees : (k : ℕ) → k < m → (c : ℕ) → c < n → sheet c k ≡ bits k c) where
      cut_agrees : (k : ℕ) → k < m → (i : ℕ) → cut sheet i k ≡ bits k i
      cut_agrees k h i = by (lt_or_le i n)
        where
          by : (i < n) ⊎ (n ≤ i) → cut sheet i k ≡ bits k i
          by (inl l) = sym (same_activators sheet i l k h) ∙ agrees k h i l
          by (inr l) = ap (λ b. b && sheet i k) (le-ltb i n l) ∙ sym (computes k h i ∙ ap (λ b. b && row_bit (prefix n w) (to_end n w) bits (t k) i) (le-ltb i n l))

      cut_computes : Computes (cycles_below n) (prefix n w) (to_end n w) t m (λ k i. cut sheet i k)
      cut_computes k h i = cut_agrees k h i ∙ computes k h i ∙ ap (λ f. ltb i n && f i) (row_bit_local (cycles_below n) (prefix n w) (to_end n w) t _ _ (t k)
          (each_map _ _ (λ a x. fun_ext (λ i. sym (cut_agrees a (omega arith) i))) (t k) (ordered k h)))

      cut_evaluation : Evaluation (cycles_below n) (prefix n w) t m (λ k i. cut sheet i k)
      cut_evaluation = prefix_evaluation n w t m ordered positive _ cut_computes

      pub prefix_bits_pass : (R : Reading) → RowStronglyTrue R n w t root 0 → PassesPrefix m root sheet
      prefix_bits_pass R x = record {
        root_set = agrees root root<m 0 n>0 ∙ (prefix_truth n w t m ordered positive bits computes R root root<m 0).0 (n>0, x);
        none_fails = λ k h i l. ap (λ o. o.failed) (cut_output sheet k h i l) ∙ bits_never_fail (cycles_below n) (prefix n w) t m _ cut_evaluation positive k h i;
        none_pending = λ k h. sym (last_pending sheet k h) ∙ bits_not_pending (cycles_below n) (prefix n w) t m _ cut_evaluation positive k h n (λ j l. le-ltb j n l);
      }

    -- a sheet that has where each row is strongly true
    pub prefix_truth_passes :
        (R : Reading) (sheet : Activators) → ((k : ℕ) → k < m → (c : ℕ) → c < n → On (sheet c k) ↔ RowStronglyTrue R n w t k c)
        → RowStronglyTrue R n w t root 0 → PassesPrefix m root sheet
    prefix_truth_passes R sheet tells =
        let computed = bits_computed (cycles_below n) (prefix n w) (to_end n w) t m ordered in
        prefix_bits_pass _ computed sheet (λ k h c b.
        let e = prefix_truth n w t m ordered positive _ computed R k h c in
        bools_equal _ _ (λ x. e.0 (b, (tells k h c b).0 x)) (λ x. (tells k h c b).1 (e.1 x).1)) R
