-- On a prefix the strong truth of every row is the bit computed by one pass back from its end, in any reading (prefix-truth). So it
-- is decided, and all readings agree on it. Assumes nothing.
use Prim.Native.Nat.{ℕ, ◌+◌, ◌-◌, ◌<◌}
use mathlib.Core.Path.{◌≡◌, sym, ap, ◌∙◌}
use mathlib.Core.Logic.Iff
use mathlib.Core.Logic.{◌↔◌, inr}
use mathlib.Core.Bool.{Bool, ◌&&◌}
use native.Mathlib.Omega.{arith}
use lib.Dec.{ltb}
use borrow.Author.Tests.{lt-ltb, le-ltb}
use Rattle.meaning.specs.Reading.{Reading}
use Rattle.meaning.specs.Trace.{InfiniteTrace}
use Rattle.meaning.specs.Satisfaction.{Table}
use Rattle.meaning.specs.Strong.{RowStronglyTrue}
use Rattle.meaning.specs.Rows.{Ordered, Positive}
use Rattle.meaning.proofs.Readings.{On, decided_by}
use Rattle.meaning.proofs.Rows.{each_map, each_signal}
use Rattle.meaning.proofs.Evaluation.{Computes, Evaluation, bits_of, bits_computed, evaluation_is}
use Rattle.meaning.proofs.StrongTruth.{cycles_below, Inside, strong_interprets}

module _ (n : ℕ) (w : InfiniteTrace) where
  -- the first n cycles, and no signal behind them: periodic from n on
  abbrev pub prefix : InfiniteTrace
  prefix i s = ltb i n && w i s

  abbrev pub to_end : ℕ → ℕ
  to_end i = (n - i) + 1

  pub prefix_same : (i s : ℕ) → i < n → w i s ≡ prefix i s
  prefix_same i s h = sym (ap (λ b. b && w i s) (lt-ltb i n h))

  module _ (t : Table) (m : ℕ) (ordered : Ordered m t) (positive : (k : ℕ) → k < m → Positive (t k)) where
    unfoldable pub prefix_evaluation : (bits : ℕ → ℕ → Bool) → Computes (cycles_below n) prefix to_end t m bits → Evaluation (cycles_below n) prefix t m bits
    prefix_evaluation bits computes = record {
      period = 1;
      since = n;
      start = λ k. n;
      from = λ k. n;
      depth = to_end;
      period>0 = omega arith;
      lives = λ i h. le-ltb (i + 1) n (omega arith) ∙ sym (le-ltb i n h);
      signals = λ s i h. ap (λ b. b && w (i + 1) s) (le-ltb (i + 1) n (omega arith)) ∙ sym (ap (λ b. b && w i s) (le-ltb i n h));
      ordered = ordered;
      computes = computes;
      enough = λ k h i. omega arith;
      early = λ k h. omega arith;
      nests = λ k h. each_map _ _ (λ a x. omega arith) (t k) (ordered k h);
      gains = λ k h. inr (λ i x. le-ltb i n x);
    }

    pub prefix_truth :
        (bits : ℕ → ℕ → Bool) → Computes (cycles_below n) prefix to_end t m bits → (R : Reading) (k : ℕ) → k < m → (i : ℕ)
        → Inside n (RowStronglyTrue R n w t k) i ↔ On (bits k i)
    prefix_truth bits computes R = evaluation_is (cycles_below n) prefix t m bits (prefix_evaluation bits computes) R _
        (strong_interprets R n w prefix t m ordered positive (λ i l k h. each_signal _ (λ s. prefix_same i s l) (t k)))

    -- below n it is the strong truth itself
    strong_is : (R : Reading) (k : ℕ) → k < m → (i : ℕ) → i < n → RowStronglyTrue R n w t k i ↔ On (bits_of (cycles_below n) prefix to_end t k i)
    strong_is R k h i l = let e = prefix_truth _ (bits_computed (cycles_below n) prefix to_end t m ordered) R k h i in (λ x. e.0 (l, x), λ x. (e.1 x).1)

    pub prefix_decided : (R : Reading) (k : ℕ) → k < m → (i : ℕ) → i < n → Dec (RowStronglyTrue R n w t k i)
    prefix_decided R k h i l = decided_by (strong_is R k h i l)

    pub prefix_readings : (R S : Reading) (k : ℕ) → k < m → (i : ℕ) → i < n → RowStronglyTrue R n w t k i ↔ RowStronglyTrue S n w t k i
    prefix_readings R S k h i l = Iff.trans (strong_is R k h i l) (Iff.symm (strong_is S k h i l))
