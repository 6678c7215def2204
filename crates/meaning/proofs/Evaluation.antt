-- The bits computed for the rows of a table on an ultimately periodic trace are the truth, in any reading, `not` included
-- (evaluation-is). Unrolled lassos are such traces, and so are prefixes, on which no cycle behind the end is live. Assumes nothing.
use Prim.Native.Nat.{ℕ, zero, suc, ◌+◌, ◌*◌, ◌-◌, ◌≤◌, ◌<◌}
use mathlib.Core.Path.{◌≡◌, refl, subst⁻¹, sym, ap, ap₂, ◌∙◌}
use mathlib.Core.Logic.Iff
use mathlib.Core.Logic.{◌↔◌, ◌⊎◌, inl, inr}
use mathlib.Core.Bool.{Bool, false, ◌&&◌}
use native.Mathlib.Omega.{arith}
use Rattle.tables.specs.declared.row.Row.{Row}
use Rattle.meaning.specs.Reading.{Reading}
use Rattle.meaning.specs.Trace.{InfiniteTrace}
use Rattle.meaning.specs.Satisfaction.{Table}
use Rattle.meaning.specs.Rows.{Each, Ordered}
use Rattle.meaning.specs.Pattern.{Operand.signal, Operand.row, left, right, pattern_of, operand_bits, signed_bit}
use Rattle.meaning.specs.Nesting.{delay}
use Rattle.meaning.proofs.Readings.{iff_refl, row_induction, On}
use Rattle.meaning.proofs.Rows.{each_map, each_zip}
use Rattle.meaning.proofs.Truth.{Interprets}
use Rattle.meaning.proofs.Periodic.{Periodic}
use Rattle.meaning.proofs.Pattern.{OperandTrue, PatternMeans, both_operands}
use Rattle.meaning.proofs.MeaningByPattern.{interprets_pattern}
use Rattle.meaning.proofs.PatternBits.{row_bit, pattern_bit, and_iff, signed_iff, signal_iff, pattern_bit_periodic, pattern_bit_is}

-- each of the rows below n has, at the live cycles, the bit computed from the rows' bits, and 0 at the others
abbrev pub Computes : (ℕ → Bool) → InfiniteTrace → (ℕ → ℕ) → Table → ℕ → (ℕ → ℕ → Bool) → Type 0
Computes live w depth t n bits = (k : ℕ) → k < n → (i : ℕ) → bits k i ≡ (live i && row_bit w depth bits (t k) i)

-- ---- there are such bits

module _ (live : ℕ → Bool) (w : InfiniteTrace) (depth : ℕ → ℕ) (t : Table) where
  -- row k at cycle i, read to a depth of d rows
  unfoldable pub bits_within : ℕ → ℕ → ℕ → Bool
  bits_within zero k i = false
  bits_within (suc d) k i = live i && row_bit w depth (bits_within d) (t k) i

  unfoldable pub bits_of : ℕ → ℕ → Bool
  bits_of k = bits_within (suc k) k

  pub row_bit_local : (u v : ℕ → ℕ → Bool) (r : Row) → Each (λ a. u a ≡ v a) r → row_bit w depth u r ≡ row_bit w depth v r
  row_bit_local u v r e =
      let x = both_operands (λ x. operand_bits w u x ≡ operand_bits w v x) (λ b. refl) same r (each_map _ _ turn r e) in
      ap₂ (λ p q i. pattern_bit depth p q (pattern_of r) i) x.0 x.1
    where
      same : (b : Bool) (s : ℕ) → operand_bits w u (signal b s) ≡ operand_bits w v (signal b s)
      same b s = refl

      turn : (a : ℕ) → u a ≡ v a → (b : Bool) → operand_bits w u (row b a) ≡ operand_bits w v (row b a)
      turn a q b = ap (λ f i. signed_bit b (f i)) q

  module _ (n : ℕ) (ordered : Ordered n t) where
    within_same : (d e k : ℕ) → k < d → k < e → k < n → bits_within d k ≡ bits_within e k
    unfolding bits_within
    within_same zero e k p q h = absurd (omega arith)
    within_same (suc d) zero k p q h = absurd (omega arith)
    within_same (suc d) (suc e) k p q h = ap (λ f i. live i && f i) (row_bit_local (bits_within d) (bits_within e) (t k)
        (each_map _ _ (λ a l. within_same d e a (omega arith) (omega arith) (omega arith)) (t k) (ordered k h)))

    pub bits_computed : Computes live w depth t n bits_of
    unfolding bits_of bits_within
    bits_computed k h i = ap (λ f. live i && f i) (row_bit_local (bits_within k) bits_of (t k)
        (each_map _ _ (λ a l. within_same k (suc a) a l (omega arith) (omega arith)) (t k) (ordered k h)))

-- ---- they are the truth

-- From `since` on the trace repeats after `period` cycles. Row k's operands repeat from `start k` on, and its own bits from `from k` on: as
-- many rounds later as it delays, or wherever no cycle is live any more. The bits look one period ahead of the operands' start.
pub record Evaluation (live : ℕ → Bool) (w : InfiniteTrace) (t : Table) (n : ℕ) (bits : ℕ → ℕ → Bool) : Type 0 where
  pub period : ℕ
  pub since : ℕ
  pub start : ℕ → ℕ
  pub from : ℕ → ℕ
  pub depth : ℕ → ℕ
  pub period>0 : 0 < period
  pub lives : Periodic period since live
  pub signals : (s : ℕ) → Periodic period since (λ i. w i s)
  pub ordered : Ordered n t
  pub computes : Computes live w depth t n bits
  pub enough : (k : ℕ) → k < n → (i : ℕ) → (start k - i) + period ≤ depth i
  pub early : (k : ℕ) → k < n → since ≤ start k
  pub nests : (k : ℕ) → k < n → Each (λ a. from a ≤ start k) (t k)
  pub gains : (k : ℕ) → k < n → (start k + delay (pattern_of (t k)) * period ≤ from k) ⊎ ((i : ℕ) → from k ≤ i → live i ≡ false)

module _ (live : ℕ → Bool) (w : InfiniteTrace) (t : Table) (n : ℕ) (bits : ℕ → ℕ → Bool) (e : Evaluation live w t n bits) where
  open e use {period, start, from, depth}

  operands_from :
      (k : ℕ) → k < n → ((a : ℕ) → a < k → Periodic period (from a) (bits a))
      → Periodic period (start k) (operand_bits w bits (left (t k))) × Periodic period (start k) (operand_bits w bits (right (t k)))
  operands_from k h ih = both_operands (λ x. Periodic period (start k) (operand_bits w bits x)) (λ c i l. refl) signals (t k)
      (each_zip _ _ _ rows (t k) (e.nests k h) (e.ordered k h))
    where
      signals : (c : Bool) (s : ℕ) → Periodic period (start k) (operand_bits w bits (signal c s))
      signals c s i l = ap (signed_bit c) (e.signals s i (omega (arith, e.early k h)))

      rows : (a : ℕ) → from a ≤ start k → a < k → (c : Bool) → Periodic period (start k) (operand_bits w bits (row c a))
      rows a m x c i l = ap (signed_bit c) (ih a x i (omega arith))

  -- every row's bits are periodic
  pub evaluation_periodic : (k : ℕ) → k < n → Periodic period (from k) (bits k)
  evaluation_periodic = row_induction (λ k. k < n → Periodic period (from k) (bits k)) step
    where
      step : (k : ℕ) → ((a : ℕ) → a < k → a < n → Periodic period (from a) (bits a)) → k < n → Periodic period (from k) (bits k)
      step k ih h i l = e.computes k h (i + period) ∙ by (e.gains k h) ∙ sym (e.computes k h i)
        where
          by :
              (start k + delay (pattern_of (t k)) * period ≤ from k) ⊎ ((i : ℕ) → from k ≤ i → live i ≡ false)
              → (live (i + period) && row_bit w depth bits (t k) (i + period)) ≡ (live i && row_bit w depth bits (t k) i)
          by (inl g) =
              let p = operands_from k h (λ a x. ih a x (omega arith)) in
              ap₂ ◌&&◌ (e.lives i (omega (arith, e.early k h)))
              (pattern_bit_periodic period (start k) e.period>0 depth (e.enough k h) _ _ p.0 p.1 (pattern_of (t k)) i (omega arith))
          by (inr off) =
              ap (λ x. x && row_bit w depth bits (t k) (i + period)) (off (i + period) (omega arith))
              ∙ sym (ap (λ x. x && row_bit w depth bits (t k) i) (off i l))

  pub operands_periodic :
      (k : ℕ) → k < n
      → Periodic period (start k) (operand_bits w bits (left (t k))) × Periodic period (start k) (operand_bits w bits (right (t k)))
  operands_periodic k h = operands_from k h (λ a x. evaluation_periodic a (omega arith))

  module _ (R : Reading) (v : ℕ → ℕ → Type 0) (interprets : Interprets R live w t n v) where
    pub evaluation_is : (k : ℕ) → k < n → (i : ℕ) → v k i ↔ On (bits k i)
    evaluation_is = row_induction (λ k. k < n → (i : ℕ) → v k i ↔ On (bits k i)) step
      where
        step : (k : ℕ) → ((a : ℕ) → a < k → a < n → (i : ℕ) → v a i ↔ On (bits a i)) → k < n → (i : ℕ) → v k i ↔ On (bits k i)
        step k ih h i =
            let p = operands_periodic k h in
            let said = pattern_bit_is period (start k) e.period>0 depth (e.enough k h) _ _ p.0 p.1 R _ _ operands.0 operands.1 (pattern_of (t k)) i in
            Iff.trans (interprets_pattern R w v live t n e.ordered interprets k h i)
            (subst⁻¹ (λ x. (On (live i) × PatternMeans R w v (t k) i) ↔ On x) (e.computes k h i) (and_iff (live i) _ iff_refl said))
          where
            operands : ((j : ℕ) → OperandTrue w v (left (t k)) j ↔ On (operand_bits w bits (left (t k)) j)) × ((j : ℕ) → OperandTrue w v (right (t k)) j ↔ On (operand_bits w bits (right (t k)) j))
            operands = both_operands (λ x. (j : ℕ) → OperandTrue w v x j ↔ On (operand_bits w bits x j)) (λ c j. iff_refl) (λ c s j. signal_iff c (w j s)) (t k)
                (each_map _ _ (λ a l c j. signed_iff c (bits a j) (ih a l (omega arith) j)) (t k) (e.ordered k h))
