-- The two readings of a formula agree: on an unrolled lasso outright, and on every infinite trace given excluded middle, since any
-- two full readings do. Assumes nothing: excluded middle is an argument where it is used.
use Prim.Native.Nat.{ℕ, suc, ◌<◌}
use Prim.Axiom.{Lem}
use mathlib.Core.Logic.{◌↔◌}
use native.Mathlib.Omega.{arith}
use Rattle.tables.specs.declared.row.Formula.{Formula}
use Rattle.tables.specs.declared.trace.Trace.{Trace}
use Rattle.meaning.specs.Reading.{Reading, literal, classical}
use Rattle.meaning.specs.Trace.{InfiniteTrace, signal_at, unrolled}
use Rattle.meaning.specs.Satisfaction.{Table, table_of, RowTrue, Satisfies}
use Rattle.meaning.specs.Rows.{Ordered}
use Rattle.meaning.proofs.Readings.{Full, into_full, classical_full, literal_full}
use Rattle.meaning.proofs.Locality.{truth_read}
use Rattle.meaning.proofs.Lasso.{lasso_readings}

module _ (t : Table) (n : ℕ) (ordered : Ordered n t) where
  pub full_readings_agree : (R S : Reading) → Full R → Full S → (w : InfiniteTrace) (k : ℕ) → k < n → (i : ℕ) → RowTrue R w t k i ↔ RowTrue S w t k i
  full_readings_agree R S fr fs w = truth_read R S (into_full R S fs) (into_full S R fr) w t n ordered

  pub readings_agree : Lem {0} → (w : InfiniteTrace) (k : ℕ) → k < n → (i : ℕ) → RowTrue literal w t k i ↔ RowTrue classical w t k i
  readings_agree excluded-middle = full_readings_agree literal classical (literal_full excluded-middle) classical_full

  pub readings_agree_on_lasso :
      (x : Trace) (l : ℕ) → l < x.cycles → (k : ℕ) → k < n → (i : ℕ)
      → RowTrue literal (unrolled x l) t k i ↔ RowTrue classical (unrolled x l) t k i
  readings_agree_on_lasso x l h = lasso_readings x.cycles l h (signal_at x) t n ordered literal classical

-- a whole formula
module _ (f : Formula) (ordered : Ordered (suc f.rows) (table_of f.places)) where
  pub satisfies_agree : Lem {0} → (w : InfiniteTrace) → Satisfies literal w f ↔ Satisfies classical w f
  satisfies_agree excluded-middle w = readings_agree (table_of f.places) (suc f.rows) ordered excluded-middle w f.rows (omega arith) 0

  pub satisfies_agree_on_lasso : (x : Trace) (l : ℕ) → l < x.cycles → Satisfies literal (unrolled x l) f ↔ Satisfies classical (unrolled x l) f
  satisfies_agree_on_lasso x l h = readings_agree_on_lasso (table_of f.places) (suc f.rows) ordered x l h f.rows (omega arith) 0
