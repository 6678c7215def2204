-- On a lasso that covers a normal form the true bits of every row are found from those of its operands, by a pass over its loop and one over its cycles, and they
-- are on where the row is true (true-bits). Assumes nothing.
use Prim.Native.Nat.{ℕ, suc, ◌+◌, ◌-◌, ◌≤◌, ◌<◌}
use mathlib.Core.Path.{◌≡◌, refl, subst, ap, ap₂, ◌∙◌}
use mathlib.Core.Logic.{◌↔◌}
use mathlib.Core.Bool.{Bool, true, false}
use native.Mathlib.Omega.{arith}
use lib.Dec.{ltb}
use Rattle.tables.specs.Choice.{pick}
use Rattle.tables.specs.declared.row.Row.{Row}
use Rattle.tables.specs.declared.row.NormalForm.{NormalForm}
use Rattle.tables.specs.declared.trace.Ending.TheVariants.{Loop}
use Rattle.tables.specs.declared.trace.Trace.{Trace}
use Rattle.meaning.specs.Reading.{classical}
use Rattle.meaning.specs.Trace.{InfiniteTrace, position, signal_at}
use Rattle.meaning.specs.Satisfaction.{Table, table_of, RowTrue}
use Rattle.meaning.specs.Rows.{Ordered}
use Rattle.meaning.specs.Covers.{CoversIn}
use Rattle.meaning.specs.Pattern.{Pattern, Pattern.now, Pattern.next, Pattern.connective, Pattern.temporal}
use Rattle.meaning.specs.Pattern.{left, right, pattern_of, connective_bit, keep_bits, goal_bits, operand_bits}
use Rattle.meaning.specs.Approximant.{approximant}
use Rattle.meaning.proofs.Readings.{On}
use Rattle.meaning.proofs.Truth.{every_cycle}
use Rattle.meaning.proofs.Periodic.{Periodic, position_first, position_periodic}
use Rattle.meaning.proofs.Streams.{approximant_local}
use Rattle.meaning.proofs.PatternBits.{pattern_bit, row_bit}
use Rattle.meaning.proofs.Evaluation.{bits_of}
use Rattle.meaning.proofs.Lasso.{two_rounds, two_passes, lasso, lasso_bits_computed, lasso_truth}
use Rattle.normal_form.specs.Form.{InNormalForm}
use Rattle.normal_form.proofs.FormTables.{form_ordered}
use Rattle.lanes.specs.Truth.{TrueIn}

-- a lasso of n cycles with its loop at l
module _ (n l : ℕ) where
  -- until and its like: from w over the loop, and from what that found at the loop's cycle over the cycles from c on
  abbrev pub until_lasso : (ℕ → Bool) → (ℕ → Bool) → Bool → ℕ → Bool
  until_lasso k g w c = approximant k g (approximant k g w (n - l) l) (n - c) c

  -- by patterns; p and q are the operands
  abbrev pub pattern_lasso : (ℕ → Bool) → (ℕ → Bool) → Pattern → ℕ → Bool
  pattern_lasso p q now c = q c
  pattern_lasso p q next c = pick (ltb (suc c) n) (q (suc c)) (q l)
  pattern_lasso p q (connective f) c = connective_bit f (p c) (q c)
  pattern_lasso p q (temporal f w) c = until_lasso (keep_bits f p q) (goal_bits f p q) w c

  -- over the signals and the bits of the rows, by row and cycle
  abbrev pub lasso_bit : InfiniteTrace → (ℕ → ℕ → Bool) → Row → ℕ → Bool
  lasso_bit signals bits r c = pattern_lasso (operand_bits signals bits (left r)) (operand_bits signals bits (right r)) (pattern_of r) c

-- ---- it is the bit computed along the unrolling

module _ (n l : ℕ) (l<n : l < n) where
  along : (ℕ → Bool) → ℕ → Bool
  along f i = f (position n l i)

  along_first : (f : ℕ → Bool) (i : ℕ) → i < n → along f i ≡ f i
  unfolding along
  along_first f i h = ap f (position_first n l i h)

  along_periodic : (f : ℕ → Bool) → Periodic (n - l) l (along f)
  unfolding along
  along_periodic f i h = ap f (position_periodic n l l<n i h)

  until_along : (k g : ℕ → Bool) (w : Bool) (c : ℕ) → c < n → approximant (along k) (along g) w (two_rounds n l l<n c) c ≡ until_lasso n l k g w c
  until_along k g w c h =
      two_passes n l l<n (along k) (along g) (along_periodic k) (along_periodic g) w c (omega arith)
      ∙ same _ (n - c) c (omega arith)
      ∙ ap (λ x. approximant k g x (n - c) c) (same w (n - l) l (omega arith))
    where
      same : (x : Bool) (d i : ℕ) → i + d ≤ n → approximant (along k) (along g) x d i ≡ approximant k g x d i
      same x d i b = approximant_local (along k) (along g) k g x d i (λ j p q. (along_first k j (omega arith), along_first g j (omega arith)))

  pick_over : (f : ℕ → Bool) (b : Bool) (x y : ℕ) → f (pick b x y) ≡ pick b (f x) (f y)
  pick_over f true x y = refl
  pick_over f false x y = refl

  pattern_along : (p q : ℕ → Bool) (x : Pattern) (c : ℕ) → c < n → pattern_bit (two_rounds n l l<n) (along p) (along q) x c ≡ pattern_lasso n l p q x c
  unfolding along position
  pattern_along p q now c h = along_first q c h
  pattern_along p q next c h = pick_over q (ltb (suc (position n l c)) n) (suc (position n l c)) l ∙ ap (λ i. pick (ltb (suc i) n) (q (suc i)) (q l)) (position_first n l c h)
  pattern_along p q (connective f) c h = ap₂ (connective_bit f) (along_first p c h) (along_first q c h)
  pattern_along p q (temporal f w) c h = until_along (keep_bits f p q) (goal_bits f p q) w c h

  pub row_lasso :
      (recording : ℕ → ℕ → Bool) (bits : ℕ → ℕ → Bool) (r : Row) (c : ℕ) → c < n
      → row_bit (lasso n l l<n recording) (two_rounds n l l<n) (λ a i. bits a (position n l i)) r c ≡ lasso_bit n l recording bits r c
  unfolding along
  row_lasso recording bits r c h = pattern_along (operand_bits recording bits (left r)) (operand_bits recording bits (right r)) (pattern_of r) c h

-- ---- the true bits of a normal form's rows

pub true_bits :
    (g : NormalForm) (t : Trace) (l : ℕ) → InNormalForm g → l < t.cycles → CoversIn g t (Loop l)
    → (bits : ℕ → ℕ → Bool)
    × ((k : ℕ) → k < suc g.rows → (c : ℕ) → c < t.cycles → bits k c ≡ lasso_bit t.cycles l (signal_at t) bits (table_of g.places k) c)
    × ((k : ℕ) → k < suc g.rows → (c : ℕ) → c < t.cycles → TrueIn g t (Loop l) k c ↔ (bits k c ≡ true))
true_bits g t l ok l<n covers =
    let n : ℕ = t.cycles in
    let w : InfiniteTrace = signal_at t in
    let p : Table = table_of g.places in
    let m : ℕ = suc g.rows in
    let ordered : Ordered m p = form_ordered g ok in
    let bits : ℕ → ℕ → Bool = bits_of every_cycle (lasso n l l<n w) (two_rounds n l l<n) p in
    let computed = lasso_bits_computed n l l<n w p m ordered covers in (
      bits,
      λ k h c b. computed k h c b ∙ row_lasso n l l<n w bits (p k) c b,
      λ k h c b. subst (λ i. RowTrue classical (lasso n l l<n w) p k c ↔ On (bits k i)) (position_first n l c b) (lasso_truth n l l<n w p m ordered covers bits computed classical k h c),
    )
