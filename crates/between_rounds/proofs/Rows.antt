-- What is asked of the rows of a normal form, one row after the other. Assumes nothing.
use Prim.Native.Nat.{ℕ, suc, ◌+◌, ◌-◌, ◌≤◌, ◌<◌}
use mathlib.Core.Path.{◌≡◌, refl, sym, ap, ap₂, ◌∙◌}
use mathlib.Core.Bool.{Bool, true, false, ◌&&◌, and-eq-true_iff}
use mathlib.Core.List.{List}
use native.Mathlib.Decide.{ℕ_discrete}
use native.Mathlib.Omega.{arith}
use lib.ListN.{length, set}
use lib.Seq.{get_or-set_same, get_or-set_other}
use Rattle.tables.specs.declared.row.Row.{Row}
use Rattle.tables.specs.declared.row.Row.TheVariants.{Constant, Signal, Unary, Binary}
use Rattle.tables.specs.declared.row.NormalForm.{NormalForm}
use Rattle.meaning.specs.Satisfaction.{Table, table_of}
use Rattle.meaning.specs.Pattern.{pattern_of}
use Rattle.meaning.specs.Rows.{Each}
use Rattle.meaning.proofs.Rows.{each_map}
use Rattle.normal_form.specs.Form.{InNormalForm}
use Rattle.normal_form.proofs.FormTables.{form_operands}
use Rattle.cycle_rows.specs.Cells.{row_cell}
use Rattle.between_rounds.specs.Between.{sure_in, every_operand, same_bit, stays, surely, handed, Surveyed, Handed}

-- ---- which rows are sure

-- nothing is read but the operands
pub every_operand_local : (u v : ℕ → Bool) (r : Row) → Each (λ a. u a ≡ v a) r → every_operand u r ≡ every_operand v r
every_operand_local u v (Constant c) e = refl
every_operand_local u v (Signal c s) e = refl
every_operand_local u v (Unary c a) e = e
every_operand_local u v (Binary c a b) e = ap₂ ◌&&◌ e.0 e.1

pub surely_local : (u v same : ℕ → Bool) (k : ℕ) (r : Row) → Each (λ a. u a ≡ v a) r → surely u same k r ≡ surely v same k r
surely_local u v same k r e = ap (λ x. x && stays same k r (pattern_of r)) (every_operand_local u v r e)

module _ (g : NormalForm) (ok : InNormalForm g) (behind left : ℕ → Bool) where
  abbrev asked : (ℕ → Bool) → ℕ → Bool
  asked sure k = surely sure (λ a. same_bit (behind a) (left a)) k (table_of g.places k)

  -- the first k rows are surveyed, and `all` says whether all of them are sure
  pub record SurveyedTo (k : ℕ) (sure : List Bool) (all : Bool) : Type 0 where
    pub within : k ≤ g.rows
    pub told : Surveyed (table_of g.places) k behind left (sure_in sure)
    pub each : all ≡ true → (j : ℕ) → j < k → sure_in sure (suc j) ≡ true
    pub some : all ≡ false → (j : ℕ) × (j < k) × (sure_in sure (suc j) ≡ false)

  module _ (k : ℕ) (sure : List Bool) (size : length sure ≡ 128) (h : k < g.rows) (on : Bool) where
    -- the entry of row k + 1 is written, and the others stay
    new : sure_in (set sure k on) (suc k) ≡ on
    new = let e : suc k - 1 ≡ k = omega arith in rw e (get_or-set_same sure k on false (omega (arith, size, ok.most_rows)))

    still : (a : ℕ) → 1 ≤ a → a < suc k → sure_in sure a ≡ sure_in (set sure k on) a
    still a p q = sym (get_or-set_other sure k (a - 1) on false (λ e. let z : a - 1 ≡ k = e in omega arith))

    -- operands are earlier rows
    kept : (j : ℕ) → j < suc k → asked (sure_in sure) (suc j) ≡ asked (sure_in (set sure k on)) (suc j)
    kept j l =
        surely_local (sure_in sure) (sure_in (set sure k on)) (λ a. same_bit (behind a) (left a)) (suc j) (table_of g.places (suc j))
        (each_map _ _ (λ a b. still a b.0 (omega (arith, b.1))) (table_of g.places (suc j)) (form_operands g ok (suc j) (omega arith)))

    -- what holds of row k + 1 and of the first k holds of the first k + 1
    both : (P : ℕ → Bool → Type 0) → P k on → ((j : ℕ) → j < k → P j (sure_in sure (suc j))) → (j : ℕ) → j < k + 1 → P j (sure_in (set sure k on) (suc j))
    both P here before j l = by (ℕ_discrete j k)
      where
        by : Dec (j ≡ k) → P j (sure_in (set sure k on) (suc j))
        by (yes e) = rw (e, new) here
        by (no e) = let z : j < k = omega arith in rw (← still (suc j) (omega arith) (omega arith)) (before j z)

    -- THE NEXT ROW
    pub survey_more : {all : Bool} → on ≡ asked (sure_in sure) (suc k) → SurveyedTo k sure all → SurveyedTo (k + 1) (set sure k on) (all && on)
    survey_more {all} e to = record {
      within = omega arith;
      told = both (λ j b. b ≡ asked (sure_in (set sure k on)) (suc j)) (e ∙ kept k (omega arith)) (λ j l. to.told j l ∙ kept j (omega arith));
      each = λ q. let x = (and-eq-true_iff all on).0 q in both (λ j b. b ≡ true) x.1 (to.each x.0);
      some = some all to;
    }
      where
        some : (all : Bool) → SurveyedTo k sure all → (all && on) ≡ false → (j : ℕ) × (j < k + 1) × (sure_in (set sure k on) (suc j) ≡ false)
        some true to q = (k, omega arith, new ∙ q)
        some false to q = let s = to.some refl in (s.0, omega (arith, s.1), sym (still (suc s.0) (omega arith) (omega (arith, s.1))) ∙ s.2)

-- ---- where the next round starts

module _ (t : Table) (sure : ℕ → Bool) (left : List Bool) where
  -- the first k rows have their start, and the others are as they were left
  pub record HandedTo (k : ℕ) (cells : List Bool) : Type 0 where
    pub started : Handed t k sure (row_cell left) (row_cell cells)
    pub later : (j : ℕ) → k ≤ j → row_cell cells (suc j) ≡ row_cell left (suc j)

  -- THE NEXT ROW
  pub handed_more :
      {k : ℕ} {cells : List Bool} → length cells ≡ 160 → k < 128 → (x : Bool) → x ≡ handed (pattern_of (t (suc k))) (every_operand sure (t (suc k))) (row_cell cells (suc k))
      → HandedTo k cells → HandedTo (k + 1) (set cells (32 + k) x)
  handed_more {k} {cells} size h x e to = record { started = λ j l. by j l (ℕ_discrete j k); later = λ j l. other j (omega arith) ∙ to.later j (omega arith) }
    where
      new : row_cell (set cells (32 + k) x) (suc k) ≡ x
      new = let z : 31 + suc k ≡ 32 + k = omega arith in rw z (get_or-set_same cells (32 + k) x false (omega (arith, size)))

      other : (j : ℕ) → (j ≡ k → ⊥) → row_cell (set cells (32 + k) x) (suc j) ≡ row_cell cells (suc j)
      other j n = get_or-set_other cells (32 + k) (31 + suc j) x false (λ z. n (omega arith))

      by : (j : ℕ) → j < k + 1 → Dec (j ≡ k) → row_cell (set cells (32 + k) x) (suc j) ≡ handed (pattern_of (t (suc j))) (every_operand sure (t (suc j))) (row_cell left (suc j))
      by j l (yes q) = rw (q, ← to.later k (omega arith)) (new ∙ e)
      by j l (no q) = other j q ∙ to.started j (omega arith)
