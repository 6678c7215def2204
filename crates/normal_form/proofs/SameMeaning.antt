-- A normal form means what its formula means, and that of the negation means the opposite (demand 2). Assumes nothing.
use Prim.Native.Nat.{ℕ, zero, suc, ◌-◌, ◌≤◌, ◌<◌}
use mathlib.Core.Path.{◌≡◌, refl, sym, ap, ◌∙◌, subst, subst⁻¹}
use mathlib.Core.Logic.Iff
use mathlib.Core.Logic.{◌↔◌, inl, inr}
use mathlib.Core.Bool.{Bool, true, false, not, true≢false}
use mathlib.Core.List.{List}
use native.Mathlib.Omega.{arith}
use lib.ListN.{length, get_or}
use Rattle.tables.specs.Choice.{pick}
use Rattle.tables.specs.Kind.{first_number}
use Rattle.tables.specs.Place.{placed}
use Rattle.tables.proofs.Places.{get_d_tabulate}
use Rattle.tables.specs.declared.row.Row.{Row}
use Rattle.tables.specs.declared.row.Row.TheVariants.{Constant, Signal, Unary, Binary}
use Rattle.tables.specs.declared.row.RowPlace.{RowPlace}
use Rattle.tables.specs.declared.row.Formula.{Formula}
use Rattle.rule_file.specs.Rule.{in_place, unused}
use Rattle.meaning.specs.Reading.{Reading}
use Rattle.meaning.specs.Trace.{InfiniteTrace}
use Rattle.meaning.specs.Satisfaction.{Table, table_of, Means, RowTrue}
use Rattle.meaning.specs.Rows.{Each, Ordered, positive, Positive}
use Rattle.meaning.proofs.Readings.{iff_refl, Full, into_itself, not_not_stable, row_induction, not-false}
use Rattle.meaning.proofs.Rows.{each_map, each_signal}
use Rattle.meaning.proofs.Truth.{true_means}
use Rattle.meaning.proofs.Monotone.{means_map}
use Rattle.meaning.proofs.MeaningByPattern.{truth_stable}
use Rattle.meaning.proofs.RowDuality.{dual_excludes, dual_else}
use Rattle.normal_form.specs.declared.sign.Sign.{Sign}
use Rattle.normal_form.specs.declared.sign.Sign.TheVariants.{Plain, Negated}
use Rattle.normal_form.specs.Operand.{row_in, row_of, is_not, OperandOf, Below, with_operands}
use Rattle.normal_form.specs.Sign.{turned, signed}
use Rattle.normal_form.specs.Reached.{Reached, Reached.root, Reached.operand}
use Rattle.normal_form.specs.Normal.{Listed, row_at, Normal}
use Rattle.normal_form.proofs.Operands.{not_row}

-- ---- rows

pub positive_row : (r : Row) → is_not r ≡ false → Positive r
positive_row (Constant c) e = tt
positive_row (Signal c s) e = tt
positive_row (Unary c a) e = not-false (positive c) (λ f. absurd (true≢false (sym (ap not f) ∙ e)))
positive_row (Binary c a b) e = tt

pub each_operand : (P : ℕ → Type 0) (r : Row) → ((x : ℕ) → OperandOf r x → P x) → Each P r
each_operand P (Constant c) f = tt
each_operand P (Signal c s) f = tt
each_operand P (Unary c a) f = f a refl
each_operand P (Binary c a b) f = (f a (inl refl), f b (inr refl))

renumbered : (R : Reading) (w : InfiniteTrace) (u : ℕ → ℕ → Type 0) (g : ℕ → ℕ) (i : ℕ) (r : Row) → Means R w u (with_operands g r) i ↔ Means R w (λ a. u (g a)) r i
renumbered R w u g i (Constant c) = iff_refl
renumbered R w u g i (Signal c s) = iff_refl
renumbered R w u g i (Unary c a) = iff_refl
renumbered R w u g i (Binary c a b) = iff_refl

-- ---- tables

pub table_row : (ps : List RowPlace) (k : ℕ) → 1 ≤ k → table_of ps k ≡ row_in ps (k - 1)
table_row ps zero h = absurd (omega arith)
table_row ps (suc k) h = let e : suc k - 1 ≡ k = omega arith in rw e

pub placed_row : (rows : List Row) (x : ℕ) → 1 ≤ x → x ≤ 128 → table_of (placed 128 in_place unused rows) x ≡ row_at rows x
placed_row rows x h l = table_row (placed 128 in_place unused rows) x h ∙ ap (λ (p : RowPlace). p.row) (get_d_tabulate 128 (λ i. in_place (get_or rows i unused)) (x - 1) (in_place unused) (omega arith))

ordered_by : (t : Table) (n : ℕ) → Each (λ a. a < 0) (t 0) → ((k : ℕ) → 1 ≤ k → k ≤ n → Below k (t k)) → Ordered (suc n) t
ordered_by t n z f zero h = z
ordered_by t n z f (suc k) h = each_operand (λ a. a < suc k) (t (suc k)) (λ x o. (f (suc k) (omega arith) (omega arith) x o).1)

-- ---- a truth under a sign
abbrev pub Under : Sign → Type 0 → Type 0
Under Plain A = A
Under Negated A = ¬ A

under_map : (s : Sign) {A B : Type 0} → A ↔ B → Under s A → Under s B
under_map Plain e = e.0
under_map Negated e = λ n b. n (e.1 b)

module _ (f : Formula) (sign : Sign) (number : ℕ → Sign → ℕ) (rows : List Row) (normal : Normal f sign number rows) (most : length rows ≤ 128)
    (below : (k : ℕ) → 1 ≤ k → k ≤ f.rows → Below k (row_of f k)) (some : 1 ≤ f.rows) where
  t : Table
  t = table_of f.places

  t' : Table
  t' = table_of (placed 128 in_place unused rows)

  pub ordered_formula : Ordered (suc f.rows) (table_of f.places)
  ordered_formula = ordered_by (table_of f.places) f.rows tt (λ k h l. subst⁻¹ (Below k) (table_row f.places k h) (below k h l))

  pub ordered_normal : Ordered (suc (length rows)) (table_of (placed 128 in_place unused rows))
  ordered_normal = ordered_by (table_of (placed 128 in_place unused rows)) (length rows) tt (λ x h l. subst⁻¹ (Below x) (placed_row rows x h (omega arith)) (normal.earlier x h l))

  -- every row that is reached is one of the formula
  pub reached_row : {k : ℕ} {s : Sign} → Reached f sign k s → (1 ≤ k) × (k ≤ f.rows)
  reached_row root = (some, omega arith)
  reached_row (operand {k} a r o) = let h = reached_row r in let b = below k h.0 h.1 a o in (b.0, omega (arith, h.1, b.1))

  module _ (R : Reading) (w : InfiniteTrace) where
    abbrev v : ℕ → ℕ → Type 0
    v = RowTrue R w (table_of f.places)

    abbrev u : ℕ → ℕ → Type 0
    u = RowTrue R w (table_of (placed 128 in_place unused rows))

    says : (k : ℕ) → 1 ≤ k → k ≤ f.rows → (i : ℕ) → v k i ↔ Means R w v (row_of f k) i
    says k h l i = subst (λ r. v k i ↔ Means R w v r i) (table_row f.places k h) (true_means R w (table_of f.places) (suc f.rows) ordered_formula k (omega arith) i)

    says' : (x : ℕ) → 1 ≤ x → x ≤ length rows → (i : ℕ) → u x i ↔ Means R w u (row_at rows x) i
    says' x h l i = subst (λ r. u x i ↔ Means R w u r i) (placed_row rows x h (omega arith)) (true_means R w (table_of (placed 128 in_place unused rows)) (suc (length rows)) ordered_normal x (omega arith) i)

    -- the row that stands for a row, over the rows that stand for its operands
    stands : (k : ℕ) (s : Sign) → Listed f sign k s → (i : ℕ) → u (number k s) i ↔ Means R w (λ a. u (number a s)) (signed s (row_of f k)) i
    stands k s l i =
        let a = normal.appears k s l in
        Iff.trans (subst (λ r. u (number k s) i ↔ Means R w u r i) (normal.says k s l) (says' (number k s) a.0 a.1 i)) (renumbered R w u (λ a. number a s) i (signed s (row_of f k)))

    -- what holds of each operand that is reached
    operands : (P : ℕ → Type 0) (k : ℕ) (s : Sign) → Listed f sign k s → ((a : ℕ) → a < k → Reached f sign a s → P a) → Each P (row_of f k)
    operands P k s l g =
        let h = reached_row l.0 in
        each_operand P (row_of f k) (λ a o. g a (below k h.0 h.1 a o).1 (subst (Reached f sign a) (ap (λ b. pick b (turned s) s) l.1) (operand a l.0 o)))

    -- ---- what the normal form says, the formula says; what that of the negation says, the formula denies: in any reading

    abbrev Implies : ℕ → Sign → Type 0
    Implies k s = (i : ℕ) → u (number k s) i → Under s (v k i)

    plain_or_dual : (s : Sign) (r : Row) (i : ℕ) → Positive r → Each (λ a. Implies a s) r → Means R w (λ a. u (number a s)) (signed s r) i → Under s (Means R w v r i)
    plain_or_dual Plain r i p e = means_map R R (into_itself R) w w (λ a. u (number a Plain)) v i r p (each_signal _ (λ s. refl) r) (each_map _ _ (λ a g j l. g j) r e)
    plain_or_dual Negated r i p e = dual_excludes R w (λ a. u (number a Negated)) v i r p e

    turned_not : (s : Sign) (A : Type 0) → Under (turned s) A → Under s (¬ A)
    turned_not Plain A x = x
    turned_not Negated A x = λ n. n x

    pub implies : (k : ℕ) (s : Sign) → Reached f sign k s → Implies k s
    implies = row_induction (λ k. (s : Sign) → Reached f sign k s → Implies k s) step
      where
        step : (k : ℕ) → ((a : ℕ) → a < k → (s : Sign) → Reached f sign a s → Implies a s) → (s : Sign) → Reached f sign k s → Implies k s
        step k ih s r i x = by (is_not (row_of f k)) refl
          where
            by : (b : Bool) → is_not (row_of f k) ≡ b → Under s (v k i)
            by true e =
                let h = reached_row r in
                let a = first_number (row_of f k) in let n = not_row (row_of f k) e in
                let o : OperandOf (row_of f k) a = subst⁻¹ (λ y. OperandOf y a) n refl in
                let ra : Reached f sign a (turned s) = subst (Reached f sign a) (ap (λ b. pick b (turned s) s) e) (operand a r o) in
                let y = ih a (below k h.0 h.1 a o).1 (turned s) ra i (subst (λ z. u z i) (normal.not_stands k s a r n) x) in
                under_map s (Iff.symm (subst (λ z. v k i ↔ Means R w v z i) n (says k h.0 h.1 i))) (turned_not s (v a i) y)
            by false e =
                let h = reached_row r in
                let l : Listed f sign k s = (r, e) in
                under_map s (Iff.symm (says k h.0 h.1 i)) (plain_or_dual s (row_of f k) i (positive_row (row_of f k) e) (operands (λ a. Implies a s) k s l (λ a q ra. ih a q s ra)) ((stands k s l i).0 x))

    -- ---- and the other way, in a full reading
    module _ (full : Full R) where
      not_not : (k : ℕ) → k ≤ f.rows → (i : ℕ) → ¬ ¬ v k i → v k i
      not_not k h i = not_not_stable R full (truth_stable R w (table_of f.places) (suc f.rows) ordered_formula k (omega arith) i)

      abbrev Follows : ℕ → Sign → Type 0
      Follows k s = (i : ℕ) → Under s (v k i) → u (number k s) i

      plain_or_dual_back : (s : Sign) (r : Row) (i : ℕ) → Positive r → Each (λ a. Follows a s × ((j : ℕ) → ¬ ¬ v a j → v a j)) r → Under s (Means R w v r i) → Means R w (λ a. u (number a s)) (signed s r) i
      plain_or_dual_back Plain r i p e = means_map R R (into_itself R) w w v (λ a. u (number a Plain)) i r p (each_signal _ (λ s. refl) r) (each_map _ _ (λ a g j l. g.0 j) r e)
      plain_or_dual_back Negated r i p e = dual_else R w (λ a. u (number a Negated)) v i full r p (each_map _ _ (λ a g j. (g.0 j, λ m. g.1 j (λ n. m (g.0 j n)))) r e)

      turned_back : (s : Sign) (A : Type 0) → (¬ ¬ A → A) → Under s (¬ A) → Under (turned s) A
      turned_back Plain A st x = x
      turned_back Negated A st x = st x

      pub follows : (k : ℕ) (s : Sign) → Reached f sign k s → Follows k s
      follows = row_induction (λ k. (s : Sign) → Reached f sign k s → Follows k s) step
        where
          step : (k : ℕ) → ((a : ℕ) → a < k → (s : Sign) → Reached f sign a s → Follows a s) → (s : Sign) → Reached f sign k s → Follows k s
          step k ih s r i x = by (is_not (row_of f k)) refl
            where
              by : (b : Bool) → is_not (row_of f k) ≡ b → u (number k s) i
              by true e =
                  let h = reached_row r in
                  let a = first_number (row_of f k) in let n = not_row (row_of f k) e in
                  let o : OperandOf (row_of f k) a = subst⁻¹ (λ y. OperandOf y a) n refl in
                  let b = below k h.0 h.1 a o in
                  let ra : Reached f sign a (turned s) = subst (Reached f sign a) (ap (λ b. pick b (turned s) s) e) (operand a r o) in
                  let y : Under s (¬ v a i) = under_map s (subst (λ z. v k i ↔ Means R w v z i) n (says k h.0 h.1 i)) x in
                  subst⁻¹ (λ z. u z i) (normal.not_stands k s a r n) (ih a b.1 (turned s) ra i (turned_back s (v a i) (not_not a (omega (arith, b.1, h.1)) i) y))
              by false e =
                  let h = reached_row r in
                  let l : Listed f sign k s = (r, e) in
                  (stands k s l i).1 (plain_or_dual_back s (row_of f k) i (positive_row (row_of f k) e)
                  (operands (λ a. Follows a s × ((j : ℕ) → ¬ ¬ v a j → v a j)) k s l (λ a q ra. (ih a q s ra, not_not a (omega (arith, q, h.1))))) (under_map s (says k h.0 h.1 i) x))

      -- the root
      pub same_root : (i : ℕ) → u (length rows) i ↔ Under sign (v f.rows i)
      same_root i =
          let q = normal.root_last in
          (λ x. implies f.rows sign root i (subst⁻¹ (λ z. u z i) q x), λ x. subst (λ z. u z i) q (follows f.rows sign root i x))
