-- What a cycle is given and the rows one cycle on make its rows, and nothing else does. Assumes nothing.
use Prim.Native.Nat.{ℕ, suc, ◌-◌, ◌≤◌, ◌<◌}
use mathlib.Core.Path.{◌≡◌, refl, sym, subst, ◌∙◌}
use mathlib.Core.Bool.{Bool}
use native.Mathlib.Omega.{arith}
use Rattle.tables.specs.declared.row.NormalForm.{NormalForm}
use Rattle.meaning.specs.Satisfaction.{table_of}
use Rattle.meaning.proofs.Rows.{each_map, each_signal_map}
use Rattle.meaning.proofs.Readings.{row_induction}
use Rattle.normal_form.specs.Form.{InNormalForm}
use Rattle.normal_form.proofs.FormTables.{form_operands, form_signals}
use Rattle.cycle_rows.specs.Cycle.{CycleFrom, Given, row_from}
use Rattle.cycle_rows.proofs.RowFrom.{row_from_local}

-- by row numbers, which count from 1
numbered : (f f' : ℕ → Bool) (n : ℕ) → ((k : ℕ) → k < n → f (suc k) ≡ f' (suc k)) → (a : ℕ) → 1 ≤ a → a ≤ n → f a ≡ f' a
numbered f f' n e a x y = let z : suc (a - 1) ≡ a = omega arith in subst (λ m. f m ≡ f' m) z (e (a - 1) (omega arith))

-- the same is given, of what a normal form names
pub record GivenAlike (g : NormalForm) (x x' : Given) : Type 0 where
  pub signals : (i : ℕ) → 1 ≤ i → i ≤ g.signals → x.signals i ≡ x'.signals i

module _ (g : NormalForm) (ok : InNormalForm g) (x x' : Given) (alike : GivenAlike g x x') (u u' : ℕ → Bool)
    (ahead : (k : ℕ) → k < g.rows → u (suc k) ≡ u' (suc k)) where
  -- a row is the same where what is given, the earlier rows and the rows one cycle on are
  row_same : (h h' : ℕ → Bool) (k : ℕ) → k < g.rows → ((a : ℕ) → a < k → h (suc a) ≡ h' (suc a))
      → row_from x h u (table_of g.places (suc k)) (suc k) ≡ row_from x' h' u' (table_of g.places (suc k)) (suc k)
  row_same h h' k l earlier =
      let r = table_of g.places (suc k) in
      let each = form_operands g ok (suc k) (omega arith) in
      row_from_local x x' h h' u u' r (suc k) (each_signal_map _ _ r (λ n y. alike.signals n y.0 y.1) (form_signals g ok (suc k) (omega arith)))
      (λ d. each_map _ _ (λ a y. numbered h h' k earlier a y.0 (omega (arith, y.1))) r each)
      (λ d. each_map _ _ (λ a y. numbered u u' g.rows ahead a y.0 (omega (arith, y.1))) r each)
      (ahead k l)

  -- NOTHING ELSE COUNTS: cycles that are given the same, with the same rows one cycle on, have the same rows
  pub cycle_only : (h h' : ℕ → Bool) → CycleFrom g x u h → CycleFrom g x' u' h' → (k : ℕ) → k < g.rows → h (suc k) ≡ h' (suc k)
  cycle_only h h' p q = row_induction (λ k. k < g.rows → h (suc k) ≡ h' (suc k)) (λ k earlier l. p k l ∙ (row_same h h' k l (λ a y. earlier a y (omega arith)) ∙ sym (q k l)))

  -- the same rows, said of other words for what is given and for the rows one cycle on
  pub cycle_alike : (h : ℕ → Bool) → CycleFrom g x u h → CycleFrom g x' u' h
  cycle_alike h p k l = p k l ∙ row_same h h k l (λ a y. refl)
