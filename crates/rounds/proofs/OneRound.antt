-- One round over all rows: the rows that are sure behind it are right (sure-right), until and its like go on from its loop's cycle where
-- their operands are sure (goes_on), and so the next round starts rightly (starts-next), as the first one does (starts_first). Assumes
-- nothing.
use Prim.Native.Nat.{ℕ, suc, ◌-◌, ◌≤◌, ◌<◌}
use mathlib.Core.Path.{◌≡◌, refl, subst⁻¹, ap, ◌∙◌}
use mathlib.Core.Logic.{◌↔◌, ◌⊎◌, inl, inr}
use mathlib.Core.Bool.{Bool, true, false}
use native.Mathlib.Omega.{arith}
use Rattle.tables.specs.Choice.{pick}
use Rattle.meaning.specs.Satisfaction.{Table}
use Rattle.meaning.specs.Rows.{Each}
use Rattle.meaning.specs.Pattern.{Pattern, Pattern.now, Pattern.next, Pattern.connective, Pattern.temporal, pattern_of}
use Rattle.meaning.proofs.Readings.{iff_refl, row_induction, On, on_or_off, on_and_off, not-true}
use Rattle.meaning.proofs.Rows.{each_map, each_zip}
use Rattle.meaning.proofs.PatternBits.{and_iff}
use Rattle.cycle_rows.specs.Cycle.{Given, row_from}
use Rattle.between_rounds.specs.Between.{every_operand, same_bit, stays, handed, Surveyed, Handed}
use Rattle.rounds.specs.Rounds.{Columns}
use Rattle.rounds.proofs.LassoBits.{lasso_bit}
use Rattle.rounds.proofs.Operands.{LooksAhead, every_each, some_operand}
use Rattle.rounds.proofs.OneRow.{Right, StartsAt, signals_of, row_at_loop, row_right}

-- ---- what a round is

-- rows are numbered from 1; each cycle from `from` on is filled from what it is given and the rows one cycle on
abbrev pub Made : ℕ → (ℕ → Given) → Table → ℕ → ℕ → Columns → Type 0
Made n given t rows from x = (c : ℕ) → from ≤ c → c < n → (k : ℕ) → k < rows → x c (suc k) ≡ row_from (given c) (x c) (x (suc c)) (t (suc k)) (suc k)

abbrev pub Starts : ℕ → Table → ℕ → (ℕ → ℕ → Bool) → (ℕ → Bool) → Type 0
Starts l t rows bits behind = (k : ℕ) → k < rows → StartsAt (bits (suc k) l) (behind (suc k)) (pattern_of (t (suc k)))

-- before the first round no row is sure, so until and its like start anew
pub starts_first :
    (l : ℕ) (t : Table) (rows : ℕ) (bits : ℕ → ℕ → Bool) (left behind : ℕ → Bool) → Handed t rows (λ k. false) left behind → Starts l t rows bits behind
starts_first l t rows bits left behind handing k h = by (pattern_of (t (suc k))) (λ z. z) (handing k h)
  where
    by :
        (y : Pattern) → (LooksAhead y → LooksAhead (pattern_of (t (suc k)))) → behind (suc k) ≡ handed y (every_operand (λ k. false) (t (suc k))) (left (suc k))
        → StartsAt (bits (suc k) l) (behind (suc k)) y
    by now looks e = tt
    by next looks e = tt
    by (connective f) looks e = tt
    by (temporal f w) looks e =
        let none : every_operand (λ k. false) (t (suc k)) ≡ false = not-true _ (λ z. on_and_off (some_operand _ (t (suc k)) (looks tt) (every_each (λ k. false) (t (suc k)) z)).1 refl) in
        inl (e ∙ ap (λ b. pick b (left (suc k)) w) none)

-- ---- what is sure

module _ (t : Table) (rows : ℕ) (behind left sure : ℕ → Bool) (surveyed : Surveyed t rows behind left sure) where
  pub sure_iff :
      (k : ℕ) → k < rows
      → (On (every_operand sure (t (suc k))) × On (stays (λ a. same_bit (behind a) (left a)) (suc k) (t (suc k)) (pattern_of (t (suc k))))) ↔ On (sure (suc k))
  sure_iff k h = subst⁻¹ (λ b. (On (every_operand sure (t (suc k))) × On (stays (λ a. same_bit (behind a) (left a)) (suc k) (t (suc k)) (pattern_of (t (suc k))))) ↔ On b) (surveyed k h) (and_iff _ _ iff_refl iff_refl)

-- ---- row by row

module _ (t : Table) (rows : ℕ) (operands : (k : ℕ) → k < rows → Each (λ a. (1 ≤ a) × (a < suc k)) (t (suc k))) (P : ℕ → Type 0) where
  -- of the operands of a row, from the rows before it
  pub of_earlier : (k : ℕ) → k < rows → ((j : ℕ) → j < k → P (suc j)) → Each P (t (suc k))
  of_earlier k h f = each_map _ _ (λ a x. let e : suc (a - 1) ≡ a = omega (arith, x.0) in rw e at (f (a - 1) (omega (arith, x.0, x.1)))) (t (suc k)) (operands k h)

  pub by_rows : ((k : ℕ) → k < rows → Each P (t (suc k)) → P (suc k)) → (k : ℕ) → k < rows → P (suc k)
  by_rows step = row_induction (λ k. k < rows → P (suc k)) (λ k ih h. step k h (of_earlier k h (λ j l. ih j l (omega arith))))

-- ---- behind a round

module _ (n l : ℕ) (l<n : l < n) (given : ℕ → Given) (t : Table) (rows : ℕ)
    (operands : (k : ℕ) → k < rows → Each (λ a. (1 ≤ a) × (a < suc k)) (t (suc k)))
    (bits : ℕ → ℕ → Bool) (true_bit : (k : ℕ) → k < rows → (c : ℕ) → c < n → bits (suc k) c ≡ lasso_bit n l (signals_of given) bits (t (suc k)) c)
    (from : ℕ) (from≤l : from ≤ l) (x : Columns) (made : Made n given t rows from x) (starts : Starts l t rows bits (x n))
    (sure : ℕ → Bool) (surveyed : Surveyed t rows (x n) (x l) sure) where
  -- A SURE ROW IS RIGHT AT EVERY CYCLE OF THE ROUND
  pub sure_right : (k : ℕ) → k < rows → sure (suc k) ≡ true → Right n bits from x (suc k)
  sure_right = by_rows t rows operands (λ a. On (sure a) → Right n bits from x a) step
    where
      step : (k : ℕ) → k < rows → Each (λ a. On (sure a) → Right n bits from x a) (t (suc k)) → On (sure (suc k)) → Right n bits from x (suc k)
      step k h ih e =
          let s = (sure_iff t rows (x n) (x l) sure surveyed k h).1 e in
          row_right n l l<n given bits from from≤l x (t (suc k)) (suc k) (each_zip _ _ _ (λ a f z. f z) (t (suc k)) ih (every_each sure (t (suc k)) s.0))
          (λ c a b. made c a b k h) (true_bit k h) (starts k h) s.1

  -- UNTIL AND ITS LIKE ARE RIGHT AT THE LOOP'S CYCLE WHERE THEIR OPERANDS ARE SURE
  pub goes_on : (k : ℕ) → k < rows → every_operand sure (t (suc k)) ≡ true → (f w : Bool) → pattern_of (t (suc k)) ≡ temporal f w → x l (suc k) ≡ bits (suc k) l
  goes_on k h e = row_at_loop n l l<n given bits from from≤l x (t (suc k)) (suc k) right (λ c a b. made c a b k h) (true_bit k h) (starts k h)
    where
      right : Each (Right n bits from x) (t (suc k))
      right = each_zip _ _ _ (λ a f z. f z) (t (suc k))
          (of_earlier t rows operands (λ a. On (sure a) → Right n bits from x a) k h (λ j m. sure_right j (omega arith))) (every_each sure (t (suc k)) e)

  pub starts_next : (behind : ℕ → Bool) → Handed t rows sure (x l) behind → Starts l t rows bits behind
  starts_next behind handing k h = by (pattern_of (t (suc k))) (λ f w e. e) (handing k h)
    where
      by :
          (y : Pattern) → ((f w : Bool) → y ≡ temporal f w → pattern_of (t (suc k)) ≡ temporal f w) → behind (suc k) ≡ handed y (every_operand sure (t (suc k))) (x l (suc k))
          → StartsAt (bits (suc k) l) (behind (suc k)) y
      by now is e = tt
      by next is e = tt
      by (connective f) is e = tt
      by (temporal f w) is e = at (on_or_off (every_operand sure (t (suc k))))
        where
          at : On (every_operand sure (t (suc k))) ⊎ (every_operand sure (t (suc k)) ≡ false) → (behind (suc k) ≡ w) ⊎ (behind (suc k) ≡ bits (suc k) l)
          at (inl z) = inr (e ∙ ap (λ b. pick b (x l (suc k)) w) z ∙ goes_on k h z f w (is f w refl))
          at (inr z) = inl (e ∙ ap (λ b. pick b (x l (suc k)) w) z)
