-- From one round to the next: a row whose operands are sure in one is sure in the next (advance), so each round makes the rows sure that
-- look ahead once more along a branch (first-deep, deeper). Assumes nothing.
use Prim.Native.Nat.{ℕ, suc, ◌≤◌, ◌<◌}
use mathlib.Core.Path.{◌≡◌, refl, sym, ap, ◌∙◌}
use mathlib.Core.Bool.{Bool, true}
use native.Mathlib.Omega.{arith}
use Rattle.meaning.specs.Satisfaction.{Table}
use Rattle.meaning.specs.Rows.{Each}
use Rattle.meaning.specs.Pattern.{Pattern, Pattern.now, Pattern.next, Pattern.connective, Pattern.temporal, pattern_of}
use Rattle.meaning.proofs.Readings.{On}
use Rattle.meaning.proofs.Rows.{each_zip}
use Rattle.cycle_rows.specs.Cycle.{Given}
use Rattle.between_rounds.specs.Between.{every_operand, same_bit, stays, handed, Surveyed, Handed}
use Rattle.rounds.specs.Rounds.{Columns, RisesAt}
use Rattle.rounds.proofs.LassoBits.{lasso_bit}
use Rattle.rounds.proofs.Operands.{LooksAhead, equal_same, every_each, each_every, some_operand}
use Rattle.rounds.proofs.OneRow.{signals_of}
use Rattle.rounds.proofs.OneRound.{Made, Starts, sure_iff, of_earlier, by_rows, sure_right, goes_on, starts_next}

-- ---- how deep it is sure behind a round

module _ (t : Table) (rows : ℕ) (operands : (k : ℕ) → k < rows → Each (λ a. (1 ≤ a) × (a < suc k)) (t (suc k)))
    (depth : ℕ → ℕ) (rises : (k : ℕ) → k < rows → RisesAt depth (suc k) (t (suc k)) (pattern_of (t (suc k))))
    (behind left sure : ℕ → Bool) (surveyed : Surveyed t rows behind left sure) where
  -- it is for the rows that look ahead to say: the others are sure with their operands
  sure_below :
      (m : ℕ) → ((k : ℕ) → k < rows → LooksAhead (pattern_of (t (suc k))) → Each (λ a. depth a < depth (suc k)) (t (suc k)) → depth (suc k) < m → On (sure (suc k)))
      → (k : ℕ) → k < rows → depth (suc k) < m → On (sure (suc k))
  sure_below m looking = by_rows t rows operands (λ a. depth a < m → On (sure a)) step
    where
      step : (k : ℕ) → k < rows → Each (λ a. depth a < m → On (sure a)) (t (suc k)) → depth (suc k) < m → On (sure (suc k))
      step k h ih d = by (pattern_of (t (suc k))) (λ z. looking k h z) (λ e z. (sure_iff t rows behind left sure surveyed k h).0 (each_every sure (t (suc k)) e, z)) (rises k h)
        where
          level : Each (λ a. depth a ≤ depth (suc k)) (t (suc k)) → Each (λ a. On (sure a)) (t (suc k))
          level e = each_zip _ _ _ (λ a f z. f (omega arith)) (t (suc k)) ih e

          by :
              (y : Pattern) → (LooksAhead y → Each (λ a. depth a < depth (suc k)) (t (suc k)) → depth (suc k) < m → On (sure (suc k)))
              → (Each (λ a. On (sure a)) (t (suc k)) → On (stays (λ a. same_bit (behind a) (left a)) (suc k) (t (suc k)) y) → On (sure (suc k)))
              → RisesAt depth (suc k) (t (suc k)) y → On (sure (suc k))
          by now ahead flat e = flat (level e) refl
          by next ahead flat e = ahead tt e d
          by (connective f) ahead flat e = flat (level e) refl
          by (temporal f w) ahead flat e = ahead tt e d

  -- BEHIND ANY ROUND THE ROWS ARE SURE BELOW WHICH NONE LOOKS AHEAD
  pub first_deep : (k : ℕ) → k < rows → depth (suc k) < 1 → sure (suc k) ≡ true
  first_deep = sure_below 1 (λ k h looks e d. let a = some_operand (λ a. depth a < depth (suc k)) (t (suc k)) looks e in absurd (omega (arith, a.1)))

-- ---- two rounds

handed_on : (y : Pattern) (b : Bool) → handed y true b ≡ b
handed_on now b = refl
handed_on next b = refl
handed_on (connective f) b = refl
handed_on (temporal f w) b = refl

module _ (n l : ℕ) (l<n : l < n) (given : ℕ → Given) (t : Table) (rows : ℕ)
    (operands : (k : ℕ) → k < rows → Each (λ a. (1 ≤ a) × (a < suc k)) (t (suc k)))
    (bits : ℕ → ℕ → Bool) (true_bit : (k : ℕ) → k < rows → (c : ℕ) → c < n → bits (suc k) c ≡ lasso_bit n l (signals_of given) bits (t (suc k)) c)
    (x : Columns) (made : Made n given t rows l x) (starts : Starts l t rows bits (x n)) (sure : ℕ → Bool) (surveyed : Surveyed t rows (x n) (x l) sure)
    (x' : Columns) (made' : Made n given t rows l x') (handing : Handed t rows sure (x l) (x' n)) (sure' : ℕ → Bool) (surveyed' : Surveyed t rows (x' n) (x' l) sure') where
  l≤l : l ≤ l
  l≤l = omega arith

  starts' : Starts l t rows bits (x' n)
  starts' = starts_next n l l<n given t rows operands bits true_bit l l≤l x made starts sure surveyed (x' n) handing

  taken : (k : ℕ) → k < rows → On (every_operand sure (t (suc k))) → x' n (suc k) ≡ x l (suc k)
  taken k h e = handing k h ∙ ap (λ b. handed (pattern_of (t (suc k))) b (x l (suc k))) e ∙ handed_on (pattern_of (t (suc k))) (x l (suc k))

  -- a row that is sure in both stands behind the last cycle as at the loop's
  both : (k : ℕ) → k < rows → On (sure (suc k)) → On (sure' (suc k)) → On (same_bit (x' n (suc k)) (x' l (suc k)))
  both k h e e' = equal_same (taken k h ((sure_iff t rows (x n) (x l) sure surveyed k h).1 e).0
      ∙ sure_right n l l<n given t rows operands bits true_bit l l≤l x made starts sure surveyed k h e l l≤l l<n
      ∙ sym (sure_right n l l<n given t rows operands bits true_bit l l≤l x' made' starts' sure' surveyed' k h e' l l≤l l<n))

  made_sure : (k : ℕ) → k < rows → Each (λ a. On (sure a) → On (sure' a)) (t (suc k)) → On (every_operand sure (t (suc k))) → On (sure' (suc k))
  made_sure k h on e = (sure_iff t rows (x' n) (x' l) sure' surveyed' k h).0 (e', by (pattern_of (t (suc k))) (λ f w z. z))
    where
      ops : Each (λ a. On (sure a)) (t (suc k))
      ops = every_each sure (t (suc k)) e

      ops' : Each (λ a. On (sure' a)) (t (suc k))
      ops' = each_zip _ _ _ (λ a f z. f z) (t (suc k)) on ops

      e' : On (every_operand sure' (t (suc k)))
      e' = each_every sure' (t (suc k)) ops'

      by : (y : Pattern) → ((f w : Bool) → y ≡ temporal f w → pattern_of (t (suc k)) ≡ temporal f w) → On (stays (λ a. same_bit (x' n a) (x' l a)) (suc k) (t (suc k)) y)
      by now is = refl
      by next is = each_every (λ a. same_bit (x' n a) (x' l a)) (t (suc k)) (each_zip _ _ _ (λ a f z. f z) (t (suc k)) (each_zip _ _ _ (λ a f z. f z) (t (suc k))
          (of_earlier t rows operands (λ a. On (sure a) → On (sure' a) → On (same_bit (x' n a) (x' l a))) k h (λ j m. both j (omega arith))) ops) ops')
      by (connective f) is = refl
      by (temporal f w) is = equal_same (taken k h e
          ∙ goes_on n l l<n given t rows operands bits true_bit l l≤l x made starts sure surveyed k h e f w (is f w refl)
          ∙ sym (goes_on n l l<n given t rows operands bits true_bit l l≤l x' made' starts' sure' surveyed' k h e' f w (is f w refl)))

  -- WHAT IS SURE STAYS SURE
  pub stays_sure : (k : ℕ) → k < rows → sure (suc k) ≡ true → sure' (suc k) ≡ true
  stays_sure = by_rows t rows operands (λ a. On (sure a) → On (sure' a)) (λ k h on e. made_sure k h on ((sure_iff t rows (x n) (x l) sure surveyed k h).1 e).0)

  -- WHAT HAS SURE OPERANDS IN ONE ROUND IS SURE IN THE NEXT
  pub advance : (k : ℕ) → k < rows → every_operand sure (t (suc k)) ≡ true → sure' (suc k) ≡ true
  advance k h = made_sure k h (of_earlier t rows operands (λ a. On (sure a) → On (sure' a)) k h (λ j m. stays_sure j (omega arith)))

  -- SO EACH ROUND IS SURE ONE DEEPER
  module _ (depth : ℕ → ℕ) (rises : (k : ℕ) → k < rows → RisesAt depth (suc k) (t (suc k)) (pattern_of (t (suc k)))) (r : ℕ) where
    pub deeper : ((k : ℕ) → k < rows → depth (suc k) < r → sure (suc k) ≡ true) → (k : ℕ) → k < rows → depth (suc k) < suc r → sure' (suc k) ≡ true
    deeper deep = sure_below t rows operands depth rises (x' n) (x' l) sure' surveyed' (suc r) (λ k h looks e d. advance k h (each_every sure (t (suc k))
        (each_zip _ _ _ (λ a f z. f (omega arith)) (t (suc k)) (of_earlier t rows operands (λ a. depth a < r → On (sure a)) k h (λ j m. deep j (omega arith))) e)))
