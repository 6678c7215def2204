-- The turn of each row: the `next` rows come first, from the last, and then the others in order. Assumes nothing.
use Prim.Native.Nat.{ℕ, zero, suc, ◌+◌, ◌-◌, ◌≤◌, ◌<◌}
use mathlib.Core.Path.{◌≡◌, refl, ap}
use mathlib.Core.Bool.{Bool, true, false, not}
use mathlib.Core.Logic.{◌⊎◌, inl, inr}
use native.Mathlib.Decide.{dec_lt}
use native.Mathlib.Omega.{arith}
use borrow.Author.Tests.{not-true}
use Rattle.tables.specs.Choice.{pick}
use Rattle.tables.specs.declared.row.Row.{Row}
use Rattle.meaning.specs.Satisfaction.{Table}
use Rattle.meaning.specs.Rows.{Each}
use Rattle.meaning.specs.Pattern.{Pattern, Pattern.now, Pattern.next, Pattern.connective, Pattern.temporal, pattern_of}
use Rattle.meaning.proofs.Rows.{each_map}
use Rattle.meaning.proofs.Readings.{on_or_off}
use Rattle.cycle_rows.specs.Steps.{is_next, InTurn}

-- how many of 1 to k have p
unfoldable pub count : (ℕ → Bool) → ℕ → ℕ
count p zero = 0
count p (suc k) = pick (p (suc k)) 1 0 + count p k

module _ (p : ℕ → Bool) where
  pub count_none : count p 0 ≡ 0
  unfolding count
  count_none = refl

  pub count_more : (k : ℕ) → p (suc k) ≡ true → count p (suc k) ≡ suc (count p k)
  unfolding count
  count_more k e = rw e (omega arith)

  pub count_same : (k : ℕ) → p (suc k) ≡ false → count p (suc k) ≡ count p k
  unfolding count
  count_same k e = rw e (omega arith)

  count_up : (k : ℕ) → count p k ≤ count p (suc k)
  count_up k = by (on_or_off (p (suc k)))
    where
      by : (p (suc k) ≡ true) ⊎ (p (suc k) ≡ false) → count p k ≤ count p (suc k)
      by (inl e) = omega (arith, count_more k e)
      by (inr e) = omega (arith, count_same k e)

  pub count_most : (k n : ℕ) → k ≤ n → count p k ≤ count p n
  count_most k zero h = let e : k ≡ 0 = omega arith in rw e (omega arith)
  count_most k (suc n) h = by (count_most k n) (dec_lt n k)
    where
      by : (k ≤ n → count p k ≤ count p n) → Dec (n < k) → count p k ≤ count p (suc n)
      by f (yes l) = let e : k ≡ suc n = omega arith in rw e (omega arith)
      by f (no l) = omega (arith, f (omega arith), count_up n)

  pub count_below : (a k : ℕ) → a < k → p k ≡ true → count p a < count p k
  count_below a zero h e = absurd (omega arith)
  count_below a (suc k) h e = omega (arith, count_most a k (omega arith), count_more k e)

  -- the one that makes the count c + 1
  pub record Counted (n c : ℕ) : Type 0 where
    pub number : ℕ
    pub some : 1 ≤ number
    pub most : number ≤ n
    pub has : p number ≡ true
    pub counted : count p number ≡ suc c

  pub counted_at : (n c : ℕ) → c < count p n → Counted n c
  unfolding count
  counted_at zero c h = absurd (omega arith)
  counted_at (suc n) c h = by (counted_at n c) (dec_lt c (count p n)) (on_or_off (p (suc n)))
    where
      by : (c < count p n → Counted n c) → Dec (c < count p n) → (p (suc n) ≡ true) ⊎ (p (suc n) ≡ false) → Counted (suc n) c
      by f (yes l) d = let r = f l in record { number = r.number; some = r.some; most = omega (arith, r.most); has = r.has; counted = r.counted }
      by f (no l) (inl e) = record { number = suc n; some = omega arith; most = omega arith; has = e; counted = omega (arith, count_more n e) }
      by f (no l) (inr e) = absurd (omega (arith, count_same n e))

-- what has p, and what has not
pub count_both : (p : ℕ → Bool) (k : ℕ) → count p k + count (λ j. not (p j)) k ≡ k
unfolding count
count_both p zero = refl
count_both p (suc k) = by (count_both p k) (on_or_off (p (suc k)))
  where
    by : count p k + count (λ j. not (p j)) k ≡ k → (p (suc k) ≡ true) ⊎ (p (suc k) ≡ false) → count p (suc k) + count (λ j. not (p j)) (suc k) ≡ suc k
    by h (inl e) = omega (arith, count_more p k e, count_same (λ j. not (p j)) k (ap not e))
    by h (inr e) = omega (arith, count_same p k e, count_more (λ j. not (p j)) k (ap not e))

-- ---- rows that are `next`, and those that are not

abbrev pub next_at : Table → ℕ → Bool
next_at t k = is_next (pattern_of (t k))

abbrev pub other_at : Table → ℕ → Bool
other_at t k = not (next_at t k)

module _ (t : Table) (rows : ℕ) where
  abbrev pub turn_of : ℕ → ℕ
  turn_of k = pick (next_at t k) (count (next_at t) rows - count (next_at t) k) (count (next_at t) rows + count (other_at t) k - 1)

  pub turn_next : (k : ℕ) → next_at t k ≡ true → turn_of k ≡ count (next_at t) rows - count (next_at t) k
  turn_next k e = rw e

  pub turn_other : (k : ℕ) → next_at t k ≡ false → turn_of k ≡ count (next_at t) rows + count (other_at t) k - 1
  turn_other k e = rw e

  module _ (a k : ℕ) (some : 1 ≤ a) (l : k ≤ rows) where
    pub next_next : a < k → next_at t a ≡ true → next_at t k ≡ true → turn_of k < turn_of a
    next_next h d e = omega (arith, turn_next a d, turn_next k e, count_below (next_at t) a k h e, count_most (next_at t) k rows l)

    pub other_other : a < k → next_at t a ≡ false → next_at t k ≡ false → turn_of a < turn_of k
    other_other h d e = omega (arith, turn_other a d, turn_other k e, count_below (other_at t) 0 a some (ap not d), count_below (other_at t) a k h (ap not e))

    pub next_other : 1 ≤ k → next_at t k ≡ true → next_at t a ≡ false → turn_of k < turn_of a
    next_other h e d = omega (arith, turn_next k e, turn_other a d, count_below (next_at t) 0 k h e, count_most (next_at t) k rows l, count_below (other_at t) 0 a some (ap not d))

  pub turn_below : (k : ℕ) → 1 ≤ k → k ≤ rows → turn_of k < rows
  turn_below k h l = by (on_or_off (next_at t k))
    where
      by : (next_at t k ≡ true) ⊎ (next_at t k ≡ false) → turn_of k < rows
      by (inl e) = omega (arith, turn_next k e, count_below (next_at t) 0 k h e, count_most (next_at t) k rows l, count_both (next_at t) rows)
      by (inr e) = omega (arith, turn_other k e, count_below (other_at t) 0 k h (ap not e), count_most (other_at t) k rows l, count_both (next_at t) rows)

  -- the row whose turn is i
  pub record RowAt (i : ℕ) : Type 0 where
    pub number : ℕ
    pub some : 1 ≤ number
    pub most : number ≤ rows
    pub turns : turn_of number ≡ i

  pub row_at_lem : (i : ℕ) → i < rows → RowAt i
  row_at_lem i h = by (dec_lt i (count (next_at t) rows))
    where
      by : Dec (i < count (next_at t) rows) → RowAt i
      by (yes l) = let r = counted_at (next_at t) rows (count (next_at t) rows - suc i) (omega arith) in record { number = r.number; some = r.some; most = r.most; turns = omega (arith, turn_next r.number r.has, r.counted) }
      by (no l) = let r = counted_at (other_at t) rows (i - count (next_at t) rows) (omega (arith, count_both (next_at t) rows)) in record { number = r.number; some = r.some; most = r.most; turns = omega (arith, turn_other r.number (not-true (next_at t r.number) r.has), r.counted) }

in_turn_by : (turn : ℕ → ℕ) (k : ℕ) (r : Row) (p : Pattern) → (is_next p ≡ true → Each (λ a. turn k < turn a) r) → (is_next p ≡ false → Each (λ a. turn a < turn k) r) → InTurn turn k r p
in_turn_by turn k r now f g = g refl
in_turn_by turn k r next f g = f refl
in_turn_by turn k r (connective b) f g = g refl
in_turn_by turn k r (temporal b w) f g = g refl

-- operands are earlier rows, so a `next` row comes before its operand and any other after its own
pub turns_right : (t : Table) (rows k : ℕ) → 1 ≤ k → k ≤ rows → Each (λ a. (1 ≤ a) × (a < k)) (t k) → InTurn (turn_of t rows) k (t k) (pattern_of (t k))
turns_right t rows k h l each = in_turn_by (turn_of t rows) k (t k) (pattern_of (t k))
    (λ e. each_map _ _ (λ a x. before a x e (on_or_off (next_at t a))) (t k) each)
    (λ e. each_map _ _ (λ a x. after a x e (on_or_off (next_at t a))) (t k) each)
  where
    before : (a : ℕ) → (1 ≤ a) × (a < k) → next_at t k ≡ true → (next_at t a ≡ true) ⊎ (next_at t a ≡ false) → turn_of t rows k < turn_of t rows a
    before a x e (inl d) = next_next t rows a k x.0 l x.1 d e
    before a x e (inr d) = next_other t rows a k x.0 l h e d

    after : (a : ℕ) → (1 ≤ a) × (a < k) → next_at t k ≡ false → (next_at t a ≡ true) ⊎ (next_at t a ≡ false) → turn_of t rows a < turn_of t rows k
    after a x e (inl d) = next_other t rows k a h (omega (arith, x.1)) x.0 d e
    after a x e (inr d) = other_other t rows a k x.0 l x.1 d e
