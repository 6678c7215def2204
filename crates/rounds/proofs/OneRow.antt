-- One row in a round whose operands are right: until and its like are right at the loop's cycle (row-at-loop), and each row is right at
-- every cycle where the round leaves at the loop's cycle what stood behind the last one, as far as the row reads it there (row-right).
-- Assumes nothing.
use Prim.Native.Nat.{ℕ, zero, suc, ◌+◌, ◌-◌, ◌≤◌, ◌<◌}
use mathlib.Core.Path.{◌≡◌, refl, sym, subst, ap, ap₂, ◌∙◌}
use mathlib.Core.Logic.{◌⊎◌, inl, inr}
use mathlib.Core.Bool.{Bool, true, false}
use native.Mathlib.Decide.{dec_lt}
use native.Mathlib.Omega.{arith}
use borrow.Author.Tests.{lt-ltb, le-ltb}
use Rattle.tables.specs.Choice.{pick}
use Rattle.tables.specs.declared.row.Row.{Row}
use Rattle.meaning.specs.Trace.{InfiniteTrace}
use Rattle.meaning.specs.Rows.{Each}
use Rattle.meaning.specs.Pattern.{Pattern, Pattern.now, Pattern.next, Pattern.connective, Pattern.temporal}
use Rattle.meaning.specs.Pattern.{left, right, pattern_of, keep_bit, goal_bit, connective_bit, keep_bits, goal_bits, operand_bit, operand_bits}
use Rattle.meaning.specs.Approximant.{expand, approximant}
use Rattle.meaning.proofs.Readings.{On}
use Rattle.meaning.proofs.Rows.{each_map, each_zip}
use Rattle.cycle_rows.specs.Cycle.{Given, pattern_from, row_from}
use Rattle.between_rounds.specs.Between.{same_bit, stays}
use Rattle.rounds.specs.Rounds.{Columns}
use Rattle.rounds.proofs.LassoBits.{pattern_lasso, lasso_bit}
use Rattle.rounds.proofs.Operands.{LooksAhead, same_equal, every_each, operands_alike, any_signals}

-- ---- a pass back over d cycles from i on

module _ (k g : ℕ → Bool) where
  -- what stands behind it comes through, or does not count
  pass_cases : (d i : ℕ) → ((w : Bool) → approximant k g w d i ≡ w) ⊎ ((v w : Bool) → approximant k g v d i ≡ approximant k g w d i)
  unfolding approximant
  pass_cases zero i = inl (λ w. refl)
  pass_cases (suc d) i = by (k i) (g i) (pass_cases d (suc i))
    where
      by :
          (a b : Bool) → ((w : Bool) → approximant k g w d (suc i) ≡ w) ⊎ ((v w : Bool) → approximant k g v d (suc i) ≡ approximant k g w d (suc i))
          → ((w : Bool) → expand a b (approximant k g w d (suc i)) ≡ w) ⊎ ((v w : Bool) → expand a b (approximant k g v d (suc i)) ≡ expand a b (approximant k g w d (suc i)))
      by a true x = inr (λ v w. refl)
      by false false x = inr (λ v w. refl)
      by true false x = x

  -- so a second pass finds nothing new
  pass_twice : (w : Bool) (d i : ℕ) → approximant k g (approximant k g w d i) d i ≡ approximant k g w d i
  pass_twice w d i = by (pass_cases d i)
    where
      by : ((w : Bool) → approximant k g w d i ≡ w) ⊎ ((v w : Bool) → approximant k g v d i ≡ approximant k g w d i) → approximant k g (approximant k g w d i) d i ≡ approximant k g w d i
      by (inl f) = f (approximant k g w d i)
      by (inr f) = f (approximant k g w d i) w

  -- what is filled cycle by cycle is a pass
  pass_down :
      (x : ℕ → Bool) (n from : ℕ) → ((c : ℕ) → from ≤ c → c < n → x c ≡ expand (k c) (g c) (x (suc c)))
      → (d c : ℕ) → from ≤ c → c + d ≡ n → x c ≡ approximant k g (x n) d c
  unfolding approximant
  pass_down x n from filled zero c h e = ap x (omega arith)
  pass_down x n from filled (suc d) c h e = filled c h (omega arith) ∙ ap (expand (k c) (g c)) (pass_down x n from filled d (suc c) (omega arith) (omega arith))

-- ---- a row

-- row k has its true bits at the cycles from `from` on
abbrev pub Right : ℕ → (ℕ → ℕ → Bool) → ℕ → Columns → ℕ → Type 0
Right n bits from x k = (c : ℕ) → from ≤ c → c < n → x c k ≡ bits k c

-- what stands behind the last cycle: until and its like start anew, or go on from the true bit at the loop's cycle
abbrev pub StartsAt : Bool → Bool → Pattern → Type 0
StartsAt at_loop behind now = Unit {0}
StartsAt at_loop behind next = Unit {0}
StartsAt at_loop behind (connective f) = Unit {0}
StartsAt at_loop behind (temporal f w) = (behind ≡ w) ⊎ (behind ≡ at_loop)

-- the signals that are given
abbrev pub signals_of : (ℕ → Given) → InfiniteTrace
signals_of given c = (given c).signals

module _ (n l : ℕ) (l<n : l < n) (given : ℕ → Given) (bits : ℕ → ℕ → Bool) (from : ℕ) (from≤l : from ≤ l) (x : Columns)
    (r : Row) (k : ℕ) (operands : Each (Right n bits from x) r) where
  abbrev signals : InfiniteTrace
  signals = signals_of given

  abbrev p : ℕ → Bool
  p = operand_bits signals bits (left r)

  abbrev q : ℕ → Bool
  q = operand_bits signals bits (right r)

  here : (c : ℕ) → from ≤ c → c < n → (operand_bit (signals c) (x c) (left r) ≡ p c) × (operand_bit (signals c) (x c) (right r) ≡ q c)
  here c h b = operands_alike (signals c) (x c) (λ a. bits a c) r (each_map _ _ (λ a e. e c h b) r operands)

  abbrev FilledBy : Pattern → Type 0
  FilledBy y = (c : ℕ) → from ≤ c → c < n
      → x c k ≡ pattern_from y (operand_bit (signals c) (x c) (left r)) (operand_bit (signals c) (x c) (right r)) (operand_bit (signals c) (x (suc c)) (right r)) (x (suc c) k)

  abbrev TrueBy : Pattern → Type 0
  TrueBy y = (c : ℕ) → c < n → bits k c ≡ pattern_lasso n l p q y c

  module _ (f w : Bool) (filled : FilledBy (temporal f w)) (true_bit : TrueBy (temporal f w)) where
    pass : (c : ℕ) → from ≤ c → c < n → x c k ≡ approximant (keep_bits f p q) (goal_bits f p q) (x n k) (n - c) c
    pass c h b = pass_down (keep_bits f p q) (goal_bits f p q) (λ i. x i k) n from step (n - c) c h (omega arith)
      where
        step : (c : ℕ) → from ≤ c → c < n → x c k ≡ expand (keep_bits f p q c) (goal_bits f p q c) (x (suc c) k)
        step c h b = filled c h b ∙ ap₂ (λ y z. expand (keep_bit f y z) (goal_bit f y z) (x (suc c) k)) (here c h b).0 (here c h b).1

    at_loop : bits k l ≡ approximant (keep_bits f p q) (goal_bits f p q) w (n - l) l
    at_loop = true_bit l l<n ∙ pass_twice (keep_bits f p q) (goal_bits f p q) w (n - l) l

    -- from the true bit at the loop's cycle the whole round is right
    from_right : x n k ≡ bits k l → Right n bits from x k
    from_right e c h b = pass c h b ∙ ap (λ v. approximant (keep_bits f p q) (goal_bits f p q) v (n - c) c) (e ∙ at_loop) ∙ sym (true_bit c b)

    -- and the loop's cycle is so either way
    loop_right : (x n k ≡ w) ⊎ (x n k ≡ bits k l) → x l k ≡ bits k l
    loop_right (inl e) = pass l from≤l l<n ∙ ap (λ v. approximant (keep_bits f p q) (goal_bits f p q) v (n - l) l) e ∙ sym at_loop
    loop_right (inr e) = from_right e l from≤l l<n

  next_right : FilledBy next → TrueBy next → LooksAhead (pattern_of r) → Each (λ a. On (same_bit (x n a) (x l a))) r → Right n bits from x k
  next_right filled true_bit looks same c h b = by (dec_lt (suc c) n)
    where
      -- the operand one cycle on, which is cycle i of the lasso
      ahead : (i : ℕ) → Each (λ a. x (suc c) a ≡ bits a i) r → x c k ≡ q i
      ahead i e = filled c h b ∙ any_signals r looks (signals c) (signals i) (x (suc c)) ∙ (operands_alike (signals i) (x (suc c)) (λ a. bits a i) r e).1

      by : Dec (suc c < n) → x c k ≡ bits k c
      by (yes m) = ahead (suc c) (each_map _ _ (λ a e. e (suc c) (omega arith) m) r operands) ∙ sym (true_bit c b ∙ ap (λ v. pick v (q (suc c)) (q l)) (lt-ltb (suc c) n m))
      by (no m) =
          let last : suc c ≡ n = omega arith in
          ahead l (each_zip _ _ _ (λ a e s. ap (λ i. x i a) last ∙ same_equal (x n a) (x l a) s ∙ e l from≤l l<n) r operands same)
          ∙ sym (true_bit c b ∙ ap (λ v. pick v (q (suc c)) (q l)) (le-ltb (suc c) n (omega arith)))

  module _ (filled : (c : ℕ) → from ≤ c → c < n → x c k ≡ row_from (given c) (x c) (x (suc c)) r k)
      (true_bit : (c : ℕ) → c < n → bits k c ≡ lasso_bit n l signals bits r c) (starts : StartsAt (bits k l) (x n k) (pattern_of r)) where
    pub row_at_loop : (f w : Bool) → pattern_of r ≡ temporal f w → x l k ≡ bits k l
    row_at_loop f w e = loop_right f w (subst FilledBy e filled) (subst TrueBy e true_bit) (subst (StartsAt (bits k l) (x n k)) e starts)

    pub row_right : On (stays (λ a. same_bit (x n a) (x l a)) k r (pattern_of r)) → Right n bits from x k
    row_right = by (pattern_of r) (λ h. h) filled true_bit starts
      where
        by :
            (y : Pattern) → (LooksAhead y → LooksAhead (pattern_of r)) → FilledBy y → TrueBy y → StartsAt (bits k l) (x n k) y → On (stays (λ a. same_bit (x n a) (x l a)) k r y)
            → Right n bits from x k
        by now looks m v s e = λ c h b. m c h b ∙ (here c h b).1 ∙ sym (v c b)
        by next looks m v s e = next_right m v (looks tt) (every_each (λ a. same_bit (x n a) (x l a)) r e)
        by (connective f) looks m v s e = λ c h b. m c h b ∙ ap₂ (connective_bit f) (here c h b).0 (here c h b).1 ∙ sym (v c b)
        by (temporal f w) looks m v s e = from_right f w m v (same_equal (x n k) (x l k) e ∙ loop_right f w m v s)
