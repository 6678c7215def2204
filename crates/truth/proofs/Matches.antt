-- What the passes find is what the meaning's theorem on a prefix asks for: the bits computed to its end. Assumes nothing.
use Prim.Native.Nat.{ℕ, suc, ◌-◌, ◌<◌}
use mathlib.Core.Path.{◌≡◌, refl, sym, ap, ◌∙◌}
use mathlib.Core.Bool.{Bool, true, false, ◌&&◌}
use native.Mathlib.Decide.{dec_lt}
use native.Mathlib.Omega.{arith}
use lib.Dec.{ltb}
use borrow.Author.Tests.{lt-ltb, le-ltb}
use Rattle.tables.specs.Choice.{pick}
use Rattle.tables.specs.declared.row.UnaryKind.{UnaryKind}
use Rattle.tables.specs.declared.row.UnaryKind.TheVariants.{Not, Next, Always, Ever}
use Rattle.tables.specs.declared.row.Row.{Row}
use Rattle.tables.specs.declared.row.Row.TheVariants.{Constant, Signal, Unary, Binary}
use Rattle.meaning.specs.Trace.{InfiniteTrace}
use Rattle.meaning.specs.Rows.{positive, Positive}
use Rattle.meaning.specs.Pattern.{Pattern, Pattern.now, Pattern.next, Pattern.connective, Pattern.temporal}
use Rattle.meaning.specs.Pattern.{signal_sign, unary_left, unary_pattern, binary_pattern}
use Rattle.meaning.specs.Pattern.{keep_bit, goal_bit, keep_bits, goal_bits, signed_bit}
use Rattle.meaning.specs.Approximant.{expand, approximant}
use Rattle.meaning.proofs.Readings.{On, on_and_off}
use Rattle.meaning.proofs.Streams.{to_end_lem}
use Rattle.meaning.proofs.PatternBits.{pattern_bit, row_bit}
use Rattle.meaning.proofs.Prefix.{prefix, to_end}
use Rattle.lanes.specs.Word.{Ends}
use Rattle.row_lanes.specs.Pass.{until_pass, pass_bit, row_pass}

module _ (n : ℕ) (w : InfiniteTrace) (bits : ℕ → ℕ → Bool) (ends : (a : ℕ) → Ends n (bits a)) where
  end : (a : ℕ) → bits a n ≡ false
  end a = ends a n (omega arith)

  until_prefix : (k g : ℕ → Bool) (v : Bool) → expand (k n) (g n) v ≡ false → (c : ℕ) → c < n → approximant k g v (to_end n w c) c ≡ until_pass n k g c
  until_prefix k g v o c h = to_end_lem k g v n (n - c) c (omega arith) o

  next_prefix : (q : ℕ → Bool) → Ends n q → (c : ℕ) → q (suc c) ≡ pick (ltb (suc c) n) (q (suc c)) false
  next_prefix q e c = by (dec_lt (suc c) n)
    where
      by : Dec (suc c < n) → q (suc c) ≡ pick (ltb (suc c) n) (q (suc c)) false
      by (yes l) = sym (ap (λ b. pick b (q (suc c)) false) (lt-ltb (suc c) n l))
      by (no l) = e (suc c) (omega arith) ∙ sym (ap (λ b. pick b (q (suc c)) false) (le-ltb (suc c) n (omega arith)))

  -- neither keep nor goal holds at n where no operand does
  off : (f v x y : Bool) → x ≡ false → y ≡ false → expand (keep_bit f x y) (goal_bit f x y) v ≡ false
  off true v x y p q = rw (p, q)
  off false v x y p q = rw (p, q)

  -- a pattern of two operands that are off behind the end
  pattern_prefix : (p q : ℕ → Bool) → Ends n p → Ends n q → (x : Pattern) (c : ℕ) → c < n → pattern_bit (to_end n w) p q x c ≡ pass_bit n p q x c
  pattern_prefix p q d e now c h = refl
  pattern_prefix p q d e next c h = next_prefix q e c
  pattern_prefix p q d e (connective f) c h = refl
  pattern_prefix p q d e (temporal f v) c h = until_prefix (keep_bits f p q) (goal_bits f p q) v (off f v (p n) (q n) (d n (omega arith)) (e n (omega arith))) c h

  unary_prefix :
      (a : ℕ) (k : UnaryKind) → On (positive k) → (c : ℕ) → c < n
      → pattern_bit (to_end n w) (λ j. unary_left k) (λ j. signed_bit (positive k) (bits a j)) (unary_pattern k) c
      ≡ pass_bit n (λ j. unary_left k) (λ j. signed_bit (positive k) (bits a j)) (unary_pattern k) c
  unary_prefix a Not o c h = on_and_off o refl
  unary_prefix a Next o c h = next_prefix (bits a) (ends a) c
  unary_prefix a Always o c h = until_prefix (bits a) (λ j. false) true (off false true false _ refl (end a)) c h
  unary_prefix a Ever o c h = until_prefix (λ j. true) (bits a) false (ap (λ b. expand true b false) (end a)) c h

  pub row_prefix : (r : Row) → Positive r → (c : ℕ) → c < n → row_bit (prefix n w) (to_end n w) bits r c ≡ row_pass n w bits r c
  row_prefix (Constant k) o c h = refl
  row_prefix (Signal k s) o c h = ap (λ b. signed_bit (signal_sign k) (b && w c s)) (lt-ltb c n h)
  row_prefix (Unary k a) o c h = unary_prefix a k o c h
  row_prefix (Binary k a b) o c h = pattern_prefix (bits a) (bits b) (ends a) (ends b) (binary_pattern k) c h
