-- What a pass back over an open take of n cycles finds for a row, from what its operands are. Assumes nothing.
use Rattle.std.specs.Prelude.{ℕ, suc, ◌-◌, ◌≡◌, Bool, false, ltb}
use Rattle.tables.specs.Bit.{lane_of}
use Rattle.tables.specs.Choice.{pick}
use Rattle.tables.specs.declared.row.Row.{Row}
use Rattle.tables.specs.declared.trace.Lane.{Lane}
use Rattle.meaning.specs.Pattern.{Pattern, Pattern.now, Pattern.next, Pattern.connective, Pattern.temporal}
use Rattle.meaning.specs.Pattern.{left, right, pattern_of, connective_bit, keep_bits, goal_bits, operand_bits}
use Rattle.meaning.specs.Approximant.{approximant}

module _ (n : ℕ) where
  -- the lane that is on at these cycles alone
  abbrev pub CyclesOf : Lane → Type 0
  CyclesOf all = all ≡ lane_of (λ i. ltb i n)

  -- strong: nothing holds behind the end
  abbrev pub until_pass : (ℕ → Bool) → (ℕ → Bool) → ℕ → Bool
  until_pass k g i = approximant k g false (n - i) i

  abbrev pub next_pass : (ℕ → Bool) → ℕ → Bool
  next_pass q i = pick (ltb (suc i) n) (q (suc i)) false

  -- by the patterns of meaning/specs/Pattern.antt; p and q are the operands. Weak is until, since only what holds behind the end could
  -- tell them apart.
  abbrev pub pass_bit : (ℕ → Bool) → (ℕ → Bool) → Pattern → ℕ → Bool
  pass_bit p q now i = q i
  pass_bit p q next i = next_pass q i
  pass_bit p q (connective f) i = connective_bit f (p i) (q i)
  pass_bit p q (temporal f w) i = until_pass (keep_bits f p q) (goal_bits f p q) i

  -- over the signals of the recording and the bits of earlier rows, each by cycle
  abbrev pub row_pass : (ℕ → ℕ → Bool) → (ℕ → ℕ → Bool) → Row → ℕ → Bool
  row_pass signals bits r i = pass_bit (operand_bits signals bits (left r)) (operand_bits signals bits (right r)) (pattern_of r) i
