-- How many bytes a number takes at most, where it is below a bound. Assumes nothing.
use Prim.Native.Nat.{ℕ, ◌/◌, ◌≤◌, ◌<◌}
use native.Mathlib.Decide.{dec_lt}
use native.Mathlib.Omega.{arith}
use lib.ListN.{length}
use Rattle.text.specs.Written.{decimal}
use Rattle.writing.proofs.Texts.{decimal_one, decimal_two, decimal_three}

-- a number below 1000 takes three bytes at most
pub decimal_most : (n : ℕ) → n < 1000 → length (decimal n) ≤ 3
decimal_most n h = by (dec_lt n 10) (dec_lt (n / 10) 10)
  where
    by : Dec (n < 10) → Dec (n / 10 < 10) → length (decimal n) ≤ 3
    by (yes a) d = rw (← decimal_one n a) (omega arith)
    by (no a) (yes b) = rw (← decimal_two n (omega arith) b) (omega arith)
    by (no a) (no b) = rw (← decimal_three n (omega arith) (omega arith) (omega arith)) (omega arith)

pub decimal_two_most : (n : ℕ) → n < 100 → length (decimal n) ≤ 2
decimal_two_most n h = by (dec_lt n 10)
  where
    by : Dec (n < 10) → length (decimal n) ≤ 2
    by (yes a) = rw (← decimal_one n a) (omega arith)
    by (no a) = rw (← decimal_two n (omega arith) (omega arith)) (omega arith)
