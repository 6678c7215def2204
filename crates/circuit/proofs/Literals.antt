-- What a number names as a literal: the constant, a negated literal, a variable, or nothing. Assumes nothing.
use Prim.Native.Nat.{ℕ, ◌+◌, ◌*◌, ◌/◌, ◌%◌, ◌≤◌, ◌<◌}
use mathlib.Core.Path.{◌≡◌}
use native.Mathlib.Decide.{dec_le, ℕ_discrete}
use native.Mathlib.Omega.{arith}

-- the maximum index being m
pub data Literal (m l : ℕ) : Type 0 where
  constant : l ≡ 0 → Literal m l
  negated : (x : ℕ) → l ≡ 2 * x + 1 → Literal m l
  variable : (x : ℕ) → 1 ≤ x → x ≤ m → l ≡ 2 * x → Literal m l
  beyond : (x : ℕ) → m < x → l ≡ 2 * x → Literal m l

pub literal_kind : (m l : ℕ) → Literal m l
literal_kind m l = by (ℕ_discrete (l % 2) 0) (ℕ_discrete l 0) (dec_le (l / 2) m)
  where
    by : Dec (l % 2 ≡ 0) → Dec (l ≡ 0) → Dec (l / 2 ≤ m) → Literal m l
    by (no a) b d = Literal.negated (l / 2) (omega arith)
    by (yes a) (yes b) d = Literal.constant b
    by (yes a) (no b) (yes d) = Literal.variable (l / 2) (omega arith) d (omega arith)
    by (yes a) (no b) (no d) = Literal.beyond (l / 2) (omega arith) (omega arith)
