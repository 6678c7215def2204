-- The table of a row, case by case from the last. Assumes nothing.
use Prim.Native.Nat.{ℕ, suc, ◌+◌, ◌-◌, ◌*◌, ◌/◌, ◌%◌, ◌≤◌, ◌<◌}
use mathlib.Core.Path.{◌≡◌, refl, ap, ap₂, ◌∙◌}
use mathlib.Core.Bool.{Bool, true, false}
use native.Mathlib.Nat.{mod-eq_of_lt, lt_of_lt_of_le}
use native.Mathlib.Omega.{arith}
use lib.Dec.{eqb}
use lib.Pow.{pow_mono}
use mir.Val.{bool_byte}
use Rattle.tables.specs.Bit.{word_from}
use Rattle.tables.specs.Choice.{pick}
use Rattle.tables.specs.declared.row.Row.{Row}
use Rattle.tables.proofs.Bits.{word_below, word_bit_lem}
use Rattle.cycle_rows.specs.Steps.{step_bit, case_in, case_of}

case_below : (a b x : Bool) → case_of a b x < 8
case_below true true true = omega arith
case_below true true false = omega arith
case_below true false true = omega arith
case_below true false false = omega arith
case_below false true true = omega arith
case_below false true false = omega arith
case_below false false true = omega arith
case_below false false false = omega arith

-- a row in case m
abbrev pub case_bit : Row → ℕ → Bool
case_bit r m = step_bit r (eqb (m % 2) 1) (eqb (m / 2 % 2) 1) (eqb (m / 4) 1)

case_bit_lem : (r : Row) (a b x : Bool) → case_bit r (case_of a b x) ≡ step_bit r a b x
case_bit_lem r true true true = refl
case_bit_lem r true true false = refl
case_bit_lem r true false true = refl
case_bit_lem r true false false = refl
case_bit_lem r false true true = refl
case_bit_lem r false true false = refl
case_bit_lem r false false true = refl
case_bit_lem r false false false = refl

one_bit : (b : Bool) → eqb (pick b 1 0) 1 ≡ b
one_bit true = refl
one_bit false = refl

-- the cases from m on
abbrev pub CasesFrom : Row → ℕ → ℕ → Type 0
CasesFrom r m bits = bits ≡ word_from (8 - m) m (case_bit r)

pub cases_none : (r : Row) → CasesFrom r 8 0
unfolding word_from
cases_none r = refl

pub cases_all : (r : Row) (bits : ℕ) → CasesFrom r 0 bits → (a b x : Bool) → case_in bits (case_of a b x) ≡ step_bit r a b x
cases_all r bits e a b x =
    ap (λ n. case_in n (case_of a b x)) e
    ∙ ap (λ n. eqb n 1) (word_bit_lem 8 0 (case_bit r) (case_of a b x) (case_below a b x))
    ∙ one_bit (case_bit r (0 + case_of a b x)) ∙ ap (case_bit r) z ∙ case_bit_lem r a b x
  where
    z : 0 + case_of a b x ≡ case_of a b x
    z = omega arith

-- one case more, below the others
pub cases_more : (r : Row) (m bits : ℕ) (on : Bool) → m < 8 → CasesFrom r (suc m) bits → on ≡ case_bit r m → CasesFrom r m (bool_byte on + 2 * (bits % 128))
unfolding word_from
cases_more r m bits on h e q = ap₂ (λ b n. bool_byte b + 2 * (n % 128)) q e ∙ lowest r m h
  where
    number : (on : Bool) → bool_byte on ≡ pick on 1 0
    number true = refl
    number false = refl

    lowest : (r : Row) (m : ℕ) → m < 8 → bool_byte (case_bit r m) + 2 * (word_from (8 - suc m) (suc m) (case_bit r) % 128) ≡ word_from (8 - m) m (case_bit r)
    lowest r m h =
        let d : 8 - m ≡ suc (8 - suc m) = omega arith in
        let room : word_from (8 - suc m) (suc m) (case_bit r) < 128 = lt_of_lt_of_le (word_below (8 - suc m) (suc m) (case_bit r)) (pow_mono {i = 8 - suc m} {j = 7} (omega arith)) in
        rw (d, mod-eq_of_lt room, number (case_bit r m))

pub byte_most : (on : Bool) → bool_byte on ≤ 1
byte_most true = omega arith
byte_most false = omega arith
