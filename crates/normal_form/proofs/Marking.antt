-- Laws of marking the operands of a row. Assumes nothing.
use mathlib.Core.Path.{◌≡◌, refl, sym, ◌∙◌}
use mathlib.Core.Logic.{◌⊎◌, inl, inr}
use mathlib.Core.Bool.{Bool, true, false, true≢false}
use mathlib.Core.List.{List}
use Prim.Native.Nat.{ℕ, ◌<◌}
use native.Mathlib.Omega.{arith}
use native.Mathlib.Decide.{ℕ_discrete}
use lib.ListN.{length, get_or, set, length-set}
use lib.Seq.{get_or-set_same, get_or-set_other}
use Rattle.tables.specs.declared.row.Row.{Row}
use Rattle.tables.specs.declared.row.Row.TheVariants.{Constant, Signal, Unary, Binary}
use Rattle.tables.proofs.Places.{replicate_at}
use Rattle.normal_form.specs.declared.sign.Sign.{Sign}
use Rattle.normal_form.specs.Operand.{OperandOf, Below}
use Rattle.normal_form.specs.Sign.{operand_sign, slot_of}
use Rattle.normal_form.specs.Reach.{mark, operands_marked, no_marks}
use Rattle.normal_form.proofs.Signs.{place_small}

-- slot i is marked
abbrev pub Marked : List Bool → ℕ → Type 0
Marked m i = get_or m i false ≡ true

-- ---- one mark

set_was : (m : List Bool) (i j : ℕ) → Marked (set m i true) j → (j ≡ i) ⊎ Marked m j
set_was m i j e = by (ℕ_discrete j i)
  where
    by : Dec (j ≡ i) → (j ≡ i) ⊎ Marked m j
    by (yes q) = inl q
    by (no q) = inr (sym (get_or-set_other m i j true false q) ∙ e)

set_stays : (m : List Bool) (i j : ℕ) → i < length m → Marked m j → Marked (set m i true) j
set_stays m i j l e = by (ℕ_discrete j i)
  where
    by : Dec (j ≡ i) → Marked (set m i true) j
    by (yes q) = rw q (get_or-set_same m i true false l)
    by (no q) = get_or-set_other m i j true false q ∙ e

-- the root's mark, and no other
pub first_mark : (k : ℕ) (s : Sign) (i : ℕ) → Marked (mark no_marks k s) i → i ≡ slot_of k s
first_mark k s i e = by (set_was no_marks (slot_of k s) i e)
  where
    by : (i ≡ slot_of k s) ⊎ Marked no_marks i → i ≡ slot_of k s
    by (inl q) = q
    by (inr q) = absurd (true≢false (sym q ∙ replicate_at 128 i false))

-- ---- the operands' marks

-- what is marked then was marked, or is an operand
pub marked_was : (m : List Bool) (s : Sign) (row : Row) (i : ℕ) → Marked (operands_marked row s m) i
    → ((a : ℕ) × OperandOf row a × (i ≡ slot_of a (operand_sign row s))) ⊎ Marked m i
marked_was m s (Constant c) i e = inr e
marked_was m s (Signal c x) i e = inr e
marked_was m s (Unary c a) i e = by (set_was m (slot_of a (operand_sign (Unary c a) s)) i e)
  where
    by : (i ≡ slot_of a (operand_sign (Unary c a) s)) ⊎ Marked m i → ((x : ℕ) × OperandOf (Unary c a) x × (i ≡ slot_of x (operand_sign (Unary c a) s))) ⊎ Marked m i
    by (inl q) = inl (a, refl, q)
    by (inr q) = inr q
marked_was m s (Binary c a b) i e = by (set_was (mark m a s) (slot_of b s) i e)
  where
    first : (i ≡ slot_of a s) ⊎ Marked m i → ((x : ℕ) × OperandOf (Binary c a b) x × (i ≡ slot_of x s)) ⊎ Marked m i
    first (inl q) = inl (a, inl refl, q)
    first (inr q) = inr q

    by : (i ≡ slot_of b s) ⊎ Marked (mark m a s) i → ((x : ℕ) × OperandOf (Binary c a b) x × (i ≡ slot_of x s)) ⊎ Marked m i
    by (inl q) = inl (b, inr refl, q)
    by (inr q) = first (set_was m (slot_of a s) i q)

pub marked_size : (m : List Bool) (s : Sign) (row : Row) → length (operands_marked row s m) ≡ length m
marked_size m s (Constant c) = refl
marked_size m s (Signal c x) = refl
marked_size m s (Unary c a) = length-set m (slot_of a (operand_sign (Unary c a) s)) true
marked_size m s (Binary c a b) = length-set (mark m a s) (slot_of b s) true ∙ length-set m (slot_of a s) true

module _ (m : List Bool) (size : length m ≡ 128) where
  inside : (a : ℕ) (s : Sign) → a < 65 → slot_of a s < length m
  inside a s h = let p = place_small s in omega arith

  inside_next : (a b : ℕ) (s : Sign) → b < 65 → slot_of b s < length (mark m a s)
  inside_next a b s h = rw length-set (inside b s h)

  -- no mark is lost
  pub marked_stays : (s : Sign) (row : Row) → Below 65 row → (i : ℕ) → Marked m i → Marked (operands_marked row s m) i
  marked_stays s (Constant c) b i e = e
  marked_stays s (Signal c x) b i e = e
  marked_stays s (Unary c a) b i e = set_stays m _ i (inside a (operand_sign (Unary c a) s) (b a refl).1) e
  marked_stays s (Binary c a d) b i e = set_stays (mark m a s) _ i (inside_next a d s (b d (inr refl)).1) (set_stays m _ i (inside a s (b a (inl refl)).1) e)

  -- each operand is marked
  pub operand_marked : (s : Sign) (row : Row) → Below 65 row → (x : ℕ) → OperandOf row x → Marked (operands_marked row s m) (slot_of x (operand_sign row s))
  operand_marked s (Constant c) b x o = absurd o
  operand_marked s (Signal c y) b x o = absurd o
  operand_marked s (Unary c a) b x o = rw o (get_or-set_same m (slot_of a (operand_sign (Unary c a) s)) true false (inside a (operand_sign (Unary c a) s) (b a refl).1))
  operand_marked s (Binary c a d) b x (inl o) = rw o (set_stays (mark m a s) (slot_of d s) (slot_of a s) (inside_next a d s (b d (inr refl)).1) (get_or-set_same m (slot_of a s) true false (inside a s (b a (inl refl)).1)))
  operand_marked s (Binary c a d) b x (inr o) = rw o (get_or-set_same (mark m a s) (slot_of d s) true false (inside_next a d s (b d (inr refl)).1))
