-- The downward pass marks exactly the slots that the root reaches. Assumes nothing.
use mathlib.Core.Path.{◌≡◌, refl, sym, ap, subst, subst₂, ◌∙◌}
use mathlib.Core.Logic.{◌⊎◌, inl, inr, ◌↔◌}
use mathlib.Core.Bool.{Bool, true, false, true≢false}
use mathlib.Core.List.{List}
use Prim.Native.Nat.{ℕ, zero, suc, ◌+◌, ◌*◌, ◌-◌, ◌/◌, ◌≤◌, ◌<◌}
use native.Mathlib.Omega.{arith}
use native.Mathlib.Decide.{ℕ_discrete}
use lib.ListN.{length, get_or, length-set, length-replicate}
use lib.Seq.{get_or-set_same}
use Rattle.tables.specs.Choice.{pick}
use Rattle.tables.specs.declared.row.Row.{Row}
use Rattle.tables.specs.declared.row.Formula.{Formula}
use Rattle.rule_file.specs.Valid.{InRange}
use Rattle.normal_form.specs.declared.sign.Sign.{Sign}
use Rattle.normal_form.specs.Operand.{row_in, row_of, OperandOf}
use Rattle.normal_form.specs.Sign.{operand_sign, slot_of, sign_of}
use Rattle.normal_form.specs.Reach.{mark, operands_marked, marked_down, no_marks, reach}
use Rattle.normal_form.specs.Reached.{Reached, Reached.root, Reached.operand}
use Rattle.normal_form.proofs.Signs.{place_small, slot_half, slot_sign}
use Rattle.normal_form.proofs.Operands.{row_below, slot_row_below, slot_row_fits}
use Rattle.normal_form.proofs.Marking.{Marked, first_mark, marked_was, marked_size, marked_stays, operand_marked}

module _ (f : Formula) (sign : Sign) (ok : InRange f) where
  -- the row of a slot
  abbrev R : ℕ → Row
  R j = row_in f.places (j / 2)

  abbrev ReachedSlot : ℕ → Type 0
  ReachedSlot i = Reached f sign (i / 2 + 1) (sign_of i)

  reached_slot : {a : ℕ} {t : Sign} {i : ℕ} → 1 ≤ a → i ≡ slot_of a t → Reached f sign a t → ReachedSlot i
  reached_slot {a} {t} {i} p e re =
      let k : a ≡ i / 2 + 1 = let h = place_small t in omega arith in
      let s : t ≡ sign_of i = rw e (sym (slot_sign a t)) in
      subst₂ (λ x y. Reached f sign x y) k s re

  slot_reached : (k : ℕ) (s : Sign) → 1 ≤ k → ReachedSlot (slot_of k s) → Reached f sign k s
  slot_reached k s p re = subst₂ (λ x y. Reached f sign x y) (let h = place_small s in let z : slot_of k s / 2 + 1 ≡ k = omega arith in z) (slot_sign k s) re

  -- marks that are right from slot j on
  record Good (j : ℕ) (m : List Bool) : Type 0 where
    size : length m ≡ 128
    top : Marked m (slot_of f.rows sign)
    sound : (i : ℕ) → Marked m i → ReachedSlot i
    closed : (i : ℕ) → j ≤ i → i < 2 * f.rows → Marked m i → (a : ℕ) → OperandOf (R i) a → Marked m (slot_of a (operand_sign (R i) (sign_of i)))

  good_marked : (j : ℕ) → j < 2 * f.rows → (m : List Bool) → Marked m j → Good (suc j) m → Good j (operands_marked (R j) (sign_of j) m)
  good_marked j h m e g = record {
    size = marked_size m (sign_of j) (R j) ∙ g.size;
    top = stays _ g.top;
    sound = λ i x. found i (marked_was m (sign_of j) (R j) i x);
    closed = λ i p q x a o. take_in i p q a o (ℕ_discrete i j) (marked_was m (sign_of j) (R j) i x);
  }
    where
      here : R j ≡ row_of f (j / 2 + 1)
      here = let z : j / 2 ≡ j / 2 + 1 - 1 = omega arith in ap (row_in f.places) z

      stays : (i : ℕ) → Marked m i → Marked (operands_marked (R j) (sign_of j) m) i
      stays = marked_stays m g.size (sign_of j) (R j) (slot_row_fits f ok j h)

      found : (i : ℕ) → ((a : ℕ) × OperandOf (R j) a × (i ≡ slot_of a (operand_sign (R j) (sign_of j)))) ⊎ Marked m i → ReachedSlot i
      found i (inl (a, o, q)) = reached_slot (slot_row_below f ok j h a o).0 q (subst (λ r. Reached f sign a (operand_sign r (sign_of j))) (sym here) (operand a (g.sound j e) (rw here at o)))
      found i (inr x) = g.sound i x

      take_in : (i : ℕ) → j ≤ i → i < 2 * f.rows → (a : ℕ) → OperandOf (R i) a → Dec (i ≡ j)
          → ((b : ℕ) × OperandOf (R j) b × (i ≡ slot_of b (operand_sign (R j) (sign_of j)))) ⊎ Marked m i → Marked (operands_marked (R j) (sign_of j) m) (slot_of a (operand_sign (R i) (sign_of i)))
      take_in i p q a o (yes z) w = rw z (operand_marked m g.size (sign_of j) (R j) (slot_row_fits f ok j h) a (rw z at o))
      take_in i p q a o (no n) (inl (b, y, z)) = absurd (let w = slot_row_below f ok j h b y in let v = w.0 in let l = w.1 in let u = place_small (operand_sign (R j) (sign_of j)) in omega arith)
      take_in i p q a o (no n) (inr x) = stays _ (g.closed i (omega arith) q x a o)

  good_free : (j : ℕ) (m : List Bool) → get_or m j false ≡ false → Good (suc j) m → Good j m
  good_free j m e g = record { size = g.size; top = g.top; sound = g.sound; closed = λ i p q x. past i p q x (ℕ_discrete i j) }
    where
      past : (i : ℕ) → j ≤ i → i < 2 * f.rows → Marked m i → Dec (i ≡ j) → (a : ℕ) → OperandOf (R i) a → Marked m (slot_of a (operand_sign (R i) (sign_of i)))
      past i p q x (yes z) = absurd (true≢false (sym x ∙ rw z e))
      past i p q x (no n) = g.closed i (omega arith) q x

  good_down : (j : ℕ) → j ≤ 2 * f.rows → (m : List Bool) → Good j m → Good 0 (marked_down f.places j m)
  unfolding marked_down
  good_down zero h m g = g
  good_down (suc j) h m g = by (get_or m j false) refl (good_down j (omega arith))
    where
      by : (t : Bool) → get_or m j false ≡ t → ((m' : List Bool) → Good j m' → Good 0 (marked_down f.places j m')) → Good 0 (marked_down f.places j (pick t (operands_marked (R j) (sign_of j) m) m))
      by true e rec = rec _ (good_marked j (omega arith) m e g)
      by false e rec = rec _ (good_free j m e g)

  good_start : Good (2 * f.rows) (mark no_marks f.rows sign)
  good_start = record {
    size = size;
    top = get_or-set_same no_marks (slot_of f.rows sign) true false (let p = place_small sign in let q = ok.most_rows in let r = ok.some_rows in omega (arith, length-replicate {A = Bool} 128 false));
    sound = λ i x. reached_slot ok.some_rows (first_mark f.rows sign i x) root;
    closed = λ i p q x. absurd (omega arith);
  }
    where
      size : length (mark no_marks f.rows sign) ≡ 128
      size = length-set no_marks (slot_of f.rows sign) true ∙ length-replicate {A = Bool} 128 false

  good_reach : Good 0 (reach f sign)
  unfolding reach
  good_reach = good_down (2 * f.rows) (omega arith) (mark no_marks f.rows sign) good_start

  -- what is reached has its number in range and its mark
  pub record InMarks (k : ℕ) (s : Sign) : Type 0 where
    pub low : 1 ≤ k
    pub high : k ≤ f.rows
    pub marked : Marked (reach f sign) (slot_of k s)

  pub reached_marked : {k : ℕ} {s : Sign} → Reached f sign k s → InMarks k s
  reached_marked root = record { low = ok.some_rows; high = omega arith; marked = good_reach.top }
  reached_marked (operand {k} {s} a re o) = step (reached_marked re)
    where
      row : R (slot_of k s) ≡ row_of f k
      row = ap (row_in f.places) (slot_half k s)

      step : InMarks k s → InMarks a (operand_sign (row_of f k) s)
      step x =
          let p = x.low in let q = x.high in
          let b = row_below f ok k p q a o in
          let h : slot_of k s < 2 * f.rows = let u = place_small s in omega arith in
          record { low = b.0; high = omega (arith, b.1); marked = rw (row, slot_sign k s) at (good_reach.closed (slot_of k s) (omega arith) h x.marked a (rw (sym row) at o)) }

  -- THE MARKS ARE WHAT THE ROOT REACHES
  pub marked_reached : (k : ℕ) (s : Sign) → 1 ≤ k → Marked (reach f sign) (slot_of k s) ↔ Reached f sign k s
  marked_reached k s p = (λ e. slot_reached k s p (good_reach.sound (slot_of k s) e), λ re. (reached_marked re).marked)

  pub slot_marked : (j : ℕ) → Marked (reach f sign) j → ReachedSlot j
  slot_marked j e = good_reach.sound j e
