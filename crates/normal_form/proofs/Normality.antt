-- The listing of a formula in range is its normal form, as 01 words it. Assumes nothing.
use mathlib.Core.Path.{◌≡◌, refl, sym, ap, ◌∙◌}
use mathlib.Core.Bool.{Bool, true, false}
use mathlib.Core.List.{List}
use Prim.Native.Nat.{ℕ, zero, suc, ◌+◌, ◌*◌, ◌-◌, ◌/◌, ◌≤◌, ◌<◌}
use native.Mathlib.Omega.{arith}
use lib.ListN.{length, get_or}
use Rattle.tables.specs.Kind.{first_number}
use Rattle.tables.specs.declared.row.Row.{Row}
use Rattle.tables.specs.declared.row.Formula.{Formula}
use Rattle.rule_file.specs.Rule.{unused}
use Rattle.rule_file.specs.Valid.{InRange}
use Rattle.normal_form.specs.declared.sign.Sign.{Sign}
use Rattle.normal_form.specs.Operand.{row_in, row_of, is_not, OperandOf, Below, with_operands}
use Rattle.normal_form.specs.Sign.{turned, signed, operand_sign, slot_of, sign_of}
use Rattle.normal_form.specs.Reach.{reach}
use Rattle.normal_form.specs.Numbering.{Listing, number_in, listing, normal_listing, normal_rows, new_number}
use Rattle.normal_form.specs.Reached.{Reached, Reached.root, Reached.operand}
use Rattle.normal_form.specs.Normal.{Listed, row_at, Normal}
use Rattle.normal_form.proofs.Signs.{place_small, slot_half, slot_sign, slot_again, slot_before}
use Rattle.normal_form.proofs.Operands.{not_operand, not_only, operand_mapped, same_mapped, alike_signed, alike_operand, row_below}
use Rattle.normal_form.proofs.Reaching.{InMarks, reached_marked, slot_marked}
use Rattle.normal_form.proofs.Listings.{number_stays, rows_more, grown, numbers_count, number_shared, number_own, one_row_more, row_inside, row_own, number_before, row_owner}

-- the operands of a row that is reached
pub operand_reached : {f : Formula} {sign : Sign} {k : ℕ} {s : Sign} → Listed f sign k s → (a : ℕ) → OperandOf (row_of f k) a → Reached f sign a s
operand_reached {f} {sign} {k} {s} (re, free) a o = rw free at (operand a re o)

pub not_reached : {f : Formula} {sign : Sign} {k : ℕ} {s : Sign} → Reached f sign k s → is_not (row_of f k) ≡ true → Reached f sign (first_number (row_of f k)) (turned s)
not_reached {f} {sign} {k} {s} re e = rw e at (operand (first_number (row_of f k)) re (not_operand (row_of f k) e))

module _ (f : Formula) (sign : Sign) (ok : InRange f) where
  abbrev X : ℕ → Listing
  X j = listing (reach f sign) f.places j

  abbrev rows : List Row
  rows = (X (2 * f.rows)).rows

  -- the new number of row k under sign s
  abbrev N : ℕ → Sign → ℕ
  N k s = number_in (X (2 * f.rows)).numbers k s

  module _ (k : ℕ) (s : Sign) (re : Reached f sign k s) where
    known : InMarks f sign ok k s
    known = reached_marked f sign ok re

    here : row_in f.places (slot_of k s / 2) ≡ row_of f k
    here = ap (row_in f.places) (slot_half k s)

    inside : slot_of k s < 2 * f.rows
    inside = let a = known.low in let b = known.high in let c = place_small s in omega arith

    below : Below k (row_of f k)
    below = row_below f ok k known.low known.high

    -- a `not` row has its operand's number, the sign turned
    is_shared : is_not (row_of f k) ≡ true → N k s ≡ N (first_number (row_of f k)) (turned s)
    is_shared e =
        let b = below (first_number (row_of f k)) (not_operand (row_of f k) e) in
        let early : slot_of (first_number (row_of f k)) (turned s) < slot_of k s = let p = b.0 in let q = b.1 in let t = place_small (turned s) in omega arith in
        rw (here, slot_sign k s) at (number_shared (reach f sign) f.places (2 * f.rows) (slot_of k s) inside known.marked (ap is_not here ∙ e) (rw (here, slot_sign k s) early))

    module _ (free : is_not (row_of f k) ≡ false) where
      own : is_not (row_in f.places (slot_of k s / 2)) ≡ false
      own = ap is_not here ∙ free

      -- any other has the next number
      is_next_lem : N k s ≡ length (X (slot_of k s)).rows + 1
      is_next_lem = number_own (reach f sign) f.places (2 * f.rows) (slot_of k s) inside known.marked own

      within : N k s ≤ length rows
      within = let e = is_next_lem in let h = row_inside (reach f sign) f.places (2 * f.rows) (slot_of k s) inside known.marked own in omega arith

      row_says : row_at rows (N k s) ≡ with_operands (λ a. N a s) (signed s (row_of f k))
      row_says =
          let e : N k s - 1 ≡ length (X (slot_of k s)).rows = let n = is_next_lem in omega arith in
          ap (λ i. get_or rows i unused) e
          ∙ rw (here, slot_sign k s) at (row_own (reach f sign) f.places (2 * f.rows) (slot_of k s) inside known.marked own)
          ∙ same_mapped (λ a. number_in (X (slot_of k s)).numbers a s) (λ a. N a s) (signed s (row_of f k)) (λ a o. stays a (below a (alike_operand (alike_signed s (row_of f k)) a o)))
        where
          stays : (a : ℕ) → (1 ≤ a) × (a < k) → number_in (X (slot_of k s)).numbers a s ≡ N a s
          stays a b = sym (number_stays (grown (reach f sign) f.places (slot_of k s) (2 * f.rows) (let i = inside in omega arith)) (slot_of a s) (let c = numbers_count (reach f sign) f.places (slot_of k s) in let p = b.0 in let q = b.1 in omega arith))

  -- a row that is reached stands among the rows that are listed up to it
  bounds : (d k : ℕ) (s : Sign) → k ≤ d → Reached f sign k s → (1 ≤ N k s) × (N k s ≤ length (X (2 * k)).rows)
  bounds zero k s h re = absurd (let a = (known k s re).low in omega arith)
  bounds (suc d) k s h re = by (is_not (row_of f k)) refl (bounds d)
    where
      by : (t : Bool) → is_not (row_of f k) ≡ t → ((a : ℕ) (t : Sign) → a ≤ d → Reached f sign a t → (1 ≤ N a t) × (N a t ≤ length (X (2 * a)).rows)) → (1 ≤ N k s) × (N k s ≤ length (X (2 * k)).rows)
      by true e rec =
          let a = first_number (row_of f k) in
          let b = (below k s re a (not_operand (row_of f k) e)).1 in
          let x = rec a (turned s) (omega arith) (not_reached re e) in let x0 = x.0 in let x1 = x.1 in
          let m = rows_more (grown (reach f sign) f.places (2 * a) (2 * k) (omega arith)) in
          let n = is_shared k s re e in (omega arith, omega arith)
      by false e rec =
          let n = is_next_lem k s re e in
          let p = (known k s re).low in let t = place_small s in
          let o = one_row_more (reach f sign) f.places (2 * f.rows) (slot_of k s) (inside k s re) (known k s re).marked (own k s re e) in
          let m = rows_more (grown (reach f sign) f.places (suc (slot_of k s)) (2 * k) (omega arith)) in
          (omega arith, omega arith)

  -- an operand of a row that is listed stands before it
  operand_before : (k : ℕ) (s : Sign) → Listed f sign k s → (a : ℕ) → OperandOf (row_of f k) a → (1 ≤ N a s) × (N a s < N k s)
  operand_before k s l a o =
      let h = (below k s l.0 a o).1 in
      let b = bounds a a s (omega arith) (operand_reached l a o) in let b1 = b.1 in
      let m = rows_more (grown (reach f sign) f.places (2 * a) (slot_of k s) (omega arith)) in
      let n = is_next_lem k s l.0 l.1 in (b.0, omega arith)

  -- no row that is reached has a number above the root's
  below_root : {k : ℕ} {s : Sign} → Reached f sign k s → N k s ≤ N f.rows sign
  below_root root = omega arith
  below_root (operand {k} {s} a re o) = by (is_not (row_of f k)) refl (below_root re)
    where
      by : (t : Bool) → is_not (row_of f k) ≡ t → N k s ≤ N f.rows sign → N a (operand_sign (row_of f k) s) ≤ N f.rows sign
      by true e h = rw (e, not_only (row_of f k) e a o, sym (is_shared k s re e)) h
      by false e h = let b = (operand_before k s (re, e) a o).1 in rw e (let g : N a s ≤ N f.rows sign = omega arith in g)

  -- each row is some row's own
  abbrev Holder : ℕ → Type 0
  Holder x = (k : ℕ) × (s : Sign) × Listed f sign k s × (N k s ≡ x)

  holder : (x : ℕ) → 1 ≤ x → x ≤ length rows → Holder x
  holder x p q =
      let o = row_owner (reach f sign) f.places (2 * f.rows) (x - 1) (omega arith) in
      let j = o.0 in
      let e : j / 2 + 1 - 1 ≡ j / 2 = omega arith in
      let l : Listed f sign (j / 2 + 1) (sign_of j) = (slot_marked f sign ok j o.2, rw e o.3) in
      (j / 2 + 1, sign_of j, l, is_next_lem (j / 2 + 1) (sign_of j) l.0 l.1 ∙ rw (slot_again j, o.4) (let z : x - 1 + 1 ≡ x = omega arith in z))

  early : (x : ℕ) → Holder x → Below x (row_at rows x)
  early x (k, s, l, e) y o =
      let w = operand_mapped (λ a. N a s) (signed s (row_of f k)) y (rw (sym e, row_says k s l.0 l.1) at o) in
      let b = operand_before k s l w.0 (alike_operand (alike_signed s (row_of f k)) w.0 w.1) in
      rw (w.2, sym e) b

  last : N f.rows sign ≡ length rows
  last =
      let b = bounds f.rows f.rows sign (omega arith) root in let b0 = b.0 in let b1 = b.1 in
      let o = holder (length rows) (omega arith) (omega arith) in
      let c = below_root o.2.0 in let e = o.3 in omega arith

  pub rows_some : 1 ≤ length (normal_rows f sign)
  unfolding normal_listing
  rows_some = let b = (bounds f.rows f.rows sign (omega arith) root).0 in let e = last in omega arith

  -- THE NORMAL FORM THAT IS COMPUTED IS 01'S
  pub normal : Normal f sign (new_number f sign) (normal_rows f sign)
  unfolding normal_listing
  normal = record {
    not_stands = λ k s a re e. is_shared k s re (ap is_not e) ∙ ap (λ a. N a (turned s)) (ap first_number e);
    appears = λ k s l. (let n = is_next_lem k s l.0 l.1 in omega arith, within k s l.0 l.1);
    says = λ k s l. row_says k s l.0 l.1;
    order = λ k s k' s' l l' h. number_before (reach f sign) f.places (2 * f.rows) (slot_of k' s') (inside k' s' l'.0) (known k' s' l'.0).marked (own k' s' l'.0 l'.1) (slot_of k s) (slot_before (known k s l.0).low h) (known k s l.0).marked (own k s l.0 l.1);
    only = holder;
    earlier = λ x p q. early x (holder x p q);
    root_last = last;
  }
