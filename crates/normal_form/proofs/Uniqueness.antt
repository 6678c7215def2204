-- 01's words decide the normal form: two tables that satisfy them are equal. Assumes nothing.
use mathlib.Core.Path.{◌≡◌, refl, sym, ◌∙◌}
use mathlib.Core.Bool.{Bool, true, false}
use mathlib.Core.List.{List}
use Prim.Native.Nat.{ℕ, zero, suc, ◌-◌, ◌≤◌, ◌<◌}
use native.Mathlib.Omega.{arith}
use native.Mathlib.Decide.{dec_lt, ℕ_discrete}
use lib.ListN.{length}
use lib.Seq.{ext_get_or}
use Rattle.tables.specs.Kind.{first_number}
use Rattle.tables.specs.declared.row.Row.{Row}
use Rattle.tables.specs.declared.row.Formula.{Formula}
use Rattle.rule_file.specs.Rule.{unused}
use Rattle.rule_file.specs.Valid.{InRange}
use Rattle.normal_form.specs.declared.sign.Sign.{Sign}
use Rattle.normal_form.specs.Operand.{row_of, is_not}
use Rattle.normal_form.specs.Sign.{turned, signed, slot_of}
use Rattle.normal_form.specs.Numbering.{normal_rows}
use Rattle.normal_form.specs.Reached.{Reached, Reached.root}
use Rattle.normal_form.specs.Normal.{Listed, Before, row_at, Normal}
use Rattle.normal_form.proofs.Signs.{slot_same, before_slot}
use Rattle.normal_form.proofs.Operands.{not_row, not_operand, same_mapped, alike_signed, alike_operand, row_below}
use Rattle.normal_form.proofs.Reaching.{reached_marked}
use Rattle.normal_form.proofs.Normality.{operand_reached, not_reached, normal}

-- numbers rise only with the order
module _ {f : Formula} {sign : Sign} {A : ℕ → Sign → ℕ} {rows : List Row} (ok : InRange f) (a : Normal f sign A rows) where
  rises_back : (k : ℕ) (s : Sign) (k' : ℕ) (s' : Sign) → Listed f sign k s → Listed f sign k' s' → A k s < A k' s' → Before k s k' s'
  rises_back k s k' s' l l' h = by (dec_lt (slot_of k s) (slot_of k' s')) (ℕ_discrete (slot_of k s) (slot_of k' s'))
    where
      low : 1 ≤ k
      low = (reached_marked f sign ok l.0).low

      low' : 1 ≤ k'
      low' = (reached_marked f sign ok l'.0).low

      by : Dec (slot_of k s < slot_of k' s') → Dec (slot_of k s ≡ slot_of k' s') → Before k s k' s'
      by (yes p) q = before_slot low low' p
      by (no p) (yes q) = absurd (let e : (k ≡ k') × (s ≡ s') = slot_same low low' q in let z : A k s ≡ A k' s' = rw (e.0, e.1) in omega arith)
      by (no p) (no q) = absurd (let z = a.order k' s' k s l' l (before_slot low' low (omega arith)) in omega arith)

module _ {f : Formula} {sign : Sign} {A B : ℕ → Sign → ℕ} {rowsA rowsB : List Row} (ok : InRange f) (a : Normal f sign A rowsA) (b : Normal f sign B rowsB) where
  abbrev SameUpTo : ℕ → Type 0
  SameUpTo d = (k : ℕ) (s : Sign) → A k s ≤ d → Listed f sign k s → A k s ≡ B k s

  -- the number of a row that is listed: how many are listed up to it
  listed_same : (d : ℕ) → SameUpTo d
  listed_same zero k s h l = absurd (let p = (a.appears k s l).0 in omega arith)
  listed_same (suc d) k s h l = by (dec_lt (A k s) (B k s)) (dec_lt (B k s) (A k s)) (listed_same d)
    where
      -- were B's number less, A would have listed another row there; were it more, B would
      less : SameUpTo d → B k s < A k s → ⊥
      less rec q =
          let w = a.only (B k s) (b.appears k s l).0 (let m = (a.appears k s l).1 in omega arith) in
          let k' = w.0 in let s' = w.1 in let e = w.3 in
          let i = rec k' s' (omega arith) w.2 in
          let z = b.order k' s' k s w.2 l (rises_back ok a k' s' k s w.2 l (omega arith)) in omega arith

      more : SameUpTo d → A k s < B k s → ⊥
      more rec q =
          let w = b.only (A k s) (a.appears k s l).0 (let m = (b.appears k s l).1 in omega arith) in
          let k' = w.0 in let s' = w.1 in let e = w.3 in
          let z = a.order k' s' k s w.2 l (rises_back ok b k' s' k s w.2 l (omega arith)) in
          let i = rec k' s' (omega arith) w.2 in omega arith

      by : Dec (A k s < B k s) → Dec (B k s < A k s) → SameUpTo d → A k s ≡ B k s
      by (yes p) q rec = absurd (more rec p)
      by (no p) (yes q) rec = absurd (less rec q)
      by (no p) (no q) rec = omega arith

  reached_same : (d k : ℕ) (s : Sign) → k ≤ d → Reached f sign k s → A k s ≡ B k s
  reached_same zero k s h re = absurd (let p = (reached_marked f sign ok re).low in omega arith)
  reached_same (suc d) k s h re = by (is_not (row_of f k)) refl (reached_same d)
    where
      by : (t : Bool) → is_not (row_of f k) ≡ t → ((k' : ℕ) (s' : Sign) → k' ≤ d → Reached f sign k' s' → A k' s' ≡ B k' s') → A k s ≡ B k s
      by true e rec =
          let x = first_number (row_of f k) in
          let m = reached_marked f sign ok re in
          let p = (row_below f ok k m.low m.high x (not_operand (row_of f k) e)).1 in
          a.not_stands k s x re (not_row (row_of f k) e) ∙ rec x (turned s) (omega arith) (not_reached re e) ∙ sym (b.not_stands k s x re (not_row (row_of f k) e))
      by false e rec = listed_same (A k s) k s (omega arith) (re, e)

  -- what stands for a row is decided
  pub numbers_unique : {k : ℕ} {s : Sign} → Reached f sign k s → A k s ≡ B k s
  numbers_unique {k} {s} re = reached_same k k s (omega arith) re

  size_same : length rowsA ≡ length rowsB
  size_same = sym a.root_last ∙ numbers_unique root ∙ b.root_last

  row_same : (x : ℕ) → 1 ≤ x → x ≤ length rowsA → row_at rowsA x ≡ row_at rowsB x
  row_same x p q = by (a.only x p q)
    where
      by : ((k : ℕ) × (s : Sign) × Listed f sign k s × (A k s ≡ x)) → row_at rowsA x ≡ row_at rowsB x
      by (k, s, l, e) =
          let u : row_at rowsA x ≡ _ = rw e at (a.says k s l) in
          let v : B k s ≡ x = sym (numbers_unique l.0) ∙ e in
          u ∙ same_mapped (λ y. A y s) (λ y. B y s) (signed s (row_of f k)) (λ y o. numbers_unique (operand_reached l y (alike_operand (alike_signed s (row_of f k)) y o))) ∙ sym (rw v at (b.says k s l))

  -- THE WORDS DECIDE THE TABLE
  pub normal_unique : rowsA ≡ rowsB
  normal_unique = ext_get_or unused rowsA rowsB size_same (λ i h. let e : suc i - 1 ≡ i = omega arith in rw e at (row_same (suc i) (omega arith) (omega arith)))

-- so that it is the one computed
pub normal_is : {f : Formula} {sign : Sign} {A : ℕ → Sign → ℕ} {rows : List Row} → InRange f → Normal f sign A rows → rows ≡ normal_rows f sign
normal_is {f} {sign} ok a = normal_unique ok a (normal f sign ok)
