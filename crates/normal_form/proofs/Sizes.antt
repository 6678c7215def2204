-- A normal form has at most 125 rows. The root is reached under one sign. A row is reached under both only where a `not` turned
-- the sign on the way, and that `not` gets no row: so of 64 rows one is the root with one row, one is a `not` with none, and 62
-- have two at most. So the 128 rows of the sheet format are enough for every rule. Assumes nothing.
use mathlib.Core.Path.{◌≡◌, refl, ap, ◌∙◌}
use mathlib.Core.Logic.{◌⊎◌, inl, inr}
use mathlib.Core.Bool.{Bool, true, false}
use Prim.Native.Nat.{ℕ, zero, suc, ◌+◌, ◌*◌, ◌-◌, ◌≤◌, ◌<◌}
use native.Mathlib.Omega.{arith}
use native.Mathlib.Decide.{dec_lt, ℕ_discrete, le_ind}
use lib.ListN.{length, get_or}
use Rattle.tables.specs.declared.row.Formula.{Formula}
use Rattle.rule_file.specs.Valid.{InRange}
use Rattle.normal_form.specs.declared.sign.Sign.{Sign}
use Rattle.normal_form.specs.declared.sign.Sign.TheVariants.{Plain, Negated}
use Rattle.normal_form.specs.Operand.{row_in, row_of, is_not}
use Rattle.normal_form.specs.Sign.{turned, operand_sign, slot_of}
use Rattle.normal_form.specs.Reach.{reach}
use Rattle.normal_form.specs.Numbering.{listing, normal_listing, normal_rows}
use Rattle.normal_form.specs.Reached.{Reached, Reached.root, Reached.operand}
use Rattle.normal_form.proofs.Signs.{slot_half}
use Rattle.normal_form.proofs.Operands.{row_below}
use Rattle.normal_form.proofs.Marking.{Marked}
use Rattle.normal_form.proofs.Reaching.{reached_marked, marked_reached}
use Rattle.normal_form.proofs.Listings.{rows_few, one_row_most, slot_free, slot_shared}

other_sign : (s : Sign) → turned s ≡ s → ⊥
other_sign Plain e = cc
other_sign Negated e = cc

module _ (f : Formula) (sign : Sign) (ok : InRange f) where
  -- how many rows the slots below j have
  abbrev rows_to : ℕ → ℕ
  rows_to j = length (listing (reach f sign) f.places j).rows

  rows_between : (j m : ℕ) → j ≤ m → rows_to m + j ≤ rows_to j + m
  rows_between j m h = le_ind (λ m. rows_to m + j ≤ rows_to j + m) (omega arith) (λ m l g. let o = one_row_most (reach f sign) f.places m in omega arith) m h

  -- a slot without a row
  no_row : (k : ℕ) (s : Sign) → (Marked (reach f sign) (slot_of k s) → is_not (row_of f k) ≡ true) → rows_to (suc (slot_of k s)) ≡ rows_to (slot_of k s)
  no_row k s h = by (get_or (reach f sign) (slot_of k s) false) refl
    where
      by : (t : Bool) → get_or (reach f sign) (slot_of k s) false ≡ t → rows_to (suc (slot_of k s)) ≡ rows_to (slot_of k s)
      by true e = ap (λ x. length x.rows) (slot_shared (reach f sign) f.places (slot_of k s) e (ap (λ i. is_not (row_in f.places i)) (slot_half k s) ∙ h e))
      by false e = ap (λ x. length x.rows) (slot_free (reach f sign) f.places (slot_of k s) e)

  -- the two slots of a row
  not_none : (k : ℕ) → 1 ≤ k → is_not (row_of f k) ≡ true → rows_to (2 * k) ≡ rows_to (2 * (k - 1))
  not_none k p e =
      let a = no_row k Plain (λ x. e) in let b = no_row k Negated (λ x. e) in
      let q : slot_of k Plain ≡ 2 * (k - 1) = omega arith in
      let r : slot_of k Negated ≡ suc (slot_of k Plain) = omega arith in
      let t : 2 * k ≡ suc (slot_of k Negated) = omega arith in
      ap rows_to t ∙ b ∙ ap rows_to r ∙ a ∙ ap rows_to q

  one_sign : (k : ℕ) (t : Sign) → 1 ≤ k → ((s : Sign) → Reached f sign k s → s ≡ t) → rows_to (2 * k) ≤ rows_to (2 * (k - 1)) + 1
  one_sign k t p single = by t (no_row k (turned t) (λ e. absurd (other_sign t (single (turned t) ((marked_reached f sign ok k (turned t) p).0 e)))))
    where
      t' : 2 * k ≡ suc (suc (2 * (k - 1)))
      t' = omega arith

      by : (t : Sign) → rows_to (suc (slot_of k (turned t))) ≡ rows_to (slot_of k (turned t)) → rows_to (2 * k) ≤ rows_to (2 * (k - 1)) + 1
      by Plain e = let q : slot_of k Negated ≡ suc (2 * (k - 1)) = omega arith in let o = one_row_most (reach f sign) f.places (2 * (k - 1)) in let d = rw q at e in rw t' (omega arith)
      by Negated e = let q : slot_of k Plain ≡ 2 * (k - 1) = omega arith in let o = one_row_most (reach f sign) f.places (suc (2 * (k - 1))) in let d = rw q at e in rw t' (omega arith)

  -- the root is reached under one sign
  root_sign : {k : ℕ} {s : Sign} → Reached f sign k s → k ≡ f.rows → s ≡ sign
  root_sign root e = refl
  root_sign (operand {k} {s} a re o) e =
      let m = reached_marked f sign ok re in let h = m.high in
      let b = (row_below f ok k m.low m.high a o).1 in absurd (omega arith)

  -- and without a `not` below it the others are, too
  lower_sign : ((k : ℕ) → 1 ≤ k → k < f.rows → is_not (row_of f k) ≡ false) → {k : ℕ} {s : Sign} → Reached f sign k s → k < f.rows → s ≡ operand_sign (row_of f f.rows) sign
  lower_sign none root h = absurd (omega arith)
  lower_sign none (operand {k} {s} a re o) h = by (dec_lt k f.rows) (λ l. lower_sign none re l)
    where
      by : Dec (k < f.rows) → (k < f.rows → s ≡ operand_sign (row_of f f.rows) sign) → operand_sign (row_of f k) s ≡ operand_sign (row_of f f.rows) sign
      by (yes l) rec = rw (none k (reached_marked f sign ok re).low l) (rec l)
      by (no l) rec = let m = (reached_marked f sign ok re).high in let e : k ≡ f.rows = omega arith in rw (e, root_sign re e)

  abbrev NotBelow : ℕ → Type 0
  NotBelow n = (k : ℕ) × (1 ≤ k) × (k < n) × (is_not (row_of f k) ≡ true)

  abbrev NoneBelow : ℕ → Type 0
  NoneBelow n = (k : ℕ) → 1 ≤ k → k < n → is_not (row_of f k) ≡ false

  -- look for a `not`
  look : (n : ℕ) → NotBelow n ⊎ NoneBelow n
  look zero = inr (λ k p q. absurd (omega arith))
  look (suc n) = by (is_not (row_of f n)) refl (dec_lt 0 n) (look n)
    where
      by : (t : Bool) → is_not (row_of f n) ≡ t → Dec (0 < n) → NotBelow n ⊎ NoneBelow n → NotBelow (suc n) ⊎ NoneBelow (suc n)
      by t e d (inl (k, p, q, r)) = inl (k, p, omega arith, r)
      by true e (yes d) (inr r) = inl (n, omega arith, omega arith, e)
      by true e (no d) (inr r) = inr (λ k p q. absurd (omega arith))
      by false e d (inr r) = inr (λ k p q. past k p q (ℕ_discrete k n))
        where
          past : (k : ℕ) → 1 ≤ k → k < suc n → Dec (k ≡ n) → is_not (row_of f k) ≡ false
          past k p q (yes z) = rw z e
          past k p q (no z) = r k p (omega arith)

  root_one : rows_to (2 * f.rows) ≤ rows_to (2 * (f.rows - 1)) + 1
  root_one = one_sign f.rows sign ok.some_rows (λ s re. root_sign re refl)

  -- a row each, without a `not` below the root
  rows_single : NoneBelow f.rows → (k : ℕ) → k < f.rows → rows_to (2 * k) ≤ k
  unfolding listing
  rows_single none zero h = omega arith
  rows_single none (suc k) h =
      let rec = rows_single none k (omega arith) in
      let e : suc k - 1 ≡ k = omega arith in
      let o = one_sign (suc k) (operand_sign (row_of f f.rows) sign) (omega arith) (λ s re. lower_sign none re h) in
      let o' : rows_to (2 * suc k) ≤ rows_to (2 * k) + 1 = rw e at o in omega arith

  pub rows_most : length (normal_rows f sign) ≤ 125
  unfolding normal_listing
  rows_most = by (look f.rows)
    where
      by : NotBelow f.rows ⊎ NoneBelow f.rows → rows_to (2 * f.rows) ≤ 125
      by (inl (k, p, q, e)) =
          let a = rows_few (reach f sign) f.places (2 * (k - 1)) in
          let b = not_none k p e in
          let c = rows_between (2 * k) (2 * (f.rows - 1)) (omega arith) in
          let d = root_one in let m = ok.most_rows in omega arith
      by (inr none) = let a = rows_single none (f.rows - 1) (let p = ok.some_rows in omega arith) in let d = root_one in let m = ok.most_rows in omega arith
