-- Laws of the listing: where each slot's row stands, in which order, and that nothing else does. Assumes nothing.
use mathlib.Core.Path.{◌≡◌, refl, sym, ap, ◌∙◌}
use mathlib.Core.Bool.{Bool, true, false}
use mathlib.Core.List.{List, [], ◌∷◌, ◌++◌, append_assoc, append-nil}
use Prim.Native.Nat.{ℕ, zero, suc, ◌+◌, ◌/◌, ◌≤◌, ◌<◌}
use native.Mathlib.Omega.{arith}
use native.Mathlib.Decide.{dec_lt, le_ind}
use lib.ListN.{length, get_or, length-append, get_or-append}
use lib.Seq.{get_or-append_seam}
use Rattle.tables.specs.Choice.{pick}
use Rattle.tables.specs.Kind.{first_number}
use Rattle.tables.specs.declared.row.Row.{Row}
use Rattle.tables.specs.declared.row.RowPlace.{RowPlace}
use Rattle.rule_file.specs.Rule.{unused}
use Rattle.normal_form.specs.declared.sign.Sign.{Sign}
use Rattle.normal_form.specs.Operand.{row_in, is_not}
use Rattle.normal_form.specs.Sign.{turned, signed, slot_of, sign_of}
use Rattle.normal_form.specs.Numbering.{Listing, number_in, renumbered, snoc, skipped, shared, next_row, list_slot, listing}

pub length_snoc : {A : Type 0} (xs : List A) (x : A) → length (snoc xs x) ≡ length xs + 1
length_snoc xs x = length-append xs (x ∷ [])

-- ---- a listing that goes on

pub record Grown (l m : Listing) : Type 0 where
  values : List ℕ
  added : List Row
  numbers_are : m.numbers ≡ l.numbers ++ values
  rows_are : m.rows ≡ l.rows ++ added

grown_none : (l : Listing) → Grown l l
grown_none l = record { values = []; added = []; numbers_are = sym (append-nil l.numbers); rows_are = sym (append-nil l.rows) }

grown_both : {l m n : Listing} → Grown l m → Grown m n → Grown l n
grown_both {l} g h = record {
  values = g.values ++ h.values;
  added = g.added ++ h.added;
  numbers_are = h.numbers_are ∙ ap (λ x. x ++ h.values) g.numbers_are ∙ append_assoc l.numbers g.values h.values;
  rows_are = h.rows_are ∙ ap (λ x. x ++ h.added) g.rows_are ∙ append_assoc l.rows g.added h.added;
}

module _ {l m : Listing} (g : Grown l m) where
  pub number_stays : (i : ℕ) → i < length l.numbers → get_or m.numbers i 0 ≡ get_or l.numbers i 0
  number_stays i h = ap (λ x. get_or x i 0) g.numbers_are ∙ get_or-append l.numbers g.values 0 i h

  pub row_stays : (i : ℕ) → i < length l.rows → get_or m.rows i unused ≡ get_or l.rows i unused
  row_stays i h = ap (λ x. get_or x i unused) g.rows_are ∙ get_or-append l.rows g.added unused i h

  pub rows_more : length l.rows ≤ length m.rows
  rows_more = let e = ap length g.rows_are ∙ length-append l.rows g.added in omega arith

-- ---- one slot

grown_row : (t : Bool) (r : Row) (s : Sign) (l : Listing) → Grown l (pick t (shared r s l) (next_row r s l))
grown_row true r s l = record { values = number_in l.numbers (first_number r) (turned s) ∷ []; added = []; numbers_are = refl; rows_are = sym (append-nil l.rows) }
grown_row false r s l = record { values = (length l.rows + 1) ∷ []; added = renumbered l.numbers s (signed s r) ∷ []; numbers_are = refl; rows_are = refl }

grown_slot : (t : Bool) (r : Row) (s : Sign) (l : Listing) → Grown l (list_slot t r s l)
grown_slot false r s l = record { values = 0 ∷ []; added = []; numbers_are = refl; rows_are = sym (append-nil l.rows) }
grown_slot true r s l = grown_row (is_not r) r s l

-- one number more, and at most one row
row_sizes : (t : Bool) (r : Row) (s : Sign) (l : Listing)
    → (length (pick t (shared r s l) (next_row r s l)).numbers ≡ length l.numbers + 1) × (length (pick t (shared r s l) (next_row r s l)).rows ≤ length l.rows + 1)
row_sizes true r s l = (length_snoc l.numbers _, omega arith)
row_sizes false r s l = (length_snoc l.numbers _, omega (arith, length_snoc l.rows (renumbered l.numbers s (signed s r))))

slot_sizes : (t : Bool) (r : Row) (s : Sign) (l : Listing) → (length (list_slot t r s l).numbers ≡ length l.numbers + 1) × (length (list_slot t r s l).rows ≤ length l.rows + 1)
slot_sizes false r s l = (length_snoc l.numbers _, omega arith)
slot_sizes true r s l = row_sizes (is_not r) r s l

module _ (marks : List Bool) (ps : List RowPlace) where
  abbrev X : ℕ → Listing
  X j = listing marks ps j

  abbrev R : ℕ → Row
  R j = row_in ps (j / 2)

  abbrev Marked : ℕ → Type 0
  Marked j = get_or marks j false ≡ true

  grown_one : (j : ℕ) → Grown (X j) (X (suc j))
  unfolding listing
  grown_one j = grown_slot (get_or marks j false) (R j) (sign_of j) (X j)

  pub grown : (j m : ℕ) → j ≤ m → Grown (X j) (X m)
  grown j m h = le_ind (λ m. Grown (X j) (X m)) (grown_none (X j)) (λ m l g. grown_both g (grown_one m)) m h

  pub numbers_count : (j : ℕ) → length (X j).numbers ≡ j
  unfolding listing
  numbers_count zero = refl
  numbers_count (suc j) = let e = numbers_count j in let h = (slot_sizes (get_or marks j false) (R j) (sign_of j) (X j)).0 in omega arith

  -- at most a row for each slot
  pub rows_few : (j : ℕ) → length (X j).rows ≤ j
  unfolding listing
  rows_few zero = omega arith
  rows_few (suc j) = let e = rows_few j in let h = (slot_sizes (get_or marks j false) (R j) (sign_of j) (X j)).1 in omega arith

  pub one_row_most : (j : ℕ) → length (X (suc j)).rows ≤ length (X j).rows + 1
  unfolding listing
  one_row_most j = (slot_sizes (get_or marks j false) (R j) (sign_of j) (X j)).1

  -- the three kinds of slot
  pub slot_free : (j : ℕ) → get_or marks j false ≡ false → X (suc j) ≡ skipped (X j)
  unfolding listing
  slot_free j e = rw e

  pub slot_shared : (j : ℕ) → Marked j → is_not (R j) ≡ true → X (suc j) ≡ shared (R j) (sign_of j) (X j)
  unfolding listing
  slot_shared j e q = rw (e, q)

  pub slot_own : (j : ℕ) → Marked j → is_not (R j) ≡ false → X (suc j) ≡ next_row (R j) (sign_of j) (X j)
  unfolding listing
  slot_own j e q = rw (e, q)

  last : (j v : ℕ) → get_or (snoc (X j).numbers v) j 0 ≡ v
  last j v = ap (λ i. get_or (snoc (X j).numbers v) i 0) (sym (numbers_count j)) ∙ get_or-append_seam (X j).numbers v [] 0

  -- the number that slot j gets stays
  settled : (j m : ℕ) → j < m → get_or (X m).numbers j 0 ≡ get_or (X (suc j)).numbers j 0
  settled j m h = number_stays (grown (suc j) m h) j (let c = numbers_count (suc j) in omega arith)

  -- a `not` row stands where its operand does, the sign turned
  pub number_shared : (m j : ℕ) → j < m → Marked j → is_not (R j) ≡ true → slot_of (first_number (R j)) (turned (sign_of j)) < j
      → get_or (X m).numbers j 0 ≡ number_in (X m).numbers (first_number (R j)) (turned (sign_of j))
  number_shared m j h e q l =
      settled j m h ∙ ap (λ x. get_or x.numbers j 0) (slot_shared j e q) ∙ last j _
      ∙ sym (number_stays (grown j m (omega arith)) (slot_of (first_number (R j)) (turned (sign_of j))) (let c = numbers_count j in omega arith))

  module _ (m j : ℕ) (h : j < m) (e : Marked j) (q : is_not (R j) ≡ false) where
    -- any other row is the next one
    pub number_own : get_or (X m).numbers j 0 ≡ length (X j).rows + 1
    number_own = settled j m h ∙ ap (λ x. get_or x.numbers j 0) (slot_own j e q) ∙ last j _

    pub one_row_more : length (X (suc j)).rows ≡ length (X j).rows + 1
    one_row_more = ap (λ x. length x.rows) (slot_own j e q) ∙ length_snoc (X j).rows _

    pub row_inside : length (X j).rows + 1 ≤ length (X m).rows
    row_inside = let a = one_row_more in let b = rows_more (grown (suc j) m h) in omega arith

    -- and says what the old row says under its sign, of its operands' new numbers
    pub row_own : get_or (X m).rows (length (X j).rows) unused ≡ renumbered (X j).numbers (sign_of j) (signed (sign_of j) (R j))
    row_own =
        row_stays (grown (suc j) m h) (length (X j).rows) (let a = one_row_more in omega arith)
        ∙ ap (λ x. get_or x.rows (length (X j).rows) unused) (slot_own j e q) ∙ get_or-append_seam (X j).rows _ [] unused

    -- it stands behind the rows of the slots before
    pub number_before : (i : ℕ) → i < j → Marked i → is_not (R i) ≡ false → get_or (X m).numbers i 0 < get_or (X m).numbers j 0
    number_before i l e' q' =
        let n : get_or (X m).numbers i 0 ≡ length (X i).rows + 1 = settled i m (omega arith) ∙ ap (λ x. get_or x.numbers i 0) (slot_own i e' q') ∙ last i _ in
        let o : length (X (suc i)).rows ≡ length (X i).rows + 1 = ap (λ x. length x.rows) (slot_own i e' q') ∙ length_snoc (X i).rows _ in
        let g = rows_more (grown (suc i) j l) in
        let b = number_own in omega arith

  -- nothing else stands there: each row is a slot's own
  abbrev pub Owner : ℕ → ℕ → Type 0
  Owner m x = (j : ℕ) × (j < m) × Marked j × (is_not (R j) ≡ false) × (length (X j).rows ≡ x)

  pub row_owner : (m x : ℕ) → x < length (X m).rows → Owner m x
  unfolding listing
  row_owner zero x h = absurd (omega arith)
  row_owner (suc m) x h = by (get_or marks m false) (is_not (R m)) refl refl (dec_lt x (length (X m).rows)) (row_owner m x)
    where
      up : Owner m x → Owner (suc m) x
      up o = (o.0, omega (arith, o.1), o.2, o.3, o.4)

      by : (t n : Bool) → get_or marks m false ≡ t → is_not (R m) ≡ n → Dec (x < length (X m).rows) → (x < length (X m).rows → Owner m x) → Owner (suc m) x
      by t n e q (yes l) rec = up (rec l)
      by false n e q (no l) rec = absurd (let z = ap (λ x. length x.rows) (slot_free m e) in omega arith)
      by true true e q (no l) rec = absurd (let z = ap (λ x. length x.rows) (slot_shared m e q) in omega arith)
      by true false e q (no l) rec = let z = ap (λ x. length x.rows) (slot_own m e q) ∙ length_snoc (X m).rows _ in (m, omega arith, e, q, omega arith)
