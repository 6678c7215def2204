-- The loop that lists the rows: the code's tables hold the listing so far. Assumes nothing.
use mathlib.Core.Path.{◌≡◌, refl, sym, ◌∙◌}
use mathlib.Core.Bool.{Bool, true, false}
use mathlib.Core.List.{List, []}
use Prim.Native.Nat.{ℕ, suc, ◌+◌, ◌/◌, ◌≤◌, ◌<◌}
use native.Mathlib.Numerals.{add-one}
use native.Mathlib.Omega.{arith}
use native.Mathlib.Decide.{ℕ_discrete}
use lib.ListN.{length, get_or, set, replicate, get_or-eq_default}
use lib.Seq.{get_or-append_seam}
use Rattle.tables.specs.Kind.{first_number}
use Rattle.tables.specs.Place.{tabulate_from, placed}
use Rattle.tables.proofs.Places.{get_d_tabulate, tabulate_ext, placed_more, snoc_other}
use Rattle.tables.specs.declared.row.Row.{Row}
use Rattle.tables.specs.declared.row.RowPlace.{RowPlace}
use Rattle.rule_file.specs.Rule.{in_place, unused}
use Rattle.normal_form.specs.declared.sign.Sign.{Sign}
use Rattle.normal_form.specs.Operand.{row_in, is_not, Below}
use Rattle.normal_form.specs.Sign.{turned, signed, slot_of, sign_of}
use Rattle.normal_form.specs.Numbering.{Listing, number_in, renumbered, snoc, skipped, shared, next_row, list_row, listing, listed_form}
use Rattle.normal_form.proofs.Signs.{place_small}
use Rattle.normal_form.proofs.Operands.{not_operand, alike_signed, alike_operand, same_mapped}
use Rattle.normal_form.proofs.Listings.{length_snoc, numbers_count, rows_few, slot_free}

-- ---- numbers in their places

abbrev numbers_of : List ℕ → List ℕ
numbers_of ns = placed 128 (λ n. n) 0 ns

number_at : (ns : List ℕ) (i : ℕ) → i < 128 → get_or (numbers_of ns) i 0 ≡ get_or ns i 0
number_at ns i h = get_d_tabulate 128 (λ i. get_or ns i 0) i 0 h

number_next : (ns : List ℕ) (slot v : ℕ) → length ns ≡ slot → slot < 128 → set (numbers_of ns) slot v ≡ numbers_of (snoc ns v)
number_next ns slot v e h = let l : length ns < 128 = omega arith in rw (sym e) (placed_more 128 (λ n. n) 0 ns v l)

-- 0 is what an unused place holds
number_none : (ns : List ℕ) → numbers_of ns ≡ numbers_of (snoc ns 0)
number_none ns = tabulate_ext 128 (λ i. get_or ns i 0) (λ i. get_or (snoc ns 0) i 0) (λ i h. by i (ℕ_discrete i (length ns)))
  where
    by : (i : ℕ) → Dec (i ≡ length ns) → get_or ns i 0 ≡ get_or (snoc ns 0) i 0
    by i (yes e) = let l : length ns ≤ i = omega arith in get_or-eq_default ns 0 l ∙ rw e (sym (get_or-append_seam ns 0 [] 0))
    by i (no n) = sym (snoc_other ns 0 0 i n)

renumber_placed : (ns : List ℕ) (s : Sign) (r : Row) → Below 65 r → renumbered (numbers_of ns) s r ≡ renumbered ns s r
renumber_placed ns s r b =
    same_mapped (λ a. number_in (numbers_of ns) a s) (λ a. number_in ns a s) r
    (λ a o. let p = (b a o).1 in let q = place_small s in number_at ns (slot_of a s) (omega arith))

-- ---- the rising pass

abbrev places_of : List Row → List RowPlace
places_of rs = placed 128 in_place unused rs

-- the tables hold the slots below j, of n
pub record ListedAt (marks : List Bool) (ps : List RowPlace) (n j : ℕ) (places : List RowPlace) (numbers : List ℕ) (rows : ℕ) : Type 0 where
  pub within : j ≤ n
  pub listed : places ≡ places_of (listing marks ps j).rows
  pub numbered : numbers ≡ numbers_of (listing marks ps j).numbers
  pub counted : rows ≡ length (listing marks ps j).rows

pub list_start : (marks : List Bool) (ps : List RowPlace) (n : ℕ) → ListedAt marks ps n 0 (replicate 128 (in_place unused)) (replicate 128 0) 0
unfolding listing tabulate_from
list_start marks ps n = record { within = omega arith; listed = refl; numbered = refl; counted = refl }

-- the tables that hold a listing, which is that of the slots below j + 1
list_by : {marks : List Bool} {ps : List RowPlace} {n j : ℕ} {places : List RowPlace} {numbers : List ℕ} {rows : ℕ} (l : Listing) → j < n → listing marks ps (suc j) ≡ l
    → places ≡ places_of l.rows → numbers ≡ numbers_of l.numbers → rows ≡ length l.rows → ListedAt marks ps n (j + 1) places numbers rows
list_by l h e p q r = record { within = omega arith; listed = rw (add-one, e) p; numbered = rw (add-one, e) q; counted = rw (add-one, e) r }

module _ {marks : List Bool} {ps : List RowPlace} {n j : ℕ} {places : List RowPlace} {numbers : List ℕ} {rows : ℕ} (inv : ListedAt marks ps n j places numbers rows) where
  -- there is room for one row more
  pub list_room : rows ≤ j
  list_room = rw inv.counted (rows_few marks ps j)

  module _ (h : j < n) (few : n ≤ 128) where
    pub list_free : get_or marks j false ≡ false → ListedAt marks ps n (j + 1) places numbers rows
    list_free m = list_by (skipped (listing marks ps j)) h (slot_free marks ps j m) inv.listed (inv.numbered ∙ number_none (listing marks ps j).numbers) inv.counted

    module _ {row : Row} {s : Sign} (marked : get_or marks j false ≡ true) (r : row ≡ row_in ps (j / 2)) (q : s ≡ sign_of j) (b : Below 65 row) where
      one_more : listing marks ps (suc j) ≡ list_row row s (listing marks ps j)
      unfolding listing
      one_more = rw (marked, r, q)

      count : length (listing marks ps j).numbers ≡ j
      count = numbers_count marks ps j

      pub list_shared : {x : ℕ} → is_not row ≡ true → x ≡ number_in numbers (first_number row) (turned s) → ListedAt marks ps n (j + 1) places (set numbers j x) rows
      list_shared {x} z e =
          let l = listing marks ps j in
          let p = (b (first_number row) (not_operand row z)).1 in
          let q = place_small (turned s) in
          let w : x ≡ number_in l.numbers (first_number row) (turned s) = e ∙ rw inv.numbered (number_at l.numbers (slot_of (first_number row) (turned s)) (omega arith)) in
          list_by (shared row s l) h (one_more ∙ rw z) inv.listed (rw (inv.numbered, w) (number_next l.numbers j _ count (omega arith))) inv.counted

      pub list_own : {u : Row} → is_not row ≡ false → u ≡ renumbered numbers s (signed s row)
          → ListedAt marks ps n (j + 1) (set places rows (record { row = u })) (set numbers j (rows + 1)) (rows + 1)
      list_own {u} z e =
          let l = listing marks ps j in
          let new = renumbered l.numbers s (signed s row) in
          let k : length l.rows < 128 = omega (arith, rows_few marks ps j) in
          let w : u ≡ new = e ∙ rw inv.numbered (renumber_placed l.numbers s (signed s row) (λ x o. b x (alike_operand (alike_signed s row) x o))) in
          list_by (next_row row s l) h (one_more ∙ rw z)
          (rw (inv.listed, inv.counted, w) (placed_more 128 in_place unused l.rows new k))
          (rw (inv.numbered, inv.counted) (number_next l.numbers j (length l.rows + 1) count (omega arith)))
          (rw inv.counted (sym (length_snoc l.rows new)))

  pub list_end : (signals : ℕ) → n ≤ j → record { signals = signals; rows = rows; places = places } ≡ listed_form signals (listing marks ps n)
  unfolding listed_form
  list_end signals h = let w = inv.within in let e : n ≡ j = omega arith in rw (e, inv.listed, inv.counted)
