-- A sheet file has the length that is known beforehand. Assumes nothing.
use Prim.Native.Nat.{ℕ, zero, suc, ◌+◌, ◌≤◌, ◌<◌}
use mathlib.Core.Path.{◌≡◌, refl, sym, ap, ◌∙◌}
use mathlib.Core.List.{List, [], ◌∷◌, ◌++◌}
use native.Mathlib.Decide.{dec_lt}
use native.Mathlib.Numerals.{add-one}
use native.Mathlib.Omega.{arith}
use lib.ListN.{length, get_or, take, length-append}
use Rattle.tables.specs.Bit.{bit_at}
use Rattle.tables.specs.Bytes.{bytes}
use Rattle.tables.specs.Place.{tabulate}
use Rattle.tables.specs.declared.trace.Activation.{Activation}
use Rattle.tables.proofs.Places.{length_tabulate}
use Rattle.text.specs.Written.{decimal, digits_text, written_line, written_body}
use Rattle.text.proofs.Laws.{line_length, text_length}
use Rattle.writing.proofs.Texts.{decimal_one, decimal_some}
use Rattle.sheet_file.specs.Written.{rows_of, written_sheet}
use Rattle.sheet_maker.specs.Length.{rows_length, sheet_length}
use Rattle.sheet_maker.proofs.Texts.{rows_next, rows_all}

-- one row more
pub rows_length_next : (cycles k : ℕ) → rows_length cycles (k + 1) ≡ rows_length cycles k + (length (decimal (k + 1)) + cycles + 3)
unfolding rows_length
rows_length_next cycles k = ap (rows_length cycles) (add-one k) ∙ ap (λ n. rows_length cycles k + (length (decimal n) + cycles + 3)) (sym (add-one k))

-- the rows before are no longer
pub rows_length_before : (cycles k n : ℕ) → k ≤ n → rows_length cycles k ≤ rows_length cycles n
unfolding rows_length
rows_length_before cycles k zero h = let e : k ≡ 0 = omega arith in rw e (omega arith)
rows_length_before cycles k (suc n) h = by (dec_lt n k) (rows_length_before cycles k n)
  where
    by : Dec (n < k) → (k ≤ n → rows_length cycles k ≤ rows_length cycles n) → rows_length cycles k ≤ rows_length cycles (suc n)
    by (yes l) before = let e : k ≡ suc n = omega arith in rw e (omega arith)
    by (no l) before = let b = before (omega arith) in omega arith

pub rows_length_some : (cycles n : ℕ) → 1 ≤ n → 4 ≤ rows_length cycles n
unfolding rows_length
rows_length_some cycles n h = let a = rows_length_before cycles 1 n h in omega (arith, decimal_some 1)

module _ (a : Activation) (full : length a.lanes ≡ 128) (few : a.rows ≤ 128) (short : a.cycles ≤ 256) where
  -- the line of row k + 1
  line : ℕ → List ℕ
  line k = written_line (122 ∷ decimal (k + 1)) (digits_text (tabulate a.cycles (bit_at (get_or a.lanes k (record { words = [] }))))) []

  line_size : (k : ℕ) → length (line k) ≡ length (decimal (k + 1)) + a.cycles + 3
  unfolding line
  line_size k =
      let f = bit_at (get_or a.lanes k (record { words = [] })) in
      omega (arith, line_length (122 ∷ decimal (k + 1)) (digits_text (tabulate a.cycles f)) [], text_length (tabulate a.cycles f), length_tabulate a.cycles 0 f)

  first : ℕ → List ℕ
  first k = written_body 122 digits_text 1 (take k (rows_of a))

  -- the first k lines
  first_size : (k : ℕ) → k ≤ a.rows → length (first k) ≡ rows_length a.cycles k
  unfolding first line written_body rows_length
  first_size zero h = refl
  first_size (suc k) h =
      let n : length (first k ++ line k) ≡ length (first (k + 1)) = ap length (rows_next a full few k (record { words = [] }) short (omega arith)) in
      let e : length (first (k + 1)) ≡ length (first (suc k)) = ap (λ m. length (first m)) (add-one k) in
      let r = rows_length_next a.cycles k in
      let s : rows_length a.cycles (k + 1) ≡ rows_length a.cycles (suc k) = ap (rows_length a.cycles) (add-one k) in
      let b = first_size k (omega arith) in
      omega (arith, length-append (first k) (line k), line_size k)

  pub sheet_size : length (written_sheet a) ≡ sheet_length a.rows a.cycles
  unfolding written_sheet first
  sheet_size =
      let body : List ℕ = written_body 122 digits_text 1 (rows_of a) in
      let third : List ℕ = written_line (bytes "cycles") (decimal a.cycles) body in
      let second : List ℕ = written_line (bytes "rows") (decimal a.rows) third in
      let size : length body ≡ rows_length a.cycles a.rows = ap (λ rs. length (written_body 122 digits_text 1 rs)) (sym (rows_all a full few a.rows (omega arith))) ∙ first_size a.rows (omega arith) in
      let one : length (decimal 1) ≡ 1 = sym (ap length (decimal_one 1 (omega arith))) in
      omega (arith, line_length (bytes "format") (decimal 1) second, line_length (bytes "rows") (decimal a.rows) third, line_length (bytes "cycles") (decimal a.cycles) body)
