-- How long a rule file is: a header of at most 29 bytes, and a line of at most 22 bytes for each row. Assumes nothing.
use Prim.Native.Nat.{ℕ, ◌+◌, ◌*◌, ◌≤◌, ◌<◌}
use mathlib.Core.Path.{◌≡◌, sym, ap}
use mathlib.Core.Bool.{true}
use mathlib.Core.List.{List, [], ◌∷◌}
use native.Mathlib.Omega.{arith}
use lib.ListN.{length, length-append}
use Rattle.tables.specs.Bytes.{bytes}
use Rattle.tables.specs.Kind.{place_of, first_number, second_number}
use Rattle.tables.proofs.KindTable.{word_short, kind_of_row}
use Rattle.tables.specs.declared.row.Row.{Row}
use Rattle.tables.specs.declared.row.Row.TheVariants.{Constant, Signal, Unary, Binary}
use Rattle.text.specs.Body.{EachAt}
use Rattle.text.specs.Written.{decimal, written_line, written_body}
use Rattle.text.proofs.Laws.{line_length}
use Rattle.rule_row.specs.Row.{in_range}
use Rattle.rule_row.specs.Written.{numbers_text, written_row}
use Rattle.rule_row.proofs.Laws.{numbers_below}
use Rattle.rule_file.specs.Written.{rule_text}
use Rattle.writing.proofs.Texts.{decimal_one}
use Rattle.writing.proofs.Lengths.{decimal_most, decimal_two_most}

numbers_most : (r : Row) → first_number r < 1000 → second_number r < 1000 → length (numbers_text r) ≤ 8
numbers_most (Constant k) a b = omega arith
numbers_most (Signal k s) a b = omega (arith, decimal_most s a)
numbers_most (Unary k x) a b = omega (arith, decimal_most x a)
numbers_most (Binary k x y) a b = rw length-append (omega (arith, decimal_most x a, decimal_most y b))

module _ (signals : ℕ) (few : signals ≤ 32) where
  row_most : (k : ℕ) (r : Row) → k < 1000 → in_range signals k r ≡ true → length (written_row r) ≤ 16
  row_most k r h e =
      let s = numbers_below signals k 1000 (omega arith) (omega arith) r e in
      rw length-append (omega (arith, word_short (place_of r) (kind_of_row r).0, numbers_most r s.0 s.1))

  rows_most : (rs : List Row) (k : ℕ) → k + length rs ≤ 1000 → EachAt (λ k r. in_range signals k r ≡ true) k rs → length (written_body 114 written_row k rs) ≤ 22 * length rs
  unfolding written_body
  rows_most [] k h ok = omega arith
  rows_most (r ∷ rs) k h ok =
      let a = rows_most rs (k + 1) (omega arith) ok.1 in
      let b = row_most k r (omega arith) ok.0 in
      let c = decimal_most k (omega arith) in
      omega (arith, line_length (114 ∷ decimal k) (written_row r) (written_body 114 written_row (k + 1) rs))

-- the three lines before the rows
header_most : (signals rows : ℕ) (body : List ℕ) → signals < 100 → rows < 1000
    → length (written_line (bytes "format") (decimal 1) (written_line (bytes "signals") (decimal signals) (written_line (bytes "rows") (decimal rows) body))) ≤ 29 + length body
header_most signals rows body hs hm =
    let rows_line : List ℕ = written_line (bytes "rows") (decimal rows) body in
    let signals_line : List ℕ = written_line (bytes "signals") (decimal signals) rows_line in
    let one : length (decimal 1) ≡ 1 = sym (ap length (decimal_one 1 (omega arith))) in
    let first = line_length (bytes "format") (decimal 1) signals_line in
    let second = line_length (bytes "signals") (decimal signals) rows_line in
    let third = line_length (bytes "rows") (decimal rows) body in
    omega (arith, decimal_two_most signals hs, decimal_most rows hm)

-- ROWS IN RANGE, as a rule file
pub text_most : (signals rows : ℕ) (rs : List Row) → signals ≤ 32 → rows < 1000 → length rs < 1000 → EachAt (λ k r. in_range signals k r ≡ true) 1 rs
    → length (rule_text signals rows rs) ≤ 29 + 22 * length rs
text_most signals rows rs few some most ok =
    let a = rows_most signals few rs 1 (omega arith) ok in
    let b = header_most signals rows (written_body 114 written_row 1 rs) (omega arith) some in
    omega arith
