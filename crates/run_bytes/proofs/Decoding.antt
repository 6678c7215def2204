-- A word and a row from their bytes. Assumes nothing.
use mathlib.Core.Path.{◌≡◌, refl, sym, ap, ◌∙◌}
use mathlib.Core.List.{List}
use Prim.Native.Nat.{ℕ, ◌+◌, ◌*◌, ◌/◌, ◌%◌, ◌^◌, ◌<◌}
use native.Mathlib.Nat.{div-div-eq-div-mul}
use native.Mathlib.Omega.{arith}
use lib.ListN.{get_or}
use Rattle.tables.specs.Kind.{kinds, kind_count, no_kind, kind_at, place_of, first_number, second_number, with_numbers}
use Rattle.tables.specs.declared.kind.Kind.{Kind}
use Rattle.tables.specs.declared.row.Row.{Row}
use Rattle.tables.specs.declared.row.RowPlace.{RowPlace}
use Rattle.tables.specs.declared.run.Run.{Run}
use Rattle.tables.proofs.KindTable.{kind_of_row, numbers_again, numbers_own}
use Rattle.run_bytes.specs.Bytes.{run_bytes, word_byte, row_byte, row_of, tail_byte}
use Rattle.run_bytes.proofs.Positions.{byte_at, byte_word, byte_row, byte_tail}

-- a word is the sum of its bytes
pub by_bytes : (w b0 b1 b2 b3 b4 b5 b6 b7 q1 q2 q3 q4 q5 q6 q7 : ℕ) → w ≡ b0 + 256 * q1 → q1 ≡ b1 + 256 * q2 → q2 ≡ b2 + 256 * q3 → q3 ≡ b3 + 256 * q4 → q4 ≡ b4 + 256 * q5
    → q5 ≡ b5 + 256 * q6 → q6 ≡ b6 + 256 * q7 → q7 ≡ b7
    → b0 + 256 * b1 + 65536 * b2 + 16777216 * b3 + 4294967296 * b4 + 1099511627776 * b5 + 281474976710656 * b6 + 72057594037927936 * b7 ≡ w
by_bytes w b0 b1 b2 b3 b4 b5 b6 b7 q1 q2 q3 q4 q5 q6 q7 e0 e1 e2 e3 e4 e5 e6 e7 = omega arith

low : (v : ℕ) → v ≡ v % 256 + 256 * (v / 256)
low v = omega arith

low_at : (w m : ℕ) → w / m ≡ w / m % 256 + 256 * (w / (m * 256))
low_at w m = low (w / m) ∙ ap (λ q. w / m % 256 + 256 * q) (div-div-eq-div-mul w m 256)

highest : (w : ℕ) → w < 2 ^ 64 → w / 72057594037927936 ≡ w / 72057594037927936 % 256
highest w h = omega arith

-- bytes that are those of a word give that word
module _ (bytes : List ℕ) (at w : ℕ) (h : w < 2 ^ 64) (e : (j : ℕ) → j < 8 → get_or bytes (at + j) 0 ≡ word_byte w j) where
  byte_is : {b : ℕ} (j m : ℕ) → j < 8 → 256 ^ j ≡ m → b ≡ get_or bytes (at + j) 0 → w / m ≡ b + 256 * (w / (m * 256))
  byte_is j m l p q = rw (q, e j l, p) (low_at w m)

  pub word_again : {b0 b1 b2 b3 b4 b5 b6 b7 : ℕ} → b0 ≡ get_or bytes at 0 → b1 ≡ get_or bytes (at + 1) 0 → b2 ≡ get_or bytes (at + 2) 0 → b3 ≡ get_or bytes (at + 3) 0
      → b4 ≡ get_or bytes (at + 4) 0 → b5 ≡ get_or bytes (at + 5) 0 → b6 ≡ get_or bytes (at + 6) 0 → b7 ≡ get_or bytes (at + 7) 0
      → b0 + 256 * b1 + 65536 * b2 + 16777216 * b3 + 4294967296 * b4 + 1099511627776 * b5 + 281474976710656 * b6 + 72057594037927936 * b7 ≡ w
  word_again {b0} {b1} {b2} {b3} {b4} {b5} {b6} {b7} p0 p1 p2 p3 p4 p5 p6 p7 =
      let s : get_or bytes (at + 0) 0 ≡ get_or bytes at 0 = ap (λ i. get_or bytes i 0) (omega arith) in
      let first : w ≡ b0 + 256 * (w / 256) = omega (arith, byte_is 0 1 (omega arith) refl (p0 ∙ sym s)) in
      by_bytes w b0 b1 b2 b3 b4 b5 b6 b7 _ _ _ _ _ _ _ first
      (byte_is 1 256 (omega arith) refl p1)
      (byte_is 2 65536 (omega arith) refl p2)
      (byte_is 3 16777216 (omega arith) refl p3)
      (byte_is 4 4294967296 (omega arith) refl p4)
      (byte_is 5 1099511627776 (omega arith) refl p5)
      (byte_is 6 281474976710656 (omega arith) refl p6)
      (highest w h ∙ sym (p7 ∙ e 7 (omega arith)))

-- the bytes of a row give that row
pub row_again : {kinds' : List Kind} (row : Row) {made : Row} {byte place a b : ℕ} → kinds' ≡ kinds → byte ≡ place_of row → (byte < kind_count → place ≡ byte)
    → made ≡ with_numbers (get_or kinds' place no_kind).row a b → a ≡ first_number row → b ≡ second_number row → made ≡ row
unfolding kind_at
row_again row {made} {byte} {place} {a} {b} t p same m q r =
    let k = kind_of_row row in
    let at : place ≡ place_of row = same (omega (arith, k.0)) ∙ p in
    m ∙ rw (t, at, q, r, k.1, numbers_again) (numbers_own row)

-- ---- what stands in the bytes of a run
module _ (run : Run) {bytes : List ℕ} (e : bytes ≡ run_bytes run) where
  pub word_bytes : (i : ℕ) → i < 128 → (j : ℕ) → j < 8 → get_or bytes (8 * i + j) 0 ≡ word_byte (get_or run.words i 0) j
  word_bytes i h j l = byte_at run (8 * i + j) e (omega arith) ∙ byte_word run i j h l

  pub row_bytes : (k : ℕ) → k < 64 → (j : ℕ) → j < 3 → get_or bytes (1024 + 3 * k + j) 0 ≡ row_byte (row_of run k) j
  row_bytes k h j l = byte_at run (1024 + 3 * k + j) e (omega arith) ∙ byte_row run k j h l

  pub tail_bytes : (j : ℕ) → j < 4 → get_or bytes (1216 + j) 0 ≡ tail_byte run j
  tail_bytes j l = byte_at run (1216 + j) e (omega arith) ∙ byte_tail run j

  pub run_again : {words : List ℕ} {places : List RowPlace} {cycles : ℕ} → words ≡ run.words → places ≡ run.formula.places → cycles ≡ get_or bytes 1218 0 + 256 * get_or bytes 1219 0
      → ◌≡◌ {A = Run} (record { formula = record { signals = get_or bytes 1216 0; rows = get_or bytes 1217 0; places = places }; cycles = cycles; words = words }) run
  run_again {words} {places} {cycles} w p c =
      let signals : get_or bytes 1216 0 ≡ run.formula.signals = tail_bytes 0 (omega arith) in
      let rows : get_or bytes 1217 0 ≡ run.formula.rows = tail_bytes 1 (omega arith) in
      let count : cycles ≡ run.cycles = omega (arith, tail_bytes 2 (omega arith), tail_bytes 3 (omega arith)) in
      rw (w, p, count, signals, rows)
