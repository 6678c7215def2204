-- The lanes of the rows: word by word, each digit by digit. Assumes nothing.
use mathlib.Core.Path.{◌≡◌, refl, sym, ap, ◌∙◌}
use mathlib.Core.Bool.{Bool, false}
use mathlib.Core.List.{List, [], ◌∷◌, ◌++◌}
use Prim.Native.Nat.{ℕ, zero, suc, ◌+◌, ◌*◌, ◌-◌, ◌^◌, ◌≤◌, ◌<◌}
use native.Mathlib.Nat.{pow-suc, zero-add}
use native.Mathlib.Omega.{arith}
use lib.Dec.{eqb}
use lib.Pow.{pow_mono}
use lib.ListN.{length, get_or, take, drop, replicate, length-append, length-drop, length-map, get_or-eq_default, get_or-map}
use Rattle.std.specs.List.{slice_range}
use lib.Seq.{length-take-le, get_or-append_seam, get_or-take, get_or-drop, take-append_seam, take-take}
use Rattle.tables.specs.Choice.{pick}
use Rattle.tables.specs.Place.{tabulate_from, placed}
use Rattle.tables.specs.Bit.{word_from, lane_of}
use Rattle.tables.proofs.Places.{tabulate_ext, replicate_tabulate}
use Rattle.tables.proofs.Bits.{digit}
use Rattle.tables.proofs.Marks.{lane_none}
use Rattle.text.specs.Digits.{digits_in}
use Rattle.sheet_file.specs.Sheet.{row_lane}

-- ---- a word, from its last digit down: it has all but the first `left`
pub record WordAt (f : ℕ → Bool) (from count left word : ℕ) : Type 0 where
  pub within : left ≤ count
  pub goes : word ≡ word_from (count - left) (from + left) f

word_below : (n k : ℕ) (f : ℕ → Bool) → word_from n k f < 2 ^ n
unfolding word_from
word_below zero k f = omega arith
word_below (suc n) k f = rw pow-suc (omega (arith, word_below n (suc k) f, digit (f k)))

pub word_start : {f : ℕ → Bool} {from count : ℕ} → WordAt f from count count 0
unfolding word_from
word_start {f} {from} {count} = let z : count - count ≡ 0 = omega arith in record { within = omega arith; goes = rw z }

module _ {f : ℕ → Bool} {from count left word : ℕ} (inv : WordAt f from count left word) (h : 0 < left) where
  pub word_room : count ≤ 64 → word * 2 + 1 < 2 ^ 64
  word_room l =
      let a : word < 2 ^ (count - left) = rw inv.goes (word_below (count - left) (from + left) f) in
      let b : 2 ^ (count - left) ≤ 2 ^ 63 = pow_mono {j = 63} (omega (arith, inv.within)) in
      omega arith

  word_more : {b : ℕ} → b ≡ pick (f (from + (left - 1))) 1 0 → WordAt f from count (left - 1) (word * 2 + b)
  unfolding word_from
  word_more {b} e =
      let n : count - (left - 1) ≡ suc (count - left) = omega (arith, inv.within) in
      let k : from + left ≡ suc (from + (left - 1)) = omega arith in
      let w : word ≡ word_from (count - left) (suc (from + (left - 1))) f = rw k at inv.goes in
      record { within = omega (arith, inv.within); goes = rw (n, ← w, ← e) (omega arith) }

pub word_end : {f : ℕ → Bool} {from count left word : ℕ} → WordAt f from count left word → left ≤ 0 → word ≡ word_from count from f
word_end {from = from} {count = count} {left = left} inv h =
    let z : left ≡ 0 = omega arith in
    let n : count - 0 ≡ count = omega arith in
    let k : from + 0 ≡ from = omega arith in
    rw (z, n, k) at inv.goes

-- the digits that the code has not read yet, and the word of those behind them
pub record DigitsLeft (value : List ℕ) (from count : ℕ) (rest : List ℕ) (word : ℕ) : Type 0 where
  pub front : rest ≡ take (length rest) (drop from value)
  pub word_at : WordAt (λ c. get_or (digits_in value) c false) from count (length rest) word

pub digits_start : (value : List ℕ) (from count : ℕ) {rest : List ℕ} → from + count ≤ length value → rest ≡ slice_range value from (from + count)
    → DigitsLeft value from count rest 0
digits_start value from count {rest} h e =
    let n : from + count - from ≡ count = omega arith in
    let r : rest ≡ take count (drop from value) = rw n at e in
    let l : length rest ≡ count = ap length r ∙ length-take-le count (drop from value) (omega (arith, length-drop from value)) in
    record { front = rw l r; word_at = rw l word_start }

module _ {value : List ℕ} {from count : ℕ} {rest : List ℕ} {word : ℕ} (inv : DigitsLeft value from count rest word) (next : List ℕ) (digit : ℕ) (e : rest ≡ next ++ (digit ∷ [])) where
  longer : length rest ≡ length next + 1
  longer = ap length e ∙ length-append next (digit ∷ [])

  pub digits_room : count ≤ 64 → word * 2 + 1 < 2 ^ 64
  digits_room l = word_room inv.word_at (omega (arith, longer)) l

  -- the last digit of the rest
  is : digit ≡ get_or value (from + length next) 0
  is =
      sym (get_or-append_seam next digit [] 0)
      ∙ (ap (λ r. get_or r (length next) 0) (sym e ∙ inv.front)
      ∙ (get_or-take (length rest) (drop from value) (length next) 0 (omega (arith, longer)) ∙ get_or-drop from value (length next) 0))

  pub digits_more : {b : ℕ} → b ≡ pick (eqb digit 49) 1 0 → DigitsLeft value from count next (word * 2 + b)
  digits_more {b} g =
      let one : length rest - 1 ≡ length next = omega (arith, longer) in
      record {
        front = sym (take-append_seam next (digit ∷ [])) ∙ (ap (take (length next)) (sym e ∙ inv.front) ∙ take-take (length next) (length rest) (drop from value) (omega (arith, longer)));
        word_at = rw one at (word_more inv.word_at (omega (arith, longer)) (g ∙ rw (one, is, get_or-map (λ d. eqb d 49) value (from + length next) 0)));
      }

pub digits_end : {value : List ℕ} {from count : ℕ} {rest : List ℕ} {word : ℕ} → DigitsLeft value from count rest word → length rest ≡ 0
    → word ≡ word_from count from (λ c. get_or (digits_in value) c false)
digits_end inv e = word_end inv.word_at (omega (arith, e))

-- ---- a word that is not full: behind the last digit there is none
word_none : (n k : ℕ) (f : ℕ → Bool) → ((i : ℕ) → k ≤ i → f i ≡ false) → word_from n k f ≡ 0
unfolding word_from
word_none zero k f e = refl
word_none (suc n) k f e = rw (e k (omega arith), word_none n (suc k) f (λ i h. e i (omega arith)))

word_short : (n m k : ℕ) (f : ℕ → Bool) → ((i : ℕ) → k + n ≤ i → f i ≡ false) → word_from n k f ≡ word_from (n + m) k f
unfolding word_from
word_short zero m k f e = sym (rw zero-add (word_none m k f (λ i h. e i (omega arith))))
word_short (suc n) m k f e =
    let s : suc n + m ≡ suc (n + m) = omega arith in
    rw (s, word_short n m (suc k) f (λ i h. e i (omega arith)))

module _ (value : List ℕ) where
  behind : (i : ℕ) → length value ≤ i → get_or (digits_in value) i false ≡ false
  behind i h = get_or-eq_default (digits_in value) false (rw length-map h)

  pub row_empty : (k : ℕ) → length value ≤ k → 0 ≡ word_from 64 k (λ c. get_or (digits_in value) c false)
  row_empty k h = sym (word_none 64 k (λ c. get_or (digits_in value) c false) (λ i l. behind i (omega arith)))

  pub row_part : (k : ℕ) → k ≤ length value → length value - k < 64
      → word_from (length value - k) k (λ c. get_or (digits_in value) c false) ≡ word_from 64 k (λ c. get_or (digits_in value) c false)
  row_part k h l =
      let e : length value - k + (64 - (length value - k)) ≡ 64 = omega arith in
      rw e at (word_short (length value - k) (64 - (length value - k)) k (λ c. get_or (digits_in value) c false) (λ i m. behind i (omega arith)))

-- the four words are the lane
pub row_lane_lem : (f : ℕ → Bool) {a b c d : ℕ} → a ≡ word_from 64 0 f → b ≡ word_from 64 64 f → c ≡ word_from 64 128 f → d ≡ word_from 64 192 f
    → record { words = a ∷ b ∷ c ∷ d ∷ [] } ≡ lane_of f
unfolding lane_of tabulate_from
row_lane_lem f p q r s = rw (p, q, r, s)

-- ---- the lanes that the code begins with are those of no row
pub rows_none : placed 128 row_lane [] [] ≡ replicate 128 (record { words = replicate 4 0 })
rows_none = tabulate_ext 128 (λ i. lane_of (λ c. false)) (λ i. record { words = replicate 4 0 }) (λ i h. lane_none) ∙ sym (replicate_tabulate 128 0 (record { words = replicate 4 0 }))
