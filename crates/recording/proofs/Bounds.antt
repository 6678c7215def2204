-- Which words are those of so many cycles of so many signals: the bits that each word may have. Assumes nothing.
use mathlib.Core.Path.{◌≡◌, refl, sym, ap, ◌∙◌}
use mathlib.Core.Bool.{Bool, true, false}
use mathlib.Core.List.{List, []}
use mathlib.Core.Logic.{◌↔◌}
use Prim.Native.Nat.{ℕ, zero, suc, ◌+◌, ◌*◌, ◌-◌, ◌/◌, ◌%◌, ◌^◌, ◌≤◌, ◌<◌}
use native.Mathlib.Nat.{add-zero, pow-suc, pow-zero, div-one, div-div-eq-div-mul, div-eq_of_lt, lt_of_lt_of_le}
use native.Mathlib.Numerals.{add-one}
use native.Mathlib.Omega.{arith}
use native.Mathlib.Decide.{dec_lt, ℕ_discrete}
use lib.Bits.{bit_or, or_lt, or_add_and, and_le_l, and_le_r}
use lib.Dec.{eqb, ltb}
use lib.ListN.{length, get_or, take, drop}
use lib.Seq.{drop-cons}
use lib.Pow.{pow_pos, pow_mono}
use borrow.Author.Tests.{ltb-true, ltb-false}
use Rattle.std.specs.List.{fold, slice_range}
use Rattle.tables.specs.Choice.{pick}
use Rattle.tables.specs.Place.{tabulate}
use Rattle.tables.specs.Bit.{word_from}
use Rattle.tables.proofs.Places.{length_tabulate, tabulate_get_d, get_d_tabulate, tabulate_ext}
use Rattle.tables.proofs.Bits.{digit, word_ext}
use Rattle.recording.specs.Recording as recording
use Rattle.recording.specs.Recording.{words_of, RecordedOf}
use Rattle.recording.proofs.Laws.{digit_behind, digit_beyond}

-- ---- words and their bits

-- a word that has bits only for m cycles
word_short : (n k m : ℕ) (f : ℕ → Bool) → ((c : ℕ) → k + m ≤ c → f c ≡ false) → word_from n k f < 2 ^ m
unfolding word_from
word_short zero k m f e = pow_pos m
word_short (suc n) k zero f e =
    let z : f k ≡ false = e k (omega arith) in
    rw z (omega (arith, pow-zero 2, word_short n (suc k) zero f (λ c h. e c (omega arith))))
word_short (suc n) k (suc m) f e =
    rw pow-suc (omega (arith, digit (f k), word_short n (suc k) m f (λ c h. e c (omega arith))))

-- bit i of a word
abbrev bit_of : ℕ → ℕ → Bool
bit_of w i = eqb (w / 2 ^ i % 2) 1

-- a word is the word of its bits
word_whole : (n k w : ℕ) → w < 2 ^ n → word_from n k (λ c. bit_of w (c - k)) ≡ w
unfolding word_from
word_whole zero k w h = omega (arith, pow-zero 2)
word_whole (suc n) k w h =
    let half : w / 2 < 2 ^ n = omega (arith, pow-suc 2 n) in
    let none : k - k ≡ 0 = omega arith in
    rw (none, pow-zero, div-one, word_ext n (suc k) (λ c. bit_of w (c - k)) (λ c. bit_of (w / 2) (c - suc k)) later, word_whole n (suc k) (w / 2) half) (first (w % 2) (omega arith) refl)
  where
    first : (d : ℕ) → d < 2 → w % 2 ≡ d → pick (eqb d 1) 1 0 + 2 * (w / 2) ≡ w
    first zero l e = omega arith
    first (suc zero) l e = omega arith
    first (suc (suc d)) l e = absurd (omega arith)

    later : (c : ℕ) → suc k ≤ c → c < suc k + n → bit_of w (c - k) ≡ bit_of (w / 2) (c - suc k)
    later c a b =
        let q : c - k ≡ suc (c - suc k) = omega arith in
        let p : 2 ^ suc (c - suc k) ≡ 2 * 2 ^ (c - suc k) = omega (arith, pow-suc 2 (c - suc k)) in
        rw (q, p, ← div-div-eq-div-mul w 2 (2 ^ (c - suc k)))

bit_above : {w m : ℕ} (i : ℕ) → w < 2 ^ m → m ≤ i → bit_of w i ≡ false
bit_above {w} i h l = rw (div-eq_of_lt (lt_of_lt_of_le h (pow_mono l)))

-- ---- the words of a recording

-- how many bits word i may have: one for each cycle from its first on, and none behind the last signal
abbrev pub room : ℕ → ℕ → ℕ → ℕ
room signals count i = pick (ltb (i % 32) signals) (count - i / 32 * 64) 0

-- no word has another bit
module _ {words : List ℕ} {signals count : ℕ} (r : RecordedOf words signals count) where
  none_behind : (i : ℕ) (t : Bool) → ltb (i % 32) signals ≡ t → (c : ℕ) → i / 32 * 64 + pick t (count - i / 32 * 64) 0 ≤ c
      → recording.digit r.cycles c (i % 32) ≡ false
  none_behind i true q c h = digit_behind r.cycles (i % 32) c (omega (arith, r.number))
  none_behind i false q c h = by (dec_lt c count)
    where
      by : Dec (c < count) → recording.digit r.cycles c (i % 32) ≡ false
      by (yes l) = digit_beyond r.cycles (i % 32) c (omega (arith, r.widths c l, ltb-false (i % 32) signals q))
      by (no l) = digit_behind r.cycles (i % 32) c (omega (arith, r.number))

  pub recorded_fits : (i : ℕ) → i < 128 → get_or words i 0 < 2 ^ room signals count i
  unfolding words_of
  recorded_fits i h =
      rw (r.held, get_d_tabulate 128 (λ i. word_from 64 (i / 32 * 64) (λ c. recording.digit r.cycles c (i % 32))) i 0 h)
      (word_short 64 (i / 32 * 64) (room signals count i) (λ c. recording.digit r.cycles c (i % 32)) (none_behind i (ltb (i % 32) signals) refl))

-- what words hold of so many cycles of so many signals
abbrev cycle_in : List ℕ → ℕ → ℕ → List Bool
cycle_in words signals c = tabulate signals (λ s. bit_of (get_or words (c / 64 * 32 + s) 0) (c % 64))

abbrev cycles_in : List ℕ → ℕ → ℕ → List (List Bool)
cycles_in words signals count = tabulate count (cycle_in words signals)

-- where no word has another bit, the words are those of these cycles
module _ (words : List ℕ) (signals count : ℕ) (fits : (i : ℕ) → i < 128 → get_or words i 0 < 2 ^ room signals count i) where
  number_in : length (cycles_in words signals count) ≡ count
  number_in = length_tabulate count 0 (cycle_in words signals)

  cycle_in_lem : (c : ℕ) → c < count → get_or (cycles_in words signals count) c [] ≡ cycle_in words signals c
  cycle_in_lem c h = get_d_tabulate count (cycle_in words signals) c [] h

  width_in : (c : ℕ) → c < count → length (get_or (cycles_in words signals count) c []) ≡ signals
  width_in c h = ap length (cycle_in_lem c h) ∙ length_tabulate signals 0 _

  module _ (i c : ℕ) (h : i < 128) (from : i / 32 * 64 ≤ c) (to : c < i / 32 * 64 + 64) where
    behind : count ≤ c → (t : Bool) → get_or words i 0 < 2 ^ pick t (count - i / 32 * 64) 0 → bit_of (get_or words i 0) (c - i / 32 * 64) ≡ false
    behind l true f = bit_above (c - i / 32 * 64) f (omega arith)
    behind l false f = bit_above {m = 0} (c - i / 32 * 64) f (omega arith)

    within : c < count → (t : Bool) → ltb (i % 32) signals ≡ t → get_or words i 0 < 2 ^ pick t (count - i / 32 * 64) 0
        → recording.digit (cycles_in words signals count) c (i % 32) ≡ bit_of (get_or words i 0) (c - i / 32 * 64)
    within l true q f =
        let place : c / 64 * 32 + i % 32 ≡ i = omega arith in
        let bit : c % 64 ≡ c - i / 32 * 64 = omega arith in
        ap (λ ds. get_or ds (i % 32) false) (cycle_in_lem c l)
        ∙ (get_d_tabulate signals (λ s. bit_of (get_or words (c / 64 * 32 + s) 0) (c % 64)) (i % 32) false (ltb-true (i % 32) signals q) ∙ rw (place, bit))
    within l false q f =
        digit_beyond (cycles_in words signals count) (i % 32) c (omega (arith, width_in c l, ltb-false (i % 32) signals q))
        ∙ sym (bit_above {m = 0} (c - i / 32 * 64) f (omega arith))

    digit_in : recording.digit (cycles_in words signals count) c (i % 32) ≡ bit_of (get_or words i 0) (c - i / 32 * 64)
    digit_in = by (dec_lt c count)
      where
        by : Dec (c < count) → recording.digit (cycles_in words signals count) c (i % 32) ≡ bit_of (get_or words i 0) (c - i / 32 * 64)
        by (yes l) = within l (ltb (i % 32) signals) refl (fits i h)
        by (no l) =
            digit_behind (cycles_in words signals count) (i % 32) c (omega (arith, number_in))
            ∙ sym (behind (omega arith) (ltb (i % 32) signals) (fits i h))

  pub recorded_in : length words ≡ 128 → ((i : ℕ) → i < 128 → get_or words i 0 < 2 ^ 64) → RecordedOf words signals count
  unfolding words_of
  recorded_in long narrow =
      record {
        cycles = cycles_in words signals count;
        number = number_in;
        widths = width_in;
        held = sym (tabulate_ext 128 (λ i. word_from 64 (i / 32 * 64) (λ c. recording.digit (cycles_in words signals count) c (i % 32))) (λ i. get_or words i 0) word ∙ tabulate_get_d words 128 0 long);
      }
    where
      word : (i : ℕ) → i < 128 → word_from 64 (i / 32 * 64) (λ c. recording.digit (cycles_in words signals count) c (i % 32)) ≡ get_or words i 0
      word i h =
          word_ext 64 (i / 32 * 64) (λ c. recording.digit (cycles_in words signals count) c (i % 32)) (λ c. bit_of (get_or words i 0) (c - i / 32 * 64)) (λ c a b. digit_in i c h a b)
          ∙ word_whole 64 (i / 32 * 64) (get_or words i 0) (narrow i h)

-- ---- the code: words taken together

-- what the contract of `union` says
abbrev pub UnionOf : List ℕ → ℕ → ℕ → ℕ → Type 0
UnionOf words from end bits = (n : ℕ) → (bits < 2 ^ n) ↔ ((i : ℕ) → from ≤ i → i < end → get_or words i 0 < 2 ^ n)

union_none : (words : List ℕ) (from : ℕ) → UnionOf words from from 0
union_none words from n = (λ h i a b. absurd (omega arith), λ h. pow_pos n)

union_more : (words : List ℕ) {from i bits : ℕ} → from ≤ i → UnionOf words from i bits → UnionOf words from (i + 1) (bit_or bits (get_or words i 0))
union_more words {from} {i} {bits} l u n =
    (λ h j a b. by h j a b (ℕ_discrete j i), λ h. or_lt n bits (get_or words i 0) ((u n).1 (λ j a b. h j a (omega arith))) (h i l (omega arith)))
  where
    by : bit_or bits (get_or words i 0) < 2 ^ n → (j : ℕ) → from ≤ j → j < i + 1 → Dec (j ≡ i) → get_or words j 0 < 2 ^ n
    by h j a b (yes e) = rw e (omega (arith, or_add_and bits (get_or words i 0), and_le_l bits (get_or words i 0)))
    by h j a b (no e) = (u n).0 (omega (arith, or_add_and bits (get_or words i 0), and_le_r bits (get_or words i 0))) j a (omega arith)

-- the words of a range, taken together one after the other
union_onto : (n : ℕ) (words : List ℕ) (from : ℕ) {low bits : ℕ} → low ≤ from → from + n ≤ length words → UnionOf words low from bits
    → UnionOf words low (from + n) (fold bit_or bits (take n (drop from words)))
union_onto zero words from l h u = rw add-zero u
union_onto (suc n) words from {low} {bits} l h u =
    let inside : from < length words = omega arith in
    let next : UnionOf words low (suc from) (bit_or bits (get_or words from 0)) = rw add-one at (union_more words l u) in
    let place : from + suc n ≡ suc from + n = omega arith in
    rw (drop-cons words from 0, place) (union_onto n words (suc from) (omega arith) (omega arith) next)

pub union_range : (words : List ℕ) (from end : ℕ) {bits : ℕ} → from ≤ end → end ≤ length words → bits ≡ fold bit_or 0 (slice_range words from end) → UnionOf words from end bits
union_range words from end l h e =
    let place : from + (end - from) ≡ end = omega arith in
    rw e (rw place at (union_onto (end - from) words from (omega arith) (omega arith) (union_none words from)))

-- block by block: the words below n have no other bit
abbrev pub FitBelow : List ℕ → ℕ → ℕ → ℕ → Type 0
FitBelow words signals count n = (i : ℕ) → i < n → (get_or words i 0 < 2 ^ 64) × (get_or words i 0 < 2 ^ room signals count i)

-- the words of a block have so many cycles left, and those from `low` on belong to no signal
module _ (words : List ℕ) (signals count block left : ℕ) where
  pub fit_more : {bits low beyond : ℕ} → FitBelow words signals count (32 * block)
      → UnionOf words (32 * block) (32 * block + 32) bits → bits < 2 ^ 64 → bits < 2 ^ left → left ≤ count - 64 * block
      → UnionOf words low (32 * block + 32) beyond → beyond ≡ 0 → low ≤ 32 * block + signals → FitBelow words signals count (32 * (block + 1))
  fit_more f u w h few v z none i l = by (dec_lt i (32 * block))
    where
      at : 32 * block ≤ i → (t : Bool) → ltb (i % 32) signals ≡ t → get_or words i 0 < 2 ^ pick t (count - i / 32 * 64) 0
      at a true q = lt_of_lt_of_le ((u left).0 h i a (omega arith)) (pow_mono (omega arith))
      at a false q = (v 0).0 (omega (arith, pow-zero 2)) i (omega (arith, ltb-false (i % 32) signals q)) (omega arith)

      by : Dec (i < 32 * block) → (get_or words i 0 < 2 ^ 64) × (get_or words i 0 < 2 ^ room signals count i)
      by (yes b) = f i b
      by (no b) = ((u 64).0 w i (omega arith) (omega arith), at (omega arith) (ltb (i % 32) signals) refl)

  module _ (r : RecordedOf words signals count) (b : block < 4) where
    pub recorded_cycles : {bits : ℕ} → UnionOf words (32 * block) (32 * block + 32) bits → count - 64 * block ≤ left → bits < 2 ^ left
    recorded_cycles u all = (u left).1 (λ i a l. at i a l (ltb (i % 32) signals) (recorded_fits r i (omega arith)))
      where
        at : (i : ℕ) → 32 * block ≤ i → i < 32 * block + 32 → (t : Bool) → get_or words i 0 < 2 ^ pick t (count - i / 32 * 64) 0 → get_or words i 0 < 2 ^ left
        at i a l true h = lt_of_lt_of_le h (pow_mono (omega arith))
        at i a l false h = lt_of_lt_of_le h (pow_mono {i = 0} {j = left} (omega arith))

    pub recorded_signals : {low bits : ℕ} → UnionOf words low (32 * block + 32) bits → 32 * block + signals ≤ low → bits ≡ 0
    recorded_signals {low} u all =
        omega (arith, pow-zero 2, (u 0).1 (λ i a l. at i a l (ltb (i % 32) signals) refl (recorded_fits r i (omega arith))))
      where
        at : (i : ℕ) → low ≤ i → i < 32 * block + 32 → (t : Bool) → ltb (i % 32) signals ≡ t → get_or words i 0 < 2 ^ pick t (count - i / 32 * 64) 0 → get_or words i 0 < 2 ^ 0
        at i a l true q h = absurd (omega (arith, ltb-true (i % 32) signals q))
        at i a l false q h = h

pub fit_all : (words : List ℕ) (signals count : ℕ) → length words ≡ 128 → FitBelow words signals count 128 → RecordedOf words signals count
fit_all words signals count long f = recorded_in words signals count (λ i h. (f i h).1) long (λ i h. (f i h).0)
