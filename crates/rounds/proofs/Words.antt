-- The words that a round records, one cycle after the other, and the lanes from them. Assumes nothing.
use Prim.Native.Nat.{ℕ, suc, ◌+◌, ◌-◌, ◌*◌, ◌/◌, ◌%◌, ◌≤◌, ◌<◌}
use mathlib.Core.Path.{◌≡◌, refl, ap, ◌∙◌}
use mathlib.Core.Bool.{Bool, false, ◌&&◌}
use mathlib.Core.List.{List, [], ◌∷◌}
use native.Mathlib.Nat.{mod-eq_of_lt, lt_of_lt_of_le}
use native.Mathlib.Omega.{arith}
use native.Mathlib.Decide.{dec_lt, ℕ_discrete}
use lib.Dec.{ltb}
use lib.Pow.{pow_mono}
use lib.ListN.{length, get_or, set, replicate, length-set, length-replicate}
use lib.Seq.{get_or-set_same, get_or-set_other}
use borrow.Author.Tests.{lt-ltb}
use Rattle.tables.specs.Choice.{pick}
use Rattle.tables.specs.Place.{tabulate_from}
use Rattle.tables.specs.Bit.{word_from, lane_of}
use Rattle.tables.specs.declared.trace.Lane.{Lane}
use Rattle.tables.proofs.Bits.{word_below}
use Rattle.lanes.specs.Truth.{lane_in, Shows}
use Rattle.cycle_rows.specs.Cells.{row_cell}
use Rattle.rounds.specs.Rounds.{Columns}
use Rattle.rounds.specs.Recorded.{RecordedFrom}

-- a word with a bit more, below the others: the highest goes
abbrev pub with_lowest : ℕ → Bool → ℕ
with_lowest word on = pick on 1 0 + 2 * (word % 9223372036854775808)

-- ---- one cycle: the first k rows are put
pub record CycleTo (cells : List Bool) (before : List ℕ) (first k : ℕ) (words : List ℕ) : Type 0 where
  pub long : length words ≡ 512
  pub put : (i : ℕ) → i < k → get_or words (first + i) 0 ≡ with_lowest (get_or before (first + i) 0) (get_or cells (32 + i) false)
  pub others : (j : ℕ) → ((i : ℕ) → i < k → j ≡ first + i → ⊥) → get_or words j 0 ≡ get_or before j 0

pub cycle_start : {cells : List Bool} {before : List ℕ} {first : ℕ} → length before ≡ 512 → CycleTo cells before first 0 before
cycle_start l = record { long = l; put = λ i h. absurd (omega arith); others = λ j n. refl }

module _ {cells : List Bool} {before : List ℕ} {first k : ℕ} {words : List ℕ} (inv : CycleTo cells before first k words) where
  pub cycle_more : first + k < 512 → (word : ℕ) → word ≡ with_lowest (get_or words (first + k) 0) (get_or cells (32 + k) false)
      → CycleTo cells before first (k + 1) (set words (first + k) word)
  cycle_more h word e =
      record {
        long = length-set words (first + k) word ∙ inv.long;
        put = λ i m. by i m (ℕ_discrete i k);
        others = λ j n. get_or-set_other words (first + k) j word 0 (λ q. n k (omega arith) q) ∙ inv.others j (λ i m. n i (omega arith));
      }
    where
      was : get_or words (first + k) 0 ≡ get_or before (first + k) 0
      was = inv.others (first + k) (λ i m q. omega arith)

      by : (i : ℕ) → i < k + 1 → Dec (i ≡ k) → get_or (set words (first + k) word) (first + i) 0 ≡ with_lowest (get_or before (first + i) 0) (get_or cells (32 + i) false)
      by i m (yes q) = rw q (get_or-set_same words (first + k) word 0 (omega (arith, inv.long)) ∙ e ∙ ap (λ x. with_lowest x (get_or cells (32 + k) false)) was)
      by i m (no q) = get_or-set_other words (first + k) (first + i) word 0 (λ r. q (omega arith)) ∙ inv.put i (omega arith)

-- a word of at most 63 cycles gets the cycle before them
word_lowest : (m k : ℕ) (f : ℕ → Bool) → m < 64 → with_lowest (word_from m (suc k) f) (f k) ≡ word_from (suc m) k f
unfolding word_from
word_lowest m k f h =
    let room : word_from m (suc k) f < 9223372036854775808 = lt_of_lt_of_le (word_below m (suc k) f) (pow_mono {i = m} {j = 63} (omega arith)) in
    rw (mod-eq_of_lt room)

-- word w with the cycles from `from` on
abbrev word_at : ℕ → ℕ → (ℕ → Bool) → ℕ
word_at from w f = word_from (64 - (from - 64 * w)) (64 * w + (from - 64 * w)) f

-- the word in which a cycle stands gets it
word_more : (cycle w : ℕ) (f : ℕ → Bool) → w ≡ cycle / 64 → with_lowest (word_at (suc cycle) w f) (f cycle) ≡ word_at cycle w f
word_more cycle w f q =
    let a : 64 * w + (suc cycle - 64 * w) ≡ suc cycle = omega arith in
    let b : 64 * w + (cycle - 64 * w) ≡ cycle = omega arith in
    let c : 64 - (cycle - 64 * w) ≡ suc (64 - (suc cycle - 64 * w)) = omega arith in
    rw (a, b, c) (word_lowest (64 - (suc cycle - 64 * w)) cycle f (omega arith))

-- those before it have no cycle yet, those behind it have all of theirs
word_stays : (cycle w : ℕ) (f : ℕ → Bool) → (w ≡ cycle / 64 → ⊥) → word_at (suc cycle) w f ≡ word_at cycle w f
unfolding word_from
word_stays cycle w f n = by (dec_lt w (cycle / 64))
  where
    by : Dec (w < cycle / 64) → word_at (suc cycle) w f ≡ word_at cycle w f
    by (yes h) =
        let a : 64 - (suc cycle - 64 * w) ≡ 0 = omega arith in
        let b : 64 - (cycle - 64 * w) ≡ 0 = omega arith in
        rw (a, b)
    by (no h) =
        let a : suc cycle - 64 * w ≡ 0 = omega arith in
        let b : cycle - 64 * w ≡ 0 = omega arith in
        rw (a, b)

-- all rows are put: the words have one cycle more
module _ (rows cycle : ℕ) (cells : List Bool) (before words : List ℕ) {k : ℕ} (inv : CycleTo cells before (cycle / 64 * 128) k words) (all : rows ≤ k) (most : k ≤ 128) where
  pub cycle_end : (n : ℕ) (columns : Columns) → cycle < n → RecordedFrom rows n (suc cycle) before columns
      → ((k : ℕ) → k < rows → columns cycle (suc k) ≡ row_cell cells (suc k)) → RecordedFrom rows n cycle words columns
  cycle_end n columns h done same k w l v = by (ℕ_discrete w (cycle / 64))
    where
      lowest : ltb cycle n && columns cycle (suc k) ≡ get_or cells (32 + k) false
      lowest = let e : 31 + suc k ≡ 32 + k = omega arith in rw (lt-ltb cycle n h, same k l, e)

      by : Dec (w ≡ cycle / 64) → get_or words (128 * w + k) 0 ≡ word_at cycle w (λ c. ltb c n && columns c (suc k))
      by (yes q) =
          let e : 128 * w + k ≡ cycle / 64 * 128 + k = omega arith in
          let was : get_or before (cycle / 64 * 128 + k) 0 ≡ word_at (suc cycle) w (λ c. ltb c n && columns c (suc k)) = rw e at (done k w l v) in
          let is : get_or words (cycle / 64 * 128 + k) 0 ≡ with_lowest (get_or before (cycle / 64 * 128 + k) 0) (get_or cells (32 + k) false) = inv.put k (omega arith) in
          rw (e, is, was, ← lowest) (word_more cycle w (λ c. ltb c n && columns c (suc k)) q)
      by (no q) =
          inv.others (128 * w + k) (λ i m e. q (omega arith)) ∙ done k w l v ∙ word_stays cycle w (λ c. ltb c n && columns c (suc k)) q

-- ---- the lanes
abbrev pub lane_from : List ℕ → ℕ → Lane
lane_from words k = record { words = get_or words k 0 ∷ get_or words (128 + k) 0 ∷ get_or words (256 + k) 0 ∷ get_or words (384 + k) 0 ∷ [] }

-- the first k are made
pub record LanesTo (words : List ℕ) (k : ℕ) (lanes : List Lane) : Type 0 where
  pub long : length lanes ≡ 128
  pub made : (i : ℕ) → i < k → lane_in lanes i ≡ lane_from words i

pub lanes_start : {words : List ℕ} → LanesTo words 0 (replicate 128 (record { words = replicate 4 0 }))
lanes_start = record { long = length-replicate {A = Lane} 128 (record { words = replicate 4 0 }); made = λ i h. absurd (omega arith) }

module _ {words : List ℕ} {k : ℕ} {lanes : List Lane} (inv : LanesTo words k lanes) where
  pub lanes_more : k < 128 → LanesTo words (k + 1) (set lanes k (lane_from words k))
  lanes_more h = record { long = length-set lanes k (lane_from words k) ∙ inv.long; made = λ i l. by i l (ℕ_discrete i k) }
    where
      by : (i : ℕ) → i < k + 1 → Dec (i ≡ k) → lane_in (set lanes k (lane_from words k)) i ≡ lane_from words i
      by i l (yes e) = rw e (get_or-set_same lanes k (lane_from words k) (record { words = [] }) (omega (arith, inv.long)))
      by i l (no n) = get_or-set_other lanes k i (lane_from words k) (record { words = [] }) n ∙ inv.made i (omega arith)

  pub lanes_end : 128 ≤ k → (rows n : ℕ) (columns : Columns) → rows ≤ 128 → RecordedFrom rows n 0 words columns
      → (j : ℕ) → j < rows → Shows n (lane_in lanes j) (λ c. columns c (suc j))
  unfolding lane_of tabulate_from
  lanes_end h rows n columns most done j l =
      let a = word 0 j (omega arith) (omega arith) in
      let b = word 1 (128 + j) (omega arith) (omega arith) in
      let c = word 2 (256 + j) (omega arith) (omega arith) in
      let d = word 3 (384 + j) (omega arith) (omega arith) in
      inv.made j (omega arith) ∙ ap (λ ws. record { words = ws }) (cc)
    where
      word : (w p : ℕ) → w < 4 → p ≡ 128 * w + j → get_or words p 0 ≡ word_from 64 (w * 64) (λ i. ltb i n && columns i (suc j))
      word w p v e =
          let a : 0 - 64 * w ≡ 0 = omega arith in
          let b : 64 * w + 0 ≡ w * 64 = omega arith in
          let x = done j w l v in
          rw e (rw (a, b) at x)
