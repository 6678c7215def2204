-- One signal's lane, written cycle by cycle. A cycle behind the recording's is as that one round of the loop before (bit-before): it is set
-- where that is set (set-shows), and left where that is not (left-shows). Assumes nothing.
use Prim.Native.Nat.{ℕ, suc, ◌+◌, ◌-◌, ◌/◌, ◌%◌, ◌^◌, ◌≤◌, ◌<◌}
use mathlib.Core.Path.{◌≡◌, refl, sym, ap, subst⁻¹, ◌∙◌}
use mathlib.Core.Bool.{Bool, true, false, ◌&&◌}
use native.Mathlib.Decide.{dec_lt, ℕ_discrete}
use native.Mathlib.Omega.{arith}
use lib.Dec.{ltb}
use lib.ListN.{get_or}
use borrow.Author.Tests.{lt-ltb, le-ltb}
use Rattle.tables.specs.Bit.{bit_at, lane_of, marked}
use Rattle.tables.specs.declared.trace.Lane.{Lane}
use Rattle.tables.proofs.Bits.{OneMore, bit_of_lane, lane_ext, mark_room, lane_marked}
use Rattle.meaning.specs.Trace.{position}
use Rattle.meaning.proofs.Periodic.{position_first, position_below, position_periodic}
use Rattle.lanes.specs.Truth.{Shows}
use Rattle.lanes.proofs.Shown.{cut, cut_same, cut_ends, shows_alike, shown_bit}

-- the cycles of a lasso of n cycles with its loop at l, by the lane that it repeats
abbrev pub repeated : ℕ → ℕ → Lane → ℕ → Bool
repeated n l lane i = bit_at lane (position n l i)

-- a cycle more: those below it are as they were
cut_other : (c : ℕ) (f : ℕ → Bool) (i : ℕ) → (i ≡ c → ⊥) → cut (suc c) f i ≡ cut c f i
cut_other c f i n = by (dec_lt i c)
  where
    by : Dec (i < c) → cut (suc c) f i ≡ cut c f i
    by (yes h) = cut_same (suc c) f i (omega arith) ∙ sym (cut_same c f i h)
    by (no h) = let g : suc c ≤ i = omega (arith, n) in cut_ends (suc c) f i g ∙ sym (cut_ends c f i (omega arith))

-- the cycle is set, or left
pub cut_set : (c : ℕ) (f : ℕ → Bool) → f c ≡ true → OneMore (cut c f) (cut (suc c) f) c
cut_set c f e = record { was = cut_ends c f c (omega arith); is = cut_same (suc c) f c (omega arith) ∙ e; other = cut_other c f }

pub cut_left : (c : ℕ) (f : ℕ → Bool) → f c ≡ false → lane_of (cut c f) ≡ lane_of (cut (suc c) f)
cut_left c f e = lane_ext _ _ (λ i h. by i (ℕ_discrete i c))
  where
    by : (i : ℕ) → Dec (i ≡ c) → cut c f i ≡ cut (suc c) f i
    by i (yes q) = cut_ends c f i (omega arith) ∙ sym (cut_same (suc c) f i (omega arith) ∙ ap f q ∙ e)
    by i (no q) = sym (cut_other c f i q)

and_true : (a b : Bool) → b ≡ true → a && b ≡ a
and_true true b e = e
and_true false b e = refl

and_false : (a b : Bool) → b ≡ false → a && b ≡ false
and_false true b e = e
and_false false b e = refl

module _ (n l : ℕ) (l<n : l < n) (most : n ≤ 256) where
  module _ (lane first : Lane) (masked : first ≡ lane_of (λ i. bit_at lane i && ltb i n)) where
    -- the recording's own cycles
    pub own_bit : (i : ℕ) → i < n → bit_at first i ≡ bit_at lane i
    own_bit i h =
        ap (λ (x : Lane). bit_at x i) masked ∙ bit_of_lane (λ j. bit_at lane j && ltb j n) i (omega arith) ∙ and_true (bit_at lane i) (ltb i n) (lt-ltb i n h)

    pub own_shows : Shows n first (repeated n l first)
    own_shows = masked ∙ lane_ext _ _ (λ i h. by i (dec_lt i n))
      where
        by : (i : ℕ) → Dec (i < n) → bit_at lane i && ltb i n ≡ cut n (repeated n l first) i
        by i (yes h) = and_true (bit_at lane i) (ltb i n) (lt-ltb i n h) ∙ sym (cut_same n (repeated n l first) i h ∙ ap (bit_at first) (position_first n l i h) ∙ own_bit i h)
        by i (no h) = and_false (bit_at lane i) (ltb i n) (le-ltb i n (omega arith)) ∙ sym (cut_ends n (repeated n l first) i (omega arith))

    -- the lane may be any behind them: only these are repeated
    pub lane_written : (last : ℕ) (out : Lane) → Shows last out (repeated n l first) → Shows last out (repeated n l lane)
    lane_written last out shows = shows ∙ shows_alike last (repeated n l first) (repeated n l lane) (λ i h. own_bit (position n l i) (position_below n l l<n i))

  module _ (first out : Lane) (c : ℕ) (from : n ≤ c) (h : c < 256) (shows : Shows c out (repeated n l first)) where
    -- a cycle behind them is as that one round before
    bit_before : bit_at out (c - (n - l)) ≡ repeated n l first c
    bit_before =
        let e : c - (n - l) + (n - l) ≡ c = omega arith in
        shown_bit c out (repeated n l first) (omega arith) shows (c - (n - l)) (omega arith)
        ∙ sym (ap (bit_at first) (position_periodic n l l<n (c - (n - l)) (omega arith)))
        ∙ ap (repeated n l first) e

    pub set_room : bit_at out (c - (n - l)) ≡ true → get_or out.words (c / 64) 0 + 2 ^ (c % 64) < 2 ^ 64
    set_room on = subst⁻¹ (λ (x : Lane). get_or x.words (c / 64) 0 + 2 ^ (c % 64) < 2 ^ 64) shows
        (mark_room (cut_set c (repeated n l first) (sym bit_before ∙ on)) h)

    pub set_shows : bit_at out (c - (n - l)) ≡ true → Shows (c + 1) (marked out c) (repeated n l first)
    set_shows on =
        let e : suc c ≡ c + 1 = omega arith in
        ap (λ (x : Lane). marked x c) shows ∙ lane_marked (cut_set c (repeated n l first) (sym bit_before ∙ on)) h
        ∙ ap (λ m. lane_of (cut m (repeated n l first))) e

    pub left_shows : bit_at out (c - (n - l)) ≡ false → Shows (c + 1) out (repeated n l first)
    left_shows off =
        let e : suc c ≡ c + 1 = omega arith in
        shows ∙ cut_left c (repeated n l first) (sym bit_before ∙ off) ∙ ap (λ m. lane_of (cut m (repeated n l first))) e
