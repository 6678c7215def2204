-- Lanes that show a function at the cycles of a recording. Assumes nothing.
use Prim.Native.Nat.{ℕ, ◌≤◌, ◌<◌}
use mathlib.Core.Path.{◌≡◌, sym, ap, ◌∙◌}
use mathlib.Core.Bool.{Bool, ◌&&◌}
use native.Mathlib.Decide.{dec_lt}
use native.Mathlib.Omega.{arith}
use lib.Dec.{ltb}
use borrow.Author.Tests.{lt-ltb, le-ltb}
use Rattle.tables.specs.Bit.{bit_at, lane_of}
use Rattle.tables.specs.declared.trace.Lane.{Lane}
use Rattle.tables.proofs.Bits.{bit_of_lane, lane_ext}
use Rattle.lanes.specs.Word.{Ends}
use Rattle.lanes.specs.Truth.{Shows}

-- f at the first n cycles alone
abbrev pub cut : ℕ → (ℕ → Bool) → ℕ → Bool
cut n f i = ltb i n && f i

pub cut_same : (n : ℕ) (f : ℕ → Bool) (i : ℕ) → i < n → cut n f i ≡ f i
cut_same n f i h = ap (λ b. b && f i) (lt-ltb i n h)

pub cut_ends : (n : ℕ) (f : ℕ → Bool) → Ends n (cut n f)
cut_ends n f i h = ap (λ b. b && f i) (le-ltb i n h)

-- lanes show alike what is alike at their cycles
pub shows_alike : (n : ℕ) (f g : ℕ → Bool) → ((i : ℕ) → i < n → f i ≡ g i) → lane_of (cut n f) ≡ lane_of (cut n g)
shows_alike n f g e = lane_ext _ _ (λ i h. by i (dec_lt i n))
  where
    by : (i : ℕ) → Dec (i < n) → cut n f i ≡ cut n g i
    by i (yes h) = cut_same n f i h ∙ e i h ∙ sym (cut_same n g i h)
    by i (no h) = cut_ends n f i (omega arith) ∙ sym (cut_ends n g i (omega arith))

-- a lane is at each of its cycles what it shows
pub shown_bit : (n : ℕ) (lane : Lane) (f : ℕ → Bool) → n ≤ 256 → Shows n lane f → (i : ℕ) → i < n → bit_at lane i ≡ f i
shown_bit n lane f most s i h = ap (λ (x : Lane). bit_at x i) s ∙ bit_of_lane (cut n f) i (omega arith) ∙ cut_same n f i h
