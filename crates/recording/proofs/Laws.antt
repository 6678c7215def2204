-- What crates above cite of recordings. Assumes nothing.
use Prim.Native.Nat.{ℕ, ◌*◌, ◌/◌, ◌%◌, ◌^◌, ◌≤◌, ◌<◌}
use mathlib.Core.Path.{◌≡◌, refl, ap, ◌∙◌}
use mathlib.Core.Bool.{Bool, false}
use mathlib.Core.List.{List, [], ◌∷◌, ◌++◌}
use lib.ListN.{get_or, length, replicate, get_or-eq_default}
use lib.Seq.{get_or-append_seam}
use Rattle.tables.specs.Bit.{bit_at, lane_of, word_from}
use Rattle.tables.specs.declared.trace.Lane.{Lane}
use Rattle.tables.proofs.Bits.{bit_of_lane, word_below}
use Rattle.tables.proofs.Places.{get_d_tabulate, length_tabulate, snoc_other}
use Rattle.recording.specs.Recording.{digit, lanes_of, words_of, Recorded, lanes_from}
use Rattle.recording.proofs.Words.{lanes_of_words, lanes_none}

-- nothing is recorded in the words of no cycle
pub recorded_none : {words : List ℕ} → words ≡ words_of [] → Recorded words 0
recorded_none e = record { cycles = []; number = refl; held = e }

-- THE LANES OF WHAT WAS RECORDED ARE THOSE OF ITS CYCLES
pub lanes_recorded : {words : List ℕ} (cs : List (List Bool)) → words ≡ words_of cs → lanes_from words ≡ lanes_of cs
lanes_recorded cs e = ap lanes_from e ∙ lanes_of_words cs

-- the words of any cycles fit their places
module _ (cs : List (List Bool)) where
  abbrev word_at : ℕ → ℕ
  word_at i = word_from 64 (i / 32 * 64) (λ c. digit cs c (i % 32))

  pub words_length : length (words_of cs) ≡ 128
  unfolding words_of
  words_length = length_tabulate 128 0 word_at

  pub words_below : (i : ℕ) → i < 128 → get_or (words_of cs) i 0 < 2 ^ 64
  unfolding words_of
  words_below i h = rw (get_d_tabulate 128 word_at i 0 h) (word_below 64 (i / 32 * 64) (λ c. digit cs c (i % 32)))

-- and so many zeros are the lanes of no cycle
pub lanes_empty : lanes_of [] ≡ replicate 32 (record { words = replicate 4 0 })
lanes_empty = lanes_none

-- one cycle more: its digits are its own, and those of the others as they were
module _ (cs : List (List Bool)) (ds : List Bool) (s : ℕ) where
  pub digit_last : digit (cs ++ (ds ∷ [])) (length cs) s ≡ get_or ds s false
  digit_last = ap (λ xs. get_or xs s false) (get_or-append_seam cs ds [] [])

  pub digit_earlier : (c : ℕ) → (c ≡ length cs → ⊥) → digit (cs ++ (ds ∷ [])) c s ≡ digit cs c s
  digit_earlier c n = ap (λ xs. get_or xs s false) (snoc_other cs ds [] c n)

-- AND NOTHING ELSE: the bit of each cycle and signal is that digit, and 0 behind the last cycle and behind the last signal
module _ (cs : List (List Bool)) (s c : ℕ) where
  pub lane_digit : s < 32 → c < 256 → bit_at (get_or (lanes_of cs) s (record { words = [] })) c ≡ digit cs c s
  lane_digit h l = ap (λ (x : Lane). bit_at x c) (get_d_tabulate 32 (λ s. lane_of (λ c. digit cs c s)) s (record { words = [] }) h) ∙ bit_of_lane (λ c. digit cs c s) c l

  pub digit_behind : length cs ≤ c → digit cs c s ≡ false
  digit_behind h = ap (λ ds. get_or ds s false) (get_or-eq_default cs [] h)

  pub digit_beyond : length (get_or cs c []) ≤ s → digit cs c s ≡ false
  digit_beyond h = get_or-eq_default (get_or cs c []) false h
