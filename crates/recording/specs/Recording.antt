-- A recording: what is held of the cycles so far. Assumes nothing.
use Rattle.std.specs.Prelude.{ℕ, ◌+◌, ◌*◌, ◌/◌, ◌%◌, ◌<◌, Bool, false, List, [], ◌∷◌, ◌≡◌, length, get_or}
use Rattle.tables.specs.Bit.{lane_of, word_from}
use Rattle.tables.specs.Place.{tabulate}
use Rattle.tables.specs.declared.trace.Lane.{Lane}

-- the digit of cycle c and signal s, both counted from 0; none is 0
abbrev pub digit : List (List Bool) → ℕ → ℕ → Bool
digit cycles c s = get_or (get_or cycles c []) s false

-- "one digit 0 or 1 per signal, signal 1 first": a lane for each signal; at cycle c it has that signal's digit, and 0 where there is none
abbrev pub lanes_of : List (List Bool) → List Lane
lanes_of cycles = tabulate 32 (λ s. lane_of (λ c. digit cycles c s))

-- the same, as it grows: word 32 * b + s has the cycles from 64 * b on of signal s
unfoldable pub words_of : List (List Bool) → List ℕ
words_of cycles = tabulate 128 (λ i. word_from 64 (i / 32 * 64) (λ c. digit cycles c (i % 32)))

-- the words of so many cycles
pub record Recorded (words : List ℕ) (count : ℕ) : Type 0 where
  pub cycles : List (List Bool)
  pub number : length cycles ≡ count
  pub held : words ≡ words_of cycles

-- the words of so many cycles of so many signals each
pub record RecordedOf (words : List ℕ) (signals count : ℕ) : Type 0 where
  pub cycles : List (List Bool)
  pub number : length cycles ≡ count
  pub widths : (c : ℕ) → c < count → length (get_or cycles c []) ≡ signals
  pub held : words ≡ words_of cycles

-- the lane of each signal, from its four words
abbrev pub lane_from : List ℕ → ℕ → Lane
lane_from words s = record { words = get_or words s 0 ∷ get_or words (32 + s) 0 ∷ get_or words (64 + s) 0 ∷ get_or words (96 + s) 0 ∷ [] }

unfoldable pub lanes_from : List ℕ → List Lane
lanes_from words = tabulate 32 (lane_from words)
