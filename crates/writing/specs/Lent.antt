-- What a function leaves in a buffer that is lent to it. Assumes nothing.
use Rattle.std.specs.Prelude.{ℕ, ◌+◌, ◌*◌, ◌/◌, min, ◌≡◌, List, ◌++◌, leb, length, take, drop}
use Rattle.tables.specs.Choice.{pick}

-- a text was put at `at`, and `end` is the place behind it; nothing else changed
pub record Wrote (before : List ℕ) (at : ℕ) (text after : List ℕ) (end : ℕ) : Type 0 where
  pub next : end ≡ at + length text
  pub front : take end after ≡ take at before ++ text
  pub rest : drop end after ≡ drop end before
  pub size : length after ≡ length before

-- "an output fills its own length and the bytes behind it stay" (demand 1); a buffer that is too short stays as it was
unfoldable pub overlaid : List ℕ → List ℕ → List ℕ
overlaid text buf = pick (leb (length text) (length buf)) (text ++ drop (length text) buf) buf

-- room that a number below 100,000 never exceeds: three places where it is below 1000, else five
abbrev pub number_room : ℕ → ℕ
number_room n = 3 + 2 * min 1 (n / 1000)
