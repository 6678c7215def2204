-- Lanes: one bit for each cycle, 64 to a word. Assumes nothing.
use Rattle.std.specs.Prelude.{ℕ, zero, suc, ◌+◌, ◌*◌, ◌/◌, ◌%◌, ◌^◌, Bool, eqb, get_or, set}
use Rattle.tables.specs.Choice.{pick}
use Rattle.tables.specs.Place.{tabulate}
use Rattle.tables.specs.declared.trace.Lane.{Lane}

-- what a lane is at cycle c: bit c % 64 of word c / 64
unfoldable pub bit_at : Lane → ℕ → Bool
bit_at l c = eqb (get_or l.words (c / 64) 0 / 2 ^ (c % 64) % 2) 1

-- the number whose bit i is f (k + i), for i below n
unfoldable pub word_from : ℕ → ℕ → (ℕ → Bool) → ℕ
word_from zero k f = 0
word_from (suc n) k f = pick (f k) 1 0 + 2 * word_from n (suc k) f

-- the lane that is f at each cycle below 256
unfoldable pub lane_of : (ℕ → Bool) → Lane
lane_of f = record { words = tabulate 4 (λ i. word_from 64 (i * 64) f) }

-- the lane with one bit more, at a cycle where it had none
unfoldable pub marked : Lane → ℕ → Lane
marked l c = record { words = set l.words (c / 64) (get_or l.words (c / 64) 0 + 2 ^ (c % 64)) }
