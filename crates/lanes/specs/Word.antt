-- Words of bits as functions from cycles to Bools. Assumes nothing.
use Rattle.std.specs.Prelude.{ℕ, ◌≤◌, ◌<◌, ◌≡◌, Bool, false, length, get_or}
use Rattle.tables.specs.declared.trace.Lane.{Lane}

-- nothing is on from cycle e on
abbrev pub Ends : ℕ → (ℕ → Bool) → Type 0
Ends e f = (j : ℕ) → e ≤ j → f j ≡ false

-- a lane whose words come each from those of two others
abbrev pub WordByWord : (ℕ → ℕ → ℕ → Type 0) → Lane → Lane → Lane → Type 0
WordByWord From a b r = (length r.words ≡ 4) × ((i : ℕ) → i < 4 → From (get_or a.words i 0) (get_or b.words i 0) (get_or r.words i 0))
