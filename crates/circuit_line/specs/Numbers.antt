-- A line of numbers: "numbers as in our files but unpadded", with single spaces between them. Assumes nothing.
use Rattle.std.specs.Prelude.{ℕ, zero, suc, ◌+◌, ◌*◌, ◌≤◌, ◌<◌, ◌≡◌, List, [], ◌∷◌, length, get_or, take, drop}
use Rattle.tables.specs.Refusal.{numbered}
use Rattle.tables.specs.Choice.{pick}
use Rattle.text.specs.Search.{first_of, on_found}
use Rattle.text.specs.Number.{number_of, on_number}
use Rattle.text.specs.Result.{Parsed, Next, on_parsed}
use Rattle.text.specs.Result.Parsed.{good, bad}
use Rattle.circuit_line.specs.declared.numbers.Numbers.{Numbers}
use Rattle.circuit_line.specs.declared.numbers.LineRead.{LineRead}
use Rattle.circuit_line.specs.declared.numbers.LineRead.TheVariants.{Line, Wrong}

-- so many numbers; 32 is the space
unfoldable pub number_list : ℕ → List ℕ → Parsed (List ℕ)
number_list zero text = bad (numbered 2)
number_list (suc zero) text = on_number (number_of text) (bad (numbered 2)) λ x. good (x ∷ [])
number_list (suc (suc more)) text =
    on_found (first_of 32 text) (bad (numbered 2)) λ space.
    on_number (number_of (take space text)) (bad (numbered 2)) λ x.
    on_parsed (number_list (suc more) (drop (space + 1) text)) bad λ xs. good (x ∷ xs)

-- the first line of the bytes left, up to its line feed (byte 10), stands for something
unfoldable pub plain_line : {A : Type 0} → (List ℕ → Parsed A) → List ℕ → Parsed (Next A)
plain_line form rest =
    on_found (first_of 10 rest) (bad (numbered 2)) λ end.
    on_parsed (form (take end rest)) bad λ x. good (record { value = x; next = end + 1 })

-- what the code's answers say
abbrev pub numbers_as : ℕ → Numbers → Parsed (List ℕ)
numbers_as count r = pick r.right (good (take count r.values)) (bad (numbered 2))

abbrev pub line_as : ℕ → LineRead → Parsed (Next (List ℕ))
line_as count (Line a b c next) = good (record { value = take count (a ∷ b ∷ c ∷ []); next = next })
line_as count Wrong = bad (numbered 2)

-- and what is known of the numbers of a line that was read: 0 stands where the line has none, and each has a digit, and a space or the
-- line feed behind it
pub record Within (count : ℕ) (rest : List ℕ) (a b c next : ℕ) : Type 0 where
  pub literal : get_or (take count (a ∷ b ∷ c ∷ [])) 0 0 ≡ a
  pub first : get_or (take count (a ∷ b ∷ c ∷ [])) 1 0 ≡ b
  pub second : get_or (take count (a ∷ b ∷ c ∷ [])) 2 0 ≡ c
  pub small : (a < 100000) × (b < 100000) × (c < 100000)
  pub longer : 2 * count ≤ next
  pub inside : next ≤ length rest

abbrev pub LineWithin : ℕ → List ℕ → LineRead → Type 0
LineWithin count rest (Line a b c next) = Within count rest a b c next
LineWithin count rest Wrong = Unit {0}
