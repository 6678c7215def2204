-- 01: "Each line is a key, `=`, a value, and one line feed (byte 10). The value is the part of the line behind its equals sign."
-- Assumes nothing.
use Rattle.std.specs.Prelude.{ℕ, ◌+◌, Bool, false, List, [], ◌∷◌, eqb, take}
use Rattle.tables.specs.Refusal.{numbered}
use Rattle.tables.specs.Choice.{pick}
use Rattle.tables.specs.Bytes.{same_bytes}
use Rattle.text.specs.Search.{first_of, on_found, part}
use Rattle.text.specs.Number.{number_of, on_number}
use Rattle.text.specs.Result.{Parsed, Next, on_parsed}
use Rattle.text.specs.Result.Parsed.{good, bad}
use Rattle.text.specs.declared.line.Cut.{Cut}
use Rattle.text.specs.declared.line.Cut.TheVariants.{Line, Absent}

-- where the equals sign (byte 61) and the line feed (byte 10) of the first line stand
unfoldable pub cut_of : List ℕ → Cut
cut_of rest =
    on_found (first_of 10 rest) Absent λ end.
    on_found (first_of 61 (take end rest)) Absent λ equals.
    Line equals end

abbrev pub on_cut : {A : Type 0} → Cut → A → (ℕ → ℕ → A) → A
on_cut (Line equals end) a f = f equals end
on_cut Absent a f = a

-- a key that is a word, as `format`
abbrev pub is_key : List ℕ → List ℕ → Bool
is_key word key = same_bytes key word

-- a key that is a letter and a number, as `r12`
unfoldable pub is_numbered : ℕ → ℕ → List ℕ → Bool
is_numbered letter n [] = false
is_numbered letter n (x ∷ xs) = pick (eqb x letter) (on_number (number_of xs) false λ m. eqb m n) false

-- the first line of the bytes left: its key passes a test, and its value stands for something
unfoldable pub keyed_line : {A : Type 0} → (List ℕ → Bool) → (List ℕ → Parsed A) → List ℕ → Parsed (Next A)
keyed_line key form rest =
    on_cut (cut_of rest) (bad (numbered 2)) λ equals end.
    pick (key (take equals rest))
    (on_parsed (form (part (equals + 1) end rest)) bad λ x. good (record { value = x; next = end + 1 }))
    (bad (numbered 2))
