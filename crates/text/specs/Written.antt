-- The written forms that the three files share. Assumes nothing.
use Rattle.std.specs.Prelude.{ℕ, zero, suc, ◌+◌, ◌/◌, ◌%◌, Bool, List, [], ◌∷◌, ◌++◌, map, ltb}
use Rattle.tables.specs.Choice.{pick}

-- a number in decimal, with at most so many digits more than one
unfoldable pub decimal_in : ℕ → ℕ → List ℕ
decimal_in zero n = (48 + n) ∷ []
decimal_in (suc f) n = pick (ltb n 10) ((48 + n) ∷ []) (decimal_in f (n / 10) ++ ((48 + n % 10) ∷ []))

-- a number below 100,000: one to five digits, without leading zeros
unfoldable pub decimal : ℕ → List ℕ
decimal n = decimal_in 4 n

-- a line in front of what follows it: 61 is the equals sign and 10 the line feed
abbrev pub written_line : List ℕ → List ℕ → List ℕ → List ℕ
written_line key value rest = key ++ (61 ∷ (value ++ (10 ∷ rest)))

-- lines whose keys are the letter and k, k + 1 and so on
unfoldable pub written_body : {A : Type 0} → ℕ → (A → List ℕ) → ℕ → List A → List ℕ
written_body letter text k [] = []
written_body letter text k (x ∷ xs) = written_line (letter ∷ decimal k) (text x) (written_body letter text (k + 1) xs)

-- digits 0 and 1
abbrev pub digits_text : List Bool → List ℕ
digits_text ds = map (λ b. pick b 49 48) ds
