-- Where something first stands in a list. Assumes nothing.
use Rattle.std.specs.Prelude.{ℕ, suc, ◌-◌, Bool, List, [], ◌∷◌, eqb, take, drop}
use Rattle.tables.specs.Choice.{pick}
use Rattle.text.specs.declared.search.Found.{Found}
use Rattle.text.specs.declared.search.Found.TheVariants.{At, Nothing}

-- one place further on
unfoldable pub further : Found → Found
further (At i) = At (suc i)
further Nothing = Nothing

-- the place of the first element that passes a test
unfoldable pub first_where : {A : Type 0} → (A → Bool) → List A → Found
first_where t [] = Nothing
first_where t (x ∷ xs) = pick (t x) (At 0) (further (first_where t xs))

-- the place of the first byte b
abbrev pub first_of : ℕ → List ℕ → Found
first_of b s = first_where (λ (x : ℕ). eqb x b) s

-- what follows where something was found, and where not
abbrev pub on_found : {A : Type 0} → Found → A → (ℕ → A) → A
on_found (At i) a f = f i
on_found Nothing a f = a

-- the part from place a up to but without place e
abbrev pub part : {A : Type 0} → ℕ → ℕ → List A → List A
part a e s = take (e - a) (drop a s)
