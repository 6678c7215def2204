-- Lists by their places. Assumes nothing.
use Rattle.std.specs.Prelude.{ℕ, zero, suc, List, [], ◌∷◌, get_or}

-- n elements: f at k, k + 1 and so on
unfoldable pub tabulate_from : {A : Type 0} → ℕ → ℕ → (ℕ → A) → List A
tabulate_from zero k f = []
tabulate_from (suc n) k f = f k ∷ tabulate_from n (suc k) f

-- n elements: f at 0 up to n less 1
abbrev pub tabulate : {A : Type 0} → ℕ → (ℕ → A) → List A
tabulate n f = tabulate_from n 0 f

-- n places, of which the first hold g of xs, and the others g of d
abbrev pub placed : {A B : Type 0} → ℕ → (A → B) → A → List A → List B
placed n g d xs = tabulate n (λ i. g (get_or xs i d))
