-- What the simulator's parts leave in their tables. Assumes nothing.
use Rattle.std.specs.Prelude.{ℕ, ◌+◌, ◌*◌, ◌/◌, ◌%◌, ◌≤◌, ◌<◌, ◌≡◌, Bool, false, not, ◌&&◌, List, eqb, length, get_or}
use Rattle.tables.specs.Choice.{pick}
use Rattle.tables.specs.Place.{tabulate}

-- the value of a literal, from the values of the variables by their index; index 0 is the constant false
abbrev pub value_of : List Bool → ℕ → Bool
value_of values l = pick (eqb (l % 2) 0) (get_or values (l / 2) false) (not (get_or values (l / 2) false))

-- numbers at equal distances: number i is at place from + width * i; and the variable of the literal that stands there
abbrev pub literal_at : List ℕ → ℕ → ℕ → ℕ → ℕ
literal_at numbers from width i = get_or numbers (from + width * i) 0

abbrev pub variable_at : List ℕ → ℕ → ℕ → ℕ → ℕ
variable_at numbers from width i = literal_at numbers from width i / 2

-- they are all there; and so are the variables of the literals
abbrev pub Spread : List ℕ → ℕ → ℕ → ℕ → Type 0
Spread numbers from width count = (i : ℕ) → i < count → from + width * i < length numbers

abbrev pub LiteralsWithin : List ℕ → ℕ → ℕ → ℕ → ℕ → Type 0
LiteralsWithin numbers from width count size = (i : ℕ) → i < count → variable_at numbers from width i < size

-- so many places of a table that are all different, each within it
pub record Distinct (count : ℕ) (place : ℕ → ℕ) (size : ℕ) : Type 0 where
  pub within : (i : ℕ) → i < count → place i < size
  pub differ : (i j : ℕ) → i < j → j < count → ¬ (place i ≡ place j)

-- something was put at each of these places, and nothing else changed
pub record Scattered {A : Type 0} (none : A) (count : ℕ) (place : ℕ → ℕ) (put : ℕ → A) (before after : List A) : Type 0 where
  pub size : length after ≡ length before
  pub put_there : (i : ℕ) → i < count → get_or after (place i) none ≡ put i
  pub kept : (x : ℕ) → ((i : ℕ) → i < count → ¬ (place i ≡ x)) → get_or after x none ≡ get_or before x none

-- by variable, the place of its gate's first operand; 0 where it has no gate. Operands are lower.
pub record GatePlaces (most : ℕ) (places numbers : List ℕ) : Type 0 where
  pub inside : (x : ℕ) → x ≤ most → get_or places x 0 + 1 < length numbers
  pub first_lower : (x : ℕ) → x ≤ most → ¬ (get_or places x 0 ≡ 0) → get_or numbers (get_or places x 0) 0 < 2 * x
  pub second_lower : (x : ℕ) → x ≤ most → ¬ (get_or places x 0 ≡ 0) → get_or numbers (get_or places x 0 + 1) 0 < 2 * x

-- the gates' values were put behind those that were given
pub record Evaluated (most : ℕ) (places numbers : List ℕ) (before after : List Bool) : Type 0 where
  pub size : length after ≡ length before
  pub given : (x : ℕ) → get_or places x 0 ≡ 0 → get_or after x false ≡ get_or before x false
  pub ands : (x : ℕ) → x ≤ most → ¬ (get_or places x 0 ≡ 0)
      → get_or after x false
      ≡ value_of after (get_or numbers (get_or places x 0) 0) && value_of after (get_or numbers (get_or places x 0 + 1) 0)

-- the values of so many literals
abbrev pub values_at : List Bool → List ℕ → ℕ → ℕ → ℕ → List Bool
values_at values numbers from width count = tabulate count (λ i. value_of values (literal_at numbers from width i))
