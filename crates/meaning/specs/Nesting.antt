-- How many rows that look back are nested below a row (02, request 6). No kind looks back yet. Assumes nothing.
use Rattle.std.specs.Prelude.{ℕ, zero, suc, ◌+◌, max}
use Rattle.tables.specs.declared.row.Row.{Row}
use Rattle.tables.specs.declared.row.Row.TheVariants.{Constant, Signal, Unary, Binary}
use Rattle.tables.specs.declared.row.NormalForm.{NormalForm}
use Rattle.meaning.specs.Satisfaction.{Table, table_of}
use Rattle.meaning.specs.Pattern.{Pattern, Pattern.now, Pattern.next, Pattern.connective, Pattern.temporal, pattern_of}

-- by how many rounds of a loop a row's truth begins to repeat later than that of its operands: a row that does not look back by none
abbrev pub delay : Pattern → ℕ
delay now = 0
delay next = 0
delay (connective f) = 0
delay (temporal f w) = 0

-- the most of a row's operands, where `below` is what each earlier row has
abbrev pub most_below : (ℕ → ℕ) → Row → ℕ
most_below below (Constant c) = 0
most_below below (Signal c s) = 0
most_below below (Unary c a) = below a
most_below below (Binary c a b) = max (below a) (below b)

-- row k, read to a depth of d rows; operands are earlier rows, so its own number bounds the depth (law `nested_is`)
unfoldable pub nested_within : Table → ℕ → ℕ → ℕ
nested_within t zero k = 0
nested_within t (suc d) k = most_below (nested_within t d) (t k) + delay (pattern_of (t k))

-- "as many loop rounds as past operators are nested along one branch of the normal form": from row k down
unfoldable pub nested : Table → ℕ → ℕ
nested t k = nested_within t (suc k) k

-- the most of the rows below m
unfoldable pub most_nested : Table → ℕ → ℕ
most_nested t zero = 0
most_nested t (suc m) = max (most_nested t m) (nested t m)

-- of a normal form
abbrev pub nesting : NormalForm → ℕ
nesting g = most_nested (table_of g.places) (suc g.rows)
