-- What is left of the kinds where the code goes by patterns, and where the two differ in form. Assumes nothing.
use mathlib.Core.Path.{◌≡◌, refl}
use mathlib.Core.Bool.{Bool, true, false, ◌&&◌, ◌||◌}
use Rattle.tables.specs.declared.row.UnaryKind.{UnaryKind}
use Rattle.tables.specs.declared.row.UnaryKind.TheVariants.{Not, Next, Always, Ever}
use Rattle.meaning.specs.Pattern.{unary_left, unary_pattern}
use Rattle.cycle_rows.specs.Steps.{left_constant}

pub release_bit : (a b x : Bool) → b && (a || x) ≡ (a && b) || (b && x)
release_bit true true x = refl
release_bit true false x = refl
release_bit false true x = refl
release_bit false false x = refl

pub left_constant_lem : (k : UnaryKind) → left_constant (unary_pattern k) ≡ unary_left k
left_constant_lem Not = refl
left_constant_lem Next = refl
left_constant_lem Always = refl
left_constant_lem Ever = refl
