-- An and-gate between inverters is an or. Assumes nothing.
use mathlib.Core.Path.{◌≡◌, refl}
use mathlib.Core.Bool.{Bool, true, false, not, ◌&&◌, ◌||◌}

pub either : (a b : Bool) → not (not a && not b) ≡ a || b
either true b = refl
either false true = refl
either false false = refl
