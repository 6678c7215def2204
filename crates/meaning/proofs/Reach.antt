-- Which cycles of its operands a row reads. Assumes nothing.
use Prim.Native.Nat.{ℕ, ◌≤◌}
use Rattle.meaning.specs.Pattern.{Pattern, Pattern.now, Pattern.next, Pattern.connective, Pattern.temporal}

-- a row by this pattern may read its operands' truth at cycle j for its own at cycle i: no pattern looks back yet
abbrev pub Reaches : Pattern → ℕ → ℕ → Type 0
Reaches now i j = i ≤ j
Reaches next i j = i ≤ j
Reaches (connective f) i j = i ≤ j
Reaches (temporal f w) i j = i ≤ j
