use mathlib.Core.Path.{ap}
use mathlib.Core.List.{List}
use Prim.Native.Nat.{ℕ}
use Rattle.run.proofs.fresh.Goals as goal

pub returns : goal.returns
returns c = record { none = ap (λ (w : List ℕ). record { formula = c.args.formula; cycles = 0; words = w }) c.empty-words.ensures.none }
