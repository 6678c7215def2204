use mathlib.Core.Path.{refl}
use Rattle.tables.specs.Kind.{kind_at, kinds}
use Rattle.tables.proofs.kind.kind_at.Goals as goal

pub returns : goal.returns
unfolding kind_at kinds
returns c = record { kind = refl }
