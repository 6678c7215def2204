use mathlib.Core.Path.{refl}
use Rattle.tables.specs.Kind.{kinds}
use Rattle.tables.proofs.kind.table.Goals as goal

pub returns : goal.returns
unfolding kinds
returns c = record { answer = refl }
