use mathlib.Core.Path.{refl}
use Rattle.normal_file.proofs.bound_of.Goals as goal

pub returns : goal.returns
returns c = record { bound = refl }
