use mathlib.Core.Path.{refl}
use Rattle.tables.specs.Place.{tabulate_from}
use Rattle.rule_file.proofs.rule.refuse.Goals as goal

pub returns : goal.returns
unfolding tabulate_from
returns c = record { answer = refl }
