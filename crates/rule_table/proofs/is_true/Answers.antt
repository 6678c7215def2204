-- The check finds this alone: it stands here so that two edits show their facts.
use mathlib.Core.Path.{◌≡◌}
use mathlib.Core.Logic.{◌↔◌}
use mathlib.Core.Bool.{true, false}
use Rattle.rule_file.specs.Rule.{unused}
use Rattle.tables.proofs.Choices.{clash}
use Rattle.rule_table.proofs.is_true.Goals as goal

pub returns-in_default : goal.returns-in_default
returns-in_default c =
    let other : (false ≡ true) ↔ (c.args.row ≡ unused) = (λ q. clash (cc), λ e. clash (cc)) in
    record { exactly = other }
