-- The check finds this alone: it stands here so that an edit shows its fact.
use Prim.Native.Nat.{◌/◌, ◌%◌}
use mathlib.Core.Path.{sym, ap}
use mathlib.Core.Bool.{false, not}
use lib.ListN.{get_or}
use borrow.Author.Tests.{ne_eqb}
use Rattle.tables.specs.Choice.{pick}
use Rattle.circuit_values.proofs.value.Goals as goal

pub returns-else-literal-eq0 : goal.returns-else-literal-eq0
returns-else-literal-eq0 c =
    let own = get_or c.args.values.now (c.args.literal / 2) false in
    record { answer = ap (λ even. pick even own (not own)) (sym (ne_eqb (c.args.literal % 2) 0 c.if-literal-eq0.false)) }
