use mathlib.Core.Path.{◌≡◌, sym, ap, ◌∙◌}
use Rattle.std.specs.Prelude.{Ok}
use native.Mathlib.Omega.{arith}
use borrow.Author.Rules.{rules}
use Rattle.written_out.specs.WrittenOut.{written_out}
use Rattle.written_out.proofs.Whole.{loop_below, rounds_room, written_open, written_none, written_some}
use Rattle.written_out.proofs.written_out.Goals as goal

pub returns-then-rounds-eq0 : goal.returns-then-rounds-eq0
returns-then-rounds-eq0 c = record {
  answer = let e : written_out c.args.trace c.args.rounds ≡ Ok c.args.trace =
      ap (written_out c.args.trace) c.if-rounds-eq0.true ∙ written_none c.args.trace _ c.in-Loop.is in
      sym e;
}

pub overflow_sub-more : goal.overflow_sub-more
overflow_sub-more c =
    let h = loop_below c.requires _ c.in-Loop.is in omega (arith, h)

pub overflow_mul-more : goal.overflow_mul-more
overflow_mul-more c =
    let h = rounds_room c.requires c.in-Loop.start c.args.rounds (search rules) in omega (arith, h)

pub loop_out-requires : goal.loop_out-requires
loop_out-requires c = (
  loop_below c.requires _ c.in-Loop.is,
  rounds_room c.requires c.in-Loop.start c.args.rounds (search rules),
)

pub returns-in-Open : goal.returns-in-Open
returns-in-Open c = record { answer = sym ((written_open c.args.trace c.args.rounds c.in-Open.is)) }

pub returns-else-rounds-eq0 : goal.returns-else-rounds-eq0
returns-else-rounds-eq0 c = record { answer = c.loop_out.ensures.answer ∙ sym ((written_some c.args.trace _ c.args.rounds c.in-Loop.is c.if-rounds-eq0.false)) }
