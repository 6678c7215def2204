use mathlib.Core.Path.{◌≡◌}
use native.Mathlib.Omega.{arith}
use lib.ListN.{length}
use Rattle.writing.proofs.Texts.{wrote_both, decimal_some}
use borrow.Author.Rules.{rules}
use Rattle.take_writer.proofs.Cycles.{cycle_length, cycle_line}
use Rattle.take_writer.proofs.cycle.put_cycle.Goals as goal

pub put_number-b-requires : goal.put_number-b-requires
put_number-b-requires c =
    let full : length c.args.trace.lanes ≡ 32 = search rules in
    let line = cycle_line c.args.trace full c.requires.0 c.args.cycle in
    let some = decimal_some c.args.cycle in
    omega (arith, c.requires.2, c.requires.1, c.requires.0.some_signals, c.requires.0.most_signals)

pub put_byte-c-requires : goal.put_byte-c-requires
put_byte-c-requires c =
    let full : length c.args.trace.lanes ≡ 32 = search rules in
    let line = cycle_line c.args.trace full c.requires.0 c.args.cycle in
    let some = decimal_some c.args.cycle in
    omega (arith, c.requires.2, c.requires.1, c.requires.0.some_signals, c.requires.0.most_signals)

pub put_digits-d-requires : goal.put_digits-d-requires
put_digits-d-requires c =
    let full : length c.args.trace.lanes ≡ 32 = search rules in
    let line = cycle_line c.args.trace full c.requires.0 c.args.cycle in
    let some = decimal_some c.args.cycle in
    omega (arith, c.requires.2, c.requires.1, c.requires.0.some_signals, c.requires.0.most_signals)

pub put_byte-requires : goal.put_byte-requires
put_byte-requires c =
    let full : length c.args.trace.lanes ≡ 32 = search rules in
    let line = cycle_line c.args.trace full c.requires.0 c.args.cycle in
    let some = decimal_some c.args.cycle in
    let all = cycle_length c.args.trace full c.requires.0 c.args.cycle in
    omega (arith, c.requires.2, c.requires.1, c.requires.0.some_signals, c.requires.0.most_signals)

pub returns : goal.returns
returns c = record { text = wrote_both (wrote_both c.put_byte-a.ensures.text c.put_number-b.ensures.text) (wrote_both c.put_byte-c.ensures.text (wrote_both c.put_digits-d.ensures.text c.put_byte.ensures.text)) }
