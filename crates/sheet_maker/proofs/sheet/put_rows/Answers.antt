use Prim.Native.Nat.{◌+◌, ◌<◌}
use mathlib.Core.Path.{ap}
use mathlib.Core.List.{[]}
use native.Mathlib.Omega.{arith}
use lib.Seq.{get_or-take}
use Rattle.tables.specs.declared.trace.Lane.{Lane}
use Rattle.text.specs.Written.{digits_text, written_body}
use Rattle.writing.proofs.Texts.{wrote_none, wrote_both, wrote_is}
use Rattle.sheet_maker.specs.Length.{rows_length}
use Rattle.sheet_maker.proofs.Texts.{rows_next, rows_all}
use Rattle.sheet_maker.proofs.Lengths.{rows_length_next, rows_length_before}
use borrow.Author.Rules.{rules}
use Rattle.sheet_maker.proofs.sheet.put_rows.Goals as goal

pub loop-k-init : goal.loop-k-init
unfolding written_body rows_length
loop-k-init c = record { place = omega arith; text = wrote_none c.args.buf.now c.args.at }

pub put_row-end-requires : goal.put_row-end-requires
put_row-end-requires c =
    (search rules, omega (arith, c.loop-k.invariant.text.size, rows_length_next c.args.sheet.cycles c.loop-k.k, rows_length_before c.args.sheet.cycles (c.loop-k.k + 1) c.args.sheet.rows (omega arith)))

pub loop-k-preserved : goal.loop-k-preserved
loop-k-preserved c =
    let sheet = c.args.sheet in
    let unset : Lane = record { words = [] } in
    let lt : c.loop-k.k < sheet.rows = omega arith in
    let line = rw (get_or-take sheet.rows sheet.lanes c.loop-k.k unset lt) at c.put_row-end.ensures.text in
    record {
      place = omega (arith, c.put_row-end.ensures.place, rows_length_next sheet.cycles c.loop-k.k);
      text = wrote_is (rows_next sheet (search rules) c.requires.0 c.loop-k.k unset c.requires.1 lt) (wrote_both c.loop-k.invariant.text line);
    }

pub returns : goal.returns
returns c = record { text = wrote_is (ap (written_body 122 digits_text 1) (rows_all c.args.sheet (search rules) c.requires.0 c.loop-k.k (omega arith))) c.loop-k.invariant.text }
