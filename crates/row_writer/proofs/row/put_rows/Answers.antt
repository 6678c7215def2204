use Prim.Native.Nat.{◌+◌}
use mathlib.Core.List.{[], ◌∷◌}
use lib.ListN.{get_or}
use Rattle.text.specs.Written.{decimal, written_line}
use Rattle.rule_row.specs.Written.{written_row}
use Rattle.rule_file.specs.Rule.{in_place, unused}
use Rattle.writing.specs.Lent.{Wrote}
use Rattle.row_writer.proofs.Rows.{rows_start, rows_more}
use Rattle.row_writer.proofs.row.put_rows.Goals as goal

pub loop-k-init : goal.loop-k-init
loop-k-init c = rows_start c.args.buf.now c.args.at

pub loop-k-preserved : goal.loop-k-preserved
loop-k-preserved c =
    let place = get_or c.args.places.now c.loop-k.k (in_place unused) in
    let line : Wrote c.loop-k.buf c.loop-k.end (written_line (114 ∷ decimal (c.args.first + c.loop-k.k)) (written_row place.row) []) c.put_row_line-end.new.buf c.put_row_line-end.result = c.put_row_line-end.ensures.text in
    rows_more c.loop-k.invariant (in_place unused) c.loop-k-test.true line c.put_row_line-end.ensures.room
