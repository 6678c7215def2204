use Rattle.text.specs.Written.{written_body}
use Rattle.rule_row.specs.Written.{written_row}
use Rattle.writing.specs.Lent.{Wrote}
use Rattle.row_writer.specs.Normal.{rows_of, written_normal}
use Rattle.writing.proofs.Texts.{wrote_both, wrote_is}
use Rattle.row_writer.proofs.Rows.{counts_front}
use Rattle.row_writer.proofs.normal.put_normal.Goals as goal

pub returns : goal.returns
unfolding written_normal
returns c =
    let rows : Wrote c.put_counts-a.new.buf c.put_counts-a.result (written_body 114 written_row 1 (rows_of c.args.form)) c.put_rows.new.buf c.put_rows.result = c.put_rows.ensures.text in
    record { text = wrote_is (counts_front c.args.form.signals c.args.form.rows (rows_of c.args.form)) (wrote_both c.put_counts-a.ensures.text rows) }
