use Rattle.rule_file.specs.Written.{rows_of, written_rule}
use Rattle.writing.proofs.Texts.{wrote_both, wrote_is}
use Rattle.row_writer.proofs.Rows.{counts_front}
use Rattle.rule_writer.proofs.put_rule.Goals as goal

pub returns : goal.returns
unfolding written_rule
returns c = record { text = wrote_is (counts_front c.args.formula.signals c.args.formula.rows (rows_of c.args.formula)) (wrote_both c.put_counts-a.ensures.text c.put_rows.ensures.text) }
