use mathlib.Core.Path.{sym}
use lib.Seq.{length-take-le}
use native.Mathlib.Omega.{arith}
use Rattle.writing.proofs.Answers.{delivers_is}
use Rattle.writing.proofs.Texts.{wrote_within, wrote_start}
use Rattle.rule_writer.proofs.write_checked.Goals as goal

pub put_rule-n-requires : goal.put_rule-n-requires
put_rule-n-requires c = (c.requires.most_rows, omega arith)

pub slice_bounds-space-end : goal.slice_bounds-space-end
slice_bounds-space-end c = wrote_within _ _ _ _ c.put_rule-n.ensures.text

pub slice_bounds-deliver-end : goal.slice_bounds-deliver-end
slice_bounds-deliver-end c = sym (length-take-le _ _ (wrote_within _ _ _ _ c.put_rule-n.ensures.text))

pub returns : goal.returns
returns c = record { delivers = delivers_is (wrote_start _ _ _ _ c.put_rule-n.ensures.text) c.deliver.ensures.delivers }
