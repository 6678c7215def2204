use mathlib.Core.Path.{sym}
use lib.Seq.{length-take-le}
use Rattle.writing.proofs.Texts.{wrote_within, wrote_start}
use Rattle.writing.proofs.Answers.{delivers_is}
use Rattle.writing.proofs.deliver.deliver_refusal.Goals as goal

pub slice_bounds-deliver-end : goal.slice_bounds-deliver-end
slice_bounds-deliver-end c = sym (length-take-le _ _ (wrote_within _ _ _ _ c.put_refusal-n.ensures.text))

pub returns : goal.returns
returns c = record { delivers = delivers_is (wrote_start _ _ _ _ c.put_refusal-n.ensures.text) c.deliver.ensures.delivers }
