use mathlib.Core.Path.{refl}
use Rattle.run.proofs.verdict.Goals as goal

pub returns : goal.returns
returns c = record { answer = record { told = c.judge_so_far-answer.ensures.told; unaltered = refl } }
