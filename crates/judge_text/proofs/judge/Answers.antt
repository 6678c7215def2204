use Rattle.judge_text.proofs.judge.Goals as goal

pub returns : goal.returns
returns c = record { prints = c.judge_read.ensures.prints _ _ c.read_pair-pair.ensures.answer }
