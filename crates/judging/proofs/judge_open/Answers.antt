use Rattle.judging.proofs.judge_open.Goals as goal

pub returns : goal.returns
returns c = record { answer = c.judge_tables.ensures.answer }
