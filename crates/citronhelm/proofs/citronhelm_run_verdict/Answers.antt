use Rattle.citronhelm.proofs.citronhelm_run_verdict.Goals as goal

pub returns : goal.returns
returns c = record { answer = record { answer = c.verdict.result; gives = c.verdict.ensures.answer; coded = c.judge_code.ensures.answer } }
