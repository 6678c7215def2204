use Rattle.citronhelm.proofs.citronhelm_run_cycle.Goals as goal

pub returns : goal.returns
returns c = record {
  answer = record { outcome = c.take_cycle.result; takes = c.take_cycle.ensures.answer; coded = c.outcome_code.ensures.answer };
}
