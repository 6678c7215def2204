use Rattle.tables.proofs.Choices.{know}
use Rattle.sheet_maker.proofs.Answers.{pair_fine}
use Rattle.sheet_length.proofs.Answers.{refused_measures, met_measures}
use Rattle.sheet_length.proofs.measure.Goals as goal

pub measure_met-requires : goal.measure_met-requires
measure_met-requires c = c.check_own-own.ensures.range c.in-Accepted.is

pub returns-in-Refused : goal.returns-in-Refused
returns-in-Refused c = record {
  measures = let e = know c.check_own-own.ensures.outcome c.in-Refused.is in
      refused_measures _ c.args.formula c.args.trace (pair_fine c.args.formula c.args.trace) (rw e);
}

pub returns-in-Accepted : goal.returns-in-Accepted
returns-in-Accepted c = record { measures = met_measures c.args.formula c.args.trace (know c.check_own-own.ensures.outcome c.in-Accepted.is) c.measure_met.ensures.measures }
