use Rattle.sheet_maker.proofs.Answers.{refused_makes, pair_fine, met_makes}
use mathlib.Core.Path.{◌∙◌}
use Rattle.tables.proofs.Choices.{know}
use Rattle.tables.proofs.Outcomes.{both_accept}
use Rattle.sheet_maker.proofs.make_sheet.Goals as goal

pub make_met-requires : goal.make_met-requires
make_met-requires c = c.check_own-own.ensures.range c.in-Accepted.is

pub returns-in-Refused : goal.returns-in-Refused
returns-in-Refused c = record {
  makes = let e = know c.check_own-own.ensures.outcome c.in-Refused.is in refused_makes _ c.args.formula c.args.trace c.args.buf.now (pair_fine
      c.args.formula c.args.trace) (rw e);
  range = λ e. c.check_own-own.ensures.range (c.check_own-own.ensures.outcome ∙ (both_accept _ _ e).0);
}

pub returns-in-Accepted : goal.returns-in-Accepted
returns-in-Accepted c = record { makes = met_makes c.args.formula c.args.trace c.args.buf.now (know c.check_own-own.ensures.outcome c.in-Accepted.is) c.make_met.ensures.makes; range = λ e. c.check_own-own.ensures.range (c.check_own-own.ensures.outcome ∙ (both_accept _ _ e).0) }
