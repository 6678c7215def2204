use Rattle.tables.proofs.Choices.{know}
use Rattle.normal_file.proofs.Answers.{refused_answer, refused_left, written_answer_lem, written_left}
use Rattle.normal_file.proofs.write_normal.Goals as goal

pub write_form-requires : goal.write_form-requires
write_form-requires c = c.check_formula-outcome.ensures.range c.in-Accepted.is

pub returns-in-Refused : goal.returns-in-Refused
returns-in-Refused c = let e = know c.check_formula-outcome.ensures.outcome c.in-Refused.is in record {
  answer = refused_answer c.args.formula c.args.sign c.args.buf.now
      e;
  left = refused_left c.args.formula c.args.sign c.args.buf.now e;
}

pub returns-in-Accepted : goal.returns-in-Accepted
returns-in-Accepted c = let e = know c.check_formula-outcome.ensures.outcome c.in-Accepted.is in record {
  answer = written_answer_lem c.args.formula c.args.sign c.args.buf.now e
      c.write_form.ensures.delivers;
  left = written_left c.args.formula c.args.sign c.args.buf.now e c.write_form.ensures.delivers;
}
