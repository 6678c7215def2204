use mathlib.Core.Path.{refl}
use Rattle.tables.proofs.Choices.{know}
use Rattle.checking.proofs.Findings.{root_only, finding_by}
use Rattle.checking.proofs.Conclusions.{course_fits, concluded_finding}
use Rattle.checking.proofs.find.find.Goals as goal

pub returns-then-not-bit : goal.returns-then-not-bit
returns-then-not-bit c = record {
  finding = let unset = know c.bit.ensures.answer c.if-not-bit.true in
      finding_by c.args.form c.args.trace c.args.sheet c.args.trace.ending refl _ unset (root_only c.args.form c.args.trace c.args.sheet c.args.trace.ending unset);
}

pub survey_rows-seen-requires : goal.survey_rows-seen-requires
survey_rows-seen-requires c =
    let range = c.requires.1 in
    (c.requires.0, rw c.course_of-course.ensures.answer (course_fits c.args.trace.cycles c.args.trace.ending range.some_cycles range.most_cycles range.loop))

pub returns : goal.returns
returns c = record {
  finding = let range = c.requires.1 in
      let set = know c.bit.ensures.answer c.if-not-bit.false in
      let seen = rw c.course_of-course.ensures.answer at c.survey_rows-seen.ensures.survey in
      rw c.conclude.ensures.answer (concluded_finding c.args.form c.args.trace c.args.sheet range.some_cycles set c.args.trace.ending refl range.loop c.survey_rows-seen.result seen);
}
