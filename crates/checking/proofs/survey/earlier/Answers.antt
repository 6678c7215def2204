-- The check finds this alone: it stands here so that an edit shows its fact.
use mathlib.Core.Path.{refl}
use borrow.Author.Tests.{le-leb}
use Rattle.checking.proofs.survey.earlier.Goals as goal

pub returns-in-Some : goal.returns-in-Some
returns-in-Some c = record { answer = rw (c.in-Some.is, le-leb c.in-Some.first.cycle c.args.failure.cycle c.if-first-failure.true) refl }
