-- The check finds this alone: it stands here so that an edit shows its fact.
use mathlib.Core.Path.{refl}
use Rattle.checking.proofs.survey.Survey.note.Goals as goal

pub returns-in-Ok : goal.returns-in-Ok
returns-in-Ok c = record { answer = rw (c.in-Ok.is, c.or-self.ensures, c.then_some.ensures, c.or-self-in-Ok.ensures, c.then_some-in-Ok.ensures) refl }
