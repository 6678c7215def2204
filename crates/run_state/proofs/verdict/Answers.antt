use mathlib.Core.Path.{refl}
use Rattle.run_state.proofs.States.{no_verdict, verdict_so}
use Rattle.run_state.proofs.verdict.Goals as goal

pub returns-then-not-held : goal.returns-then-not-held
returns-then-not-held c = record { answer = no_verdict c.args.state.now c.read-held.result c.read-held.ensures.every c.if-not-held.true refl }

pub returns : goal.returns
returns c = record { answer = verdict_so c.args.state.now c.read-held.result c.read-held.ensures.every c.read-held.ensures.those c.if-not-held.false c.verdict-told.ensures.answer }
