use Rattle.run_state.proofs.States.{no_cycle, refused_cycle, accepted_cycle, room}
use Rattle.run_state.proofs.take_cycle.Goals as goal

pub returns-then-not-held : goal.returns-then-not-held
returns-then-not-held c = record { answer = no_cycle c.args.state.now c.read-held.result c.read-held.ensures.every c.if-not-held.true c.args.digits.now c.call_refused.ensures.answer }

pub put-requires : goal.put-requires
put-requires c = room c.args.state.now c.read-held.result c.read-held.ensures.every c.read-held.ensures.those c.if-not-held.false _ c.encode-bytes.ensures.bytes

pub returns-in-Refused : goal.returns-in-Refused
returns-in-Refused c = record { answer = refused_cycle c.args.state.now c.read-held.result c.read-held.ensures.every c.read-held.ensures.those c.if-not-held.false c.args.digits.now c.take_cycle-told.ensures.answer c.in-Refused.is }

pub returns-in-Accepted : goal.returns-in-Accepted
returns-in-Accepted c = record { answer = accepted_cycle c.args.state.now c.read-held.result c.read-held.ensures.every c.read-held.ensures.those c.if-not-held.false c.args.digits.now c.take_cycle-told.ensures.answer c.in-Accepted.is c.encode-bytes.ensures.bytes c.put.ensures.text }
