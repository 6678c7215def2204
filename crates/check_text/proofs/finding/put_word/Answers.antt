use native.Mathlib.Omega.{arith}
use Rattle.check_text.proofs.finding.put_word.Goals as goal

pub returns-in-Root : goal.returns-in-Root
returns-in-Root c = record { text = rw c.in-Root.is c.put_text_line.ensures.text; room = omega (arith, c.put_text_line.ensures.text.next) }

pub returns-in-Failed : goal.returns-in-Failed
returns-in-Failed c = record { text = rw c.in-Failed.is c.put_text_line-in-Failed.ensures.text; room = omega (arith, c.put_text_line-in-Failed.ensures.text.next) }

pub returns-in-Starved : goal.returns-in-Starved
returns-in-Starved c = record { text = rw c.in-Starved.is c.put_text_line-in-Starved.ensures.text; room = omega (arith, c.put_text_line-in-Starved.ensures.text.next) }

pub returns-in-Pending : goal.returns-in-Pending
returns-in-Pending c = record { text = rw c.in-Pending.is c.put_text_line-in-Pending.ensures.text; room = omega (arith, c.put_text_line-in-Pending.ensures.text.next) }

pub returns-in-Passes : goal.returns-in-Passes
returns-in-Passes c = record { text = rw c.in-Passes.is c.put_text_line-in-Passes.ensures.text; room = omega (arith, c.put_text_line-in-Passes.ensures.text.next) }
