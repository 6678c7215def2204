use native.Mathlib.Omega.{arith}
use Rattle.judge_text.proofs.verdict.put_word.Goals as goal

pub returns-in-Holds : goal.returns-in-Holds
returns-in-Holds c = record { text = rw c.in-Holds.is c.put_text_line.ensures.text; room = omega (arith, c.put_text_line.ensures.text.next) }

pub returns-in-Breaks : goal.returns-in-Breaks
returns-in-Breaks c = record { text = rw c.in-Breaks.is c.put_text_line-in-Breaks.ensures.text; room = omega (arith, c.put_text_line-in-Breaks.ensures.text.next) }

pub returns-in-Kept : goal.returns-in-Kept
returns-in-Kept c = record { text = rw c.in-Kept.is c.put_text_line-in-Kept.ensures.text; room = omega (arith, c.put_text_line-in-Kept.ensures.text.next) }

pub returns-in-Broken : goal.returns-in-Broken
returns-in-Broken c = record { text = rw c.in-Broken.is c.put_text_line-in-Broken.ensures.text; room = omega (arith, c.put_text_line-in-Broken.ensures.text.next) }

pub returns-in-Open : goal.returns-in-Open
returns-in-Open c = record { text = rw c.in-Open.is c.put_text_line-in-Open.ensures.text; room = omega (arith, c.put_text_line-in-Open.ensures.text.next) }
