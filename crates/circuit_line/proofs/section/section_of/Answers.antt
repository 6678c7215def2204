use borrow.Author.Tests.{lt-ltb, le-ltb}
use Rattle.circuit_line.proofs.section.section_of.Goals as goal

pub returns-then-k-header : goal.returns-then-k-header
returns-then-k-header c = record { answer = rw (lt-ltb _ _ c.if-k-header.true) }

pub returns-then-k-header-2 : goal.returns-then-k-header-2
returns-then-k-header-2 c = record { answer = rw (le-ltb _ _ c.if-k-header.false, lt-ltb _ _ c.if-k-header-2.true) }

pub returns-then-k-header-3 : goal.returns-then-k-header-3
returns-then-k-header-3 c = record { answer = rw (le-ltb _ _ c.if-k-header.false, le-ltb _ _ c.if-k-header-2.false, lt-ltb _ _ c.if-k-header-3.true) }

pub returns : goal.returns
returns c = record { answer = rw (le-ltb _ _ c.if-k-header.false, le-ltb _ _ c.if-k-header-2.false, le-ltb _ _ c.if-k-header-3.false) }
