use borrow.Author.Tests.{eq-eqb, ne_eqb}
use Rattle.tables.proofs.Choices.{know, rest_part}
use Rattle.text.proofs.Lines.{numbered_none, numbered_some}
use Rattle.text.proofs.line.is_numbered.Goals as goal

pub returns-then-key-eq0 : goal.returns-then-key-eq0
returns-then-key-eq0 c = record { answer = numbered_none _ _ _ c.if-key-eq0.true }

pub returns-then-key-letter : goal.returns-then-key-letter
returns-then-key-letter c = record { answer = rw (numbered_some _ _ _ c.if-key-eq0.false, ne_eqb _ _ c.if-key-letter.true) }

pub returns-in_default : goal.returns-in_default
returns-in_default c = record {
  answer = rw (
    numbered_some _ _ _ c.if-key-eq0.false,
    eq-eqb _ _ c.if-key-letter.false,
    know (rw rest_part at c.read_number.ensures.answer) c.in_default.is,
  );
}

pub returns : goal.returns
returns c = record {
  answer = rw (
    numbered_some _ _ _ c.if-key-eq0.false,
    eq-eqb _ _ c.if-key-letter.false,
    know (rw rest_part at c.read_number.ensures.answer) c.in-Is.is,
  );
}
