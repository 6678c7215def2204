use Rattle.text.proofs.Numbers.{one_low, one_high, one_digit}
use Rattle.text.proofs.number.read_digit.Goals as goal

pub returns-then-d-lt48 : goal.returns-then-d-lt48
returns-then-d-lt48 c = record { answer = one_low _ c.if-d-lt48.true }

pub returns-then-d-gt57 : goal.returns-then-d-gt57
returns-then-d-gt57 c = record { answer = one_high _ c.if-d-lt48.false c.if-d-gt57.true }

pub returns : goal.returns
returns c = record { answer = one_digit _ c.if-d-lt48.false c.if-d-gt57.false }
