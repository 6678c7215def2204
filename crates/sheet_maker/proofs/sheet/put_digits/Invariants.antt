use Rattle.tables.specs.Bit.{bit_at}
use Rattle.tables.specs.Place.{tabulate}
use Rattle.text.specs.Written.{digits_text}
use Rattle.writing.specs.Lent.{Wrote}
use Rattle.sheet_maker.proofs.sheet.put_digits.Given as goal

-- the first c digits are written
abbrev pub invariant-loop-c : goal.invariant-loop-c
invariant-loop-c l = Wrote l.initial.buf l.at (digits_text (tabulate l.c (bit_at l.lane))) l.buf l.end
