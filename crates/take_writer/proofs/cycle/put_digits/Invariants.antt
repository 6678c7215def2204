use Rattle.std.proofs.Common.{take, map}
use Rattle.tables.specs.Bit.{bit_at}
use Rattle.tables.specs.declared.trace.Lane.{Lane}
use Rattle.text.specs.Written.{digits_text}
use Rattle.writing.specs.Lent.{Wrote}
use Rattle.take_writer.proofs.cycle.put_digits.Given as goal

abbrev pub invariant-loop-lane : goal.invariant-loop-lane
invariant-loop-lane l = Wrote l.initial.buf l.at (digits_text (map (λ (a : Lane). bit_at a l.cycle) (take l.lane-index l.lane-items))) l.buf l.end
