use lib.ListN.{take}
use Rattle.text.specs.Written.{digits_text, written_body}
use Rattle.take_file.specs.Written.{cycles_of}
use Rattle.writing.specs.Lent.{Wrote}
use Rattle.take_writer.proofs.cycle.put_cycles.Given as goal

-- the lines of the first c cycles are written
abbrev pub invariant-loop-c : goal.invariant-loop-c
invariant-loop-c l = Wrote l.initial.buf l.at (written_body 99 digits_text 0 (take l.c (cycles_of l.trace))) l.buf l.end
