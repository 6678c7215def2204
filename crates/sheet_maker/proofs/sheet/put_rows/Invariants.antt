use Prim.Native.Nat.{◌+◌}
use mathlib.Core.Path.{◌≡◌}
use lib.ListN.{take}
use Rattle.text.specs.Written.{digits_text, written_body}
use Rattle.sheet_file.specs.Written.{rows_of}
use Rattle.writing.specs.Lent.{Wrote}
use Rattle.sheet_maker.specs.Length.{rows_length}
use Rattle.sheet_maker.proofs.sheet.put_rows.Given as goal

-- the lines of the first k rows are written
abbrev pub invariant-loop-k : goal.invariant-loop-k
invariant-loop-k l = record {
  place : l.end ≡ l.at + rows_length l.fn.sheet.cycles l.k;
  text : Wrote l.initial.buf l.at (written_body 122 digits_text 1 (take l.k (rows_of l.fn.sheet))) l.buf l.end;
}
