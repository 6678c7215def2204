use mathlib.Core.Path.{sym, ap, ◌∙◌}
use native.Mathlib.Omega.{arith}
use lib.ListN.{length-drop}
use Rattle.tables.proofs.Choices.{rest_part}
use Rattle.circuit_file.specs.File.{circuit_answer}
use Rattle.circuit_file.proofs.Headers.{header_known, contents_long, contents_headless, contents_lines}
use Rattle.circuit_file.proofs.read_circuit.Goals as goal

pub returns-then-file-gt65536 : goal.returns-then-file-gt65536
returns-then-file-gt65536 c = record { answer = c.refuse.ensures.answer ∙ ap circuit_answer (sym (contents_long _ c.if-file-gt65536.true)) }

pub returns-in_default : goal.returns-in_default
returns-in_default c = record { answer = c.refuse-in_default.ensures.answer ∙ ap circuit_answer (sym (contents_headless _ c.if-file-gt65536.false c.read_header.ensures.answer c.in_default.is)) }

pub slice_bounds-read_lines-count : goal.slice_bounds-read_lines-count
slice_bounds-read_lines-count c = (header_known _ c.read_header.ensures.within c.in-Header.is).1

pub slice_bounds-read_lines-start : goal.slice_bounds-read_lines-start
slice_bounds-read_lines-start c = (header_known _ c.read_header.ensures.within c.in-Header.is).1

pub read_lines-requires : goal.read_lines-requires
read_lines-requires c = ((header_known _ c.read_header.ensures.within c.in-Header.is).0, rw (rest_part, length-drop) (omega (arith, c.if-file-gt65536.false)))

pub returns : goal.returns
returns c = record { answer = rw rest_part at c.read_lines.ensures.answer ∙ ap circuit_answer (sym (contents_lines _ c.if-file-gt65536.false c.read_header.ensures.answer c.in-Header.is)) }
