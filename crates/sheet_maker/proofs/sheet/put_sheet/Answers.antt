use mathlib.Core.Path.{ap}
use mathlib.Core.List.{[]}
use native.Mathlib.Omega.{arith}
use lib.ListN.{length}
use Rattle.tables.specs.Bytes.{bytes}
use Rattle.text.specs.Written.{decimal}
use Rattle.text.proofs.Laws.{line_length}
use Rattle.sheet_file.specs.Written.{written_sheet}
use Rattle.writing.proofs.Texts.{wrote_line, decimal_one, decimal_some}
use Rattle.sheet_maker.proofs.Lengths.{rows_length_some}
use borrow.Author.Rules.{rules}
use Rattle.sheet_maker.proofs.sheet.put_sheet.Goals as goal

pub put_number_line-c-requires : goal.put_number_line-c-requires
put_number_line-c-requires c = (omega (arith, c.put_number_line-a.ensures.text.next, c.put_number_line-a.ensures.text.size, c.put_number_line-b.ensures.text.next, c.put_number_line-b.ensures.text.size, line_length (bytes "format") (decimal 1) [], ap length (decimal_one 1 (omega arith)), line_length (bytes "rows") (decimal c.args.sheet.rows) [], rows_length_some c.args.sheet.cycles c.args.sheet.rows (search rules), decimal_some c.args.sheet.cycles), omega arith)

pub put_rows-requires : goal.put_rows-requires
put_rows-requires c = (search rules, search rules, omega (arith, c.put_number_line-a.ensures.text.next, c.put_number_line-a.ensures.text.size, c.put_number_line-b.ensures.text.next, c.put_number_line-b.ensures.text.size, c.put_number_line-c.ensures.text.next, c.put_number_line-c.ensures.text.size, line_length (bytes "format") (decimal 1) [], ap length (decimal_one 1 (omega arith)), line_length (bytes "rows") (decimal c.args.sheet.rows) [], line_length (bytes "cycles") (decimal c.args.sheet.cycles) []))

pub returns : goal.returns
unfolding written_sheet
returns c = record { text = wrote_line (bytes "format") (decimal _) c.put_number_line-a.ensures.text (wrote_line (bytes "rows") (decimal _) c.put_number_line-b.ensures.text (wrote_line (bytes "cycles") (decimal _) c.put_number_line-c.ensures.text c.put_rows.ensures.text)) }
