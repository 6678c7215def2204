use native.Mathlib.Omega.{arith}
use Rattle.tables.specs.Bit.{bit_at}
use Rattle.tables.specs.Place.{tabulate}
use Rattle.tables.proofs.Places.{length_tabulate}
use Rattle.text.proofs.Laws.{text_length}
use Rattle.writing.proofs.Texts.{wrote_both, decimal_some}
use borrow.Author.Rules.{rules}
use Rattle.sheet_maker.proofs.sheet.put_row.Goals as goal

pub put_number-b-requires : goal.put_number-b-requires
put_number-b-requires c = (omega (arith, c.put_byte-a.ensures.text.next, c.put_byte-a.ensures.text.size, decimal_some c.args.number), omega arith)

pub put_byte-c-requires : goal.put_byte-c-requires
put_byte-c-requires c = omega (arith, c.put_byte-a.ensures.text.next, c.put_byte-a.ensures.text.size, c.put_number-b.ensures.text.next, c.put_number-b.ensures.text.size)

pub put_digits-d-requires : goal.put_digits-d-requires
put_digits-d-requires c = (search rules, omega (arith, c.put_byte-a.ensures.text.next, c.put_byte-a.ensures.text.size, c.put_number-b.ensures.text.next, c.put_number-b.ensures.text.size, c.put_byte-c.ensures.text.next, c.put_byte-c.ensures.text.size))

pub put_byte-requires : goal.put_byte-requires
put_byte-requires c = omega (arith, c.put_byte-a.ensures.text.next, c.put_byte-a.ensures.text.size, c.put_number-b.ensures.text.next, c.put_number-b.ensures.text.size, c.put_byte-c.ensures.text.next, c.put_byte-c.ensures.text.size, c.put_digits-d.ensures.room, c.put_digits-d.ensures.text.size)

pub returns : goal.returns
returns c = record { text = wrote_both (wrote_both c.put_byte-a.ensures.text c.put_number-b.ensures.text) (wrote_both c.put_byte-c.ensures.text (wrote_both c.put_digits-d.ensures.text c.put_byte.ensures.text)); place = let f = bit_at c.args.lane in omega (arith, c.put_byte-a.ensures.text.next, c.put_number-b.ensures.text.next, c.put_byte-c.ensures.text.next, c.put_digits-d.ensures.text.next, text_length (tabulate c.args.cycles f), length_tabulate c.args.cycles 0 f, c.put_byte.ensures.text.next) }
