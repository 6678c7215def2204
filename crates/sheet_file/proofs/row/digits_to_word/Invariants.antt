use Rattle.sheet_file.proofs.Rows.{DigitsLeft}
use Rattle.sheet_file.proofs.row.digits_to_word.Given as goal

abbrev pub invariant-loop-digit : goal.invariant-loop-digit
invariant-loop-digit l = DigitsLeft l.value l.from l.count l.digit-iterator.iter.rest.now l.word
