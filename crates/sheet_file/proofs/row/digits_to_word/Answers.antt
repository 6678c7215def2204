use borrow.Author.Rules.{rules}
use Rattle.sheet_file.proofs.Rows.{digits_start, digits_room, digits_more, digits_end}
use Rattle.sheet_file.proofs.row.digits_to_word.Goals as goal

pub loop-digit-init : goal.loop-digit-init
loop-digit-init c = digits_start c.args.value.now c.args.from c.args.count c.requires.1 (search rules)

pub overflow_mul-word : goal.overflow_mul-word
overflow_mul-word c = let h = digits_room c.loop-digit.invariant c.next.new.self.iter.rest.now c.in-Some.digit.now (search rules) c.requires.0 in search rules

pub overflow_add-word : goal.overflow_add-word
overflow_add-word c = let h = digits_room c.loop-digit.invariant c.next.new.self.iter.rest.now c.in-Some.digit.now (search rules) c.requires.0 in search rules

pub loop-digit-preserved : goal.loop-digit-preserved
loop-digit-preserved c = digits_more c.loop-digit.invariant c.next.new.self.iter.rest.now c.in-Some.digit.now (search rules) c.bit.ensures.answer

pub returns : goal.returns
returns c = record { answer = digits_end c.loop-digit.invariant (search rules) }
