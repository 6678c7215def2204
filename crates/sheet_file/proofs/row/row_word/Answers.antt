use Prim.Native.Nat.{◌*◌}
use mathlib.Core.Path.{◌∙◌}
use Rattle.sheet_file.proofs.Rows.{row_empty, row_part}
use borrow.Author.Rules.{rules}
use Rattle.sheet_file.proofs.row.row_word.Goals as goal

pub returns-then-value-from : goal.returns-then-value-from
returns-then-value-from c = record { answer = row_empty c.args.value.now (c.args.i * 64) (search rules) }

pub returns-then-count-lt64 : goal.returns-then-count-lt64
returns-then-count-lt64 c = record { answer = c.digits_to_word.ensures.answer ∙ row_part c.args.value.now (c.args.i * 64) (search rules) (search rules) }
