use Rattle.text.specs.Body.{body_lines}
use Rattle.text.specs.Written.{written_body}
use Rattle.rule_row.specs.Row.{row_value}
use Rattle.rule_file.specs.Written.{rows_of}
use Rattle.rule_row.specs.Written.{written_row}
use mathlib.Core.Path.{◌∙◌, sym, ap}
use Rattle.text.specs.Result.{outcome_of}
use Rattle.tables.proofs.Choices.{clash}
use Rattle.text.proofs.Bodies.{outcome_map}
use Rattle.rule_file.specs.Rule.{formula_of}
use Rattle.rule_file.proofs.Rules.{used_most, signals_few, signals_many, rows_few, rows_many, after_rows}
use borrow.Author.Rules.{rules}
use Rattle.rule_file.proofs.check.check_formula.Goals as goal

pub returns-then-signals-lt1 : goal.returns-then-signals-lt1
returns-then-signals-lt1 c = record { outcome = c.refuse.ensures.answer ∙ sym (ap (outcome_of 1) (signals_few c.args.formula (used_most c.args.formula (search rules)) (search rules) (search rules) c.if-signals-lt1.true)); range = λ q. clash (cc) }

pub returns-then-signals-gt32 : goal.returns-then-signals-gt32
returns-then-signals-gt32 c = record { outcome = c.refuse-then-signals-gt32.ensures.answer ∙ sym (ap (outcome_of 1) (signals_many c.args.formula (used_most c.args.formula (search rules)) (search rules) (search rules) c.if-signals-lt1.false c.if-signals-gt32.true)); range = λ q. clash (cc) }

pub returns-then-rows-lt1 : goal.returns-then-rows-lt1
returns-then-rows-lt1 c = record { outcome = c.refuse-then-rows-lt1.ensures.answer ∙ sym (ap (outcome_of 1) (rows_few c.args.formula (used_most c.args.formula (search rules)) (search rules) (search rules) c.if-signals-lt1.false c.if-signals-gt32.false c.if-rows-lt1.true)); range = λ q. clash (cc) }

pub returns-then-rows-gt64 : goal.returns-then-rows-gt64
returns-then-rows-gt64 c = record { outcome = c.refuse-then-rows-gt64.ensures.answer ∙ sym (ap (outcome_of 1) (rows_many c.args.formula (used_most c.args.formula (search rules)) (search rules) (search rules) c.if-signals-lt1.false c.if-signals-gt32.false c.if-rows-lt1.false c.if-rows-gt64.true)); range = λ q. clash (cc) }

pub returns : goal.returns
returns c = record { outcome = c.check_rows.ensures.answer ∙ sym (ap (outcome_of 1) (after_rows c.args.formula (used_most c.args.formula (search rules)) (search rules) (search rules) c.if-signals-lt1.false c.if-signals-gt32.false c.if-rows-lt1.false c.if-rows-gt64.false) ∙ outcome_map 1 (formula_of c.args.formula.signals c.args.formula.rows) (body_lines 114 (row_value c.args.formula.signals) c.args.formula.rows 1 4 (written_body 114 written_row 1 (rows_of c.args.formula)))); range = λ q. record { some_signals = c.if-signals-lt1.false; most_signals = c.if-signals-gt32.false; some_rows = c.if-rows-lt1.false; most_rows = c.if-rows-gt64.false; rows_in_range = c.check_rows.ensures.range q } }
