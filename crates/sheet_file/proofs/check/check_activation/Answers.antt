use mathlib.Core.Path.{◌≡◌}
use Prim.Native.Nat.{◌<◌}
use lib.ListN.{length}
use Rattle.tables.specs.declared.trace.Activation.{Activation}
use mathlib.Core.Path.{◌∙◌, ap, sym}
use Rattle.text.specs.Result.{outcome_of}
use Rattle.sheet_file.proofs.Sheets.{rows_below, rows_above, cycles_below_lem, cycles_above, sheet_in_range, told}
use borrow.Author.Rules.{rules}
use Rattle.sheet_file.proofs.check.check_activation.Goals as goal

pub returns-then-rows-lt1 : goal.returns-then-rows-lt1
returns-then-rows-lt1 c = let a : Activation = c.args.activation in let full : length a.lanes ≡ 128 = search rules in let small : a.rows < 256 = c.well_formed.0.1.1.0.1 in let both = told a (c.refuse.ensures.answer ∙ ap (outcome_of 3) (sym (rows_below a full (search rules) (search rules)))) in record { answer = both.0; range = both.1 }

pub returns-then-rows-gt128 : goal.returns-then-rows-gt128
returns-then-rows-gt128 c = let a : Activation = c.args.activation in let full : length a.lanes ≡ 128 = search rules in let small : a.rows < 256 = c.well_formed.0.1.1.0.1 in let both = told a (c.refuse-then-rows-gt128.ensures.answer ∙ ap (outcome_of 3) (sym (rows_above a full (search rules) (search rules)))) in record { answer = both.0; range = both.1 }

pub returns-then-cycles-lt1 : goal.returns-then-cycles-lt1
returns-then-cycles-lt1 c = let a : Activation = c.args.activation in let full : length a.lanes ≡ 128 = search rules in let small : a.cycles < 65536 = c.well_formed.0.1.1.1.0.1 in let both = told a (c.refuse-then-cycles-lt1.ensures.answer ∙ ap (outcome_of 3) (sym (cycles_below_lem a full (search rules) (search rules) (search rules) (search rules)))) in record { answer = both.0; range = both.1 }

pub returns-then-cycles-gt256 : goal.returns-then-cycles-gt256
returns-then-cycles-gt256 c = let a : Activation = c.args.activation in let full : length a.lanes ≡ 128 = search rules in let small : a.cycles < 65536 = c.well_formed.0.1.1.1.0.1 in let both = told a (c.refuse-then-cycles-gt256.ensures.answer ∙ ap (outcome_of 3) (sym (cycles_above a full (search rules) (search rules) (search rules) (search rules)))) in record { answer = both.0; range = both.1 }

pub returns : goal.returns
returns c = let a : Activation = c.args.activation in let full : length a.lanes ≡ 128 = search rules in let both = told a (ap (outcome_of 3) (sym (sheet_in_range a full (record { some_rows = search rules; most_rows = search rules; some_cycles = search rules; most_cycles = search rules })))) in record { answer = both.0; range = both.1 }
