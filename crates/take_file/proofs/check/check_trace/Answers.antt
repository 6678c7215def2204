use mathlib.Core.Path.{◌≡◌}
use Prim.Native.Nat.{◌<◌}
use lib.ListN.{length}
use Rattle.tables.specs.declared.trace.Trace.{Trace}
use mathlib.Core.Path.{◌∙◌, ap, sym}
use Rattle.text.specs.Result.{outcome_of}
use Rattle.tables.proofs.Choices.{know}
use Rattle.take_file.proofs.Takes.{signals_below, signals_above, cycles_below_lem, cycles_above, loop_beyond, in_range_lem, told}
use Rattle.take_file.proofs.Endings.{below_true}
use borrow.Author.Rules.{rules}
use Rattle.take_file.proofs.check.check_trace.Goals as goal

pub returns-then-signals-lt1 : goal.returns-then-signals-lt1
returns-then-signals-lt1 c = let t : Trace = c.args.trace in let full : length t.lanes ≡ 32 = search rules in let small : t.signals < 256 = c.well_formed.0.1.1.0.1 in let both = told t (c.refuse.ensures.answer ∙ ap (outcome_of 2) (sym (signals_below t full (search rules) (search rules)))) in record { outcome = both.0; range = both.1 }

pub returns-then-signals-gt32 : goal.returns-then-signals-gt32
returns-then-signals-gt32 c = let t : Trace = c.args.trace in let full : length t.lanes ≡ 32 = search rules in let small : t.signals < 256 = c.well_formed.0.1.1.0.1 in let both = told t (c.refuse-then-signals-gt32.ensures.answer ∙ ap (outcome_of 2) (sym (signals_above t full (search rules) (search rules)))) in record { outcome = both.0; range = both.1 }

pub returns-then-cycles-lt1 : goal.returns-then-cycles-lt1
returns-then-cycles-lt1 c = let t : Trace = c.args.trace in let full : length t.lanes ≡ 32 = search rules in let small : t.cycles < 65536 = c.well_formed.0.1.1.1.0.1 in let both = told t (c.refuse-then-cycles-lt1.ensures.answer ∙ ap (outcome_of 2) (sym (cycles_below_lem t full (search rules) (search rules) (search rules) (search rules)))) in record { outcome = both.0; range = both.1 }

pub returns-then-cycles-gt256 : goal.returns-then-cycles-gt256
returns-then-cycles-gt256 c = let t : Trace = c.args.trace in let full : length t.lanes ≡ 32 = search rules in let small : t.cycles < 65536 = c.well_formed.0.1.1.1.0.1 in let both = told t (c.refuse-then-cycles-gt256.ensures.answer ∙ ap (outcome_of 2) (sym (cycles_above t full (search rules) (search rules) (search rules) (search rules)))) in record { outcome = both.0; range = both.1 }

pub returns-then-not-is_below : goal.returns-then-not-is_below
returns-then-not-is_below c = let t : Trace = c.args.trace in let full : length t.lanes ≡ 32 = search rules in let both = told t (c.refuse-then-not-is_below.ensures.answer ∙ ap (outcome_of 2) (sym (loop_beyond t full (search rules) (search rules) (search rules) (search rules) (know c.is_below.ensures.answer c.if-not-is_below.true) c.is_below.ensures.within))) in record { outcome = both.0; range = both.1 }

pub returns : goal.returns
returns c = let t : Trace = c.args.trace in let full : length t.lanes ≡ 32 = search rules in let both = told t (ap (outcome_of 2) (sym (in_range_lem t full (search rules) (search rules) (search rules) (search rules) (below_true t.cycles t.ending (know c.is_below.ensures.answer c.if-not-is_below.false))))) in record { outcome = both.0; range = both.1 }
