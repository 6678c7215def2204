use mathlib.Core.Path.{◌≡◌}
use lib.ListN.{length, get_or, take}
use native.Mathlib.Omega.{arith}
use borrow.Author.Rules.{rules}
use Rattle.rule_file.specs.Rule.{in_place, unused}
use Rattle.normal_length.proofs.Rows.{none_counted, one_counted, length_there}
use Rattle.normal_length.proofs.row.rows_length.Goals as goal

pub loop-k-init : goal.loop-k-init
loop-k-init c = none_counted c.args.form.rows c.args.form.places

pub loop-k-preserved : goal.loop-k-preserved
loop-k-preserved c =
    let word = length_there c.table-kinds.ensures.answer (get_or (take c.args.form.rows c.args.form.places) c.loop-k.k (in_place unused)).row c.place_of.ensures.place.0 in
    let e : length c.args.form.places ≡ 128 = search rules in
    one_counted c.loop-k.invariant (omega arith) (in_place unused) _ _ _ c.loop-k-test.true
    c.number_length.ensures.length.0 c.number_length.ensures.length.1 word c.numbers_length.ensures.length.0 c.numbers_length.ensures.length.1
