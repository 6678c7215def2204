use borrow.Author.Rules.{rules}
use mathlib.Core.Path.{◌≡◌}
use mathlib.Core.Logic.{◌↔◌}
use mathlib.Core.Bool.{true}
use lib.ListN.{length}
use Rattle.std.specs.List.{All, slice_range}
use Rattle.tables.specs.declared.row.RowPlace.{RowPlace}
use Rattle.rule_file.specs.Rule.{unused}
use Rattle.rule_table.proofs.Tables.{each_true}
use Rattle.rule_table.proofs.unused_true.Goals as goal

-- The code asks whether each place that it goes over is `true`, and goes over those behind the used rows.
pub returns : goal.returns
returns c =
    let places = c.args.formula.places in
    let rows = c.args.formula.rows in
    let size : length places ≡ 64 = search rules in
    let over : c.iter.result.rest.now ≡ slice_range places rows (length places) = c.iter.ensures.rest in
    let told : (c.all.result ≡ true) ↔ All (λ (p : RowPlace). p.row ≡ unused) c.iter.result.rest.now = search rules in
    record { exactly = each_true rows places c.requires size (rw (over, size) at told) }
