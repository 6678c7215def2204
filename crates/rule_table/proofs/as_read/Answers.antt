use native.Mathlib.Omega.{arith}
use mathlib.Core.Path.{◌≡◌, ap, ◌∙◌}
use borrow.Author.Rules.{rules}
use lib.ListN.{replicate, length}
use Rattle.std.specs.List.{slice_range}
use Rattle.std.proofs.lemmas.List.Edits.{length-between}
use Rattle.rule_file.specs.Rule.{in_place, unused}
use Rattle.rule_table.proofs.Tables.{filled_rest, read_filled}
use Rattle.rule_table.proofs.as_read.Goals as goal

-- The code fills the places behind the used rows, and with `true`.
pub returns : goal.returns
returns c =
    let places = c.args.formula.places in
    let rows = c.args.formula.rows in
    let size : length places ≡ 64 = search rules in
    let filled : c.fill.new.self ≡ replicate (length (slice_range places rows 64)) (in_place unused) = c.fill.ensures.after (λ y e. e) in
    let long = ap (λ n. replicate n (in_place unused)) (length-between places rows 64 (omega arith)) in
    record { read = read_filled c.args.formula _ c.requires (filled_rest rows places c.requires.most_rows size (filled ∙ long)) }
