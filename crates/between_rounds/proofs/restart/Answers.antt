use Prim.Native.Nat.{ℕ, suc, ◌+◌, ◌<◌}
use mathlib.Core.Bool.{false}
use mathlib.Core.Path.{◌≡◌, ap, ap₂, ◌∙◌}
use native.Mathlib.Omega.{arith}
use lib.ListN.{get_or}
use borrow.Author.Rules.{rules}
use Rattle.tables.specs.declared.row.NormalForm.{NormalForm}
use Rattle.meaning.specs.Pattern.{pattern_of}
use Rattle.meaning.specs.Satisfaction.{table_of}
use Rattle.normal_form.proofs.FormTables.{row_operands}
use Rattle.between_rounds.specs.Between.{handed}
use Rattle.between_rounds.proofs.Rows.{handed_more}
use Rattle.between_rounds.proofs.restart.Goals as goal

pub operands_sure-operands-requires : goal.operands_sure-operands-requires
operands_sure-operands-requires c = row_operands c.args.form c.requires c.loop-k.k (search rules)

pub loop-k-preserved : goal.loop-k-preserved
loop-k-preserved c =
    let g : NormalForm = c.args.form in
    let k : ℕ = c.loop-k.k in
    let h : k < g.rows = search rules in
    let e : 32 + k ≡ 31 + suc k = omega arith in
    let left = ap (λ i. get_or c.loop-k.cells i false) e in
    (handed_more _ _ _ (search rules) (omega (arith, c.requires.most_rows)) _
    (c.row_handed.ensures.answer ∙ ap₂ (handed (pattern_of (table_of g.places (suc k)))) c.operands_sure-operands.ensures.answer left)
    c.loop-k.invariant)
