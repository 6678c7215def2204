use Prim.Native.Nat.{ℕ, suc, ◌+◌, ◌<◌}
use mathlib.Core.Bool.{◌&&◌}
use mathlib.Core.Path.{◌≡◌, ap, ap₂, ◌∙◌}
use native.Mathlib.Omega.{arith}
use borrow.Author.Rules.{rules}
use Rattle.tables.specs.declared.row.NormalForm.{NormalForm}
use Rattle.tables.specs.declared.row.Row.{Row}
use Rattle.meaning.specs.Satisfaction.{table_of}
use Rattle.meaning.specs.Pattern.{pattern_of}
use Rattle.normal_form.proofs.FormTables.{row_operands}
use Rattle.cycle_rows.specs.Cells.{row_cell}
use Rattle.between_rounds.specs.Between.{same_in, stays}
use Rattle.between_rounds.proofs.Rows.{survey_more}
use Rattle.between_rounds.proofs.survey.Goals as goal

pub operands_sure-requires : goal.operands_sure-requires
operands_sure-requires c = row_operands c.args.form c.requires c.loop-k.k (search rules)

pub row_stays-requires : goal.row_stays-requires
row_stays-requires c =
    let k : ℕ = c.loop-k.k in
    let h : k < c.args.form.rows = search rules in
    (row_operands c.args.form c.requires k h, (omega arith, omega (arith, c.requires.most_rows)))

pub loop-k-preserved : goal.loop-k-preserved
loop-k-preserved c =
    λ ok.
    let g : NormalForm = c.args.form in
    let k : ℕ = c.loop-k.k in
    let e : k + 1 ≡ suc k = omega arith in
    let r : Row = table_of g.places (suc k) in
    let stay = c.row_stays.ensures.answer ∙ ap (λ n. stays (same_in c.args.behind.now c.args.cells.now) n r (pattern_of r)) e in
    (survey_more g ok (row_cell c.args.behind.now) (row_cell c.args.cells.now) k c.loop-k.sure (search rules) (search rules) _
    (ap₂ ◌&&◌ c.operands_sure.ensures.answer stay) (c.loop-k.invariant ok))

pub returns : goal.returns
returns c = let to = c.loop-k.invariant c.requires in record { surveyed = λ k h. to.told k (search rules); all = λ e k h. to.each e k (search rules); some = λ e. let s = to.some e in (s.0, omega (arith, s.1, to.within), s.2) }
