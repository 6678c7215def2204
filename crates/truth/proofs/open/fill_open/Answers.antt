use Prim.Native.Nat.{suc, ◌≤◌}
use mathlib.Core.Path.{refl, subst}
use native.Mathlib.Omega.{arith}
use Rattle.meaning.specs.Satisfaction.{table_of}
use Rattle.meaning.specs.Rows.{Each, EachSignal}
use Rattle.normal_form.proofs.FormTables.{form_operands, row_operands, row_signals}
use Rattle.truth.proofs.Filling.{fill_none, fill_next, earlier_shown, row_shown, fill_enough, filled_tells}
use borrow.Author.Rules.{rules}
use Rattle.truth.proofs.open.fill_open.Goals as goal
use Rattle.truth.proofs.open.fill_open.Goals.{in-Constant, in-Signal, in-Unary, in-Binary}

pub loop-k-init : goal.loop-k-init
loop-k-init c = λ n most all. fill_none n _ _ _ _ refl

pub overflow_sub-s : goal.overflow_sub-s
overflow_sub-s c = (subst (EachSignal (λ s. (1 ≤ s) × (s ≤ 32))) c.in-Signal.is (row_signals c.args.form c.requires.0 c.loop-k.k (search rules))).0

pub bounds-signals-s : goal.bounds-signals-s
bounds-signals-s c = let e = subst (EachSignal (λ s. (1 ≤ s) × (s ≤ 32))) c.in-Signal.is (row_signals c.args.form c.requires.0 c.loop-k.k (search rules)) in omega (arith, e.0, e.1)

pub overflow_sub-a : goal.overflow_sub-a
overflow_sub-a c = (subst (Each (λ a. (1 ≤ a) × (a ≤ 128))) c.in-Unary.is (row_operands c.args.form c.requires.0 c.loop-k.k (search rules))).0

pub bounds-rows-a : goal.bounds-rows-a
bounds-rows-a c = let e = subst (Each (λ a. (1 ≤ a) × (a ≤ 128))) c.in-Unary.is (row_operands c.args.form c.requires.0 c.loop-k.k (search rules)) in omega (arith, e.0, e.1)

pub overflow_sub-a-in-Binary : goal.overflow_sub-a-in-Binary
overflow_sub-a-in-Binary c = (subst (Each (λ a. (1 ≤ a) × (a ≤ 128))) c.in-Binary.is (row_operands c.args.form c.requires.0 c.loop-k.k (search rules))).0.0

pub bounds-rows-a-in-Binary : goal.bounds-rows-a-in-Binary
bounds-rows-a-in-Binary c = let e = (subst (Each (λ a. (1 ≤ a) × (a ≤ 128))) c.in-Binary.is (row_operands c.args.form c.requires.0 c.loop-k.k (search rules))).0 in omega (arith, e.0, e.1)

pub overflow_sub-b : goal.overflow_sub-b
overflow_sub-b c = (subst (Each (λ a. (1 ≤ a) × (a ≤ 128))) c.in-Binary.is (row_operands c.args.form c.requires.0 c.loop-k.k (search rules))).1.0

pub bounds-rows-b : goal.bounds-rows-b
bounds-rows-b c = let e = (subst (Each (λ a. (1 ≤ a) × (a ≤ 128))) c.in-Binary.is (row_operands c.args.form c.requires.0 c.loop-k.k (search rules))).1 in omega (arith, e.0, e.1)

pub loop-k-preserved : goal.loop-k-preserved
loop-k-preserved c = λ n most all.
    let filled = c.loop-k.invariant n most all in
    let below = form_operands c.args.form c.requires.0 (suc c.loop-k.k) (omega arith) in
    fill_next n _ _ _ c.match-row.rows (omega (arith, c.requires.0.most_rows)) (omega arith) filled (λ bits f. let shown = earlier_shown n _ _ _ filled bits f (table_of c.args.form.places (suc c.loop-k.k)) below in elim c.match-row.branch [
      | in-Constant w ↦ row_shown n _ bits w.rows-is w.in-Constant.is (w.constant.ensures.shows n all)
      | in-Signal w ↦ row_shown n _ bits w.rows-is w.in-Signal.is (w.signal.ensures.shows n all)
      | in-Unary w ↦ row_shown n _ bits w.rows-is w.in-Unary.is (w.unary.ensures.shows n _ most all (rw w.in-Unary.is at shown))
      | in-Binary w ↦ let e = (rw w.in-Binary.is at shown) in row_shown n _ bits w.rows-is w.in-Binary.is (w.binary.ensures.shows n _ _ most e.0 e.1)
    ])

pub returns : goal.returns
returns c = record { filled = filled_tells c.args.form c.args.trace c.requires.0 c.requires.2 _ (fill_enough _ _ _ _ (search rules) (c.loop-k.invariant c.args.trace.cycles c.requires.1.most_cycles c.all-all.ensures.answer)) }
