use Prim.Native.Nat.{ℕ, suc, ◌-◌}
use mathlib.Core.Path.{◌≡◌, subst⁻¹, subst}
use native.Mathlib.Omega.{arith}
use Rattle.cycle_rows.proofs.Cases.{CasesFrom, cases_none, cases_all, cases_more, byte_most}
use borrow.Author.Rules.{rules}
use Rattle.cycle_rows.proofs.prepare.table.Goals as goal

pub loop-m-init : goal.loop-m-init
loop-m-init c = (cases_none c.args.row, omega arith)

pub overflow_add-bits : goal.overflow_add-bits
overflow_add-bits c = omega (arith, byte_most c.step_bit-on.result)

pub loop-m-preserved : goal.loop-m-preserved
loop-m-preserved c = let m : ℕ = c.loop-m.m in
    let d : suc (m - 1) ≡ m = omega arith in
    (cases_more c.args.row (m - 1) c.loop-m.bits c.step_bit-on.result (omega (arith, c.loop-m.invariant.1)) (subst⁻¹ (λ n. CasesFrom c.args.row n c.loop-m.bits) d c.loop-m.invariant.0) c.step_bit-on.ensures.answer, omega (arith, c.loop-m.invariant.1))

pub returns : goal.returns
returns c = record { cases = λ a b x. cases_all c.args.row c.loop-m.bits (let z : c.loop-m.m ≡ 0 = search rules in subst (λ n. CasesFrom c.args.row n c.loop-m.bits) z c.loop-m.invariant.0) a b x }
