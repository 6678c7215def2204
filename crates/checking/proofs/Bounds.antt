-- How late a failure can be found. Assumes nothing.
use Prim.Native.Nat.{ℕ, ◌+◌, ◌-◌, ◌<◌}
use mathlib.Core.Path.{sym, ◌∙◌}
use mathlib.Core.Bool.{true≢false}
use native.Mathlib.Decide.{dec_lt}
use native.Mathlib.Omega.{arith}
use Rattle.tables.specs.declared.row.NormalForm.{NormalForm}
use Rattle.tables.specs.declared.trace.Activation.{Activation}
use Rattle.tables.specs.declared.trace.Ending.{Ending}
use Rattle.tables.specs.declared.trace.Ending.TheVariants.{Open, Loop}
use Rattle.tables.specs.declared.trace.Trace.{Trace}
use Rattle.take_file.specs.Valid.{Below as LoopBelow, InRange}
use Rattle.meaning.specs.Trace.{signal_at}
use Rattle.meaning.specs.Satisfaction.{table_of}
use Rattle.monitors.specs.Sheet.{activator_at}
use Rattle.monitors.proofs.Periods.{lasso_never_fails}
use Rattle.checking.specs.declared.finding.Finding.TheVariants.{Failed}
use Rattle.checking.specs.Finding.{FailsFirst, FindingOf}
use Rattle.checking.specs.Conclusion.{course_of}

module _ (g : NormalForm) (t : Trace) (a : Activation) where
  -- what fails does so in the take, or in one round of its loop more
  fails_soon : (e : Ending) → LoopBelow t.cycles e → (row cycle : ℕ) → FailsFirst g t a e row cycle → cycle < (course_of t.cycles e).end
  fails_soon Open below row cycle x = x.a_cycle
  fails_soon (Loop l) below row cycle x = by (dec_lt cycle (t.cycles + (t.cycles - l)))
    where
      by : Dec (cycle < t.cycles + (t.cycles - l)) → cycle < t.cycles + (t.cycles - l)
      by (yes h) = h
      by (no h) = absurd (true≢false (sym x.fails ∙ lasso_never_fails t.cycles l below (signal_at t) (table_of g.places) (activator_at a) row (λ j p. x.earliest j row (omega arith) x.a_row) cycle))

  end_small : (e : Ending) → InRange t → (course_of t.cycles e).end < 513
  end_small Open r = omega (arith, r.most_cycles)
  end_small (Loop l) r = omega (arith, r.most_cycles)

  -- THE CYCLE OF A FAILURE IS BELOW 512
  pub failed_cycle : InRange t → (row cycle : ℕ) → FindingOf g t a (Failed row cycle) → cycle < 512
  failed_cycle r row cycle f = omega (arith, fails_soon t.ending r.loop row cycle f.said, end_small t.ending r)
