-- The loop over the rows: what each row's report adds to the survey. Assumes nothing.
use Prim.Native.Nat.{ℕ, zero, suc, ◌≤◌, ◌<◌}
use mathlib.Core.Path.{◌≡◌, refl, sym, ap, subst⁻¹, ◌∙◌}
use mathlib.Core.Logic.{◌⊎◌, inl, inr}
use mathlib.Core.Bool.{Bool, true, false, not}
use native.Mathlib.Nat.{eq-or-lt_of_le}
use native.Mathlib.Decide.{dec_le}
use native.Mathlib.Omega.{arith}
use borrow.Author.Tests.{not-true, not-false, le-leb, lt-leb}
use Rattle.std.proofs.Common.{Option, Some, None, Result, Ok, Err}
use Rattle.std.specs.Bool.{then_some}
use Rattle.std.specs.Option.{option_or, MatchOption}
use Rattle.tables.specs.Bit.{bit_at}
use Rattle.tables.specs.declared.row.Row.{Row}
use Rattle.tables.specs.declared.row.Row.TheVariants.{Constant, Signal, Unary, Binary}
use Rattle.tables.specs.declared.row.NormalForm.{NormalForm}
use Rattle.tables.specs.declared.trace.Activation.{Activation}
use Rattle.tables.specs.declared.trace.Trace.{Trace}
use Rattle.meaning.specs.Trace.{signal_at, position}
use Rattle.meaning.specs.Satisfaction.{table_of}
use Rattle.monitors.specs.declared.Output.{Output}
use Rattle.monitors.specs.declared.RowState.{RowState}
use Rattle.monitors.specs.Monitor.{row_monitor, monitor}
use Rattle.monitors.specs.Along.{state_before}
use Rattle.monitors.specs.Sheet.{activator_at}
use Rattle.row_monitor.specs.declared.row.Course.{Course}
use Rattle.row_monitor.specs.declared.row.RowMonitor.{RowMonitor}
use Rattle.row_monitor.specs.declared.row.RowReport.{RowReport}
use Rattle.checking.specs.declared.survey.Failure.{Failure}
use Rattle.checking.specs.declared.survey.Survey.{Survey}
use Rattle.row_monitor.specs.RowReport.{row_pending, course_output, course_pending, FailsAt, GoesThrough, RowReportOf}
use Rattle.checking.specs.Survey.{earlier, noted, monitor_at, UpTo, LowestOf, said, waiting, Accepts, Starves, NoFailure, FirstFailure, SurveyTo}

-- what is so of the first m rows and of row m + 1
with_row : (P : ℕ → Type 0) {m : ℕ} → ((k : ℕ) → UpTo m k → P k) → P (suc m) → (k : ℕ) → UpTo (suc m) k → P k
with_row P {m} f p k r = by (eq-or-lt_of_le r.1)
  where
    by : (k ≡ suc m) ⊎ (k < suc m) → P k
    by (inl e) = subst⁻¹ P e p
    by (inr h) = f k (r.0, omega arith)

-- ---- the lowest bad one

module _ (Good Bad : ℕ → Type 0) {m : ℕ} where
  lowest_next : (o : Option ℕ) → LowestOf Good Bad m o → (b : Bool) → (b ≡ true → Bad (suc m)) → (b ≡ false → Good (suc m))
      → LowestOf Good Bad (suc m) (option_or o (then_some b (suc m)))
  lowest_next (Some row) l b bad good = record { a_row = (l.a_row.0, omega (arith, l.a_row.1)); bad = l.bad; lower = l.lower }
  lowest_next None l true bad good = record { a_row = (omega arith, omega arith); bad = bad refl; lower = λ k p h. l k (p, omega arith) }
  lowest_next None l false bad good = with_row Good l (good refl)

-- ---- what a row's monitor reads

module _ (t : Trace) (a : Activation) where
  at_numbers : (r : Row) (k c : ℕ) (s : RowState) → let x = monitor_at t a r k in
      row_monitor r (bit_at x.first c) (bit_at x.second c) s ≡ monitor (activator_at a c) (signal_at t c) r s
  at_numbers (Constant q) k c s = refl
  at_numbers (Signal q b) k c s = refl
  at_numbers (Unary q b) k c s = refl
  at_numbers (Binary q b d) k c s = refl

  module _ (g : NormalForm) (course : Course) (k : ℕ) where
    abbrev row : Row
    row = table_of g.places k

    abbrev watch : RowMonitor
    watch = monitor_at t a row k

    step : (i : ℕ) (p q : Bool) → p ≡ q → let c = position course.cycles course.start i in
        row_monitor row (bit_at watch.first c) (bit_at watch.second c) (record { active = bit_at watch.active c; pending = p })
        ≡ monitor (activator_at a c) (signal_at t c) row (record { active = activator_at a c k; pending = q })
    step i p q e =
        let c : ℕ = position course.cycles course.start i in
        at_numbers row k c (record { active = bit_at watch.active c; pending = p })
        ∙ ap (λ b. monitor (activator_at a c) (signal_at t c) row (record { active = activator_at a c k; pending = b })) e

    pub pending_same : (i : ℕ) → course_pending watch course i ≡ waiting g t a course i k
    unfolding row_pending state_before
    pending_same zero = refl
    pending_same (suc i) = ap (λ (o : Output). o.pending) (step i _ _ (pending_same i))

    pub output_same : (i : ℕ) → course_output watch course i ≡ said g t a course i k
    output_same i = step i _ _ (pending_same i)

-- ---- one row more

module _ (g : NormalForm) (t : Trace) (a : Activation) (course : Course) where
  pub survey_start : SurveyTo g t a course 0 (record { failure = None; starved = None; pending = None })
  survey_start = record {
    failure = λ i k h r. absurd (omega (arith, r.0, r.1));
    starved = λ e k r. absurd (omega (arith, r.0, r.1));
    pending = λ e k r. absurd (omega (arith, r.0, r.1));
  }

  module _ {m : ℕ} {s : Survey} (to : SurveyTo g t a course m s) where
    abbrev next : RowMonitor
    next = monitor_at t a (table_of g.places (suc m)) (suc m)

    row_said : (i : ℕ) → course_output next course i ≡ said g t a course i (suc m)
    row_said = output_same t a g course (suc m)

    clean_row : {e : ℕ} → ((i : ℕ) → i < e → (course_output next course i).failed ≡ false)
        → (i : ℕ) → i < e → ((k : ℕ) → UpTo m k → (said g t a course i k).failed ≡ false)
        → (k : ℕ) → UpTo (suc m) k → (said g t a course i k).failed ≡ false
    clean_row clean i h before = with_row (λ k. (said g t a course i k).failed ≡ false) before (sym (ap (λ (o : Output). o.failed) (row_said i)) ∙ clean i h)

    -- the row fails
    module _ {cycle : ℕ} (x : FailsAt next course cycle) where
      abbrev failure : Failure
      failure = record { row = suc m; cycle = cycle }

      fails : (said g t a course cycle (suc m)).failed ≡ true
      fails = sym (ap (λ (o : Output). o.failed) (row_said cycle)) ∙ x.fails

      earliest : (o : Option Failure) → MatchOption o (NoFailure g t a course m) (FirstFailure g t a course m) → FirstFailure g t a course (suc m) (earlier o failure)
      earliest None clean = record {
        within = x.within;
        clean = λ i k h r. clean_row x.clean i h (λ k q. clean i k (omega (arith, x.within)) q) k r;
        lowest = record { a_row = (omega arith, omega arith); bad = fails; lower = λ k p h. clean cycle k x.within (p, omega arith) };
      }
      earliest (Some f) before = by (dec_le f.cycle cycle)
        where
          by : Dec (f.cycle ≤ cycle) → FirstFailure g t a course (suc m) (earlier (Some f) failure)
          by (yes l) = rw (le-leb f.cycle cycle l) (record {
            within = before.within;
            clean = λ i k h r. clean_row x.clean i (omega arith) (λ k q. before.clean i k h q) k r;
            lowest = record { a_row = (before.lowest.a_row.0, omega (arith, before.lowest.a_row.1)); bad = before.lowest.bad; lower = before.lowest.lower };
          })
          by (no n) =
              let l : cycle < f.cycle = omega arith in
              rw (lt-leb f.cycle cycle l) (record {
                within = x.within;
                clean = λ i k h r. clean_row x.clean i h (λ k q. before.clean i k (omega arith) q) k r;
                lowest = record { a_row = (omega arith, omega arith); bad = fails; lower = λ k p h. before.clean cycle k l (p, omega arith) };
              })

      survey_fails : SurveyTo g t a course (suc m) (noted s (suc m) (Err cycle))
      survey_fails = record { failure = earliest s.failure to.failure; starved = λ e. absurd (cc e); pending = λ e. absurd (cc e) }

    -- the row goes through
    module _ {r : RowReport} (x : GoesThrough next course r) where
      stays : (o : Option Failure) → MatchOption o (NoFailure g t a course m) (FirstFailure g t a course m) → MatchOption o (NoFailure g t a course (suc m)) (FirstFailure g t a course (suc m))
      stays None clean = λ i k h q. clean_row x.clean i h (λ k q. clean i k h q) k q
      stays (Some f) before = record {
        within = before.within;
        clean = λ i k h q. clean_row x.clean i (omega (arith, before.within)) (λ k q. before.clean i k h q) k q;
        lowest = record { a_row = (before.lowest.a_row.0, omega (arith, before.lowest.a_row.1)); bad = before.lowest.bad; lower = before.lowest.lower };
      }

      accepts : r.accepted ≡ true → Accepts g t a course (suc m)
      accepts q = let y = x.accepts.seen q in (y.0, y.1, y.2, sym (ap (λ (o : Output). o.accept) (row_said y.0)) ∙ y.3)

      starves : r.accepted ≡ false → Starves g t a course (suc m)
      starves q j p l = sym (ap (λ (o : Output). o.accept) (row_said j)) ∙ x.accepts.unseen q j p l

      waits : waiting g t a course course.end (suc m) ≡ r.pending
      waits = sym (pending_same t a g course (suc m) course.end) ∙ sym x.ends

      survey_goes : SurveyTo g t a course (suc m) (noted s (suc m) (Ok r))
      survey_goes = record {
        failure = stays s.failure to.failure;
        starved = λ e. lowest_next (Accepts g t a course) (Starves g t a course) s.starved (to.starved e) (not r.accepted) (λ q. starves (not-true r.accepted q)) (λ q. accepts (not-false r.accepted q));
        pending = λ e. lowest_next (λ k. waiting g t a course course.end k ≡ false) (λ k. waiting g t a course course.end k ≡ true) s.pending (to.pending e) r.pending (λ q. waits ∙ q) (λ q. waits ∙ q);
      }

    pub survey_next : (report : Result RowReport ℕ) → RowReportOf next course report → SurveyTo g t a course (suc m) (noted s (suc m) report)
    survey_next (Ok r) x = survey_goes x
    survey_next (Err cycle) x = survey_fails x
