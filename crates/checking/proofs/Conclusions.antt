-- What the check concludes from its survey is the finding: the cycles that it goes through decide. Assumes nothing.
use Prim.Native.Nat.{ℕ, suc, ◌-◌, ◌≤◌, ◌<◌}
use mathlib.Core.Path.{◌≡◌, refl, sym, ap, ◌∙◌}
use mathlib.Core.Bool.{Bool, true, false}
use native.Mathlib.Omega.{arith}
use Rattle.std.proofs.Common.{Option, Some, None}
use Rattle.std.specs.Option.{option_map_or, MatchOption}
use Rattle.tables.specs.declared.row.Row.{Row}
use Rattle.tables.specs.declared.row.Row.TheVariants.{Constant, Signal, Unary, Binary}
use Rattle.tables.specs.declared.row.NormalForm.{NormalForm}
use Rattle.tables.specs.declared.trace.Activation.{Activation}
use Rattle.tables.specs.declared.trace.Ending.{Ending}
use Rattle.tables.specs.declared.trace.Ending.TheVariants.{Open, Loop}
use Rattle.tables.specs.declared.trace.Trace.{Trace}
use Rattle.take_file.specs.Valid.{Below as LoopBelow}
use Rattle.meaning.specs.Trace.{signal_at}
use Rattle.meaning.specs.Satisfaction.{table_of}
use Rattle.meaning.specs.Rows.{Each}
use Rattle.meaning.proofs.Rows.{each_signal}
use Rattle.meaning.proofs.Periodic.{position_first}
use Rattle.monitors.specs.declared.Output.{Output}
use Rattle.monitors.specs.Along.{state_before}
use Rattle.monitors.specs.Sheet.{activator_at, open_output, IsRow, PassesLooped, PassesOpen}
use Rattle.monitors.proofs.Locality.{output_local}
use Rattle.monitors.proofs.Periods.{lasso_never_fails, lasso_accepts, lasso_starved}
use Rattle.checking.specs.declared.finding.Finding.TheVariants.{Failed, Starved, Pending, Passes}
use Rattle.row_monitor.specs.declared.row.Course.{Course}
use Rattle.checking.specs.declared.survey.Failure.{Failure}
use Rattle.checking.specs.declared.survey.Survey.{Survey}
use Rattle.row_monitor.specs.RowReport.{CourseOf}
use Rattle.checking.specs.Survey.{LowestBad, LowestOf, said, waiting, Accepts, Starves, NoFailure, FirstFailure, SurveyTo}
use Rattle.checking.specs.Finding.{RootSet, NoneFails, Returns, FailsFirst, StarvesFirst, PendsFirst, FindingOf}
use Rattle.checking.specs.Conclusion.{course_of, at_end, concluded}
use Rattle.checking.proofs.Findings.{failed_only, starved_only, pending_only, looped_only, open_only, finding_by}

pub course_fits : (n : ℕ) (e : Ending) → 1 ≤ n → n ≤ 256 → LoopBelow n e → CourseOf (course_of n e)
course_fits n Open some most below = record { most = most; start = some; end = omega arith }
course_fits n (Loop l) some most below = record { most = most; start = below; end = omega arith }

-- ---- a looped take

module _ (g : NormalForm) (t : Trace) (a : Activation) (l : ℕ) (l<n : l < t.cycles) (root : RootSet g t a) where
  abbrev loop : Course
  loop = course_of t.cycles (Loop l)

  looped_fails : {f : Failure} → FirstFailure g t a loop g.rows f → FailsFirst g t a (Loop l) f.row f.cycle
  looped_fails x = record {
    root_set = root;
    a_row = x.lowest.a_row;
    a_cycle = tt;
    fails = x.lowest.bad;
    earliest = λ i k h r. x.clean i k h r;
    lowest = λ k r h. x.lowest.lower k r.0 h;
  }

  module _ (clean : NoFailure g t a loop g.rows) where
    looped_clean : NoneFails g t a (Loop l)
    looped_clean i k c r = lasso_never_fails t.cycles l l<n (signal_at t) (table_of g.places) (activator_at a) k (λ j h. clean j k h r) i

    accepted_returns : (k : ℕ) → Accepts g t a loop k → Returns g t a l k
    accepted_returns k x i never = let y = lasso_accepts t.cycles l l<n (signal_at t) (table_of g.places) (activator_at a) k x.0 x.1 x.3 i in never (y.0, (y.1, y.2))

    looped_passes : ((k : ℕ) → IsRow g k → Accepts g t a loop k) → PassesLooped g t l a
    looped_passes accepts = record {
      root_set = root;
      none_fails = λ i k r. looped_clean i k tt r;
      accepts_return = λ k r. accepted_returns k (accepts k r);
    }

    looped_starves : {row : ℕ} → LowestBad (Accepts g t a loop) (Starves g t a loop) g.rows row → StarvesFirst g t a l row
    looped_starves {row} x = record {
      root_set = root;
      none_fails = looped_clean;
      a_row = x.a_row;
      starves = lasso_starved t.cycles l l<n (signal_at t) (table_of g.places) (activator_at a) row x.bad;
      lowest = λ k r h. accepted_returns k (x.lower k r.0 h);
    }

-- ---- an open take

module _ (g : NormalForm) (t : Trace) (a : Activation) (n>0 : 1 ≤ t.cycles) where
  abbrev once : Course
  once = course_of t.cycles Open

  each_row : (r : Row) → Each (λ a. Unit {0}) r
  each_row (Constant c) = tt
  each_row (Signal c s) = tt
  each_row (Unary c a) = tt
  each_row (Binary c a b) = (tt, tt)

  -- below its end an open take is gone through as it stands
  open_said : (i k : ℕ) → i < t.cycles → said g t a once i k ≡ open_output g t a i k
  open_said i k h = output_local (table_of g.places) (λ k. Unit {0}) (λ k u. each_row (table_of g.places k)) _ (signal_at t) _ (activator_at a) t.cycles
      (λ i l k u. each_signal _ (λ s. ap (λ c. signal_at t c s) (position_first t.cycles 0 i l)) (table_of g.places k))
      (λ i l k u. ap (λ c. activator_at a c k) (position_first t.cycles 0 i l)) k tt i h

  open_waiting : (k : ℕ) → waiting g t a once t.cycles k ≡ (open_output g t a (t.cycles - 1) k).pending
  unfolding state_before
  open_waiting k =
      let e : t.cycles ≡ suc (t.cycles - 1) = omega arith in
      ap (λ i. waiting g t a once i k) e ∙ ap (λ (o : Output). o.pending) (open_said (t.cycles - 1) k (omega arith))

  failed_at : (i : ℕ) → i < t.cycles → {b : Bool} → (k : ℕ) → (said g t a once i k).failed ≡ b → (open_output g t a i k).failed ≡ b
  failed_at i h k x = sym (ap (λ (o : Output). o.failed) (open_said i k h)) ∙ x

  module _ (root : RootSet g t a) where
    open_fails : {f : Failure} → FirstFailure g t a once g.rows f → FailsFirst g t a Open f.row f.cycle
    open_fails {f} x = record {
      root_set = root;
      a_row = x.lowest.a_row;
      a_cycle = x.within;
      fails = failed_at f.cycle x.within f.row x.lowest.bad;
      earliest = λ i k h r. failed_at i (omega (arith, x.within)) k (x.clean i k h r);
      lowest = λ k r h. failed_at f.cycle x.within k (x.lowest.lower k r.0 h);
    }

    module _ (clean : NoFailure g t a once g.rows) where
      none_fails : NoneFails g t a Open
      none_fails i k c r = failed_at i c k (clean i k c r)

      open_passes : ((k : ℕ) → IsRow g k → waiting g t a once t.cycles k ≡ false) → PassesOpen g t a
      open_passes none = record {
        root_set = root;
        none_fails = none_fails;
        none_pending = λ k r. sym (open_waiting k) ∙ none k r;
      }

      open_pends : {row : ℕ} → LowestBad (λ k. waiting g t a once t.cycles k ≡ false) (λ k. waiting g t a once t.cycles k ≡ true) g.rows row → PendsFirst g t a row
      open_pends {row} x = record {
        root_set = root;
        none_fails = none_fails;
        a_row = x.a_row;
        pends = sym (open_waiting row) ∙ x.bad;
        lowest = λ k r h. sym (open_waiting k) ∙ x.lower k r.0 h;
      }

-- ---- the conclusion

module _ (g : NormalForm) (t : Trace) (a : Activation) (n>0 : 1 ≤ t.cycles) (root : RootSet g t a) where
  pub concluded_finding : (e : Ending) → t.ending ≡ e → LoopBelow t.cycles e → (s : Survey) → SurveyTo g t a (course_of t.cycles e) g.rows s → FindingOf g t a (concluded e s)
  concluded_finding Open q below s to = by s.failure to.failure (to.pending)
    where
      behind : (o : Option ℕ) → NoFailure g t a (course_of t.cycles Open) g.rows → LowestOf (λ k. waiting g t a (course_of t.cycles Open) t.cycles k ≡ false) (λ k. waiting g t a (course_of t.cycles Open) t.cycles k ≡ true) g.rows o
          → FindingOf g t a (option_map_or Pending o Passes)
      behind None clean none = let x = open_passes g t a n>0 root clean none in finding_by g t a Open q Passes x (open_only g t a x)
      behind (Some row) clean first = let x = open_pends g t a n>0 root clean first in finding_by g t a Open q _ x (pending_only g t a _ x)

      by : (o : Option Failure) → MatchOption o (NoFailure g t a (course_of t.cycles Open) g.rows) (FirstFailure g t a (course_of t.cycles Open) g.rows)
          → (o ≡ None → LowestOf (λ k. waiting g t a (course_of t.cycles Open) t.cycles k ≡ false) (λ k. waiting g t a (course_of t.cycles Open) t.cycles k ≡ true) g.rows s.pending)
          → FindingOf g t a (option_map_or (λ (f : Failure). Failed f.row f.cycle) o (at_end Open s))
      by None clean pending = behind s.pending clean (pending refl)
      by (Some f) first pending = let x = open_fails g t a n>0 root first in finding_by g t a Open q _ x (failed_only g t a Open _ _ x)
  concluded_finding (Loop l) q below s to = by s.failure to.failure (to.starved)
    where
      behind : (o : Option ℕ) → NoFailure g t a (course_of t.cycles (Loop l)) g.rows → LowestOf (Accepts g t a (course_of t.cycles (Loop l))) (Starves g t a (course_of t.cycles (Loop l))) g.rows o
          → FindingOf g t a (option_map_or Starved o Passes)
      behind None clean none = let x = looped_passes g t a l below root clean none in finding_by g t a (Loop l) q Passes x (looped_only g t a l x)
      behind (Some row) clean first = let x = looped_starves g t a l below root clean first in finding_by g t a (Loop l) q _ x (starved_only g t a l _ x)

      by : (o : Option Failure) → MatchOption o (NoFailure g t a (course_of t.cycles (Loop l)) g.rows) (FirstFailure g t a (course_of t.cycles (Loop l)) g.rows)
          → (o ≡ None → LowestOf (Accepts g t a (course_of t.cycles (Loop l))) (Starves g t a (course_of t.cycles (Loop l))) g.rows s.starved)
          → FindingOf g t a (option_map_or (λ (f : Failure). Failed f.row f.cycle) o (at_end (Loop l) s))
      by None clean starved = behind s.starved clean (starved refl)
      by (Some f) first starved = let x = looped_fails g t a l below root first in finding_by g t a (Loop l) q _ x (failed_only g t a (Loop l) _ _ x)
