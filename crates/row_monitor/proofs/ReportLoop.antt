-- The loop along the take for one row. Assumes nothing.
use Prim.Native.Nat.{ℕ, suc, ◌+◌, ◌≤◌, ◌<◌}
use mathlib.Core.Path.{◌≡◌, refl, sym, ap, subst, subst⁻¹, ◌∙◌}
use mathlib.Core.Logic.{◌⊎◌, inl, inr}
use mathlib.Core.Bool.{Bool, true, false, ◌&&◌, ◌||◌, true≢false}
use native.Mathlib.Nat.{eq-or-lt_of_le}
use native.Mathlib.Numerals.{add-one}
use native.Mathlib.Omega.{arith}
use lib.Dec.{ltb, leb}
use borrow.Author.Tests.{le-leb, leb-true}
use Rattle.std.proofs.lemmas.Bool.{or_cases, or_parts, and_parts}
use Rattle.tables.specs.Choice.{pick}
use Rattle.tables.specs.Bit.{bit_at}
use Rattle.meaning.specs.Trace.{position}
use Rattle.meaning.proofs.Readings.{on_and_off}
use Rattle.meaning.proofs.Periodic.{position_below}
use Rattle.monitors.specs.declared.Output.{Output}
use Rattle.monitors.specs.Monitor.{row_monitor}
use Rattle.row_monitor.specs.declared.row.Course.{Course}
use Rattle.row_monitor.specs.declared.row.RowMonitor.{RowMonitor}
use Rattle.row_monitor.specs.declared.row.RowReport.{RowReport}
use Rattle.row_monitor.specs.RowReport.{row_pending, CourseOf, AcceptedTo, course_output, course_pending, CleanTo, FailsAt, GoesThrough}

and_one : (x y : Bool) → (x && y) ≡ false → y ≡ true → x ≡ false
and_one true y e h = on_and_off h e
and_one false y e h = refl

module _ (monitor : RowMonitor) (course : Course) where
  -- the first i cycles are gone through, none of them failed; c is the take's cycle in which cycle i is
  pub record ReportTo (i c : ℕ) (report : RowReport) : Type 0 where
    pub within : i ≤ course.end
    pub at : c ≡ position course.cycles course.start i
    pub clean : CleanTo monitor course i
    pub pending : report.pending ≡ course_pending monitor course i
    pub accepted : AcceptedTo monitor course i report.accepted

  pub report_start : ReportTo 0 0 (record { pending = false; accepted = false })
  unfolding position row_pending
  report_start = record {
    within = omega arith;
    at = refl;
    clean = λ j h. absurd (omega arith);
    pending = refl;
    accepted = record { seen = λ e. absurd (true≢false (sym e)); unseen = λ e j a b. absurd (omega arith) };
  }

  pub cycle_small : {i c : ℕ} {report : RowReport} → CourseOf course → ReportTo i c report → c < 256
  cycle_small {i} ok r = rw r.at (omega (arith, ok.most, position_below course.cycles course.start ok.start i))

  module _ {i c : ℕ} {report : RowReport} (r : ReportTo i c report) (h : i < course.end)
      {said : Output} (e : said ≡ row_monitor monitor.row (bit_at monitor.first c) (bit_at monitor.second c) (record { active = bit_at monitor.active c; pending = report.pending })) where
    -- what is said is what the row's monitor says at cycle i
    here : said ≡ course_output monitor course i
    here = e ∙ rw (r.at, r.pending)

    pub report_fails : said.failed ≡ true → FailsAt monitor course i
    report_fails f = record { within = h; clean = r.clean; fails = sym (ap (λ (x : Output). x.failed) here) ∙ f }

    pub report_goes : {c' : ℕ} → said.failed ≡ false → c' ≡ pick (ltb (suc c) course.cycles) (suc c) course.start
        → ReportTo (i + 1) c' (record { pending = said.pending; accepted = report.accepted || (said.accept && leb course.from i) })
    unfolding position row_pending
    report_goes {c'} f next = record {
      within = omega arith;
      at = next ∙ rw (r.at, add-one i);
      clean = λ j l. clean j (eq-or-lt_of_le (below j l));
      pending = ap (λ (x : Output). x.pending) here ∙ ap (course_pending monitor course) (sym (add-one i));
      accepted = record { seen = seen; unseen = λ q j a b. unseen q j a (eq-or-lt_of_le (below j b)) };
    }
      where
        below : (j : ℕ) → j < i + 1 → j ≤ i
        below j l = omega arith

        clean : (j : ℕ) → (j ≡ i) ⊎ (j < i) → (course_output monitor course j).failed ≡ false
        clean j (inl q) = subst⁻¹ (λ m. (course_output monitor course m).failed ≡ false) q (sym (ap (λ (x : Output). x.failed) here) ∙ f)
        clean j (inr l) = r.clean j l

        accept : said.accept ≡ (course_output monitor course i).accept
        accept = ap (λ (x : Output). x.accept) here

        Seen : ℕ → Type 0
        Seen m = (j : ℕ) × (course.from ≤ j) × (j < m) × ((course_output monitor course j).accept ≡ true)

        seen : (report.accepted || (said.accept && leb course.from i)) ≡ true → (j : ℕ) × (course.from ≤ j) × (j < i + 1) × ((course_output monitor course j).accept ≡ true)
        seen q = by (or_cases report.accepted (said.accept && leb course.from i) q)
          where
            by : (report.accepted ≡ true) ⊎ ((said.accept && leb course.from i) ≡ true) → (j : ℕ) × (course.from ≤ j) × (j < i + 1) × ((course_output monitor course j).accept ≡ true)
            by (inl x) = let s = r.accepted.seen x in (s.0, s.1, omega (arith, s.2), s.3)
            by (inr x) = let s = and_parts said.accept (leb course.from i) x in (i, leb-true course.from i s.1, omega arith, sym accept ∙ s.0)

        unseen : (report.accepted || (said.accept && leb course.from i)) ≡ false → (j : ℕ) → course.from ≤ j → (j ≡ i) ⊎ (j < i) → (course_output monitor course j).accept ≡ false
        unseen q j a (inl m) = subst⁻¹ (λ x. (course_output monitor course x).accept ≡ false) m (sym accept ∙ and_one said.accept (leb course.from i) (or_parts report.accepted _ q).1 (le-leb course.from i (omega arith)))
        unseen q j a (inr l) = r.accepted.unseen (or_parts report.accepted _ q).0 j a l

  pub report_ends : {i c : ℕ} {report : RowReport} → ReportTo i c report → course.end ≤ i → GoesThrough monitor course report
  report_ends {i} {c} {report} r l =
      let e : i ≡ course.end = omega (arith, r.within) in
      record {
        clean = λ j h. r.clean j (omega arith);
        ends = r.pending ∙ ap (course_pending monitor course) e;
        accepts = subst (λ m. AcceptedTo monitor course m report.accepted) e r.accepted;
      }
