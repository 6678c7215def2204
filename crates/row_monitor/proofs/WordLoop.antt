-- Sixty-four cycles of the loop along the take for one row, gone through at once. Assumes nothing.
use Prim.Native.Nat.{ℕ, zero, suc, ◌+◌, ◌-◌, ◌≤◌, ◌<◌}
use mathlib.Core.Path.{◌≡◌, refl, sym, ap, subst, ◌∙◌}
use mathlib.Core.Logic.{◌⊎◌, inl, inr}
use mathlib.Core.Bool.{Bool, true, false, not, ◌&&◌, ◌||◌, true≢false}
use native.Mathlib.Nat.{eq-or-lt_of_le}
use native.Mathlib.Omega.{arith}
use lib.Dec.{ltb, leb}
use borrow.Author.Tests.{not-true, leb-true, leb-false}
use Rattle.std.specs.Bool.{then_some}
use Rattle.std.specs.Prelude.{Ok, ok_or}
use Rattle.std.proofs.Math.Bool.{and-true}
use Rattle.std.proofs.lemmas.Bool.{or_cases, or_parts, or_from, and_parts}
use Rattle.tables.specs.Choice.{pick}
use Rattle.tables.specs.Bit.{bit_at}
use Rattle.tables.specs.declared.row.Row.{Row}
use Rattle.meaning.specs.Trace.{position}
use Rattle.meaning.specs.Approximant.{approximant}
use Rattle.meaning.proofs.Readings.{lt_or_le}
use Rattle.meaning.proofs.Periodic.{position_next}
use Rattle.monitors.specs.declared.Output.{Output}
use Rattle.monitors.specs.Monitor.{row_monitor}
use Rattle.row_monitor.specs.declared.row.Course.{Course}
use Rattle.row_monitor.specs.declared.row.RowMonitor.{RowMonitor}
use Rattle.row_monitor.specs.declared.row.RowReport.{RowReport}
use Rattle.row_monitor.specs.RowReport.{row_pending, AcceptedTo, course_output, course_pending}
use Rattle.row_monitor.specs.Word.{some, when_active, when_pending, dropped, held, failing, staying, pending_from, word_report, WholeWord}
use Rattle.row_monitor.proofs.Causes.{by_both, most, accepts, failed_by, pending_by}
use Rattle.row_monitor.proofs.ReportLoop.{ReportTo}

-- ---- one cycle of a word

-- it goes by an activator or by a pending, z: it does not fail at once (f), nor later (x), where it waits (w)
no_failure : (z f w x : Bool) → (z && (f || (w && x))) ≡ false → ((z && f) ≡ false) × (((z && w) && x) ≡ false)
no_failure true true w x e = absurd (true≢false e)
no_failure true false w x e = (refl, e)
no_failure false f w x e = (refl, refl)

-- pending behind the word: by this cycle's activator (z, w) or pending (p, h), or by a later cycle's activator (s)
stays_on : (z p w h s x : Bool) → (s || (((z && w) || (p && h)) && x)) ≡ (((z && (w && x)) || s) || (p && (h && x)))
stays_on z p w h true x = sym (on (z && (w && x)) (p && (h && x)))
  where
    on : (u v : Bool) → ((u || true) || v) ≡ true
    on true v = refl
    on false v = refl
stays_on true p true h false true = refl
stays_on true true true true false false = refl
stays_on true true true false false false = refl
stays_on true false true h false false = refl
stays_on true true false h false x = refl
stays_on true false false h false x = refl
stays_on false true w h false x = refl
stays_on false false w h false x = refl

ok_given : (b : Bool) {x y : Bool} → ok_or (then_some b x) x ≡ Ok y → (b ≡ true) × (x ≡ y)
ok_given true e = (refl, cc)
ok_given false e = cc

module _ (monitor : RowMonitor) (course : Course) where
  abbrev row : Row
  row = monitor.row

  abbrev active : ℕ → Bool
  active = bit_at monitor.active

  abbrev first : ℕ → Bool
  first = bit_at monitor.first

  abbrev second : ℕ → Bool
  second = bit_at monitor.second

  abbrev out : ℕ → Output
  out = course_output monitor course

  abbrev pending : ℕ → Bool
  pending = course_pending monitor course

  abbrev at : ℕ → ℕ
  at = position course.cycles course.start

  failed_here : (i m : ℕ) → m ≡ at i → (out i).failed ≡ ((active m && (when_active row (first m) (second m)).failed) || (pending i && (when_pending row (first m) (second m)).failed))
  failed_here i m e = rw e (failed_by (active (at i)) (pending i) (first (at i)) (second (at i)) row)

  pending_here : (i m : ℕ) → m ≡ at i → pending (suc i) ≡ ((active m && (when_active row (first m) (second m)).pending) || (pending i && (when_pending row (first m) (second m)).pending))
  unfolding row_pending
  pending_here i m e = rw e (pending_by (active (at i)) (pending i) (first (at i)) (second (at i)) row)

  next_at_lem : (i m : ℕ) → m ≡ at i → suc m < course.cycles → suc m ≡ at (suc i)
  next_at_lem i m e h = ap suc e ∙ sym (position_next course.cycles course.start i (omega (arith, e)))

  goes_on : (n i m : ℕ) → m ≡ at i → m + n < course.cycles → m + n ≡ at (i + n)
  goes_on zero i m e h = let q : m + 0 ≡ m = omega arith in let r : i + 0 ≡ i = omega arith in rw (q, r) e
  goes_on (suc n) i m e h =
      let q : m + suc n ≡ suc m + n = omega arith in
      let r : i + suc n ≡ suc i + n = omega arith in
      rw (q, r) (goes_on n (suc i) (suc m) (next_at_lem i m e (omega arith)) (omega arith))

  module _ (e : ℕ) (fits : e ≤ course.cycles) where
    abbrev lost : ℕ → Bool
    lost = dropped row first second e

    abbrev keeps : ℕ → Bool
    keeps = held row first second e

    lost_now : (i : ℕ) → i < e → lost i ≡ ((when_pending row (first i) (second i)).failed || ((when_pending row (first i) (second i)).pending && lost (suc i)))
    unfolding approximant
    lost_now i h = let q : e - i ≡ suc (e - suc i) = omega arith in rw q refl

    keeps_now : (i : ℕ) → i < e → keeps i ≡ ((when_pending row (first i) (second i)).pending && keeps (suc i))
    unfolding approximant
    keeps_now i h = let q : e - i ≡ suc (e - suc i) = omega arith in rw q refl

    keeps_end : (i : ℕ) → i ≡ e → keeps i ≡ true
    unfolding approximant
    keeps_end i h = let q : e - i ≡ 0 = omega arith in rw q refl

    abbrev Clean : ℕ → ℕ → Type 0
    Clean n i = (j : ℕ) → i ≤ j → j < i + n → (out j).failed ≡ false

    goes : (n i m : ℕ) → m + n ≡ e → (0 < n → m ≡ at i) → some n m (λ x. active x && failing row first second e x) ≡ false → (pending i && lost m) ≡ false
        → Clean n i × (pending (i + n) ≡ pending_from row first second e n m active (pending i))
    unfolding some
    goes zero i m q h none l =
        let r : i + 0 ≡ i = omega arith in
        (λ j a b. absurd (omega arith), ap pending r ∙ sym (ap (λ k. pending i && k) (keeps_end m (omega arith)) ∙ and-true (pending i)))
    goes (suc n) i m q h none l =
        let here = h (omega arith) in
        let next = pending_here i m here in
        let parts = or_parts _ _ none in
        let one = no_failure (active m) (when_active row (first m) (second m)).failed (when_active row (first m) (second m)).pending (lost (suc m)) parts.0 in
        let other = no_failure (pending i) (when_pending row (first m) (second m)).failed (when_pending row (first m) (second m)).pending (lost (suc m)) (rw (lost_now m (omega arith)) at l) in
        let later = ap (λ y. y && lost (suc m)) next ∙ by_both (active m && (when_active row (first m) (second m)).pending) (pending i && (when_pending row (first m) (second m)).pending) (lost (suc m)) ∙ or_from _ _ one.1 other.1 in
        let rest = goes n (suc i) (suc m) (omega arith) (λ u. next_at_lem i m here (omega arith)) parts.1 later in
        let r : i + suc n ≡ suc i + n = omega arith in (
          clean (failed_here i m here ∙ or_from _ _ one.0 other.0) rest.0,
          ap pending r ∙ rest.1 ∙ ap (λ y. some n (suc m) (λ x. active x && staying row first second e x) || (y && keeps (suc m))) next
              ∙ stays_on (active m) (pending i) (when_active row (first m) (second m)).pending (when_pending row (first m) (second m)).pending (some n (suc m) (λ x. active x && staying row first second e x)) (keeps (suc m))
              ∙ sym (ap (λ k. ((active m && staying row first second e m) || some n (suc m) (λ x. active x && staying row first second e x)) || (pending i && k)) (keeps_now m (omega arith))),
        )
      where
        clean : (out i).failed ≡ false → Clean n (suc i) → Clean (suc n) i
        clean f c j a b = by (eq-or-lt_of_le a)
          where
            by : (i ≡ j) ⊎ (i < j) → (out j).failed ≡ false
            by (inl x) = subst (λ y. (out y).failed ≡ false) x f
            by (inr x) = c j x (omega arith)

  -- ---- the word's cycles are gone through

  module _ {i c : ℕ} {report : RowReport} (r : ReportTo monitor course i c report) (w : WholeWord c i course) {behind : Bool} (given : word_report monitor c report.pending ≡ Ok behind) where
    whole : Clean (c + 64) w.recorded 64 i × (pending (i + 64) ≡ behind)
    unfolding word_report
    whole =
        let told = ok_given _ given in
        let none = and_parts (not (some 64 c (λ x. active x && failing row first second (c + 64) x))) (not (report.pending && lost (c + 64) w.recorded c)) told.0 in
        let not-lost = not-true (report.pending && lost (c + 64) w.recorded c) none.1 in
        let x = goes (c + 64) w.recorded 64 i c refl (λ u. r.at) (not-true (some 64 c (λ x. active x && failing row first second (c + 64) x)) none.0) (ap (λ p. p && lost (c + 64) w.recorded c) (sym r.pending) ∙ not-lost) in
        (x.0, x.1 ∙ ap (λ p. pending_from row first second (c + 64) 64 c active p) (sym r.pending) ∙ told.1)

    last_accepts : ((row_monitor row false false most).accept ≡ true) ⊎ (behind ≡ false) → (out (i + 63)).accept ≡ true
    unfolding row_pending
    last_accepts h = accepts row (first (at (i + 63))) (second (at (i + 63))) (record { active = active (at (i + 63)); pending = pending (i + 63) }) (by h)
      where
        by : ((row_monitor row false false most).accept ≡ true) ⊎ (behind ≡ false) → ((row_monitor row false false most).accept ≡ true) ⊎ ((out (i + 63)).pending ≡ false)
        by (inl k) = inl k
        by (inr f) = let q : suc (i + 63) ≡ i + 64 = omega arith in inr (ap pending q ∙ whole.1 ∙ f)

    -- what is asked of a word before it is gone through at once: none of its cycles counts, or there is an accept up to its last
    abbrev Settled : Bool → Type 0
    Settled counts = (((not counts || report.accepted) || (row_monitor row false false most).accept) || not behind) ≡ true

    accepted_to : (counts : Bool) → leb course.from i ≡ counts → Settled counts → AcceptedTo monitor course (i + 64) (report.accepted || counts)
    accepted_to false e h = record {
      seen = λ q. before (by (or_cases report.accepted false q));
      unseen = λ q j a b. absurd (none w.counting j a b);
    }
      where
        by : (report.accepted ≡ true) ⊎ (false ≡ true) → report.accepted ≡ true
        by (inl x) = x
        by (inr x) = absurd (true≢false (sym x))

        before : report.accepted ≡ true → (j : ℕ) × (course.from ≤ j) × (j < i + 64) × ((out j).accept ≡ true)
        before x = let s = r.accepted.seen x in (s.0, s.1, omega (arith, s.2), s.3)

        none : (i + 64 ≤ course.from) ⊎ (course.from ≤ i) → (j : ℕ) → course.from ≤ j → j < i + 64 → ⊥
        none (inl x) j a b = omega arith
        none (inr x) j a b = omega (arith, leb-false course.from i e)
    accepted_to true e h = record {
      seen = λ q. by (or_cases (report.accepted || (row_monitor row false false most).accept) (not behind) h);
      unseen = λ q. absurd (true≢false (or_parts report.accepted true q).1);
    }
      where
        Seen : Type 0
        Seen = (j : ℕ) × (course.from ≤ j) × (j < i + 64) × ((out j).accept ≡ true)

        last : ((row_monitor row false false most).accept ≡ true) ⊎ (behind ≡ false) → Seen
        last x = (i + 63, omega (arith, leb-true course.from i e), omega arith, last_accepts x)

        by_two : (report.accepted ≡ true) ⊎ ((row_monitor row false false most).accept ≡ true) → Seen
        by_two (inl x) = let s = r.accepted.seen x in (s.0, s.1, omega (arith, s.2), s.3)
        by_two (inr x) = last (inl x)

        by : ((report.accepted || (row_monitor row false false most).accept) ≡ true) ⊎ (not behind ≡ true) → Seen
        by (inl x) = by_two (or_cases report.accepted (row_monitor row false false most).accept x)
        by (inr x) = last (inr (not-true behind x))

    pub word_goes : {c' : ℕ} → Settled (leb course.from i) → c' ≡ pick (ltb (suc (c + 63)) course.cycles) (suc (c + 63)) course.start
        → ReportTo monitor course (i + 64) c' (record { pending = behind; accepted = report.accepted || leb course.from i })
    unfolding position
    word_goes {c'} h next =
        let q : suc (i + 63) ≡ i + 64 = omega arith in
        record {
          within = w.within;
          at = next ∙ ap (λ m. pick (ltb (suc m) course.cycles) (suc m) course.start) (goes_on 63 i c r.at (omega (arith, w.recorded))) ∙ ap at q;
          clean = λ j l. clean j l (lt_or_le j i);
          pending = sym whole.1;
          accepted = accepted_to (leb course.from i) refl h;
        }
      where
        clean : (j : ℕ) → j < i + 64 → (j < i) ⊎ (i ≤ j) → (out j).failed ≡ false
        clean j l (inl x) = r.clean j x
        clean j l (inr x) = whole.0 j x l
