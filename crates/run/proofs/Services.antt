-- What each service answers in each of its cases. Assumes nothing.
use Prim.Native.Nat.{ℕ, ◌+◌, ◌≤◌, ◌<◌}
use mathlib.Core.Bool.{Bool, true, false, not, true≢false}
use mathlib.Core.List.{List, [], ◌∷◌, ◌++◌}
use mathlib.Core.Logic.{◌↔◌}
use mathlib.Core.Path.{◌≡◌, refl, sym, ap, ◌∙◌, subst}
use native.Mathlib.Omega.{arith}
use lib.Dec.{eqb, ltb}
use lib.ListN.{length, length-append}
use borrow.Author.Tests.{le-ltb, lt-ltb, not-true, not-false}
use Rattle.tables.specs.Choice.{pick}
use Rattle.tables.specs.Only.{TheOnly}
use Rattle.tables.specs.Refusal.{and_then, call_refused, numbered, on_outcome}
use Rattle.tables.specs.declared.refusal.Outcome.{Outcome}
use Rattle.tables.specs.declared.refusal.Outcome.TheVariants.{Accepted, Refused}
use Rattle.tables.specs.declared.refusal.Refusal.{Refusal}
use Rattle.tables.specs.declared.row.Formula.{Formula}
use Rattle.tables.specs.declared.run.Run.{Run}
use Rattle.tables.specs.declared.trace.Ending.TheVariants.{Open}
use Rattle.tables.specs.declared.trace.Lane.{Lane}
use Rattle.tables.specs.declared.trace.Trace.{Trace}
use Rattle.tables.proofs.Choices.{know}
use Rattle.tables.proofs.Outcomes.{refused_only, goes, stops, passes, fails, differ, agree}
use Rattle.text.specs.Digits.{are_digits, digits_in}
use Rattle.recording.specs.Recording.{Recorded, RecordedOf, lanes_from, words_of}
use Rattle.recording.proofs.Laws.{lanes_recorded}
use Rattle.rule_file.specs.Valid.{InRange, Valid}
use Rattle.take_file.specs.Valid.{InRange as TraceInRange}
use Rattle.meeting.specs.Meeting.{meeting_outcome}
use Rattle.meeting.specs.declared.Wanted.TheVariants.{Unlooped}
use Rattle.judging.specs.Answer.{Answers}
use Rattle.judging.specs.declared.verdict.Answer.{Answer}
use Rattle.judging.specs.declared.verdict.Answer.TheVariants.{Refused as AnswerRefused}
use Rattle.run.specs.Calls.{TakesCycle}
use Rattle.run.specs.Cycles.{Led, cycle_outcome, cycles_after}
use Rattle.run.specs.Run.{InState, LedTo, run_of}
use Rattle.run.specs.Verdict.{VerdictSoFar, out_of_range}
use Rattle.run.proofs.Led.{Fine, Whole, accepted_fine, led_of, led_valid, led_whole}
use Rattle.run.proofs.TakeFile.{trace_so_far, trace_range, verdict_so_far}

-- ---- what is told of a cycle, check by check
module _ (signals taken : ℕ) (digits : List ℕ) where
  abbrev FromRoom : Outcome
  FromRoom = pick (ltb taken 256) Accepted (call_refused (numbered 11))

  abbrev FromWidth : Outcome
  FromWidth = and_then (pick (eqb (length digits) signals) Accepted (call_refused (numbered 7))) FromRoom

  module _ {x : Bool} (e : x ≡ are_digits digits) where
    pub other_byte : not x ≡ true → call_refused (numbered 2) ≡ cycle_outcome signals taken digits
    other_byte n = stops FromWidth (fails (numbered 2) (sym e ∙ not-true x n)) refl

    module _ (d : not x ≡ false) where
      from_width : FromWidth ≡ cycle_outcome signals taken digits
      from_width = goes FromWidth (passes (numbered 2) (sym e ∙ not-false x d)) refl

      pub other_width : (length digits ≡ signals → ⊥) → call_refused (numbered 7) ≡ cycle_outcome signals taken digits
      other_width n = stops FromRoom (differ (length digits) signals n) refl ∙ from_width

      module _ (w : length digits ≡ signals) where
        from_room : FromRoom ≡ cycle_outcome signals taken digits
        from_room = goes FromRoom (agree (length digits) signals w) refl ∙ from_width

        pub no_room : 256 ≤ taken → call_refused (numbered 11) ≡ cycle_outcome signals taken digits
        no_room h = fails (numbered 11) (le-ltb taken 256 h) ∙ from_room

        pub all_right : taken < 256 → Accepted ≡ cycle_outcome signals taken digits
        all_right h = passes (numbered 11) (lt-ltb taken 256 h) ∙ from_room

-- ---- the cycles behind a refused call, and behind an accepted one
pub after_refused : (signals : ℕ) (cs : List (List Bool)) (digits : List ℕ) (why : Refusal) → cycle_outcome signals (length cs) digits ≡ Refused why → cycles_after signals cs digits ≡ cs
unfolding cycles_after
after_refused signals cs digits why e = ap (λ o. on_outcome o (λ w. cs) (cs ++ (digits_in digits ∷ []))) e

pub after_accepted : (signals : ℕ) (cs : List (List Bool)) (digits : List ℕ) → cycle_outcome signals (length cs) digits ≡ Accepted → cycles_after signals cs digits ≡ cs ++ (digits_in digits ∷ [])
unfolding cycles_after
after_accepted signals cs digits e = ap (λ o. on_outcome o (λ w. cs) (cs ++ (digits_in digits ∷ []))) e

same_run : {f g : Formula} {m n : ℕ} {v w : List ℕ} → f ≡ g → m ≡ n → v ≡ w
    → ◌≡◌ {A = Run} (record { formula = f; cycles = m; words = v }) (record { formula = g; cycles = n; words = w })
same_run p q r = rw (p, q, r)

-- the run with one cycle more
pub one_more : (run : Run) (digits : List ℕ) {after : List ℕ}
    → ((cs : List (List Bool)) → length cs ≡ run.cycles → run.words ≡ words_of cs → after ≡ words_of (cs ++ (digits_in digits ∷ [])))
    → (f : Formula) (cs : List (List Bool)) → run ≡ run_of f cs
    → ◌≡◌ {A = Run} (record { formula = run.formula; cycles = run.cycles + 1; words = after }) (run_of f (cs ++ (digits_in digits ∷ [])))
one_more run digits put f cs q =
    let size : run.cycles ≡ length cs = ap (λ (x : Run). x.cycles) q in
    same_run (ap (λ (x : Run). x.formula) q) (ap (λ n. n + 1) size ∙ sym (length-append cs (digits_in digits ∷ []))) (put cs (sym size) (ap (λ (x : Run). x.words) q))

-- the trace of a run
pub trace_of_lem : (run : Run) {lanes : List Lane} → lanes ≡ lanes_from run.words → (f : Formula) (cs : List (List Bool)) → run ≡ run_of f cs
    → ◌≡◌ {A = Trace} (record { signals = run.formula.signals; cycles = run.cycles; ending = Open; lanes = lanes }) (trace_so_far f cs)
trace_of_lem run e f cs q =
    same_trace (ap (λ (x : Run). x.formula.signals) q) (ap (λ (x : Run). x.cycles) q) (e ∙ lanes_recorded cs (ap (λ (x : Run). x.words) q))
  where
    same_trace : {a b m n : ℕ} {v w : List Lane} → a ≡ b → m ≡ n → v ≡ w
        → ◌≡◌ {A = Trace} (record { signals = a; cycles = m; ending = Open; lanes = v }) (record { signals = b; cycles = n; ending = Open; lanes = w })
    same_trace p q r = rw (p, q, r)

-- ---- in a state that no calls lead to, and in one that they do
module _ (run : Run) where
  abbrev pub IsLed : Type 0
  IsLed = LedTo (λ f cs. run ≡ run_of f cs)

  stray : {turned : Type 0} {goes : Formula → List (List Bool) → Type 0} → ¬ IsLed → turned → InState (λ f cs. run ≡ run_of f cs) turned goes
  stray n t = record { no_calls = λ m. t; by_calls = λ f cs l q. absurd (n (record { formula = f; cycles = cs; led = l; is = q })) }

  on_run : {turned : Type 0} {goes : Formula → List (List Bool) → Type 0} → IsLed → ((f : Formula) (cs : List (List Bool)) → Led f cs → run ≡ run_of f cs → goes f cs)
      → InState (λ f cs. run ≡ run_of f cs) turned goes
  on_run l g = record { no_calls = λ n. absurd (n l); by_calls = g }

  -- a test that says so exactly
  pub tested : {b : Bool} → (b ≡ true) ↔ IsLed → not b ≡ false → IsLed
  tested {b} e n = e.0 (not-false b n)

  pub untested : {b : Bool} → (b ≡ true) ↔ IsLed → not b ≡ true → ¬ IsLed
  untested {b} e n l = true≢false (sym (e.1 l) ∙ not-true b n)

  -- ---- the test: a run that calls lead to is known by its rule and by its words
  parts : IsLed → Valid run.formula × (run.cycles ≤ 256) × RecordedOf run.words run.formula.signals run.cycles
  parts l =
      let w = led_whole l.formula l.cycles l.led in
      let f : run.formula ≡ l.formula = ap (λ (x : Run). x.formula) l.is in
      let n : run.cycles ≡ length l.cycles = ap (λ (x : Run). x.cycles) l.is in (
        subst Valid (sym f) (led_valid l.formula l.cycles l.led),
        omega (arith, n, w.most),
        record {
          cycles = l.cycles;
          number = sym n;
          widths = λ c h. w.widths c (omega (arith, n)) ∙ sym (ap (λ (x : Formula). x.signals) f);
          held = ap (λ (x : Run). x.words) l.is;
        },
      )

  of_parts : Valid run.formula → run.cycles ≤ 256 → RecordedOf run.words run.formula.signals run.cycles → IsLed
  of_parts v m r =
      record {
        formula = run.formula;
        cycles = r.cycles;
        led = led_of run.formula r.cycles v (record { most = omega (arith, r.number); widths = λ c h. r.widths c (omega (arith, r.number)) });
        is = same_run refl (sym r.number) r.held;
      }

  pub rule_not_read : {b : Bool} → (b ≡ true) ↔ Valid run.formula → not b ≡ true → (false ≡ true) ↔ IsLed
  rule_not_read {b} e n = (λ q. absurd (true≢false (sym q)), λ l. absurd (true≢false (sym (e.1 (parts l).0) ∙ not-true b n)))

  pub too_many : 256 < run.cycles → (false ≡ true) ↔ IsLed
  too_many h = (λ q. absurd (true≢false (sym q)), λ l. absurd (omega (arith, (parts l).1)))

  -- what the words are asked for
  pub few_signals : {b : Bool} → (b ≡ true) ↔ Valid run.formula → not b ≡ false → run.formula.signals ≤ 32
  few_signals {b} e n = (e.0 (not-false b n)).in_range_lem.most_signals

  pub by_words : {b r : Bool} → (b ≡ true) ↔ Valid run.formula → not b ≡ false → run.cycles ≤ 256
      → (r ≡ true) ↔ RecordedOf run.words run.formula.signals run.cycles → (r ≡ true) ↔ IsLed
  by_words {b} e n m w = (λ q. of_parts (e.0 (not-false b n)) m (w.0 q), λ l. w.1 (parts l).2)

  -- ---- one cycle more
  module _ (digits : List ℕ) where
    pub strayed : {o : Outcome} → ¬ IsLed → o ≡ call_refused (numbered 4) → TakesCycle run_of run digits o run
    strayed n e = record { told = stray n e; unaltered = λ why q. refl }

    module _ (led : IsLed) {o : Outcome} (e : o ≡ cycle_outcome run.formula.signals run.cycles digits) where
      outcome_of_lem : (f : Formula) (cs : List (List Bool)) → run ≡ run_of f cs → o ≡ cycle_outcome f.signals (length cs) digits
      outcome_of_lem f cs q = e ∙ ap (λ (x : Run). cycle_outcome x.formula.signals x.cycles digits) q

      pub stays : (why : Refusal) → o ≡ Refused why → TakesCycle run_of run digits o run
      stays why r =
          record {
            told = on_run led (λ f cs l q. (
              outcome_of_lem f cs q,
              q ∙ ap (run_of f) (sym (after_refused f.signals cs digits why (know (outcome_of_lem f cs q) r))),
            ));
            unaltered = λ w x. refl;
          }

      module _ (r : o ≡ Accepted) where
        pub more_room : Recorded run.words run.cycles × (run.cycles < 256) × (length digits ≤ 32)
        more_room =
            let q = led.is in
            let fine = accepted_fine led.formula.signals (length led.cycles) digits (know (outcome_of_lem led.formula led.cycles q) r) in
            let size : run.cycles ≡ length led.cycles = ap (λ (x : Run). x.cycles) q in (
              record { cycles = led.cycles; number = sym size; held = ap (λ (x : Run). x.words) q },
              omega (arith, size, fine.room),
              omega (arith, fine.width, (led_valid led.formula led.cycles led.led).in_range_lem.most_signals),
            )

        pub goes_on : {after : Run} → ((f : Formula) (cs : List (List Bool)) → run ≡ run_of f cs → after ≡ run_of f (cs ++ (digits_in digits ∷ [])))
            → TakesCycle run_of run digits o after
        goes_on more =
            record {
              told = on_run led (λ f cs l q. (
                outcome_of_lem f cs q,
                more f cs q ∙ ap (run_of f) (sym (after_accepted f.signals cs digits (know (outcome_of_lem f cs q) r))),
              ));
              unaltered = λ why x. refused_only x r;
            }

  -- ---- the verdict
  abbrev Told : Answer → Type 0
  Told a = InState (λ f cs. run ≡ run_of f cs) (a ≡ AnswerRefused out_of_range) (λ f cs. VerdictSoFar f cs a)

  pub no_run : {a : Answer} → ¬ IsLed → a ≡ AnswerRefused out_of_range → Told a
  no_run n e = stray n e

  pub no_cycle : {a : Answer} → IsLed → run.cycles < 1 → a ≡ AnswerRefused out_of_range → Told a
  no_cycle {a} led h e = on_run led (λ f cs l q. by f cs (omega (arith, ap (λ (x : Run). x.cycles) q)))
    where
      by : (f : Formula) (cs : List (List Bool)) → length cs < 1 → VerdictSoFar f cs a
      by f [] h = e
      by f (c ∷ cs) h = absurd (omega arith)

  module _ (led : IsLed) (some : 1 ≤ run.cycles) {t : Trace} (is : (f : Formula) (cs : List (List Bool)) → run ≡ run_of f cs → t ≡ trace_so_far f cs) where
    some_cycles : (f : Formula) (cs : List (List Bool)) → run ≡ run_of f cs → 1 ≤ length cs
    some_cycles f cs q = omega (arith, some, ap (λ (x : Run). x.cycles) q)

    pub in_range_lem : InRange run.formula × TraceInRange t
    in_range_lem =
        let f = led.formula in
        let cs = led.cycles in
        let q = led.is in (
          subst InRange (sym (ap (λ (x : Run). x.formula) q)) (led_valid f cs led.led).in_range_lem,
          subst TraceInRange (sym (is f cs q)) (trace_range f cs led.led (some_cycles f cs q)),
        )

    pub judged : {a : Answer} → TheOnly (Answers (meeting_outcome Unlooped run.formula t) run.formula t) a → Told a
    judged {a} x =
        on_run led (λ f cs l q. verdict_so_far f cs l (some_cycles f cs q)
        (subst (λ (g : Formula). TheOnly (Answers (meeting_outcome Unlooped g (trace_so_far f cs)) g (trace_so_far f cs)) a) (ap (λ (y : Run). y.formula) q)
        (subst (λ u. TheOnly (Answers (meeting_outcome Unlooped run.formula u) run.formula u) a) (is f cs q) x)))
