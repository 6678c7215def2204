-- Runs in the library: what the functions on bytes answer, and that a run's verdict has the number that judging its take file gives.
-- Assumes nothing.
use Prim.Native.Nat.{ℕ}
use mathlib.Core.Bool.{Bool}
use mathlib.Core.List.{List, [], ◌∷◌}
use mathlib.Core.Path.{◌≡◌, refl, sym, ap, ap₂, ◌∙◌, subst}
use native.Mathlib.Omega.{arith}
use native.Mathlib.Decide.{ℕ_discrete}
use lib.ListN.{drop, get_or, length}
use Rattle.tables.specs.Only.{TheOnly}
use Rattle.tables.specs.declared.row.Formula.{Formula}
use Rattle.tables.specs.declared.trace.Trace.{Trace}
use Rattle.text.specs.Result.{Result}
use Rattle.text.specs.Result.Result.{accepted, refused}
use Rattle.rule_file.specs.Rule.{parse_rule}
use Rattle.take_file.specs.Take.{parse_take}
use Rattle.rule_and_take.specs.File.{OnFile, OnPair}
use Rattle.meeting.specs.Meeting.{meeting_outcome}
use Rattle.meeting.specs.declared.Wanted.TheVariants.{Unlooped}
use Rattle.judging.specs.Answer.{Answers}
use Rattle.judging.specs.declared.verdict.Answer.{Answer}
use Rattle.writing.specs.Answer.{Delivers}
use Rattle.writing.specs.declared.answer.Bytes.{Bytes}
use Rattle.writing.specs.declared.answer.Bytes.TheVariants.{Refused as BytesRefused}
use Rattle.run.specs.Calls.{Call, Called, accepted_cycles}
use Rattle.run.specs.Cycles.{Led}
use Rattle.run.specs.Run.{LedTo, run_of}
use Rattle.run.specs.Verdict.{VerdictSoFar, out_of_range, take_file}
use Rattle.run.proofs.Calls.{run_behind, behind_led}
use Rattle.run_bytes.proofs.Laws.{run_length_lem}
use Rattle.run_state.specs.State.{state_of}
use Rattle.answer_code.specs.Code.{bytes_code, judge_code, outcome_code, refusal_code}
use Rattle.citronhelm.specs.Service.{CycleAs, JudgedAs, Turned, VerdictAs, WrittenAs}

-- what a run's beginning answers, as a number
pub begin_coded : (p : Result Formula) (before after : List ℕ) (b : Bytes) {r : ℕ} → r ≡ bytes_code b
    → OnFile 1 p (λ why. (b ≡ BytesRefused why) × (after ≡ before)) (λ f. Delivers (state_of f []) before after b)
    → OnFile 1 p (Turned before after r) (λ f. WrittenAs (state_of f []) before after r)
begin_coded (accepted f) before after b e x = (e ∙ ap bytes_code x.answered, x.left)
begin_coded (refused why n) before after b e x = (e ∙ ap bytes_code x.0, x.1)

-- ---- the verdict so far, and the verdict on the take file

-- the number of the open service for these two files
abbrev pub JudgedOpen : List ℕ → List ℕ → ℕ → Type 0
JudgedOpen rule take s =
    OnPair (parse_rule rule) (parse_take take) (λ why. s ≡ refusal_code why) (λ f t. JudgedAs (meeting_outcome Unlooped f t) f t s)

-- the open service's number, once the rule is read
same_number : (f : Formula) (q : Result Trace) (a : Answer) (s : ℕ)
    → OnFile 2 q (λ why. ⊥) (λ t. TheOnly (Answers (meeting_outcome Unlooped f t) f t) a)
    → OnFile 2 q (λ why. s ≡ refusal_code why) (λ t. JudgedAs (meeting_outcome Unlooped f t) f t s) → judge_code a ≡ s
same_number f (accepted t) a s x y = ap judge_code (y.answers.only a x.so) ∙ sym y.coded
same_number f (refused why n) a s x y = absurd x

so_far_number : (f : Formula) (c : List Bool) (cs : List (List Bool)) (a : Answer) (rule : List ℕ) → parse_rule rule ≡ accepted f → VerdictSoFar f (c ∷ cs) a
    → (s : ℕ) → JudgedOpen rule (take_file f.signals (c ∷ cs)) s → judge_code a ≡ s
so_far_number f c cs a rule e x s y =
    same_number f (parse_take (take_file f.signals (c ∷ cs))) a s x
    (subst (λ p. OnPair p (parse_take (take_file f.signals (c ∷ cs))) (λ why. s ≡ refusal_code why) (λ f t. JudgedAs (meeting_outcome Unlooped f t) f t s)) e y)

-- what the number of a verdict has to be, for the cycles so far
abbrev pub NumberSoFar : List ℕ → Formula → List (List Bool) → ℕ → Type 0
NumberSoFar rule f [] r = r ≡ refusal_code out_of_range
NumberSoFar rule f (c ∷ cs) r = (s : ℕ) → JudgedOpen rule (take_file f.signals (c ∷ cs)) s → r ≡ s

-- A RUN'S VERDICT HAS THE NUMBER THAT citronhelm_judge_open ANSWERS for the rule file that it began with and the take file of the cycles
-- accepted so far, whatever calls came before
module _ (rule : List ℕ) (f : Formula) (read : parse_rule rule ≡ accepted f) where
  number_of : (cs : List (List Bool)) → Led f cs → (state : List ℕ) → state ≡ state_of f cs → (r : ℕ) → VerdictAs state r → NumberSoFar rule f cs r
  number_of [] l state e r x = x.coded ∙ ap judge_code (x.gives.told.by_calls f [] l e)
  number_of (c ∷ cs) l state e r x = λ s y. x.coded ∙ so_far_number f c cs x.answer rule read (x.gives.told.by_calls f (c ∷ cs) l e) s y

  pub number_so_far : (calls : List Call) (state : List ℕ) → Called state_of (state_of f []) calls state → (r : ℕ) → VerdictAs state r
      → NumberSoFar rule f (accepted_cycles f calls) r
  number_so_far calls state x r v =
      number_of (accepted_cycles f calls) (behind_led state_of rule f read calls x) state (run_behind state_of rule f read calls x) r v

-- ---- one number, and one state
same_list : (a b : List ℕ) → Dec (a ≡ b)
same_list [] [] = yes refl
same_list [] (y ∷ ys) = no (λ e. omega (arith, ap length e))
same_list (x ∷ xs) [] = no (λ e. omega (arith, ap length e))
same_list (x ∷ xs) (y ∷ ys) = by (ℕ_discrete x y) (same_list xs ys)
  where
    by : Dec (x ≡ y) → Dec (xs ≡ ys) → Dec (x ∷ xs ≡ y ∷ ys)
    by (yes e) (yes q) = yes (ap₂ ◌∷◌ e q)
    by (no n) d = no (λ e. n (ap (λ zs. get_or zs 0 0) e))
    by (yes e) (no n) = no (λ q. n (ap (λ zs. drop 1 zs) q))

-- what follows where calls lead to the state and where none do, follows, if it can be decided
either_way : {A L : Type 0} → Dec A → (L → A) → (¬ L → A) → A
either_way (yes a) by_calls no_calls = a
either_way (no n) by_calls no_calls = absurd (n (no_calls (λ l. n (by_calls l))))

-- A CYCLE'S CALL ON GIVEN BYTES HAS ONE NUMBER, AND LEAVES THE SAME BYTES
pub cycle_once : {before digits after other : List ℕ} {r s : ℕ} → CycleAs before digits after r → CycleAs before digits other s → (r ≡ s) × (after ≡ other)
cycle_once {before} {digits} {after} {other} {r} {s} x y =
    (either_way (ℕ_discrete r s) (λ l. (led l).0) (λ n. (stray n).0), either_way (same_list after other) (λ l. (led l).1) (λ n. (stray n).1))
  where
    led : LedTo (λ f cs. before ≡ state_of f cs) → (r ≡ s) × (after ≡ other)
    led l =
        let a = x.takes.told.by_calls l.formula l.cycles l.led l.is in
        let b = y.takes.told.by_calls l.formula l.cycles l.led l.is in
        (x.coded ∙ ap outcome_code (a.0 ∙ sym b.0) ∙ sym y.coded, a.1 ∙ sym b.1)

    stray : ¬ LedTo (λ f cs. before ≡ state_of f cs) → (r ≡ s) × (after ≡ other)
    stray n =
        let a = x.takes.told.no_calls n in
        let b = y.takes.told.no_calls n in
        (x.coded ∙ ap outcome_code (a ∙ sym b) ∙ sym y.coded, x.takes.unaltered _ a ∙ sym (y.takes.unaltered _ b))

-- A CALL FOR THE VERDICT ON GIVEN BYTES HAS ONE NUMBER
pub verdict_once : {state : List ℕ} {r s : ℕ} → VerdictAs state r → VerdictAs state s → r ≡ s
verdict_once {state} {r} {s} x y = either_way (ℕ_discrete r s) led stray
  where
    one : (f : Formula) (cs : List (List Bool)) → Led f cs → VerdictSoFar f cs x.answer → VerdictSoFar f cs y.answer → x.answer ≡ y.answer
    one f [] l a b = a ∙ sym b
    one f (c ∷ cs) l a b = same (parse_take (take_file f.signals (c ∷ cs))) a b
      where
        same : (q : Result Trace) → OnFile 2 q (λ why. ⊥) (λ t. TheOnly (Answers (meeting_outcome Unlooped f t) f t) x.answer)
            → OnFile 2 q (λ why. ⊥) (λ t. TheOnly (Answers (meeting_outcome Unlooped f t) f t) y.answer) → x.answer ≡ y.answer
        same (accepted t) a b = b.only x.answer a.so
        same (refused why n) a b = absurd a

    led : LedTo (λ f cs. state ≡ state_of f cs) → r ≡ s
    led l =
        let a = x.gives.told.by_calls l.formula l.cycles l.led l.is in
        let b = y.gives.told.by_calls l.formula l.cycles l.led l.is in
        x.coded ∙ ap judge_code (one l.formula l.cycles l.led a b) ∙ sym y.coded

    stray : ¬ LedTo (λ f cs. state ≡ state_of f cs) → r ≡ s
    stray n = x.coded ∙ ap judge_code (x.gives.told.no_calls n ∙ sym (y.gives.told.no_calls n)) ∙ sym y.coded

-- A RUN'S LENGTH IS WHAT include/citronhelm.h SAYS, and is not taken for a refusal
pub state_length : (f : Formula) (cs : List (List Bool)) → length (state_of f cs) ≡ 1220
state_length f cs = run_length_lem (run_of f cs)
