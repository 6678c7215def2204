-- There are such lists of calls: whatever is asked of a run, in whatever order, is answered as the contracts say. And a run is known by its
-- state. Assumes nothing.
use Prim.Native.Nat.{ℕ, ◌≤◌}
use mathlib.Core.Bool.{Bool}
use mathlib.Core.List.{List, [], ◌∷◌, map}
use mathlib.Core.Path.{◌≡◌, refl, sym, ap, ap₂, ◌∙◌, subst}
use native.Mathlib.Omega.{arith}
use lib.ListN.{length}
use Rattle.tables.specs.Refusal.{on_outcome}
use Rattle.tables.specs.declared.refusal.Outcome.{Outcome}
use Rattle.tables.specs.declared.refusal.Outcome.TheVariants.{Accepted, Refused}
use Rattle.tables.specs.declared.refusal.Refusal.{Refusal}
use Rattle.tables.specs.declared.row.Formula.{Formula}
use Rattle.tables.specs.declared.run.Run.{Run}
use Rattle.tables.specs.declared.trace.Trace.{Trace}
use Rattle.recording.specs.Recording.{lanes_of}
use Rattle.recording.proofs.Laws.{lanes_recorded}
use Rattle.take_file.specs.Written.{cycles_of}
use Rattle.judging.specs.declared.verdict.Answer.{Answer}
use Rattle.judging.specs.declared.verdict.Answer.TheVariants.{Judged, Refused as AnswerRefused}
use Rattle.judging.proofs.ByBits.{computed_verdict, verdict_computed}
use Rattle.run.specs.Calls.{Answered, Call, Call.cycle, Call.verdict, Called, Called.none, Called.call, GivesVerdict, TakesCycle}
use Rattle.run.specs.Cycles.{Led, cycle_outcome, cycles_after}
use Rattle.run.specs.Run.{InState, LedTo, run_of}
use Rattle.run.specs.Verdict.{VerdictSoFar, out_of_range}
use Rattle.run.proofs.Calls.{led_more}
use Rattle.run.proofs.Led.{led_valid}
use Rattle.run.proofs.Services.{after_refused, trace_of_lem}
use Rattle.run.proofs.TakeFile.{same_cycles, trace_range, trace_so_far}
use Rattle.run.proofs.Verdicts.{verdict_is}

-- A RUN IS KNOWN BY ITS STATE: no two rules, and no two lists of cycles, have the same
pub run_once : (f g : Formula) (cs ds : List (List Bool)) → Led f cs → Led g ds → run_of f cs ≡ run_of g ds → (f ≡ g) × (cs ≡ ds)
run_once f g cs ds l m e =
    let lanes : lanes_of cs ≡ lanes_of ds = sym (lanes_recorded cs refl) ∙ lanes_recorded ds (ap (λ (x : Run). x.words) e) in
    let trace : trace_so_far f cs ≡ trace_so_far g ds = rw (ap (λ (x : Run). x.formula.signals) e, ap (λ (x : Run). x.cycles) e, lanes) in
    (ap (λ (x : Run). x.formula) e, sym (same_cycles f cs l) ∙ (ap cycles_of trace ∙ same_cycles g ds m))

-- what is asked of a run
pub data Ask : Type 0 where
  hand_over : List ℕ → Ask
  call_on : Ask

abbrev pub asked : Call → Ask
asked (cycle digits o) = hand_over digits
asked (verdict a) = call_on

-- an answer to a call for the verdict
verdict_for : (f : Formula) (cs : List (List Bool)) → Led f cs → (a : Answer) × VerdictSoFar f cs a
verdict_for f [] led = (AnswerRefused out_of_range, refl)
verdict_for f (c ∷ cs) led =
    let t : Trace = trace_so_far f (c ∷ cs) in
    let told = verdict_computed f t (led_valid f (c ∷ cs) led).in_range_lem (trace_range f (c ∷ cs) led (omega arith)) in
    (Judged (computed_verdict f t), verdict_is f (c ∷ cs) led (omega arith) (computed_verdict f t) told)

module _ {S : Type 0} (state_of : Formula → List (List Bool) → S)
    (once : (f g : Formula) (cs ds : List (List Bool)) → Led f cs → Led g ds → state_of f cs ≡ state_of g ds → (f ≡ g) × (cs ≡ ds)) where
  -- what is said of a rule and cycles, is said in their state
  in_state : (f : Formula) (cs : List (List Bool)) → Led f cs → {turned : Type 0} (goes : Formula → List (List Bool) → Type 0) → goes f cs
      → InState (λ g ds. state_of f cs ≡ state_of g ds) turned goes
  in_state f cs led goes x =
      record {
        no_calls = λ n. absurd (n (record { formula = f; cycles = cs; led = led; is = refl }));
        by_calls = λ g ds m e. let same = once f g cs ds led m e in subst (λ h. goes h ds) same.0 (subst (goes f) same.1 x);
      }

  cycle_answered : (f : Formula) (cs : List (List Bool)) → Led f cs → (digits : List ℕ)
      → TakesCycle state_of (state_of f cs) digits (cycle_outcome f.signals (length cs) digits) (state_of f (cycles_after f.signals cs digits))
  cycle_answered f cs led digits =
      record {
        told = in_state f cs led (λ g ds. (cycle_outcome f.signals (length cs) digits ≡ cycle_outcome g.signals (length ds) digits)
            × (state_of f (cycles_after f.signals cs digits) ≡ state_of g (cycles_after g.signals ds digits))) (refl, refl);
        unaltered = λ why e. ap (state_of f) (after_refused f.signals cs digits why e);
      }

  verdict_answered : (f : Formula) (cs : List (List Bool)) (led : Led f cs) → GivesVerdict state_of (state_of f cs) (verdict_for f cs led).0 (state_of f cs)
  verdict_answered f cs led = record { told = in_state f cs led (λ g ds. VerdictSoFar g ds (verdict_for f cs led).0) (verdict_for f cs led).1; unaltered = refl }

  -- the calls that were asked for, answered
  pub record Asking (s : S) (asks : List Ask) : Type 0 where
    pub calls : List Call
    pub after : S
    pub called : Called state_of s calls after
    pub are : map asked calls ≡ asks

  -- WHATEVER IS ASKED OF A RUN IS ANSWERED
  pub all_answered : (f : Formula) (cs : List (List Bool)) → Led f cs → (asks : List Ask) → Asking (state_of f cs) asks
  all_answered f cs led [] = record { calls = []; after = state_of f cs; called = none; are = refl }
  all_answered f cs led (hand_over digits ∷ asks) =
      let rest = all_answered f (cycles_after f.signals cs digits) (led_more f cs led digits) asks in
      record {
        calls = cycle digits (cycle_outcome f.signals (length cs) digits) ∷ rest.calls;
        after = rest.after;
        called = call (cycle_answered f cs led digits) rest.called;
        are = ap (λ xs. hand_over digits ∷ xs) rest.are;
      }
  all_answered f cs led (call_on ∷ asks) =
      let rest = all_answered f cs led asks in
      record {
        calls = verdict (verdict_for f cs led).0 ∷ rest.calls;
        after = rest.after;
        called = call (verdict_answered f cs led) rest.called;
        are = ap (λ xs. call_on ∷ xs) rest.are;
      }
