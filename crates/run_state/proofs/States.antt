-- Calls lead to bytes exactly where the bytes are those of a run that calls lead to. Assumes nothing.
use Prim.Native.Nat.{ℕ, ◌+◌, ◌≤◌}
use mathlib.Core.Bool.{Bool, true, false, not, true≢false}
use mathlib.Core.List.{List}
use mathlib.Core.Path.{◌≡◌, refl, sym, ap, ◌∙◌, subst}
use native.Mathlib.Omega.{arith}
use lib.ListN.{length}
use lib.Seq.{take_all}
use borrow.Author.Tests.{not-true, not-false}
use Rattle.tables.specs.Refusal.{call_refused, numbered}
use Rattle.tables.specs.declared.refusal.Outcome.{Outcome}
use Rattle.tables.specs.declared.refusal.Outcome.TheVariants.{Accepted, Refused}
use Rattle.tables.specs.declared.refusal.Refusal.{Refusal}
use Rattle.tables.specs.declared.row.Formula.{Formula}
use Rattle.tables.specs.declared.run.Run.{Run}
use Rattle.tables.proofs.Outcomes.{refused_only}
use Rattle.tables.proofs.Places.{length_tabulate}
use Rattle.recording.proofs.Laws.{words_length, words_below}
use Rattle.writing.specs.Lent.{Wrote}
use Rattle.judging.specs.declared.verdict.Answer.{Answer}
use Rattle.judging.specs.declared.verdict.Answer.TheVariants.{Refused as AnswerRefused}
use Rattle.run.specs.Calls.{GivesVerdict, TakesCycle}
use Rattle.run.specs.Cycles.{Led}
use Rattle.run.specs.Run.{InState, LedTo, run_of}
use Rattle.run.specs.Verdict.{out_of_range}
use Rattle.run.proofs.Led.{led_valid}
use Rattle.run.proofs.Witness.{run_once}
use Rattle.run_bytes.specs.Bytes.{Fits, run_bytes}
use Rattle.run_bytes.specs.declared.Held.{Held}
use Rattle.run_bytes.proofs.Laws.{bytes_once, run_length_lem}
use Rattle.run_state.specs.State.{state_of}

-- the runs that calls lead to have bytes
led_fits : (f : Formula) (cs : List (List Bool)) → Led f cs → Fits (run_of f cs)
led_fits f cs l =
    record {
      places = ap length (led_valid f cs l).unused_true ∙ length_tabulate 64 0 _;
      words = words_length cs;
      word = words_below cs;
    }

-- A RUN IS KNOWN BY ITS BYTES: no two rules, and no two lists of cycles, have the same
pub state_once : (f g : Formula) (cs ds : List (List Bool)) → Led f cs → Led g ds → state_of f cs ≡ state_of g ds → (f ≡ g) × (cs ≡ ds)
state_once f g cs ds l m e = run_once f g cs ds l m (bytes_once (run_of f cs) (run_of g ds) (led_fits f cs l) (led_fits g ds m) e)

-- what is put over all of a buffer is all that it has then
wrote_all : {before text after : List ℕ} {n : ℕ} → length text ≡ length before → Wrote before 0 text after n → after ≡ text
wrote_all {before} {text} {after} {n} e w = sym (take_all n after (omega (arith, w.next, w.size))) ∙ w.front

module _ (bytes : List ℕ) (held : Held) where
  abbrev Every : Type 0
  Every = (run : Run) → Fits run → bytes ≡ run_bytes run → (held.whole ≡ true) × (held.run ≡ run)

  -- ---- bytes that are no run's
  module _ (every : Every) (n : not held.whole ≡ true) where
    none : {turned : Type 0} {goes : Formula → List (List Bool) → Type 0} → turned → InState (λ f cs. bytes ≡ state_of f cs) turned goes
    none t =
        record {
          no_calls = λ m. t;
          by_calls = λ f cs l q. absurd (true≢false (sym (every (run_of f cs) (led_fits f cs l) q).0 ∙ not-true held.whole n));
        }

    pub no_cycle : (digits : List ℕ) {o : Outcome} → o ≡ call_refused (numbered 4) → TakesCycle state_of bytes digits o bytes
    no_cycle digits e = record { told = none e; unaltered = λ why q. refl }

    pub no_verdict : {a : Answer} → a ≡ AnswerRefused out_of_range → GivesVerdict state_of bytes a bytes
    no_verdict e = record { told = none e; unaltered = refl }

  -- ---- bytes of a run
  module _ (every : Every) (those : held.whole ≡ true → bytes ≡ run_bytes held.run) (n : not held.whole ≡ false) where
    same : bytes ≡ run_bytes held.run
    same = those (not-false held.whole n)

    -- and so there is room for those of another run
    other_length : (run : Run) {text : List ℕ} → text ≡ run_bytes run → length text ≡ length bytes
    other_length run e = ap length e ∙ run_length_lem run ∙ sym (ap length same ∙ run_length_lem held.run)

    pub room : (run : Run) {text : List ℕ} → text ≡ run_bytes run → 0 + length text ≤ length bytes
    room run e = omega (arith, other_length run e)

    -- what holds of the run, holds of its bytes
    of_run : {turned : Type 0} {goes also : Formula → List (List Bool) → Type 0} → InState (λ f cs. held.run ≡ run_of f cs) turned goes
        → ((f : Formula) (cs : List (List Bool)) → goes f cs → also f cs) → InState (λ f cs. bytes ≡ state_of f cs) turned also
    of_run x also =
        record {
          no_calls = λ m. x.no_calls (λ l. m (record { formula = l.formula; cycles = l.cycles; led = l.led; is = same ∙ ap run_bytes l.is }));
          by_calls = λ f cs l q. also f cs (x.by_calls f cs l (every (run_of f cs) (led_fits f cs l) q).1);
        }

    -- the bytes behind a cycle are those of the run behind it
    cycle_so : (digits : List ℕ) {o : Outcome} {run : Run} {after : List ℕ} → TakesCycle run_of held.run digits o run → after ≡ run_bytes run
        → ((why : Refusal) → o ≡ Refused why → after ≡ bytes) → TakesCycle state_of bytes digits o after
    cycle_so digits x e u = record { told = of_run x.told (λ f cs y. (y.0, e ∙ ap run_bytes y.1)); unaltered = u }

    pub refused_cycle : (digits : List ℕ) {o : Outcome} {run : Run} {why : Refusal} → TakesCycle run_of held.run digits o run → o ≡ Refused why
        → TakesCycle state_of bytes digits (Refused why) bytes
    refused_cycle digits {o} {run} {why} x r = subst (λ o. TakesCycle state_of bytes digits o bytes) r (cycle_so digits x (same ∙ ap run_bytes (sym (x.unaltered why r))) (λ w q. refl))

    pub accepted_cycle : (digits : List ℕ) {o : Outcome} {run : Run} {text after : List ℕ} {n : ℕ} → TakesCycle run_of held.run digits o run → o ≡ Accepted
        → text ≡ run_bytes run → Wrote bytes 0 text after n → TakesCycle state_of bytes digits Accepted after
    accepted_cycle digits {run = run} {after = after} x r e w =
        subst (λ o. TakesCycle state_of bytes digits o after) r (cycle_so digits x (wrote_all (other_length run e) w ∙ e) (λ why q. refused_only q r))

    pub verdict_so : {a : Answer} {run : Run} → GivesVerdict run_of held.run a run → GivesVerdict state_of bytes a bytes
    verdict_so x = record { told = of_run x.told (λ f cs y. y); unaltered = refl }
