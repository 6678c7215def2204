-- A run that has a cycle gets a verdict, and 4 is told before the first alone. Assumes nothing.
use Prim.Native.Nat.{ℕ, ◌≤◌}
use mathlib.Core.Bool.{Bool}
use mathlib.Core.List.{List, [], ◌∷◌}
use mathlib.Core.Logic.{◌↔◌}
use mathlib.Core.Path.{◌≡◌, refl, sym, ap, ◌∙◌, subst}
use native.Mathlib.Omega.{arith}
use lib.ListN.{length}
use Rattle.tables.specs.Only.{TheOnly}
use Rattle.tables.specs.Refusal.{and_then}
use Rattle.tables.specs.declared.refusal.Outcome.TheVariants.{Accepted}
use Rattle.tables.specs.declared.row.Formula.{Formula}
use Rattle.tables.specs.declared.trace.Trace.{Trace}
use Rattle.tables.proofs.Outcomes.{agree}
use Rattle.take_file.specs.Take.{parse_take}
use Rattle.rule_and_take.specs.File.{OnFile}
use Rattle.meeting.specs.Meeting.{meeting_outcome}
use Rattle.meeting.specs.declared.Wanted.TheVariants.{Unlooped}
use Rattle.judging.specs.Answer.{Answers}
use Rattle.judging.specs.Verdict.{VerdictOf}
use Rattle.judging.specs.declared.verdict.Answer.{Answer}
use Rattle.judging.specs.declared.verdict.Answer.TheVariants.{Judged, Refused}
use Rattle.judging.specs.declared.verdict.Verdict.{Verdict}
use Rattle.judging.proofs.ByBits.{only_judged}
use Rattle.run.specs.Cycles.{Led}
use Rattle.run.specs.Verdict.{VerdictSoFar, out_of_range, take_file}
use Rattle.run.proofs.TakeFile.{file_read_back, trace_so_far, verdict_so_far}

-- nothing is refused where a run's rule meets its trace
met : (f : Formula) (cs : List (List Bool)) → meeting_outcome Unlooped f (trace_so_far f cs) ≡ Accepted
met f cs = ap (λ o. and_then o Accepted) (sym (agree f.signals f.signals refl))

-- A RUN WITH A CYCLE GETS THE VERDICT ON ITS TRACE
pub verdict_given : (f : Formula) (cs : List (List Bool)) → Led f cs → 1 ≤ length cs → (a : Answer) → VerdictSoFar f cs a
    → (v : Verdict) × (a ≡ Judged v) × VerdictOf f (trace_so_far f cs) v
verdict_given f [] led some a x = absurd (omega arith)
verdict_given f (c ∷ cs) led some a x =
    let t : Trace = trace_so_far f (c ∷ cs) in
    let read : TheOnly (Answers (meeting_outcome Unlooped f t) f t) a =
    subst (λ q. OnFile 2 q (λ why. ⊥) (λ t. TheOnly (Answers (meeting_outcome Unlooped f t) f t) a)) (file_read_back f (c ∷ cs) led some) x in
    subst (λ o. Answers o f t a) (met f (c ∷ cs)) read.so

-- and the verdict on that trace is the one that it gets
pub verdict_is : (f : Formula) (cs : List (List Bool)) → Led f cs → 1 ≤ length cs → (v : Verdict) → VerdictOf f (trace_so_far f cs) v → VerdictSoFar f cs (Judged v)
verdict_is f cs led some v is =
    verdict_so_far f cs led some (subst (λ o. TheOnly (Answers o f (trace_so_far f cs)) (Judged v)) (sym (met f cs)) (only_judged f (trace_so_far f cs) v is))

-- 4 BEFORE THE FIRST CYCLE, AND NO LONGER
pub four_before_first : (f : Formula) (cs : List (List Bool)) → Led f cs → (a : Answer) → VerdictSoFar f cs a → (a ≡ Refused out_of_range) ↔ (cs ≡ [])
four_before_first f [] led a x = (λ e. refl, λ e. x)
four_before_first f (c ∷ cs) led a x =
    let given = verdict_given f (c ∷ cs) led (omega arith) a x in
    (λ e. absurd (other given.0 (sym given.1 ∙ e)), λ e. absurd (some e))
  where
    refusals : Answer → ℕ
    refusals (Judged v) = 0
    refusals (Refused why) = 1

    other : (v : Verdict) → Judged v ≡ Refused out_of_range → ⊥
    other v e = omega (arith, ap refusals e)

    some : c ∷ cs ≡ [] → ⊥
    some e = omega (arith, ap length e)
