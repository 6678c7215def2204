-- Lists of calls to a run (02, request 1). Assumes nothing.
use Rattle.std.specs.Prelude.{ℕ, Bool, List, [], ◌∷◌, ◌≡◌, length}
use Rattle.tables.specs.Refusal.{call_refused, numbered}
use Rattle.tables.specs.declared.refusal.Outcome.{Outcome}
use Rattle.tables.specs.declared.refusal.Outcome.TheVariants.{Refused as OutcomeRefused}
use Rattle.tables.specs.declared.refusal.Refusal.{Refusal}
use Rattle.tables.specs.declared.row.Formula.{Formula}
use Rattle.judging.specs.declared.verdict.Answer.{Answer}
use Rattle.judging.specs.declared.verdict.Answer.TheVariants.{Refused}
use Rattle.run.specs.Cycles.{cycle_outcome, cycles_after, cycles_after_all}
use Rattle.run.specs.Run.{InState}
use Rattle.run.specs.Verdict.{VerdictSoFar, out_of_range}

-- a call with its answer: a cycle's digits, or the call for the verdict
pub data Call : Type 0 where
  cycle : List ℕ → Outcome → Call
  verdict : Answer → Call

-- the digits handed over, in order, refused ones among them; and the cycles of the accepted ones
abbrev pub handed_over : List Call → List (List ℕ)
handed_over [] = []
handed_over (cycle digits o ∷ calls) = digits ∷ handed_over calls
handed_over (verdict a ∷ calls) = handed_over calls

abbrev pub accepted_cycles : Formula → List Call → List (List Bool)
accepted_cycles f calls = cycles_after_all f.signals [] (handed_over calls)

-- the same calls without those for the verdict
abbrev pub without_verdicts : List Call → List Call
without_verdicts [] = []
without_verdicts (cycle digits o ∷ calls) = cycle digits o ∷ without_verdicts calls
without_verdicts (verdict a ∷ calls) = without_verdicts calls

-- runs held in states of some kind, which `state_of` gives for a rule and cycles
module _ {S : Type 0} (state_of : Formula → List (List Bool) → S) where
  -- what a cycle's call answers in a state, and the state that it leaves: one cycle more, or a refusal. "These refusals … leave the run
  -- unaltered."
  pub record TakesCycle (before : S) (digits : List ℕ) (outcome : Outcome) (after : S) : Type 0 where
    pub told : InState (λ f cs. before ≡ state_of f cs) (outcome ≡ call_refused (numbered 4))
        (λ f cs. (outcome ≡ cycle_outcome f.signals (length cs) digits) × (after ≡ state_of f (cycles_after f.signals cs digits)))
    pub unaltered : (why : Refusal) → outcome ≡ OutcomeRefused why → after ≡ before

  -- what the call for the verdict answers; "the run goes on as if nobody had called"
  pub record GivesVerdict (before : S) (answer : Answer) (after : S) : Type 0 where
    pub told : InState (λ f cs. before ≡ state_of f cs) (answer ≡ Refused out_of_range) (λ f cs. VerdictSoFar f cs answer)
    pub unaltered : after ≡ before

  abbrev pub Answered : S → Call → S → Type 0
  Answered before (cycle digits outcome) after = TakesCycle before digits outcome after
  Answered before (verdict answer) after = GivesVerdict before answer after

  -- calls one after the other, from a state to a state
  pub data Called : S → List Call → S → Type 0 where
    none : {s : S} → Called s [] s
    call : {before between after : S} {c : Call} {rest : List Call}
        → Answered before c between → Called between rest after → Called before (c ∷ rest) after
