-- What each service answers for files, by what the service on tables answers. Assumes nothing.
use Rattle.std.specs.Prelude.{ℕ, ◌≡◌, List}
use Rattle.tables.specs.Only.{TheOnly, TheOnlyPair}
use Rattle.tables.specs.declared.refusal.Outcome.{Outcome}
use Rattle.tables.specs.declared.refusal.Refusal.{Refusal}
use Rattle.tables.specs.declared.row.Formula.{Formula}
use Rattle.tables.specs.declared.trace.Activation.{Activation}
use Rattle.tables.specs.declared.trace.Trace.{Trace}
use Rattle.writing.specs.declared.answer.Bytes.{Bytes}
use Rattle.meeting.specs.Meeting.{meeting_outcome}
use Rattle.meeting.specs.declared.Wanted.TheVariants.{Either}
use Rattle.writing.specs.Answer.{written_answer}
use Rattle.writing.specs.Lent.{overlaid}
use Rattle.judge_text.specs.Answer.{Prints}
use Rattle.judging.specs.declared.verdict.Answer.{Answer}
use Rattle.judging.specs.Answer.{Answers}
use Rattle.sheet_maker.specs.declared.MakerAnswer.{MakerAnswer}
use Rattle.sheet_maker.specs.Answer.{MakesOn}
use Rattle.sheet_length.specs.Answer.{MeasuresOn}
use Rattle.checking.specs.declared.finding.CheckAnswer.{CheckAnswer}
use Rattle.checking.specs.Answer.{CheckAnswers, met_outcome}
use Rattle.simulator.specs.Simulation.{Simulates}
use Rattle.run.specs.Calls.{GivesVerdict, TakesCycle}
use Rattle.run_state.specs.State.{state_of}
use Rattle.answer_code.specs.Code.{bytes_code, check_code, judge_code, maker_code, outcome_code, refusal_code}

-- a refused call: its code, and "Output buffers are then untouched"
abbrev pub Turned : List ℕ → List ℕ → ℕ → Refusal → Type 0
Turned before after r why = (r ≡ refusal_code why) × (after ≡ before)

-- the verdict's code where the checks of this judging service pass
pub record JudgedAs (checks : Outcome) (f : Formula) (t : Trace) (r : ℕ) : Type 0 where
  pub answer : Answer
  pub answers : TheOnly (Answers checks f t) answer
  pub coded : r ≡ judge_code answer

-- a text delivered: its length, or 10
abbrev pub WrittenAs : List ℕ → List ℕ → List ℕ → ℕ → Type 0
WrittenAs text before after r = (r ≡ bytes_code (written_answer text before)) × (after ≡ overlaid text before)

-- the sheet's length, or `none`, where the two tables meet
pub record MadeAs (f : Formula) (t : Trace) (before after : List ℕ) (r : ℕ) : Type 0 where
  pub answer : MakerAnswer
  pub makes : TheOnlyPair (MakesOn (meeting_outcome Either f t) f t before) after answer
  pub coded : r ≡ maker_code answer

-- the sheet's length, 0 where there is none, where the two tables meet
pub record MeasuredAs (f : Formula) (t : Trace) (r : ℕ) : Type 0 where
  pub answer : Bytes
  pub measures : TheOnly (MeasuresOn (meeting_outcome Either f t) f t) answer
  pub coded : r ≡ bytes_code answer

-- the finding's code, where the three tables meet
pub record CheckedAs (f : Formula) (t : Trace) (a : Activation) (r : ℕ) : Type 0 where
  pub answer : CheckAnswer
  pub answers : TheOnly (CheckAnswers (met_outcome f t a) f t a) answer
  pub coded : r ≡ check_code answer

-- the text of `judge`, or 10
pub record PrintedAs (rule take before after : List ℕ) (r : ℕ) : Type 0 where
  pub answer : Bytes
  pub prints : TheOnlyPair (Prints rule take before) after answer
  pub coded : r ≡ bytes_code answer

-- the outputs and the next latches of a cycle of a circuit, or a refusal
pub record SimulatedAs (circuit inputs latches before after : List ℕ) (r : ℕ) : Type 0 where
  pub answer : Bytes
  pub simulates : TheOnlyPair (Simulates circuit inputs latches before) after answer
  pub coded : r ≡ bytes_code answer

-- what a run is told of a cycle, and its bytes then
pub record CycleAs (before digits after : List ℕ) (r : ℕ) : Type 0 where
  pub outcome : Outcome
  pub takes : TakesCycle state_of before digits outcome after
  pub coded : r ≡ outcome_code outcome

-- the verdict on a run, whose bytes stay
pub record VerdictAs (state : List ℕ) (r : ℕ) : Type 0 where
  pub answer : Answer
  pub gives : GivesVerdict state_of state answer state
  pub coded : r ≡ judge_code answer
