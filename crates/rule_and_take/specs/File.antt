-- Services on files: a file that is turned back is told as it is ("Files go rule, take, sheet"), and a file that is read goes to the
-- service on tables. Assumes nothing.
use Rattle.std.specs.Prelude.{ℕ, ◌≡◌, List}
use Rattle.tables.specs.Refusal.{and_then}
use Rattle.tables.specs.declared.refusal.Refusal.{Refusal}
use Rattle.tables.specs.declared.row.Formula.{Formula}
use Rattle.tables.specs.declared.trace.Trace.{Trace}
use Rattle.text.specs.Result.{Result, outcome_of}
use Rattle.text.specs.Result.Result.{accepted, refused}
use Rattle.rule_file.specs.Rule.{parse_rule, rule_answer}
use Rattle.rule_file.specs.declared.rule.RuleAnswer.{RuleAnswer}
use Rattle.take_file.specs.Take.{parse_take, take_answer}
use Rattle.take_file.specs.declared.take.TakeAnswer.{TakeAnswer}
use Rattle.rule_and_take.specs.declared.Pair.{Pair}

-- "A refusal gives number, file (1 rule, 2 take, 3 sheet) and line": `turns` of the refusal, or `goes` of the table
abbrev pub OnFile : {A : Type 0} → ℕ → Result A → (Refusal → Type 0) → (A → Type 0) → Type 0
OnFile file (accepted x) turns goes = goes x
OnFile file (refused e n) turns goes = turns (record { reason = e; file = file; line = n })

-- "Files go rule, take"
abbrev pub OnPair : Result Formula → Result Trace → (Refusal → Type 0) → (Formula → Trace → Type 0) → Type 0
OnPair p q turns goes = OnFile 1 p turns (λ f. OnFile 2 q turns (goes f))

-- what the code keeps of two files
abbrev pub pair_read : Result Formula → Result Trace → Pair
pair_read p q = record { outcome = and_then (outcome_of 1 p) (outcome_of 2 q); formula = (rule_answer p).formula; trace = (take_answer q).trace }

-- the same from the readers' answers
abbrev pub joined : RuleAnswer → TakeAnswer → Pair
joined a b = record { outcome = and_then a.outcome b.outcome; formula = a.formula; trace = b.trace }

-- the pair is what the bytes of some rule file and some take file give
pub record WasRead (pair : Pair) : Type 0 where
  pub rule : List ℕ
  pub take : List ℕ
  pub is_read : pair ≡ pair_read (parse_rule rule) (parse_take take)

-- what holds of whichever files the pair was read from
abbrev pub OfRead : Pair → (List ℕ → List ℕ → Type 0) → Type 0
OfRead pair P = (rule take : List ℕ) → pair ≡ pair_read (parse_rule rule) (parse_take take) → P rule take
