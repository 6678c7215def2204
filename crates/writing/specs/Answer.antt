-- What a service that writes one output into a lent buffer answers and leaves there. Assumes nothing.
use Rattle.std.specs.Prelude.{ℕ, ◌≡◌, List, leb, length}
use Rattle.tables.specs.Refusal.{number, numbered}
use Rattle.tables.specs.Choice.{pick}
use Rattle.tables.specs.declared.refusal.Refusal.{Refusal}
use Rattle.writing.specs.Lent.{overlaid}
use Rattle.writing.specs.declared.answer.Bytes.{Bytes}
use Rattle.writing.specs.declared.answer.Bytes.TheVariants.{Count, Refused}

-- "A lent output buffer is shorter than the output": 10, file and line 0
abbrev pub too_short : Refusal
too_short = record { reason = numbered 10; file = 0; line = 0 }

-- an answer is a refusal with this number of the list, where `turned` makes the answer of a refusal
abbrev pub RefusedWith : {A : Type 0} → ℕ → (Refusal → A) → A → Type 0
RefusedWith n turned answer = (why : Refusal) × (answer ≡ turned why) × (number why.reason ≡ n)

-- the output's length where it fits
abbrev pub written_answer : List ℕ → List ℕ → Bytes
written_answer out buf = pick (leb (length out) (length buf)) (Count (length out)) (Refused too_short)

-- the text whole in front, its length as the answer and the rest as it was; or 10 and nothing
pub record Delivers (text before after : List ℕ) (answer : Bytes) : Type 0 where
  pub answered : answer ≡ written_answer text before
  pub left : after ≡ overlaid text before

-- a print-out: a text of which IsText says what it has to be is delivered
pub record Printed (IsText : List ℕ → Type 0) (before after : List ℕ) (answer : Bytes) : Type 0 where
  pub text : List ℕ
  pub is_text : IsText text
  pub delivered : Delivers text before after answer
