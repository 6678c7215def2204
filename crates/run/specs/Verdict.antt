-- The verdict on a run (02, request 1): "the one for a take file of the cycles so far". Assumes nothing.
use Rattle.std.specs.Prelude.{ℕ, Bool, List, [], ◌∷◌, ◌≡◌, length}
use Rattle.tables.specs.Bytes.{bytes}
use Rattle.tables.specs.Only.{TheOnly}
use Rattle.tables.specs.Refusal.{numbered}
use Rattle.tables.specs.declared.refusal.Refusal.{Refusal}
use Rattle.tables.specs.declared.row.Formula.{Formula}
use Rattle.text.specs.Written.{decimal, digits_text, written_body, written_line}
use Rattle.take_file.specs.Take.{parse_take}
use Rattle.rule_and_take.specs.File.{OnFile}
use Rattle.meeting.specs.Meeting.{meeting_outcome}
use Rattle.meeting.specs.declared.Wanted.TheVariants.{Unlooped}
use Rattle.judging.specs.Answer.{Answers}
use Rattle.judging.specs.declared.verdict.Answer.{Answer}
use Rattle.judging.specs.declared.verdict.Answer.TheVariants.{Refused}

-- "Take file: `format=1`, `signals=`, `cycles=`, `loop=`, then `c0=` onward, one digit 0 or 1 per signal, signal 1 first. A take with
-- `none` is open." 99 is the letter c.
unfoldable pub take_file : ℕ → List (List Bool) → List ℕ
take_file signals cs =
    written_line (bytes "format") (decimal 1)
    (written_line (bytes "signals") (decimal signals)
    (written_line (bytes "cycles") (decimal (length cs))
    (written_line (bytes "loop") (bytes "none")
    (written_body 99 digits_text 0 cs))))

-- "refused as a count out of range", "file and line 0"
abbrev pub out_of_range : Refusal
out_of_range = record { reason = numbered 4; file = 0; line = 0 }

-- "That verdict is the one for a take file of the cycles so far": that the open service gives; "Before the first cycle that call is refused
-- as a count out of range"
abbrev pub VerdictSoFar : Formula → List (List Bool) → Answer → Type 0
VerdictSoFar f [] a = a ≡ Refused out_of_range
VerdictSoFar f (c ∷ cs) a =
    OnFile 2 (parse_take (take_file f.signals (c ∷ cs))) (λ why. ⊥) (λ t. TheOnly (Answers (meeting_outcome Unlooped f t) f t) a)
