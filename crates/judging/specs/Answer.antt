-- What judging answers, by the outcome of the checks before it. Assumes nothing.
use Rattle.std.specs.Prelude.{◌≡◌}
use Rattle.tables.specs.declared.refusal.Outcome.{Outcome}
use Rattle.tables.specs.declared.refusal.Outcome.TheVariants.{Accepted, Refused}
use Rattle.tables.specs.declared.row.Formula.{Formula}
use Rattle.tables.specs.declared.trace.Trace.{Trace}
use Rattle.judging.specs.declared.verdict.Verdict.{Verdict}
use Rattle.judging.specs.declared.verdict.Answer.{Answer}
use Rattle.judging.specs.declared.verdict.Answer.TheVariants.{Judged, Refused as AnswerRefused}
use Rattle.judging.specs.Verdict.{VerdictOf}

-- the refusal, or the verdict
abbrev pub Answers : Outcome → Formula → Trace → Answer → Type 0
Answers (Refused why) f t r = r ≡ AnswerRefused why
Answers Accepted f t r = (v : Verdict) × (r ≡ Judged v) × VerdictOf f t v
