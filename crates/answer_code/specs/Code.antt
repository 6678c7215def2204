-- The numbers by which callers in C ask and are answered (include/citronhelm.h). The highest bit is set where the call is refused.
-- Assumes nothing.
use Rattle.std.specs.Prelude.{ℕ, ◌+◌, ◌*◌, ◌%◌, eqb}
use Rattle.tables.specs.Choice.{pick}
use Rattle.tables.specs.Refusal.{number}
use Rattle.tables.specs.declared.refusal.Refusal.{Refusal}
use Rattle.tables.specs.declared.refusal.Outcome.{Outcome}
use Rattle.tables.specs.declared.refusal.Outcome.TheVariants.{Accepted, Refused}
use Rattle.normal_form.specs.declared.sign.Sign.{Sign}
use Rattle.normal_form.specs.declared.sign.Sign.TheVariants.{Plain, Negated}
use Rattle.writing.specs.declared.answer.Bytes.{Bytes}
use Rattle.writing.specs.declared.answer.Bytes.TheVariants.{Count, Refused as BytesRefused}
use Rattle.judging.specs.declared.verdict.Verdict.{Verdict}
use Rattle.judging.specs.declared.verdict.Verdict.TheVariants.{Holds, Breaks, Kept, Broken, Open}
use Rattle.judging.specs.declared.verdict.Answer.{Answer}
use Rattle.judging.specs.declared.verdict.Answer.TheVariants.{Judged, Refused as AnswerRefused}
use Rattle.sheet_maker.specs.declared.MakerAnswer.{MakerAnswer}
use Rattle.sheet_maker.specs.declared.MakerAnswer.TheVariants.{Written, None, Refused as MakerRefused}
use Rattle.checking.specs.declared.finding.Finding.{Finding}
use Rattle.checking.specs.declared.finding.Finding.TheVariants.{Root, Failed, Starved, Pending, Passes}
use Rattle.checking.specs.declared.finding.CheckAnswer.{CheckAnswer}
use Rattle.checking.specs.declared.finding.CheckAnswer.TheVariants.{Checked, Refused as CheckRefused}

-- 2 ^ 63, the refusal's number in 01's list, its file in the second byte, its line above
abbrev pub refusal_code : Refusal → ℕ
refusal_code why = 9223372036854775808 + number why.reason + 256 * why.file + 65536 * (why.line % 4294967296)

-- 0 where a file is accepted
abbrev pub outcome_code : Outcome → ℕ
outcome_code Accepted = 0
outcome_code (Refused why) = refusal_code why

-- how many bytes were written, or are to be
abbrev pub bytes_code : Bytes → ℕ
bytes_code (Count n) = n
bytes_code (BytesRefused why) = refusal_code why

-- the verdicts in the order of 01's list: "`holds`, `breaks`, `kept`, `broken` or `open`"
abbrev pub verdict_code : Verdict → ℕ
verdict_code Holds = 1
verdict_code Breaks = 2
verdict_code Kept = 3
verdict_code Broken = 4
verdict_code Open = 5

abbrev pub judge_code : Answer → ℕ
judge_code (Judged v) = verdict_code v
judge_code (AnswerRefused why) = refusal_code why

-- how many bytes were written; 0 is `none`, and no sheet has 0 bytes
abbrev pub maker_code : MakerAnswer → ℕ
maker_code (Written n) = n
maker_code None = 0
maker_code (MakerRefused why) = refusal_code why

-- the findings in 01's order, with the row in the second byte and the cycle above
abbrev pub finding_code : Finding → ℕ
finding_code Root = 1
finding_code (Failed row cycle) = 2 + 256 * row + 65536 * cycle
finding_code (Starved row) = 3 + 256 * row
finding_code (Pending row) = 4 + 256 * row
finding_code Passes = 5

abbrev pub check_code : CheckAnswer → ℕ
check_code (Checked x) = finding_code x
check_code (CheckRefused why) = refusal_code why

-- 0 asks for the normal form of the rule itself, any other number for that of its negation
abbrev pub sign_of : ℕ → Sign
sign_of negated = pick (eqb negated 0) Plain Negated
