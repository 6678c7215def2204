-- When a sheet check refuses, and what it answers. Assumes nothing.
use Rattle.std.specs.Prelude.{◌≡◌, ◌&&◌, eqb}
use Rattle.tables.specs.Choice.{pick}
use Rattle.tables.specs.Refusal.{and_then, call_refused, numbered}
use Rattle.tables.specs.declared.refusal.Outcome.{Outcome}
use Rattle.tables.specs.declared.refusal.Outcome.TheVariants.{Accepted, Refused}
use Rattle.tables.specs.declared.row.Formula.{Formula}
use Rattle.tables.specs.declared.row.NormalForm.{NormalForm}
use Rattle.tables.specs.declared.trace.Activation.{Activation}
use Rattle.tables.specs.declared.trace.Trace.{Trace}
use Rattle.text.specs.Result.{outcome_of}
use Rattle.sheet_file.specs.Sheet.{parse_sheet}
use Rattle.sheet_file.specs.Written.{written_sheet}
use Rattle.normal_form.specs.declared.sign.Sign.TheVariants.{Plain}
use Rattle.normal_form.specs.Numbering.{normal_form}
use Rattle.meeting.specs.Meeting.{own_outcome, meeting_outcome, covered_take}
use Rattle.meeting.specs.declared.Wanted.TheVariants.{Either}
use Rattle.checking.specs.declared.finding.Finding.{Finding}
use Rattle.checking.specs.declared.finding.CheckAnswer.{CheckAnswer}
use Rattle.checking.specs.declared.finding.CheckAnswer.TheVariants.{Refused as CheckRefused, Checked}
use Rattle.checking.specs.Finding.{FindingOf}

-- "Files go rule, take, sheet", each table "checked as if written out as its file"
abbrev pub tables_outcome : Formula → Trace → Activation → Outcome
tables_outcome f t a = and_then (own_outcome f t) (outcome_of 3 (parse_sheet (written_sheet a)))

-- 9: "The sheet's rows or cycles differ from the normal form's or the take's", which is the take that the sheet covers
abbrev pub sizes_outcome : NormalForm → Trace → Activation → Outcome
sizes_outcome g t a = pick (eqb a.rows g.rows && eqb a.cycles t.cycles) Accepted (call_refused (numbered 9))

abbrev pub nine_outcome : Formula → Trace → Activation → Outcome
nine_outcome f t a = sizes_outcome (normal_form f Plain) (covered_take f t) a

-- "Then 7 to 10 in order": of tables that have passed their own checks, and of any
abbrev pub met_outcome : Formula → Trace → Activation → Outcome
met_outcome f t a = and_then (meeting_outcome Either f t) (nine_outcome f t a)

abbrev pub check_outcome : Formula → Trace → Activation → Outcome
check_outcome f t a = and_then (tables_outcome f t a) (met_outcome f t a)

-- the answer: the refusal, or the finding on the normal form and the take that the sheet covers
abbrev pub CheckAnswers : Outcome → Formula → Trace → Activation → CheckAnswer → Type 0
CheckAnswers (Refused why) f t a r = r ≡ CheckRefused why
CheckAnswers Accepted f t a r = (x : Finding) × (r ≡ Checked x) × FindingOf (normal_form f Plain) (covered_take f t) a x
