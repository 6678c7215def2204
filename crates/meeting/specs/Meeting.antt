-- Where a rule meets a take (01, "Why a file is turned back"): what is refused of the two, and in which order. Assumes nothing.
use Rattle.std.specs.Prelude.{ℕ, ◌+◌, eqb}
use Rattle.tables.specs.Choice.{pick}
use Rattle.tables.specs.Refusal.{and_then, call_refused, numbered}
use Rattle.tables.specs.declared.refusal.Outcome.{Outcome}
use Rattle.tables.specs.declared.refusal.Outcome.TheVariants.{Accepted}
use Rattle.tables.specs.declared.row.Formula.{Formula}
use Rattle.tables.specs.declared.trace.Ending.{Ending}
use Rattle.tables.specs.declared.trace.Ending.TheVariants.{Open, Loop}
use Rattle.tables.specs.declared.trace.Trace.{Trace}
use Rattle.rule_file.specs.Outcome.{rule_outcome}
use Rattle.take_file.specs.Outcome.{take_outcome}
use Rattle.normal_form.specs.declared.sign.Sign.TheVariants.{Plain}
use Rattle.normal_form.specs.Numbering.{normal_form}
use Rattle.meaning.specs.Nesting.{nesting}
use Rattle.written_out.specs.WrittenOut.{round_cycles}
use Rattle.written_out.specs.Covered.{covered}
use Rattle.meeting.specs.declared.Wanted.{Wanted}
use Rattle.meeting.specs.declared.Wanted.TheVariants.{Either, Looped, Unlooped}

-- "Files go rule, take": the tables' own refusals
abbrev pub own_outcome : Formula → Trace → Outcome
own_outcome f t = and_then (rule_outcome f) (take_outcome t)

-- 7: "Rule and take differ in `signals`."
abbrev pub seven_outcome : Formula → Trace → Outcome
seven_outcome f t = pick (eqb f.signals t.signals) Accepted (call_refused (numbered 7))

-- 8: "A looped service has an open take, or an open service a looped one." The sheet services, and judging by the take's own kind,
-- "take both".
abbrev pub eight_outcome : Wanted → Ending → Outcome
eight_outcome Either ending = Accepted
eight_outcome Looped Open = call_refused (numbered 8)
eight_outcome Looped (Loop l) = Accepted
eight_outcome Unlooped Open = Accepted
eight_outcome Unlooped (Loop l) = call_refused (numbered 8)

-- "Then 7 to 10 in order": what is refused of tables that have passed their own checks. What comes behind 8 and before 9 stands here too.
abbrev pub meeting_outcome : Wanted → Formula → Trace → Outcome
meeting_outcome wanted f t = and_then (seven_outcome f t) (eight_outcome wanted t.ending)

-- and of any two tables
abbrev pub pair_outcome : Wanted → Formula → Trace → Outcome
pair_outcome wanted f t = and_then (own_outcome f t) (meeting_outcome wanted f t)

-- the take that a sheet for the rule covers: sheets, checks and judging go on with it
abbrev pub covered_take : Formula → Trace → Trace
covered_take f t = covered (normal_form f Plain) t

-- and where its loop begins
abbrev pub covered_loop : Formula → Trace → ℕ → ℕ
covered_loop f t l = l + round_cycles t l (nesting (normal_form f Plain))
