-- "`loop=` (`none`, or the cycle where the loop begins, from 0 to cycles less 1)". Assumes nothing.
use Rattle.std.specs.Prelude.{ℕ, List, leb}
use Rattle.tables.specs.Refusal.{numbered}
use Rattle.tables.specs.Choice.{pick}
use Rattle.tables.specs.Bytes.{bytes, same_bytes}
use Rattle.tables.specs.declared.refusal.Reason.{Reason}
use Rattle.tables.specs.declared.trace.Ending.{Ending}
use Rattle.tables.specs.declared.trace.Ending.TheVariants.{Open, Loop}
use Rattle.text.specs.Number.{padded_of, on_number}
use Rattle.text.specs.Result.{Parsed, Next}
use Rattle.text.specs.Result.Parsed.{good, bad}
use Rattle.take_file.specs.declared.ending.EndingLine.{EndingLine}
use Rattle.take_file.specs.declared.ending.EndingLine.TheVariants.{Ending as EndingRead, Wrong}

-- 2 where the value is neither, then 6 where the loop's cycle is not below `cycles`
unfoldable pub ending_value : ℕ → List ℕ → Parsed Ending
ending_value cycles value =
    pick (same_bytes value (bytes "none")) (good Open)
    (on_number (padded_of value) (bad (numbered 2)) λ n.
    pick (leb cycles n) (bad (numbered 6)) (good (Loop n)))

-- what each case of the code's answer says
abbrev pub ending_line_as : EndingLine → Parsed (Next Ending)
ending_line_as (EndingRead e i) = good (record { value = e; next = i })
ending_line_as (Wrong r) = bad r

abbrev pub reason_of : EndingLine → Reason
reason_of (EndingRead e i) = numbered 2
reason_of (Wrong r) = r
