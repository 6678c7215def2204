-- The value of a count: a number from low to high. Assumes nothing.
use Rattle.std.specs.Prelude.{ℕ, List, ltb}
use Rattle.tables.specs.Refusal.{numbered}
use Rattle.tables.specs.Choice.{pick}
use Rattle.tables.specs.declared.refusal.Reason.{Reason}
use Rattle.text.specs.Number.{padded_of, on_number}
use Rattle.text.specs.Result.{Parsed, Next}
use Rattle.text.specs.Result.Parsed.{good, bad}
use Rattle.text.specs.declared.line.Counted.{Counted}
use Rattle.text.specs.declared.line.Counted.TheVariants.{Count, Wrong}

-- what is no number is not of its form; a number outside has the given reason
unfoldable pub count_form : ℕ → ℕ → Reason → List ℕ → Parsed ℕ
count_form low high outside value =
    on_number (padded_of value) (bad (numbered 2)) λ n.
    pick (ltb n low) (bad outside) (pick (ltb high n) (bad outside) (good n))

-- what each case of the code's answer says
abbrev pub counted_as : Counted → Parsed (Next ℕ)
counted_as (Count n i) = good (record { value = n; next = i })
counted_as (Wrong e) = bad e

abbrev pub reason_of : Counted → Reason
reason_of (Count n i) = numbered 2
reason_of (Wrong e) = e
