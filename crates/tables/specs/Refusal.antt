-- 01, "Why a file is turned back", and 02: the number of each reason, and checks that refuse. Assumes nothing.
use Rattle.std.specs.Prelude.{ℕ, eqb}
use Rattle.tables.specs.Choice.{pick}
use Rattle.tables.specs.declared.refusal.Reason.{Reason}
use Rattle.tables.specs.declared.refusal.Refusal.{Refusal}
use Rattle.tables.specs.declared.refusal.Outcome.{Outcome}
use Rattle.tables.specs.declared.refusal.Outcome.TheVariants.{Accepted, Refused}
use Rattle.tables.specs.declared.refusal.Reason.TheVariants.{TooLong, WrongForm, WrongFormat, CountOutOfRange, BadReference, BadLoop, SignalsDiffer, WrongEnding, SizeDiffers, ShortBuffer, TooManyCycles}

-- the list's numbers; 02 goes on: "A cycle beyond the 256th is turned away with 11"
abbrev pub number : Reason → ℕ
number TooLong = 1
number WrongForm = 2
number WrongFormat = 3
number CountOutOfRange = 4
number BadReference = 5
number BadLoop = 6
number SignalsDiffer = 7
number WrongEnding = 8
number SizeDiffers = 9
number ShortBuffer = 10
number TooManyCycles = 11

-- the reason that the list gives this number, 1 to 11: the definitions of what a service answers name their refusals by it
abbrev pub numbered : ℕ → Reason
numbered n =
    pick (eqb n (number TooLong)) TooLong
    (pick (eqb n (number WrongForm)) WrongForm
    (pick (eqb n (number WrongFormat)) WrongFormat
    (pick (eqb n (number CountOutOfRange)) CountOutOfRange
    (pick (eqb n (number BadReference)) BadReference
    (pick (eqb n (number BadLoop)) BadLoop
    (pick (eqb n (number SignalsDiffer)) SignalsDiffer
    (pick (eqb n (number WrongEnding)) WrongEnding
    (pick (eqb n (number SizeDiffers)) SizeDiffers
    (pick (eqb n (number ShortBuffer)) ShortBuffer TooManyCycles)))))))))

-- the first of two checks that refuses
abbrev pub and_then : Outcome → Outcome → Outcome
and_then Accepted o = o
and_then (Refused r) o = Refused r

-- "file and line 0 for 7 to 10"
abbrev pub call_refused : Reason → Outcome
call_refused reason = Refused (record { reason = reason; file = 0; line = 0 })

-- what follows of a refusal, and where there is none
abbrev pub on_outcome : {A : Type 0} → Outcome → (Refusal → A) → A → A
on_outcome Accepted g x = x
on_outcome (Refused r) g x = g r
