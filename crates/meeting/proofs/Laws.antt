-- What is known of a meeting that refuses. Assumes nothing.
use mathlib.Core.Path.{◌≡◌, refl, sym, ap, ◌∙◌}
use mathlib.Core.Bool.{Bool, true, false}
use lib.Dec.{eqb}
use Rattle.tables.specs.Choice.{pick}
use Rattle.tables.specs.Refusal.{and_then, call_refused}
use Rattle.tables.specs.declared.refusal.Reason.{Reason}
use Rattle.tables.specs.declared.refusal.Reason.TheVariants.{SignalsDiffer}
use Rattle.tables.specs.declared.refusal.Refusal.{Refusal}
use Rattle.tables.specs.declared.refusal.Outcome.{Outcome}
use Rattle.tables.specs.declared.refusal.Outcome.TheVariants.{Accepted, Refused}
use Rattle.tables.specs.declared.row.Formula.{Formula}
use Rattle.tables.specs.declared.trace.Ending.{Ending}
use Rattle.tables.specs.declared.trace.Ending.TheVariants.{Open, Loop}
use Rattle.tables.specs.declared.trace.Trace.{Trace}
use Rattle.tables.proofs.Outcomes.{refused_only}
use Rattle.meeting.specs.declared.Wanted.{Wanted}
use Rattle.meeting.specs.declared.Wanted.TheVariants.{Either, Looped, Unlooped}
use Rattle.meeting.specs.Meeting.{seven_outcome, eight_outcome, meeting_outcome}

-- the line of an outcome; 0 where nothing is refused
line_in : Outcome → Prim.Native.Nat.ℕ
line_in Accepted = 0
line_in (Refused x) = x.line

-- "file and line 0 for 7 to 10"
none_of : (a b : Outcome) → line_in a ≡ 0 → line_in b ≡ 0 → line_in (and_then a b) ≡ 0
none_of Accepted b p q = q
none_of (Refused x) b p q = p

test_line : (reason : Reason) (b : Bool) → line_in (pick b Accepted (call_refused reason)) ≡ 0
unfolding line_in
test_line reason true = refl
test_line reason false = refl

ending_line : (wanted : Wanted) (ending : Ending) → line_in (eight_outcome wanted ending) ≡ 0
unfolding line_in
ending_line Either e = refl
ending_line Looped Open = refl
ending_line Looped (Loop l) = refl
ending_line Unlooped Open = refl
ending_line Unlooped (Loop l) = refl

pub meeting_line : (wanted : Wanted) (f : Formula) (t : Trace) {x : Refusal} → meeting_outcome wanted f t ≡ Refused x → x.line ≡ 0
unfolding line_in
meeting_line wanted f t {x} e = sym (ap line_in e) ∙ none_of (seven_outcome f t) (eight_outcome wanted t.ending) (test_line SignalsDiffer (eqb f.signals t.signals)) (ending_line wanted t.ending)
