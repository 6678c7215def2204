-- What has to be computed for a case (Computed), and that the case is then so (computed-says). Assumes nothing.
use Prim.Native.Nat.{ℕ, ◌≤◌}
use mathlib.Core.Path.{◌≡◌, refl, subst, sym}
use mathlib.Core.Bool.{Bool, true}
use mathlib.Core.List.{List, [], ◌∷◌, ◌++◌}
use native.Mathlib.Omega.{arith}
use lib.ListN.{length, length-append}
use Rattle.tables.specs.Bytes.{bytes}
use Rattle.tables.specs.declared.refusal.Outcome.{Outcome}
use Rattle.tables.specs.declared.refusal.Outcome.TheVariants.{Accepted}
use Rattle.tables.specs.declared.row.Formula.{Formula}
use Rattle.tables.specs.declared.trace.Activation.{Activation}
use Rattle.tables.specs.declared.trace.Ending.{Ending}
use Rattle.tables.specs.declared.trace.Trace.{Trace}
use Rattle.text.specs.Digits.{digits_in}
use Rattle.text.specs.Result.{Result}
use Rattle.text.specs.Result.Result.{accepted, refused}
use Rattle.rule_file.specs.Rule.{parse_rule}
use Rattle.rule_file.proofs.Rules.{rule_valid}
use Rattle.take_file.specs.Take.{parse_take}
use Rattle.take_file.proofs.Takes.{take_valid}
use Rattle.sheet_file.specs.Sheet.{parse_sheet}
use Rattle.sheet_file.proofs.Sheets.{sheet_valid}
use Rattle.normal_form.specs.declared.sign.Sign.TheVariants.{Plain}
use Rattle.normal_form.specs.Numbering.{normal_form}
use Rattle.judging.specs.Verdict.{VerdictOf}
use Rattle.judging.specs.declared.verdict.Verdict.{Verdict}
use Rattle.judging.specs.declared.verdict.Answer.TheVariants.{Judged}
use Rattle.meeting.specs.Meeting.{eight_outcome, pair_outcome}
use Rattle.meeting.specs.declared.Wanted.{Wanted}
use Rattle.meeting.specs.declared.Wanted.TheVariants.{Looped, Unlooped}
use Rattle.tables.proofs.Outcomes.{agree}
use Rattle.judging.proofs.ByBits.{computed_verdict, verdict_computed, answered}
use Rattle.writing.specs.Refusal.{refusal_text}
use Rattle.judge_text.specs.Text.{verdict_text}
use Rattle.judge_text.specs.Answer.{IsText}
use Rattle.checking.specs.declared.finding.Finding.{Finding}
use Rattle.run.specs.Cycles.{Led, cycle_outcome}
use Rattle.run.proofs.Calls.{led_begun, led_more}
use Rattle.run.proofs.Led.{led_valid}
use Rattle.run.proofs.Services.{after_accepted}
use Rattle.run.proofs.TakeFile.{trace_range, trace_so_far}
use Rattle.run.proofs.Verdicts.{verdict_is}
use Rattle.cases.proofs.ComputedSheets.{ChecksTo, check_computed, MakesTo, make_computed}
use Rattle.cases.proofs.ComputedLengths.{MeasuresTo, measure_computed}
use Rattle.cases.specs.Case.{File, file_bytes, Case, Watched, Answered, Runs, Says, Each, Each.none, Each.first}
use Rattle.cases.specs.Case.Case.{normal_form_case, bound, normal_length, looped, opened, prints, makes, sheet_length_case, checks, runs}

-- both files are read, and their tables are so
abbrev pub OnTwo : Result Formula → Result Trace → (Formula → Trace → Type 0) → Type 0
OnTwo (accepted f) (accepted t) P = P f t
OnTwo (accepted f) (refused e n) P = ⊥
OnTwo (refused e n) q P = ⊥

-- the signals agree, the ending is what the service needs, and the bits give the verdict
abbrev Judges : Wanted → Verdict → Result Formula → Result Trace → Type 0
Judges wanted v p q = OnTwo p q (λ f t. (f.signals ≡ t.signals) × (eight_outcome wanted t.ending ≡ Accepted) × (computed_verdict f t ≡ v))

-- the same for the text; or the first file that is turned back is told
abbrev PrintsText : List ℕ → Result Formula → Result Trace → Type 0
PrintsText text (accepted f) (accepted t) = (f.signals ≡ t.signals) × (verdict_text f.signals (normal_form f Plain).rows t.cycles t.ending (computed_verdict f t) ≡ text)
PrintsText text (accepted f) (refused e n) = refusal_text (record { reason = e; file = 2; line = n }) ≡ text
PrintsText text (refused e n) q = refusal_text (record { reason = e; file = 1; line = n }) ≡ text

-- of a sheet: the three files are read, and their tables are so
abbrev pub OnThree : Result Formula → Result Trace → Result Activation → (Formula → Trace → Activation → Type 0) → Type 0
OnThree (accepted f) (accepted t) (accepted a) P = P f t a
OnThree (accepted f) (accepted t) (refused e n) P = ⊥
OnThree (accepted f) (refused e n) r P = ⊥
OnThree (refused e n) q r P = ⊥

-- of a run: the rule is read, each cycle is accepted, and the bits of the trace so far give the verdict
abbrev RunsTo : Formula → List (List Bool) → List Watched → Type 0
RunsTo f cs [] = Unit {0}
RunsTo f cs (w ∷ ws) =
    let more : List (List Bool) = cs ++ (digits_in (bytes w.digits) ∷ []) in
    (cycle_outcome f.signals (length cs) (bytes w.digits) ≡ Accepted) × (computed_verdict f (trace_so_far f more) ≡ w.verdict) × RunsTo f more ws

abbrev pub OnOne : Result Formula → (Formula → Type 0) → Type 0
OnOne (accepted f) P = P f
OnOne (refused e n) P = ⊥

-- a case on the normal form alone is computed itself
abbrev pub Computed : Case → Type 0
Computed (normal_form_case rule s out) = Says (normal_form_case rule s out)
Computed (bound rule n) = Says (bound rule n)
Computed (normal_length rule s n) = Says (normal_length rule s n)
Computed (looped rule take v) = Judges Looped v (parse_rule (file_bytes rule)) (parse_take (file_bytes take))
Computed (opened rule take v) = Judges Unlooped v (parse_rule (file_bytes rule)) (parse_take (file_bytes take))
Computed (prints rule take text) = PrintsText (file_bytes text) (parse_rule (file_bytes rule)) (parse_take (file_bytes take))
Computed (makes rule take sheet) = OnThree (parse_rule (file_bytes rule)) (parse_take (file_bytes take)) (parse_sheet (file_bytes sheet)) (MakesTo (file_bytes sheet))
Computed (sheet_length_case rule take n) = OnTwo (parse_rule (file_bytes rule)) (parse_take (file_bytes take)) (MeasuresTo n)
Computed (checks rule take sheet x) = OnThree (parse_rule (file_bytes rule)) (parse_take (file_bytes take)) (parse_sheet (file_bytes sheet)) (λ f t a. ChecksTo f t a x)
Computed (runs rule watched) = OnOne (parse_rule (file_bytes rule)) (λ f. RunsTo f [] watched)

module _ (rule take : File) where
  judged : (wanted : Wanted) (v : Verdict) (p : Result Formula) (q : Result Trace) → parse_rule (file_bytes rule) ≡ p → parse_take (file_bytes take) ≡ q
      → Judges wanted v p q → Answered (pair_outcome wanted) rule take (Judged v)
  judged wanted v (accepted f) (accepted t) fr tr (same, e, c) =
      rw (fr, tr, ← c) (answered f t (rule_valid (file_bytes rule) f fr) (take_valid (file_bytes take) t tr) same wanted e)
  judged wanted v (accepted f) (refused e n) fr tr x = absurd x
  judged wanted v (refused e n) q fr tr x = absurd x

  printed : (text : List ℕ) (p : Result Formula) (q : Result Trace) → parse_rule (file_bytes rule) ≡ p → parse_take (file_bytes take) ≡ q
      → PrintsText text p q → IsText p q text
  printed text (accepted f) (accepted t) fr tr (same, e) =
      let told = verdict_computed f t (rule_valid (file_bytes rule) f fr).in_range_lem (take_valid (file_bytes take) t tr).range in
      rw (sym (agree f.signals t.signals same)) (computed_verdict f t, told, sym e)
  printed text (accepted f) (refused e n) fr tr x = sym x
  printed text (refused e n) q fr tr x = sym x

  measured : (n : ℕ) (p : Result Formula) (q : Result Trace) → parse_rule (file_bytes rule) ≡ p → parse_take (file_bytes take) ≡ q
      → OnTwo p q (MeasuresTo n) → Says (sheet_length_case rule take n)
  measured n (accepted f) (accepted t) fr tr c = rw (fr, tr) (measure_computed f t (rule_valid (file_bytes rule) f fr) (take_valid (file_bytes take) t tr) n c)
  measured n (accepted f) (refused e m) fr tr c = absurd c
  measured n (refused e m) q fr tr c = absurd c

module _ (rule take sheet : File) where
  made : (p : Result Formula) (q : Result Trace) (r : Result Activation) → parse_rule (file_bytes rule) ≡ p → parse_take (file_bytes take) ≡ q
      → parse_sheet (file_bytes sheet) ≡ r → OnThree p q r (MakesTo (file_bytes sheet)) → Says (makes rule take sheet)
  made (accepted f) (accepted t) (accepted a) fr tr sr c =
      rw (fr, tr) (make_computed f t a (rule_valid (file_bytes rule) f fr) (take_valid (file_bytes take) t tr) (sheet_valid (file_bytes sheet) a sr) c)
  made (accepted f) (accepted t) (refused e n) fr tr sr c = absurd c
  made (accepted f) (refused e n) r fr tr sr c = absurd c
  made (refused e n) q r fr tr sr c = absurd c

  checked : (p : Result Formula) (q : Result Trace) (r : Result Activation) (x : Finding) → parse_rule (file_bytes rule) ≡ p → parse_take (file_bytes take) ≡ q
      → parse_sheet (file_bytes sheet) ≡ r → OnThree p q r (λ f t a. ChecksTo f t a x) → Says (checks rule take sheet x)
  checked (accepted f) (accepted t) (accepted a) x fr tr sr c =
      rw (fr, tr, sr) (check_computed f t a (rule_valid (file_bytes rule) f fr) (take_valid (file_bytes take) t tr) (sheet_valid (file_bytes sheet) a sr) x c)
  checked (accepted f) (accepted t) (refused e n) x fr tr sr c = absurd c
  checked (accepted f) (refused e n) r x fr tr sr c = absurd c
  checked (refused e n) q r x fr tr sr c = absurd c

-- a run, cycle by cycle
ran : (f : Formula) (cs : List (List Bool)) → Led f cs → (ws : List Watched) → RunsTo f cs ws → Runs f cs ws
ran f cs led [] x = tt
ran f cs led (w ∷ ws) (o, c, x) =
    let digits : List ℕ = bytes w.digits in
    let more : List (List Bool) = cs ++ (digits_in digits ∷ []) in
    let led_on : Led f more = subst (Led f) (after_accepted f.signals cs digits o) (led_more f cs led digits) in
    let some : 1 ≤ length more = omega (arith, length-append cs (digits_in digits ∷ [])) in
    let told = verdict_computed f (trace_so_far f more) (led_valid f more led_on).in_range_lem (trace_range f more led_on some) in
    (o, verdict_is f more led_on some w.verdict (subst (VerdictOf f (trace_so_far f more)) c told), ran f more led_on ws x)

ran_file : (rule : File) (watched : List Watched) (p : Result Formula) → parse_rule (file_bytes rule) ≡ p → OnOne p (λ f. RunsTo f [] watched)
    → Says (runs rule watched)
ran_file rule watched (accepted f) fr x = rw fr (ran f [] (led_begun (file_bytes rule) f fr) watched x)
ran_file rule watched (refused e n) fr x = absurd x

pub computed_says : (c : Case) → Computed c → Says c
computed_says (normal_form_case rule s out) x = x
computed_says (bound rule n) x = x
computed_says (normal_length rule s n) x = x
computed_says (looped rule take v) x = judged rule take Looped v _ _ refl refl x
computed_says (opened rule take v) x = judged rule take Unlooped v _ _ refl refl x
computed_says (prints rule take text) x = printed rule take (file_bytes text) _ _ refl refl x
computed_says (makes rule take sheet) x = made rule take sheet _ _ _ refl refl refl x
computed_says (sheet_length_case rule take n) x = measured rule take n _ _ refl refl x
computed_says (checks rule take sheet y) x = checked rule take sheet _ _ _ y refl refl refl x
computed_says (runs rule watched) x = ran_file rule watched _ refl x

pub all_say : (cs : List Case) → Each Computed cs → Each Says cs
all_say [] none = none
all_say (c ∷ cs) (first x xs) = first (computed_says c x) (all_say cs xs)
