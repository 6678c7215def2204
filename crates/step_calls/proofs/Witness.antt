-- A list of step calls that demand 3 speaks of, with refused ones in it, and its take: what the theorem asks for can be had. Rule A of
-- 01 goes through 01's own take 10 01, again and again, with the activators of 01's own sheet. Assumes nothing.
use Prim.Native.Nat.{ℕ, zero, suc, ◌+◌, ◌*◌, ◌≤◌, ◌<◌}
use mathlib.Core.Path.{◌≡◌, refl, sym, ap, subst⁻¹, ◌∙◌}
use mathlib.Core.Bool.{Bool, true, false}
use mathlib.Core.List.{List, [], ◌∷◌, ◌++◌}
use native.Mathlib.Omega.{arith}
use lib.ListN.{length, get_or, drop, replicate, get_or-replicate, get_or-append}
use lib.Seq.{get_or-append-add}
use Rattle.tables.specs.Bytes.{bytes, same_bytes}
use Rattle.tables.specs.Kind.{kinds, kind_at, dual_of}
use Rattle.tables.specs.Refusal.{and_then, on_outcome}
use Rattle.tables.specs.Place.{tabulate_from, placed}
use Rattle.tables.specs.declared.refusal.Outcome.{Outcome}
use Rattle.tables.specs.declared.refusal.Outcome.TheVariants.{Accepted}
use Rattle.tables.specs.declared.refusal.Reason.TheVariants.{SizeDiffers, ShortBuffer}
use Rattle.tables.specs.declared.row.SignalKind.TheVariants.{Sig, Nsig}
use Rattle.tables.specs.declared.row.UnaryKind.TheVariants.{Not, Always, Ever}
use Rattle.tables.specs.declared.row.BinaryKind.TheVariants.{Or}
use Rattle.tables.specs.declared.row.Row.TheVariants.{Signal, Unary, Binary}
use Rattle.tables.specs.declared.row.Formula.{Formula}
use Rattle.tables.specs.declared.row.NormalForm.{NormalForm}
use Rattle.text.specs.Search.{part, further, first_where}
use Rattle.tables.proofs.Choices.{clash}
use Rattle.text.specs.Number.{digits_from, digits_of, number_of, padded_of}
use Rattle.text.specs.Line.{cut_of, is_numbered, keyed_line}
use Rattle.text.specs.Count.{count_form}
use Rattle.text.specs.Digits.{are_digits}
use Rattle.text.specs.Body.{body_lines}
use Rattle.text.specs.Result.{outcome_of}
use Rattle.text.specs.Written.{decimal_in, decimal, written_body}
use Rattle.rule_row.specs.Row.{kind_named, form_of, row_form, row_value}
use Rattle.rule_file.specs.Rule.{in_place, unused, formula_of, parse_rule}
use Rattle.rule_file.specs.Written.{written_rule}
use Rattle.meaning.specs.Reading.{classical, literal, Some}
use Rattle.meaning.specs.Trace.{InfiniteTrace}
use Rattle.meaning.specs.Satisfaction.{Satisfies}
use Rattle.normal_form.specs.declared.sign.Sign.TheVariants.{Plain}
use Rattle.normal_form.specs.Reach.{marked_down, reach}
use Rattle.normal_form.specs.Numbering.{listing, normal_listing, normal_form}
use Rattle.writing.specs.declared.answer.Bytes.{Bytes}
use Rattle.writing.specs.declared.answer.Bytes.TheVariants.{Count, Refused}
use Rattle.step.specs.Step.{digit_at, form_outcome, form_output, output_size, rows_in, step_answer}
use Rattle.step_calls.specs.Calls.{Call, Kept, Kept.fresh, Kept.wrote, given, on_answer, kept, handed, answered, left, TakeOf, StepsPass}
use Rattle.step_calls.proofs.Demand.{steps_demand}

-- "Rule A: `r1=sig 1`, `r2=not 1`, `r3=sig 2`, `r4=ever 3`, `r5=or 2 4`, `r6=always 5`"; its normal form has 5 rows
abbrev pub rule_a : Formula
rule_a = formula_of 2 6 (Signal Sig 1 ∷ Unary Not 1 ∷ Signal Sig 2 ∷ Unary Ever 3 ∷ Binary Or 2 4 ∷ Unary Always 5 ∷ [])

-- "sheet for A on 10 01, loop 0: z1 to z5 are 01 01 11 11 11". The first of each three calls is refused: with 9 for its fresh
-- state of 4 rows while no call has been answered, then with 10 for its buffer of 14 bytes
abbrev pub calls : ℕ → Call
calls zero = record { activators = bytes "00111"; signals = bytes "10"; buffer = replicate 14 0; rows = 4 }
calls (suc zero) = record { activators = bytes "00111"; signals = bytes "10"; buffer = replicate 15 0; rows = 5 }
calls (suc (suc zero)) = record { activators = bytes "11111"; signals = bytes "01"; buffer = replicate 15 0; rows = 5 }
calls (suc (suc (suc i))) = calls i

-- 10 01 10 01, and so on
abbrev pub take_a : InfiniteTrace
take_a zero s = digit_at (bytes "10") s
take_a (suc zero) s = digit_at (bytes "01") s
take_a (suc (suc c)) s = take_a c s

-- ---- what each call does: `later` tells the first three calls from the others

-- what is kept when it comes
abbrev start : Bool → Kept
start false = fresh
start true = wrote (bytes "00001")

abbrev kept_in : ℕ → Bool → Kept
kept_in zero later = start later
kept_in (suc zero) later = start later
kept_in (suc (suc zero)) later = wrote (bytes "00101")
kept_in (suc (suc (suc i))) later = kept_in i true

-- what it answers: 9, 15 bytes, 15 bytes; then 10, 15 bytes, 15 bytes, and so on
abbrev pub answer_in : ℕ → Bool → Bytes
answer_in zero false = Refused (record { reason = SizeDiffers; file = 0; line = 0 })
answer_in zero true = Refused (record { reason = ShortBuffer; file = 0; line = 0 })
answer_in (suc zero) later = Count 15
answer_in (suc (suc zero)) later = Count 15
answer_in (suc (suc (suc i))) later = answer_in i true

-- what it leaves in its buffer: failed, accept, pending
abbrev none_failed : List ℕ
none_failed = replicate 5 48

abbrev leaves : ℕ → List ℕ
leaves zero = replicate 14 0
leaves (suc zero) = none_failed ++ bytes "1101100101"
leaves (suc (suc zero)) = none_failed ++ (replicate 5 49 ++ bytes "00001")
leaves (suc (suc (suc i))) = leaves i

-- what a call answers and leaves, and what is kept then, where the rule's own check and its normal form are these
module _ (own : Outcome) (g : NormalForm) (i : ℕ) (k : Kept) where
  abbrev state : List ℕ
  state = given k (calls i).rows

  abbrev outcome : Outcome
  outcome = and_then own (form_outcome g state (calls i).activators (calls i).signals (length (calls i).buffer))

  abbrev answer_to : Bytes
  answer_to = on_outcome outcome Refused (Count (output_size g.rows))

  abbrev left_by : List ℕ
  left_by = on_outcome outcome (λ r. (calls i).buffer) (form_output g state (calls i).activators (calls i).signals ++ drop (output_size g.rows) (calls i).buffer)

  abbrev kept_after : Kept
  kept_after = on_answer answer_to (wrote (part (2 * g.rows) (output_size g.rows) left_by)) k

abbrev Done : Outcome → NormalForm → ℕ → Bool → Type 0
Done own g i later =
    let k = kept_in i later in
    (answer_to own g i k ≡ answer_in i later) × (left_by own g i k ≡ leaves i) × (kept_after own g i k ≡ kept_in (suc i) later)

-- computed with rule A's normal form, for the five calls that differ
abbrev form_a : NormalForm
form_a = record { signals = 2; rows = 5; places = placed 128 in_place unused (Signal Nsig 1 ∷ Signal Sig 2 ∷ Unary Ever 2 ∷ Binary Or 1 3 ∷ Unary Always 4 ∷ []) }

computed : (i : ℕ) (later : Bool) → Done Accepted form_a i later
unfolding tabulate_from are_digits form_output
computed zero false = (refl, refl, refl)
computed zero true = (refl, refl, refl)
computed (suc zero) false = (refl, refl, refl)
computed (suc zero) true = (refl, refl, refl)
computed (suc (suc zero)) later = (refl, refl, refl)
computed (suc (suc (suc i))) later = computed i true

-- rule A passes its check, and this is its normal form
abbrev checked : Outcome
checked = outcome_of 1 (parse_rule (written_rule rule_a))

checks : checked ≡ Accepted
unfolding parse_rule keyed_line cut_of first_where further same_bytes count_form number_of padded_of digits_of digits_from body_lines is_numbered row_value row_form form_of kind_named kinds kind_at tabulate_from written_rule written_body decimal decimal_in
checks = refl

abbrev form : NormalForm
form = normal_form rule_a Plain

form_is : form ≡ form_a
unfolding marked_down reach listing normal_listing normal_form kinds kind_at dual_of tabulate_from
form_is = refl

done : (i : ℕ) (later : Bool) → Done checked form i later
done i later = subst⁻¹ (λ o. Done o form i later) checks (subst⁻¹ (λ g. Done Accepted g i later) form_is (computed i later))

rows : rows_in rule_a ≡ 5
rows = ap (λ (g : NormalForm). g.rows) form_is

kept_is : (i : ℕ) → kept rule_a calls i ≡ kept_in i false
unfolding kept
kept_is zero = refl
kept_is (suc i) = ap (kept_after checked form i) (kept_is i) ∙ (done i false).2

pub witness_answers : (i : ℕ) → step_answer rule_a (handed rule_a calls i) (calls i).activators (calls i).signals (calls i).buffer ≡ answer_in i false
witness_answers i = ap (answer_to checked form i) (kept_is i) ∙ (done i false).0

-- so the first of each three calls is refused, and no other
abbrev is_cycle : ℕ → Bool
is_cycle zero = false
is_cycle (suc zero) = true
is_cycle (suc (suc zero)) = true
is_cycle (suc (suc (suc i))) = is_cycle i

answered_is : (i : ℕ) → answered rule_a calls i ≡ is_cycle i
answered_is i = ap (λ r. on_answer r true false) (witness_answers i) ∙ by i false
  where
    by : (i : ℕ) (later : Bool) → on_answer (answer_in i later) true false ≡ is_cycle i
    by zero false = refl
    by zero true = refl
    by (suc zero) later = refl
    by (suc (suc zero)) later = refl
    by (suc (suc (suc i))) later = by i true

left_is : (i : ℕ) → left rule_a calls i ≡ leaves i
left_is i = ap (left_by checked form i) (kept_is i) ∙ (done i false).1

-- ---- what demand 3 asks of the list

clean : (i k : ℕ) → is_cycle i ≡ true → k < 5 → get_or (leaves i) k 0 ≡ 48
clean zero k e h = clash (cc)
clean (suc zero) k e h = get_or-append none_failed (bytes "1101100101") 0 k h ∙ get_or-replicate 5 k 48 0 h
clean (suc (suc zero)) k e h = get_or-append none_failed (replicate 5 49 ++ bytes "00001") 0 k h ∙ get_or-replicate 5 k 48 0 h
clean (suc (suc (suc i))) k e h = clean i k e h

-- a third call of three from call i on: all rows accept
third : ℕ → ℕ
third zero = 2
third (suc i) = suc (suc (suc (third i)))

third_later : (i : ℕ) → i ≤ third i
unfolding third
third_later zero = omega arith
third_later (suc i) = omega (arith, third_later i)

third_cycle : (i : ℕ) → is_cycle (third i) ≡ true
unfolding third
third_cycle zero = refl
third_cycle (suc i) = third_cycle i

third_accepts : (i k : ℕ) → k < 5 → get_or (leaves (third i)) (5 + k) 0 ≡ 49
unfolding third
third_accepts zero k h =
    get_or-append-add none_failed (replicate 5 49 ++ bytes "00001") k 0 ∙ (get_or-append (replicate 5 49) (bytes "00001") 0 k h ∙ get_or-replicate 5 k 49 0 h)
third_accepts (suc i) k h = third_accepts i k h

passes : StepsPass rule_a calls literal
passes = record { root_active = ∣ (1, ((answered_is 1, before), ap (digit_at (bytes "00111")) rows)) ∣₁; none_fails = none; accepts_return = returns }
  where
    before : (j : ℕ) → j < 1 → answered rule_a calls j ≡ false
    before zero h = answered_is 0
    before (suc j) h = absurd (omega arith)

    none : (i k : ℕ) → answered rule_a calls i ≡ true → k < rows_in rule_a → ¬ (get_or (left rule_a calls i) k 0 ≡ 49)
    none i k a h e =
        let zero-digit : get_or (left rule_a calls i) k 0 ≡ 48 = ap (λ l. get_or l k 0) (left_is i) ∙ clean i k (sym (answered_is i) ∙ a) (omega (arith, rows)) in
        omega arith

    returns : (k : ℕ) → k < rows_in rule_a → (i : ℕ) → Some literal (λ j. (i ≤ j) × (answered rule_a calls j ≡ true) × (get_or (left rule_a calls j) (rows_in rule_a + k) 0 ≡ 49))
    returns k h i =
        let j : ℕ = third i in
        ∣ (j, (third_later i, answered_is j ∙ third_cycle i, ap (λ m. get_or (left rule_a calls j) (m + k) 0) rows ∙ (ap (λ l. get_or l (5 + k) 0) (left_is j) ∙ third_accepts i k (omega (arith, rows))))) ∣₁

-- ---- its take

at : ℕ → ℕ
at zero = 1
at (suc zero) = 2
at (suc (suc c)) = suc (suc (suc (at c)))

takes : TakeOf rule_a calls take_a
unfolding at
takes = record { at = at; in_order_lem = record { first = first; each = λ c. answered_is (at c) ∙ each c; rises = rises; between = λ c j l h. answered_is j ∙ between c j l h }; cycles = cycles }
  where
    first : (j : ℕ) → j < at 0 → answered rule_a calls j ≡ false
    first zero h = answered_is 0
    first (suc j) h = absurd (omega arith)

    each : (c : ℕ) → is_cycle (at c) ≡ true
    each zero = refl
    each (suc zero) = refl
    each (suc (suc c)) = each c

    rises : (c : ℕ) → at c < at (suc c)
    rises zero = omega arith
    rises (suc zero) = omega arith
    rises (suc (suc c)) = omega (arith, rises c)

    between : (c j : ℕ) → at c < j → j < at (suc c) → is_cycle j ≡ false
    between zero j l h = absurd (omega arith)
    between (suc zero) j l h = let e : j ≡ 3 = omega arith in ap is_cycle e
    between (suc (suc c)) zero l h = absurd (omega arith)
    between (suc (suc c)) (suc zero) l h = absurd (omega arith)
    between (suc (suc c)) (suc (suc zero)) l h = absurd (omega arith)
    between (suc (suc c)) (suc (suc (suc j))) l h = between c j (omega arith) (omega arith)

    cycles : (c s : ℕ) → 1 ≤ s → s ≤ rule_a.signals → take_a c s ≡ digit_at (calls (at c)).signals s
    cycles zero s l h = refl
    cycles (suc zero) s l h = refl
    cycles (suc (suc c)) s l h = cycles c s l h

-- THE LIST MEETS WHAT DEMAND 3 ASKS, GIVES THE TAKE 10 01 WITHOUT END, AND THAT TAKE SATISFIES RULE A
pub steps_witness : StepsPass rule_a calls literal × TakeOf rule_a calls take_a × Satisfies classical take_a rule_a
steps_witness = (passes, takes, (steps_demand rule_a calls passes).1 take_a takes)
