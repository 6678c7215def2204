-- WHAT THE LENGTH IS WORTH TO WHO LENDS THE SHEET MAKER A BUFFER (02, request 3): "Where the sheet's answer is `none`, its length is 0.
-- Otherwise lending that many bytes is then never too short, and lending one fewer always is." Assumes nothing.
use Prim.Native.Nat.{ℕ, ◌≤◌, ◌<◌}
use mathlib.Core.Path.{◌≡◌, refl, sym, ap, ◌∙◌}
use mathlib.Core.Logic.{◌↔◌, ◌⊎◌, inl, inr}
use mathlib.Core.Bool.{Bool, true, false}
use mathlib.Core.List.{List}
use native.Mathlib.Omega.{arith}
use lib.Dec.{eqb}
use lib.ListN.{length}
use Rattle.tables.specs.Choice.{pick}
use Rattle.tables.specs.Refusal.{and_then, call_refused, number, numbered}
use Rattle.tables.specs.declared.refusal.Outcome.{Outcome}
use Rattle.tables.specs.declared.refusal.Outcome.TheVariants.{Accepted, Refused}
use Rattle.tables.specs.declared.refusal.Refusal.{Refusal}
use Rattle.tables.specs.declared.row.Formula.{Formula}
use Rattle.tables.specs.declared.trace.Activation.{Activation}
use Rattle.tables.specs.declared.trace.Trace.{Trace}
use Rattle.tables.proofs.Choices.{clash}
use Rattle.text.specs.Result.{Result, outcome_of}
use Rattle.text.specs.Result.Result.{accepted, refused}
use Rattle.rule_file.specs.Rule.{parse_rule}
use Rattle.rule_file.specs.Valid.{InRange as FormulaInRange}
use Rattle.rule_file.specs.Written.{written_rule}
use Rattle.take_file.specs.Take.{parse_take}
use Rattle.take_file.specs.Written.{written_take}
use Rattle.sheet_file.specs.Written.{written_sheet}
use Rattle.normal_form.specs.declared.sign.Sign.TheVariants.{Plain}
use Rattle.normal_form.specs.Numbering.{normal_form}
use Rattle.normal_form.proofs.Ranges.{form_normal}
use Rattle.meeting.specs.Meeting.{pair_outcome, covered_take}
use Rattle.meeting.specs.declared.Wanted.TheVariants.{Either}
use Rattle.sheet_maker.specs.declared.MakerAnswer.{MakerAnswer}
use Rattle.sheet_maker.specs.declared.MakerAnswer.TheVariants.{Written, None, Refused as MakerRefused}
use Rattle.sheet_maker.specs.Made.{IsMade}
use Rattle.sheet_maker.specs.Answer.{answer_of, Answers, Answers.sheet, Answers.none, MakesOn, Makes}
use Rattle.sheet_maker.proofs.Answers.{pair_fine}
use Rattle.sheet_maker.proofs.Demand.{never_none}
use Rattle.sheet_maker.proofs.Sheets.{made_unique}
use Rattle.writing.specs.Answer.{RefusedWith, too_short, written_answer}
use Rattle.writing.specs.Lent.{overlaid}
use Rattle.writing.specs.declared.answer.Bytes.{Bytes}
use Rattle.writing.specs.declared.answer.Bytes.TheVariants.{Count, Refused as BytesRefused}
use Rattle.writing.proofs.Answers.{short_delivers}
use Rattle.writing.proofs.Room.{room_enough, room_exact, refused_short}
use Rattle.sheet_length.specs.Answer.{Measured.sheet, Measured.none, MeasuresOn, Measures}
use Rattle.sheet_length.proofs.Answers.{never_refused}

pub sheet_some : (a : Activation) → 0 < length (written_sheet a)
unfolding written_sheet
sheet_some a = omega arith

-- an answer is refused where writing is
turned : {why : Refusal} (b : Bytes) → answer_of b ≡ MakerRefused why → b ≡ BytesRefused why
turned (Count m) q = clash (cc)
turned (BytesRefused told) q = cc

module _ (f : Formula) (t : Trace) (before after : List ℕ) (answer : MakerAnswer) where
  -- what length service and sheet maker say of the same tables: of one sheet, or both of none
  pub data Both (n : ℕ) : Type 0 where
    some_sheet : (a : Activation) → IsMade (normal_form f Plain) (covered_take f t) a → n ≡ length (written_sheet a) → answer ≡ answer_of (written_answer (written_sheet a) before)
        → after ≡ overlaid (written_sheet a) before → Both n
    no_sheet : n ≡ 0 → answer ≡ None → after ≡ before → Both n

  -- whatever checks come before, if what they accept is in range
  pub both_on : (n : ℕ) (o : Outcome) → (o ≡ Accepted → FormulaInRange f) → MeasuresOn o f t (Count n) → MakesOn o f t before after answer → Both n
  both_on n (Refused why) fine m makes = clash (cc)
  both_on n Accepted fine (sheet s a made p) (sheet r b again u w) =
      let same : written_sheet a ≡ written_sheet b = made_unique (normal_form f Plain) (covered_take f t) a b (form_normal f Plain (fine refl)).most_rows made again in
      let size : n ≡ length (written_sheet a) = cc in
      some_sheet b again (size ∙ ap length same) u w
  both_on n Accepted fine (sheet s a made p) (none r u w) = absurd (r s)
  both_on n Accepted fine (none s p) (sheet r b again u w) = absurd (s r)
  both_on n Accepted fine (none s p) (none r u w) = no_sheet (let q : Count n ≡ Count 0 = p in cc) u w

  pub written_there : (n : ℕ) → Both n → 0 < n → n ≤ length before → answer ≡ Written n
  written_there n (some_sheet a made e u w) some h = u ∙ ap answer_of (room_enough (written_sheet a) before (omega (arith, e))) ∙ rw e refl
  written_there n (no_sheet e u w) some h = absurd (omega arith)

  filled_there : (n : ℕ) → Both n → 0 < n → length before ≡ n → (a : Activation) × IsMade (normal_form f Plain) (covered_take f t) a × (after ≡ written_sheet a)
  filled_there n (some_sheet a made e u w) some h = (a, made, w ∙ room_exact (written_sheet a) before (h ∙ e))
  filled_there n (no_sheet e u w) some h = absurd (omega arith)

  pub refused_there : (n : ℕ) → Both n → length before < n → (answer ≡ MakerRefused too_short) × (after ≡ before)
  refused_there n (some_sheet a made e u w) h =
      let short : length before < length (written_sheet a) = omega (arith, e) in
      let d = short_delivers short in
      (u ∙ ap answer_of (sym d.answered), w ∙ sym d.left)
  refused_there n (no_sheet e u w) h = absurd (omega arith)

  short_there : {why : Refusal} (n : ℕ) → Both n → answer ≡ MakerRefused why → length before < n
  short_there n (some_sheet a made e u w) q =
      let short = (refused_short (written_sheet a) before (turned (written_answer (written_sheet a) before) (sym u ∙ q))).1 in omega (arith, e)
  short_there n (no_sheet e u w) q = clash (cc)

  pub none_there : (n : ℕ) → Both n → (n ≡ 0) ↔ (answer ≡ None)
  none_there n (some_sheet a made e u w) = (λ z. absurd (omega (arith, e, sheet_some a)), λ q. absurd (never_none (written_answer (written_sheet a) before) (sym u ∙ q)))
  none_there n (no_sheet e u w) = (λ z. u, λ q. e)

  module _ (n : ℕ) (measures : Measures f t (Count n)) (makes : Makes f t before after answer) where
    both : Both n
    both = both_on n (pair_outcome Either f t) (pair_fine f t) measures makes

    -- WITH THAT MANY BYTES OR MORE the sheet maker writes a sheet of that length, where it is not 0;
    pub enough_written : 0 < n → n ≤ length before → answer ≡ Written n
    enough_written = written_there n both

    -- with just that many it fills them with the sheet's file
    pub exact_filled : 0 < n → length before ≡ n → (a : Activation) × IsMade (normal_form f Plain) (covered_take f t) a × (after ≡ written_sheet a)
    exact_filled = filled_there n both

    -- WITH FEWER it is refused with 10, and leaves the buffer alone
    pub fewer_refused : length before < n → (answer ≡ MakerRefused too_short) × (after ≡ before)
    fewer_refused = refused_there n both

    -- SO IT IS REFUSED WITH 10 EXACTLY WHERE IT IS LENT FEWER BYTES THAN THE LENGTH
    pub ten_exactly : RefusedWith 10 MakerRefused answer ↔ (length before < n)
    ten_exactly = (λ x. short_there n both x.1, λ h. (too_short, (fewer_refused h).0, refl))

    -- AND THE LENGTH IS 0 EXACTLY WHERE THE ANSWER IS `none`
    pub none_exactly : (n ≡ 0) ↔ (answer ≡ None)
    none_exactly = none_there n both

  -- REFUSALS ARE THE SHEET MAKER'S, whatever buffer it is lent
  pub refused_alike : (why : Refusal) → Measures f t (BytesRefused why) → Makes f t before after answer → (answer ≡ MakerRefused why) × (after ≡ before)
  refused_alike why measures makes = by (pair_outcome Either f t) measures makes
    where
      by : (o : Outcome) → MeasuresOn o f t (BytesRefused why) → MakesOn o f t before after answer → (answer ≡ MakerRefused why) × (after ≡ before)
      by Accepted m x = absurd (never_refused m)
      by (Refused told) m x = let same : told ≡ why = cc in (x.0 ∙ ap MakerRefused same, x.1)

  -- and a refusal of the sheet maker with another number than 10 is the length service's
  pub refused_back : (why : Refusal) → Makes f t before after answer → answer ≡ MakerRefused why → ¬ (number why.reason ≡ 10) → Measures f t (BytesRefused why)
  refused_back why makes given other = by (pair_outcome Either f t) makes
    where
      ten : Answers f t before after answer → ⊥
      ten (sheet s a made u w) =
          other (ap (λ (r : Refusal). number r.reason) (refused_short (written_sheet a) before (turned (written_answer (written_sheet a) before) (sym u ∙ given))).0)
      ten (none s u w) = clash (cc)

      by : (o : Outcome) → MakesOn o f t before after answer → MeasuresOn o f t (BytesRefused why)
      by Accepted x = absurd (ten x)
      by (Refused told) x = let same : MakerRefused told ≡ MakerRefused why = sym x.0 ∙ given in cc

-- A REFUSAL OF THE LENGTH SERVICE is the rule's, the take's, or 7
pub refused_by : (f : Formula) (t : Trace) (why : Refusal) → Measures f t (BytesRefused why) → (why.file ≡ 1) ⊎ ((why.file ≡ 2) ⊎ (number why.reason ≡ 7))
refused_by f t why = by (parse_rule (written_rule f)) (parse_take (written_take t)) (eqb f.signals t.signals)
  where
    told : {r : Refusal} → BytesRefused why ≡ BytesRefused r → why ≡ r
    told q = cc

    by : (p : Result Formula) (q : Result Trace) (b : Bool)
        → MeasuresOn (and_then (and_then (outcome_of 1 p) (outcome_of 2 q)) (and_then (pick b Accepted (call_refused (numbered 7))) Accepted)) f t (BytesRefused why)
        → (why.file ≡ 1) ⊎ ((why.file ≡ 2) ⊎ (number why.reason ≡ 7))
    by (refused e n) q b m = inl (ap (λ (r : Refusal). r.file) (told m))
    by (accepted g) (refused e n) b m = inr (inl (ap (λ (r : Refusal). r.file) (told m)))
    by (accepted g) (accepted u) true m = absurd (never_refused m)
    by (accepted g) (accepted u) false m = inr (inr (ap (λ (r : Refusal). number r.reason) (told m)))
