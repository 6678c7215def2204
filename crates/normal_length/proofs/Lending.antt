-- WHAT THE LENGTH IS WORTH TO WHO LENDS A BUFFER (02, request 3): "lending that many bytes is then never too short, and lending one fewer
-- always is". Assumes nothing.
use Prim.Native.Nat.{ℕ, ◌≤◌, ◌<◌}
use mathlib.Core.Path.{◌≡◌, refl, sym, ap, ◌∙◌}
use mathlib.Core.Logic.{◌↔◌}
use mathlib.Core.List.{List}
use native.Mathlib.Omega.{arith}
use lib.ListN.{length}
use Rattle.tables.specs.Refusal.{number, on_outcome}
use Rattle.tables.specs.declared.refusal.Outcome.{Outcome}
use Rattle.tables.specs.declared.refusal.Outcome.TheVariants.{Accepted, Refused}
use Rattle.tables.specs.declared.refusal.Refusal.{Refusal}
use Rattle.tables.specs.declared.row.Formula.{Formula}
use Rattle.tables.proofs.Choices.{clash}
use Rattle.text.specs.Result.{Result, outcome_of}
use Rattle.text.specs.Result.Result.{accepted, refused}
use Rattle.rule_file.specs.Outcome.{rule_outcome}
use Rattle.rule_file.specs.Rule.{parse_rule}
use Rattle.rule_file.specs.Written.{written_rule}
use Rattle.normal_form.specs.declared.sign.Sign.{Sign}
use Rattle.normal_file.specs.Answer.{normal_answer, normal_left, output}
use Rattle.writing.specs.Answer.{RefusedWith, too_short, written_answer}
use Rattle.writing.specs.Lent.{overlaid}
use Rattle.writing.specs.declared.answer.Bytes.TheVariants.{Count, Refused as BytesRefused}
use Rattle.writing.proofs.Answers.{short_delivers}
use Rattle.writing.proofs.Room.{room_enough, room_exact, refused_short}
use Rattle.normal_length.specs.Answer.{length_answer}

module _ (f : Formula) (s : Sign) where
  out : List ℕ
  out = output f s

  module _ (n : ℕ) (answered : length_answer f s ≡ Count n) (buf : List ℕ) where
    -- the rule is accepted, the length is the output's, and so the writer answers by its room
    counted : (o : Outcome) → on_outcome o BytesRefused (Count (length out)) ≡ Count n
        → (n ≡ length out) × (on_outcome o BytesRefused (written_answer out buf) ≡ written_answer out buf) × (on_outcome o (λ r. buf) (overlaid out buf) ≡ overlaid out buf)
    counted Accepted q = (cc, refl, refl)
    counted (Refused why) q = clash (cc)

    size : n ≡ length out
    unfolding out
    size = (counted (rule_outcome f) answered).0

    writes : normal_answer f s buf ≡ written_answer out buf
    unfolding out
    writes = (counted (rule_outcome f) answered).1

    leaves : normal_left f s buf ≡ overlaid out buf
    unfolding out
    leaves = (counted (rule_outcome f) answered).2

    -- WITH THAT MANY BYTES OR MORE the writer answers that number
    pub enough_written : n ≤ length buf → normal_answer f s buf ≡ Count n
    enough_written h = writes ∙ room_enough out buf (omega (arith, size)) ∙ rw size refl

    -- with just that many it fills them with the file
    pub exact_filled : length buf ≡ n → normal_left f s buf ≡ output f s
    unfolding out
    exact_filled e = leaves ∙ room_exact out buf (e ∙ size)

    -- WITH FEWER it is refused with 10, and leaves the buffer alone
    pub fewer_refused : length buf < n → (normal_answer f s buf ≡ BytesRefused too_short) × (normal_left f s buf ≡ buf)
    fewer_refused h =
        let short : length buf < length out = omega (arith, size) in
        let d = short_delivers short in
        (writes ∙ sym d.answered, leaves ∙ sym d.left)

    -- SO THE WRITER IS REFUSED WITH 10 EXACTLY WHERE IT IS LENT FEWER BYTES THAN THE LENGTH
    pub ten_exactly : RefusedWith 10 BytesRefused (normal_answer f s buf) ↔ (length buf < n)
    ten_exactly = (λ x. let short = (refused_short out buf (sym writes ∙ x.1)).1 in omega (arith, size), λ h. (too_short, (fewer_refused h).0, refl))

  -- REFUSALS ARE THE RULE'S OWN, told with file 1, and so the writer's, whatever buffer it is lent
  pub refused_alike : (why : Refusal) → length_answer f s ≡ BytesRefused why → (buf : List ℕ)
      → (why.file ≡ 1) × (normal_answer f s buf ≡ BytesRefused why) × (normal_left f s buf ≡ buf)
  unfolding out
  refused_alike why answered buf = by (parse_rule (written_rule f)) answered
    where
      by : (p : Result Formula) → on_outcome (outcome_of 1 p) BytesRefused (Count (length (output f s))) ≡ BytesRefused why
          → (why.file ≡ 1) × (on_outcome (outcome_of 1 p) BytesRefused (written_answer (output f s) buf) ≡ BytesRefused why) × (on_outcome (outcome_of 1 p) (λ r. buf) (overlaid (output f s) buf) ≡ buf)
      by (accepted g) q = clash (cc)
      by (refused e line) q = let same : record { reason = e; file = 1; line = line } ≡ why = cc in (sym (ap (λ (r : Refusal). r.file) same), q, refl)

  -- and a refusal of the writer with another number than 10 is the length service's
  pub refused_back : (why : Refusal) (buf : List ℕ) → normal_answer f s buf ≡ BytesRefused why → ¬ (number why.reason ≡ 10) → length_answer f s ≡ BytesRefused why
  refused_back why buf answered other = by (rule_outcome f) answered
    where
      by : (o : Outcome) → on_outcome o BytesRefused (written_answer (output f s) buf) ≡ BytesRefused why → on_outcome o BytesRefused (Count (length (output f s))) ≡ BytesRefused why
      by Accepted q = absurd (other (ap (λ (r : Refusal). number r.reason) (refused_short (output f s) buf q).0))
      by (Refused told) q = q
