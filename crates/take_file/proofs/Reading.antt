-- The loop that reads the cycles. Assumes nothing.
use mathlib.Core.Path.{◌≡◌, sym}
use mathlib.Core.Bool.{Bool}
use mathlib.Core.List.{List, [], ◌∷◌, ◌++◌}
use Prim.Native.Nat.{ℕ, ◌+◌, ◌≤◌, ◌<◌}
use native.Mathlib.Nat.{add-zero}
use native.Mathlib.Omega.{arith}
use lib.ListN.{length, drop, length-drop}
use Rattle.tables.specs.declared.refusal.Reason.TheVariants.{WrongForm}
use Rattle.tables.specs.declared.trace.Ending.{Ending}
use Rattle.tables.specs.declared.trace.Lane.{Lane}
use Rattle.text.specs.Search.{part}
use Rattle.text.specs.Line.{is_numbered, keyed_line}
use Rattle.text.specs.Digits.{DigitsWithin, digits_in, digits_form, digits_at}
use Rattle.text.specs.Body.{body_lines}
use Rattle.text.specs.Result.{map_result}
use Rattle.text.specs.Result.Parsed.{good, bad}
use Rattle.text.specs.Result.Result.{accepted, refused}
use Rattle.text.specs.declared.digits.Digits.{Digits}
use Rattle.text.specs.declared.digits.Digits.TheVariants.{At, Wrong}
use Rattle.text.proofs.DigitLines.{part_length, digits_within, digits_good, digits_bad}
use Rattle.text.proofs.Bodies.{BodyAt, body_starts, body_refused, body_more, body_end, body_surplus}
use Rattle.recording.specs.Recording.{Recorded, words_of, lanes_from}
use Rattle.recording.proofs.Laws.{lanes_recorded}
use Rattle.take_file.specs.Take.{trace_of, take_answer}
use Rattle.take_file.specs.declared.take.TakeAnswer.{TakeAnswer}

-- the reading goes on at cycle c, and the words have the cycles before
pub record CyclesAt (signals cycles : ℕ) (body : List ℕ) (c : ℕ) (words : List ℕ) (rest : List ℕ) : Type 0 where
  pub done : List (List Bool)
  pub at : BodyAt 99 (λ c. digits_form signals) cycles 0 5 body c done rest
  pub same : words ≡ words_of done
  pub short : length rest ≤ length body

pub cycles_start : {signals cycles : ℕ} {body words : List ℕ} → words ≡ words_of [] → CyclesAt signals cycles body 0 words body
cycles_start {signals} {cycles} {body} e =
    record { done = []; at = body_starts 99 (λ c. digits_form signals) cycles 0 5 body; same = e; short = omega arith }

-- the answer that the cycles give
abbrev Answer : ℕ → ℕ → Ending → List ℕ → TakeAnswer
Answer signals cycles ending body = take_answer (map_result (trace_of signals cycles ending) (body_lines 99 (λ c. digits_form signals) cycles 0 5 body))

module _ {signals cycles : ℕ} {body : List ℕ} {c : ℕ} {words rest : List ℕ} (inv : CyclesAt signals cycles body c words rest) where
  module _ (h : c < cycles) {r : Digits} (e : digits_at rest r ≡ keyed_line (is_numbered 99 c) (digits_form signals) rest) where
    pub cycles_wrong : (ending : Ending) → r ≡ Wrong → take_answer (refused WrongForm (c + 5)) ≡ Answer signals cycles ending body
    cycles_wrong ending d =
        let k : c + 0 ≡ c = add-zero c in
        let g : keyed_line (is_numbered 99 (c + 0)) (digits_form signals) rest ≡ bad WrongForm = rw k (digits_bad (is_numbered 99 c) signals rest e d) in
        rw (body_refused inv.at h g)

    module _ (w : DigitsWithin rest signals r) {from end : ℕ} (d : r ≡ At from end) (s : signals ≤ 32) (l : cycles ≤ 256) where
      -- the next cycle has its place, and its digits theirs
      pub cycles_room : Recorded words c × (c < 256) × (length (part from end rest) ≤ 32)
      cycles_room =
          let p = digits_within rest signals w d in (
            record { cycles = inv.done; number = inv.at.count; held = inv.same },
            omega arith,
            rw (part_length from end rest (omega (arith, p.1))) (omega (arith, p.0)),
          )

      pub cycles_more : {after : List ℕ}
          → ((cs : List (List Bool)) → length cs ≡ c → words ≡ words_of cs → after ≡ words_of (cs ++ (digits_in (part from end rest) ∷ [])))
          → CyclesAt signals cycles body (c + 1) after (drop (end + 1) rest)
      cycles_more appended =
          let k : c + 0 ≡ c = add-zero c in
          let g : keyed_line (is_numbered 99 (c + 0)) (digits_form signals) rest ≡ good (record { value = digits_in (part from end rest); next = end + 1 }) =
          rw k (digits_good (is_numbered 99 c) signals rest e d) in
          record {
            done = inv.done ++ (digits_in (part from end rest) ∷ []);
            at = body_more inv.at h g;
            same = appended inv.done inv.at.count inv.same;
            short = rw length-drop (omega (arith, inv.short));
          }

  module _ (h : cycles ≤ c) where
    pub cycles_end : (ending : Ending) {lanes : List Lane} → lanes ≡ lanes_from words → length rest ≡ 0 → take_answer (accepted (record { signals = signals; cycles = cycles; ending = ending; lanes = lanes })) ≡ Answer signals cycles ending body
    cycles_end ending l e = rw (body_end inv.at h e, l, lanes_recorded inv.done inv.same)

    pub cycles_surplus : (ending : Ending) → (length rest ≡ 0 → ⊥) → take_answer (refused WrongForm (c + 5)) ≡ Answer signals cycles ending body
    cycles_surplus ending n = rw (body_surplus inv.at h n)
