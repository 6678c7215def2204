-- The loop that reads the rows. Assumes nothing.
use mathlib.Core.Path.{◌≡◌, sym}
use mathlib.Core.Bool.{Bool}
use mathlib.Core.List.{List, [], ◌∷◌, ◌++◌}
use Prim.Native.Nat.{ℕ, ◌+◌, ◌≤◌, ◌<◌}
use native.Mathlib.Omega.{arith}
use lib.ListN.{length, drop, set, replicate, length-drop}
use Rattle.tables.specs.Place.{placed}
use Rattle.tables.specs.declared.refusal.Reason.TheVariants.{WrongForm}
use Rattle.tables.specs.declared.trace.Lane.{Lane}
use Rattle.tables.proofs.Places.{length_tabulate, placed_more}
use Rattle.text.specs.Search.{part}
use Rattle.text.specs.Line.{is_numbered, keyed_line}
use Rattle.text.specs.Digits.{DigitsWithin, digits_in, digits_form, digits_at}
use Rattle.text.specs.Body.{body_lines}
use Rattle.text.specs.Result.{map_result}
use Rattle.text.specs.Result.Result.{accepted, refused}
use Rattle.text.specs.declared.digits.Digits.{Digits}
use Rattle.text.specs.declared.digits.Digits.TheVariants.{At, Wrong}
use Rattle.text.proofs.DigitLines.{part_length, digits_within, digits_good, digits_bad}
use Rattle.text.proofs.Bodies.{BodyAt, body_starts, body_refused, body_more, body_end, body_surplus}
use Rattle.sheet_file.specs.Sheet.{row_lane, activation_of, sheet_answer}
use Rattle.sheet_file.specs.declared.sheet.SheetAnswer.{SheetAnswer}
use Rattle.sheet_file.proofs.Rows.{rows_none}

-- the reading goes on at row k, counted from 0, and the lanes have the rows before
pub record RowsAt (rows cycles : ℕ) (body : List ℕ) (k : ℕ) (lanes : List Lane) (rest : List ℕ) : Type 0 where
  pub done : List (List Bool)
  pub at : BodyAt 122 (λ r. digits_form cycles) rows 1 4 body k done rest
  pub same : lanes ≡ placed 128 row_lane [] done
  pub short : length rest ≤ length body

pub rows_start : {rows cycles : ℕ} {body : List ℕ} → RowsAt rows cycles body 0 (replicate 128 (record { words = replicate 4 0 })) body
rows_start {rows} {cycles} {body} =
    record { done = []; at = body_starts 122 (λ r. digits_form cycles) rows 1 4 body; same = sym rows_none; short = omega arith }

-- the answer that the rows give
abbrev Answer : ℕ → ℕ → List ℕ → SheetAnswer
Answer rows cycles body = sheet_answer (map_result (activation_of rows cycles) (body_lines 122 (λ r. digits_form cycles) rows 1 4 body))

-- a line of so many digits is no longer than a row has places
pub row_fits : (cycles : ℕ) (rest : List ℕ) {r : Digits} {from end : ℕ} → DigitsWithin rest cycles r → r ≡ At from end → cycles ≤ 256 → length (part from end rest) ≤ 256
row_fits cycles rest {from = from} {end = end} w d l =
    let p = digits_within rest cycles w d in
    rw (part_length from end rest (omega (arith, p.1))) (omega (arith, p.0))

module _ {rows cycles : ℕ} {body : List ℕ} {k : ℕ} {lanes : List Lane} {rest : List ℕ} (inv : RowsAt rows cycles body k lanes rest) where
  pub rows_length_lem : length lanes ≡ 128
  rows_length_lem = rw inv.same (length_tabulate 128 0 _)

  module _ (h : k < rows) {r : Digits} (e : digits_at rest r ≡ keyed_line (is_numbered 122 (k + 1)) (digits_form cycles) rest) where
    pub rows_wrong : r ≡ Wrong → sheet_answer (refused WrongForm (k + 4)) ≡ Answer rows cycles body
    rows_wrong d = rw (body_refused inv.at h (digits_bad (is_numbered 122 (k + 1)) cycles rest e d))

    pub rows_more : {from end : ℕ} {lane : Lane} → r ≡ At from end → rows ≤ 128 → lane ≡ row_lane (digits_in (part from end rest)) → RowsAt rows cycles body (k + 1) (set lanes k lane) (drop (end + 1) rest)
    rows_more {from} {end} {lane} d l q =
        let n : length inv.done < 128 = omega (arith, inv.at.count) in
        record {
          done = inv.done ++ (digits_in (part from end rest) ∷ []);
          at = body_more inv.at h (digits_good (is_numbered 122 (k + 1)) cycles rest e d);
          same = rw (q, inv.same, ← inv.at.count) (placed_more 128 row_lane [] inv.done (digits_in (part from end rest)) n);
          short = rw length-drop (omega (arith, inv.short));
        }

  module _ (h : rows ≤ k) where
    pub rows_end : length rest ≡ 0 → sheet_answer (accepted (record { rows = rows; cycles = cycles; lanes = lanes })) ≡ Answer rows cycles body
    rows_end e = rw (body_end inv.at h e, inv.same)

    pub rows_surplus : (length rest ≡ 0 → ⊥) → sheet_answer (refused WrongForm (k + 4)) ≡ Answer rows cycles body
    rows_surplus n = rw (body_surplus inv.at h n)
