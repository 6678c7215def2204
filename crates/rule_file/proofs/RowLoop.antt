-- The loop that reads the rows. Assumes nothing.
use mathlib.Core.Path.{◌≡◌}
use mathlib.Core.List.{List, [], ◌∷◌, ◌++◌}
use Prim.Native.Nat.{ℕ, ◌+◌, ◌≤◌, ◌<◌}
use native.Mathlib.Omega.{arith}
use lib.ListN.{length, set, drop, replicate}
use Rattle.tables.specs.Place.{placed}
use Rattle.tables.proofs.Places.{length_tabulate, replicate_tabulate, placed_more}
use Rattle.tables.specs.declared.refusal.Reason.{Reason}
use Rattle.tables.specs.declared.refusal.Reason.TheVariants.{WrongForm}
use Rattle.tables.specs.declared.row.Row.{Row}
use Rattle.tables.specs.declared.row.RowPlace.{RowPlace}
use Rattle.text.specs.Line.{is_numbered, keyed_line}
use Rattle.text.specs.Body.{body_lines}
use Rattle.text.specs.Result.{map_result}
use Rattle.text.specs.Result.Parsed.{good, bad}
use Rattle.text.specs.Result.Result.{accepted, refused}
use Rattle.text.proofs.Bodies.{BodyAt, body_starts, body_refused, body_more, body_end, body_surplus}
use Rattle.rule_row.specs.Row.{row_value}
use Rattle.rule_file.specs.Rule.{formula_of, in_place, unused, rule_answer}

-- k rows are read, and stand in their places
pub record RowsAt (signals rows : ℕ) (body : List ℕ) (k : ℕ) (places : List RowPlace) (rest : List ℕ) : Type 0 where
  pub done : List Row
  pub reading : BodyAt 114 (row_value signals) rows 1 4 body k done rest
  pub filled : places ≡ placed 64 in_place unused done

pub rows_start : (signals rows : ℕ) (body : List ℕ) → RowsAt signals rows body 0 (replicate 64 (in_place unused)) body
rows_start signals rows body = record { done = []; reading = body_starts _ _ _ _ _ _; filled = replicate_tabulate 64 0 (in_place unused) }

module _ {signals rows : ℕ} {body : List ℕ} {k : ℕ} {places : List RowPlace} {rest : List ℕ} (inv : RowsAt signals rows body k places rest) where
  pub places_long : length places ≡ 64
  places_long = rw inv.filled (length_tabulate 64 0 _)

  module _ (h : k < rows) where
    pub rows_refused : {e : Reason} → keyed_line (is_numbered 114 (k + 1)) (row_value signals (k + 1)) rest ≡ bad e
        → rule_answer (refused e (k + 4)) ≡ rule_answer (map_result (formula_of signals rows) (body_lines 114 (row_value signals) rows 1 4 body))
    rows_refused q = rw (body_refused inv.reading h q)

    pub rows_more : {r : Row} {i : ℕ} → rows ≤ 64 → keyed_line (is_numbered 114 (k + 1)) (row_value signals (k + 1)) rest ≡ good (record { value = r; next = i })
        → RowsAt signals rows body (k + 1) (set places k (in_place r)) (drop i rest)
    rows_more {r} m q =
        let n : length inv.done ≡ k = inv.reading.count in
        let p : set (placed 64 in_place unused inv.done) (length inv.done) (in_place r) ≡ placed 64 in_place unused (inv.done ++ (r ∷ [])) =
        placed_more 64 in_place unused inv.done r (omega arith) in
        record { done = inv.done ++ (r ∷ []); reading = body_more inv.reading h q; filled = rw (inv.filled, ← n) p }

  module _ (h : rows ≤ k) where
    pub rows_surplus : (length rest ≡ 0 → ⊥) → rule_answer (refused WrongForm (k + 4)) ≡ rule_answer (map_result (formula_of signals rows) (body_lines 114 (row_value signals) rows 1 4 body))
    rows_surplus n = rw (body_surplus inv.reading h n)

    pub rows_end : length rest ≡ 0
        → rule_answer (accepted (record { signals = signals; rows = rows; places = places })) ≡ rule_answer (map_result (formula_of signals rows) (body_lines 114 (row_value signals) rows 1 4 body))
    rows_end e = rw (body_end inv.reading h e, inv.filled)
