-- The bytes of a word, of a row and of the tail, put one after the other. Assumes nothing.
use mathlib.Core.Path.{◌≡◌, sym, ap, ◌∙◌}
use mathlib.Core.List.{List}
use Prim.Native.Nat.{ℕ, ◌+◌, ◌/◌, ◌%◌, ◌≤◌, ◌<◌}
use native.Mathlib.Omega.{arith}
use lib.ListN.{set}
use Rattle.tables.specs.Kind.{place_of, first_number, second_number}
use Rattle.tables.specs.declared.row.Row.{Row}
use Rattle.tables.specs.declared.run.Run.{Run}
use Rattle.run_bytes.specs.Bytes.{byte_of, filled, run_bytes, run_length, word_byte, row_byte}
use Rattle.run_bytes.proofs.Filled.{fill_place, fill_next, fill_end}
use Rattle.run_bytes.proofs.Positions.{byte_tail}

module _ (f : ℕ → ℕ) (at : ℕ) {bs : List ℕ} (e : bs ≡ filled run_length 0 f at) where
  start : f (at + 0) ≡ f at
  start = ap f (omega arith)

  pub word_put : (word : ℕ) → at + 8 ≤ run_length → ((j : ℕ) → j < 8 → f (at + j) ≡ word_byte word j)
      → set (set (set (set (set (set (set (set bs at (word % 256)) (at + 1) (word / 256 % 256)) (at + 2) (word / 65536 % 256)) (at + 3) (word / 16777216 % 256)) (at + 4) (word / 4294967296 % 256))
      (at + 5) (word / 1099511627776 % 256)) (at + 6) (word / 281474976710656 % 256)) (at + 7) (word / 72057594037927936 % 256)
      ≡ filled run_length 0 f (at + 8)
  word_put word h b =
      let x : word % 256 ≡ f at = omega (arith, b 0 (omega arith), start) in
      let b0 = fill_place run_length 0 f at e (omega arith) x in
      let b1 = fill_next run_length 0 f at 1 b0 (omega arith) (sym (b 1 (omega arith))) in
      let b2 = fill_next run_length 0 f at 2 b1 (omega arith) (sym (b 2 (omega arith))) in
      let b3 = fill_next run_length 0 f at 3 b2 (omega arith) (sym (b 3 (omega arith))) in
      let b4 = fill_next run_length 0 f at 4 b3 (omega arith) (sym (b 4 (omega arith))) in
      let b5 = fill_next run_length 0 f at 5 b4 (omega arith) (sym (b 5 (omega arith))) in
      let b6 = fill_next run_length 0 f at 6 b5 (omega arith) (sym (b 6 (omega arith))) in
      fill_next run_length 0 f at 7 b6 (omega arith) (sym (b 7 (omega arith)))

  pub row_put : (row : Row) {x y z : ℕ} → x ≡ place_of row → y ≡ first_number row → z ≡ second_number row → at + 3 ≤ run_length
      → ((j : ℕ) → j < 3 → f (at + j) ≡ row_byte row j) → set (set (set bs at x) (at + 1) y) (at + 2) z ≡ filled run_length 0 f (at + 3)
  row_put row p q r h b =
      let b0 = fill_place run_length 0 f at e (omega arith) (p ∙ (sym (b 0 (omega arith)) ∙ start)) in
      let b1 = fill_next run_length 0 f at 1 b0 (omega arith) (q ∙ sym (b 1 (omega arith))) in
      fill_next run_length 0 f at 2 b1 (omega arith) (r ∙ sym (b 2 (omega arith)))

pub tail_put : (run : Run) {bs : List ℕ} → bs ≡ filled run_length 0 (byte_of run) 1216
    → set (set (set (set bs 1216 run.formula.signals) 1217 run.formula.rows) 1218 (run.cycles % 256)) 1219 (run.cycles / 256) ≡ run_bytes run
unfolding run_bytes
tail_put run e =
    let b0 = fill_next run_length 0 (byte_of run) 1216 0 e (omega arith) (sym (byte_tail run 0)) in
    let b1 = fill_next run_length 0 (byte_of run) 1216 1 b0 (omega arith) (sym (byte_tail run 1)) in
    let b2 = fill_next run_length 0 (byte_of run) 1216 2 b1 (omega arith) (sym (byte_tail run 2)) in
    fill_next run_length 0 (byte_of run) 1216 3 b2 (omega arith) (sym (byte_tail run 3)) ∙ fill_end run_length 0 (byte_of run)
