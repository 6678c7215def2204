-- Which byte of a run stands where. Assumes nothing.
use mathlib.Core.Path.{◌≡◌}
use mathlib.Core.List.{List}
use Prim.Native.Nat.{ℕ, ◌+◌, ◌*◌, ◌-◌, ◌/◌, ◌%◌, ◌<◌}
use native.Mathlib.Omega.{arith}
use lib.ListN.{length, get_or}
use borrow.Author.Tests.{lt-ltb, le-ltb}
use Rattle.tables.proofs.Places.{length_tabulate, get_d_tabulate}
use Rattle.tables.specs.declared.run.Run.{Run}
use Rattle.run_bytes.specs.Bytes.{byte_of, run_bytes, run_length, word_byte, row_byte, row_of, tail_byte}

module _ (run : Run) where
  pub byte_word : (i j : ℕ) → i < 128 → j < 8 → byte_of run (8 * i + j) ≡ word_byte (get_or run.words i 0) j
  unfolding byte_of
  byte_word i j h l =
      let a : (8 * i + j) / 8 ≡ i = omega arith in
      let b : (8 * i + j) % 8 ≡ j = omega arith in
      rw (lt-ltb (8 * i + j) 1024 (omega arith), a, b)

  pub byte_row : (k j : ℕ) → k < 64 → j < 3 → byte_of run (1024 + 3 * k + j) ≡ row_byte (row_of run k) j
  unfolding byte_of
  byte_row k j h l =
      let a : (1024 + 3 * k + j - 1024) / 3 ≡ k = omega arith in
      let b : (1024 + 3 * k + j - 1024) % 3 ≡ j = omega arith in
      rw (le-ltb (1024 + 3 * k + j) 1024 (omega arith), lt-ltb (1024 + 3 * k + j) 1216 (omega arith), a, b)

  pub byte_tail : (j : ℕ) → byte_of run (1216 + j) ≡ tail_byte run j
  unfolding byte_of
  byte_tail j =
      let a : 1216 + j - 1216 ≡ j = omega arith in
      rw (le-ltb (1216 + j) 1024 (omega arith), le-ltb (1216 + j) 1216 (omega arith), a)

  pub bytes_length : length (run_bytes run) ≡ run_length
  unfolding run_bytes
  bytes_length = length_tabulate run_length 0 (byte_of run)

  -- the bytes of a list that is those of the run
  pub byte_at : {bytes : List ℕ} (i : ℕ) → bytes ≡ run_bytes run → i < run_length → get_or bytes i 0 ≡ byte_of run i
  unfolding run_bytes
  byte_at i e h = rw e (get_d_tabulate run_length (byte_of run) i 0 h)
