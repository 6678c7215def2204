-- What crates above cite of a run's bytes: there are 1,220, and no two runs have the same. Assumes nothing.
use mathlib.Core.Path.{◌≡◌, refl, sym, ap, ◌∙◌}
use Prim.Native.Nat.{ℕ, ◌+◌, ◌*◌, ◌<◌}
use native.Mathlib.Omega.{arith}
use lib.ListN.{get_or, length}
use Rattle.tables.specs.Kind.{first_number, kinds, no_kind, place_of, second_number, with_numbers}
use Rattle.tables.specs.declared.row.Row.{Row}
use Rattle.tables.specs.declared.run.Run.{Run}
use Rattle.tables.proofs.Places.{tabulate_ext, tabulate_get_d}
use Rattle.run_bytes.specs.Bytes.{Fits, no_place, row_of, run_bytes, run_length}
use Rattle.run_bytes.proofs.Decoding.{row_again, row_bytes, run_again, tail_bytes, word_again, word_bytes}
use Rattle.run_bytes.proofs.Positions.{bytes_length}

pub run_length_lem : (run : Run) → length (run_bytes run) ≡ run_length
run_length_lem run = bytes_length run

-- a row is known by the place of its kind and its numbers
row_once : (x y : Row) → place_of x ≡ place_of y → first_number x ≡ first_number y → second_number x ≡ second_number y → x ≡ y
row_once x y p a b =
    let made : Row = with_numbers (get_or kinds (place_of x) no_kind).row (first_number x) (second_number x) in
    sym (row_again x {made = made} {place = place_of x} refl refl (λ h. refl) refl refl refl) ∙ row_again y {made = made} {place = place_of x} refl p (λ h. refl) refl a b

module _ (a b : Run) (fa : Fits a) (fb : Fits b) (e : run_bytes a ≡ run_bytes b) where
  same_word : (i : ℕ) → i < 128 → get_or a.words i 0 ≡ get_or b.words i 0
  same_word i h =
      sym (word_again (run_bytes a) (8 * i) (get_or a.words i 0) (fa.word i h) (word_bytes a refl i h) refl refl refl refl refl refl refl refl)
      ∙ word_again (run_bytes a) (8 * i) (get_or b.words i 0) (fb.word i h) (word_bytes b e i h) refl refl refl refl refl refl refl refl

  same_words : a.words ≡ b.words
  same_words =
      sym (tabulate_get_d a.words 128 0 fa.words)
      ∙ (tabulate_ext 128 (λ i. get_or a.words i 0) (λ i. get_or b.words i 0) same_word ∙ tabulate_get_d b.words 128 0 fb.words)

  same_row : (k : ℕ) → k < 64 → row_of a k ≡ row_of b k
  same_row k h =
      let same : (j : ℕ) → j < 3 → _ = λ j l. sym (row_bytes a refl k h j l) ∙ row_bytes b e k h j l in
      row_once (row_of a k) (row_of b k) (same 0 (omega arith)) (same 1 (omega arith)) (same 2 (omega arith))

  same_places : a.formula.places ≡ b.formula.places
  same_places =
      sym (tabulate_get_d a.formula.places 64 no_place fa.places)
      ∙ (tabulate_ext 64 (λ k. get_or a.formula.places k no_place) (λ k. get_or b.formula.places k no_place) (λ k h. ap (λ r. record { row = r }) (same_row k h))
      ∙ tabulate_get_d b.formula.places 64 no_place fb.places)

  -- NO TWO RUNS HAVE THE SAME BYTES
  pub bytes_once : a ≡ b
  bytes_once =
      let count : a.cycles ≡ get_or (run_bytes a) 1218 0 + 256 * get_or (run_bytes a) 1219 0 = omega (arith, tail_bytes a refl 2 (omega arith), tail_bytes a refl 3 (omega arith)) in
      sym (run_again a refl refl refl count) ∙ run_again b e same_words same_places count
