-- The digits of a line, and the lines of a sheet, one more at a time. Assumes nothing.
use Prim.Native.Nat.{ℕ, suc, ◌+◌, ◌≤◌, ◌<◌, min}
use mathlib.Core.Path.{◌≡◌, sym, ap, ◌∙◌}
use mathlib.Core.Bool.{Bool, false}
use mathlib.Core.List.{List, [], ◌∷◌, ◌++◌, map-append}
use native.Mathlib.Numerals.{add-one}
use native.Mathlib.Omega.{arith}
use lib.ListN.{length, get_or, take}
use lib.Seq.{take-suc, take_all, length-take-le}
use Rattle.tables.specs.Choice.{pick}
use Rattle.tables.specs.Bit.{bit_at}
use Rattle.tables.specs.Place.{tabulate}
use Rattle.tables.specs.declared.trace.Activation.{Activation}
use Rattle.tables.specs.declared.trace.Lane.{Lane}
use Rattle.tables.proofs.Places.{length_tabulate, get_d_tabulate, take_tabulate}
use Rattle.text.specs.Written.{decimal, digits_text, written_line, written_body}
use Rattle.sheet_file.specs.Written.{rows_of}
use Rattle.writing.specs.Lent.{Wrote}
use Rattle.writing.proofs.Texts.{places_next, places_all}

module _ (f : ℕ → Bool) (n : ℕ) where
  tabulate_more : tabulate (suc n) f ≡ tabulate n f ++ (f n ∷ [])
  tabulate_more =
      let xs : List Bool = tabulate (suc n) f in
      let l : length xs ≡ suc n = length_tabulate (suc n) 0 f in
      sym (take_all (suc n) xs (omega arith)) ∙ take-suc xs n false (omega arith)
      ∙ ap (λ ys. ys ++ (get_or xs n false ∷ [])) (take_tabulate n (suc n) f (omega arith))
      ∙ ap (λ b. tabulate n f ++ (b ∷ [])) (get_d_tabulate (suc n) f n false (omega arith))

  pub digits_next : digits_text (tabulate n f) ++ (pick (f n) 49 48 ∷ []) ≡ digits_text (tabulate (n + 1) f)
  digits_next = sym (ap (λ m. digits_text (tabulate m f)) (add-one n) ∙ ap digits_text tabulate_more ∙ map-append (λ b. pick b 49 48) (tabulate n f) (f n ∷ []))

module _ (a : Activation) (full : length a.lanes ≡ 128) (few : a.rows ≤ 128) where
  pub rows_next : (k : ℕ) (d : Lane) → a.cycles ≤ 256 → k < a.rows
      → written_body 122 digits_text 1 (take k (rows_of a)) ++ written_line (122 ∷ decimal (k + 1)) (digits_text (tabulate a.cycles (bit_at (get_or a.lanes k d)))) [] ≡ written_body 122 digits_text 1 (take (k + 1) (rows_of a))
  rows_next k d short h =
      let m : a.cycles ≡ min a.cycles 256 = omega arith in
      ap (λ n. written_body 122 digits_text 1 (take k (rows_of a)) ++ written_line (122 ∷ decimal (k + 1)) (digits_text (tabulate n (bit_at (get_or a.lanes k d)))) []) m
      ∙ places_next (λ (l : Lane). tabulate (min a.cycles 256) (bit_at l)) a.rows a.lanes (omega arith) 122 digits_text k d h

  pub rows_all : (k : ℕ) → a.rows ≤ k → take k (rows_of a) ≡ rows_of a
  rows_all k h = places_all (λ (l : Lane). tabulate (min a.cycles 256) (bit_at l)) a.rows a.lanes (omega arith) k h

-- the length of a part of a written buffer
pub part_length : {b t a : List ℕ} {e : ℕ} (n : ℕ) → Wrote b 0 t a e → n ≤ length a → n ≡ length (take n a)
part_length {b} {t} {a} n w h = sym (length-take-le n a h)
