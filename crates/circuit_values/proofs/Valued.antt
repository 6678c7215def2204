-- The digits of the values of literals, one more at a time. Assumes nothing.
use Prim.Native.Nat.{ℕ, suc, ◌+◌}
use mathlib.Core.Path.{◌≡◌, sym, ap, ◌∙◌}
use mathlib.Core.Bool.{Bool, false}
use mathlib.Core.List.{List, [], ◌∷◌, ◌++◌, map-append}
use native.Mathlib.Numerals.{add-one}
use native.Mathlib.Omega.{arith}
use lib.ListN.{length, get_or}
use lib.Seq.{take-suc, take_all}
use Rattle.tables.specs.Choice.{pick}
use Rattle.tables.specs.Place.{tabulate}
use Rattle.tables.proofs.Places.{length_tabulate, get_d_tabulate, take_tabulate}
use Rattle.text.specs.Written.{digits_text}
use Rattle.writing.specs.Lent.{Wrote}
use Rattle.writing.proofs.Texts.{wrote_both, wrote_is}
use Rattle.circuit_values.specs.Values.{literal_at, value_of, values_at}

module _ (f : ℕ → Bool) (n : ℕ) where
  tabulate_more : tabulate (suc n) f ≡ tabulate n f ++ (f n ∷ [])
  tabulate_more =
      let xs : List Bool = tabulate (suc n) f in
      let l : length xs ≡ suc n = length_tabulate (suc n) 0 f in
      sym (take_all (suc n) xs (omega arith)) ∙ take-suc xs n false (omega arith)
      ∙ ap (λ ys. ys ++ (get_or xs n false ∷ [])) (take_tabulate n (suc n) f (omega arith))
      ∙ ap (λ b. tabulate n f ++ (b ∷ [])) (get_d_tabulate (suc n) f n false (omega arith))

  digits_next : digits_text (tabulate n f) ++ (pick (f n) 49 48 ∷ []) ≡ digits_text (tabulate (n + 1) f)
  digits_next = sym (ap (λ m. digits_text (tabulate m f)) (add-one n) ∙ ap digits_text tabulate_more ∙ map-append (λ b. pick b 49 48) (tabulate n f) (f n ∷ []))

module _ (values : List Bool) (numbers : List ℕ) (from width i : ℕ) where
  pub valued_more : {b m a : List ℕ} {at e f : ℕ} {on : Bool} → on ≡ value_of values (literal_at numbers from width i)
      → Wrote b at (digits_text (values_at values numbers from width i)) m e → Wrote m e (pick on 49 48 ∷ []) a f
      → Wrote b at (digits_text (values_at values numbers from width (i + 1))) a f
  valued_more o x y =
      wrote_is (ap (λ v. digits_text (values_at values numbers from width i) ++ (pick v 49 48 ∷ [])) o ∙ digits_next (λ k. value_of values (literal_at numbers from width k)) i)
      (wrote_both x y)
