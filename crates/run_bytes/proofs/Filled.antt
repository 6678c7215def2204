-- Places filled one after the other. Assumes nothing.
use mathlib.Core.Path.{◌≡◌, sym, ap, ◌∙◌}
use mathlib.Core.List.{List}
use Prim.Native.Nat.{ℕ, suc, ◌+◌, ◌<◌}
use native.Mathlib.Omega.{arith}
use native.Mathlib.Decide.{dec_lt}
use lib.Dec.{ltb}
use lib.ListN.{length, get_or, set, replicate}
use borrow.Author.Tests.{lt-ltb, le-ltb}
use Rattle.tables.specs.Choice.{pick}
use Rattle.tables.specs.Place.{tabulate}
use Rattle.tables.proofs.Places.{tabulate_ext, tabulate_get_d, set_tabulate, replicate_tabulate}
use Rattle.run_bytes.specs.Bytes.{filled}

module _ {A : Type 0} (n : ℕ) (d : A) (f : ℕ → A) where
  at : ℕ → ℕ → A
  at m i = pick (ltb i m) (f i) d

  -- no place yet
  pub fill_start : replicate n d ≡ filled n d f 0
  unfolding filled
  fill_start = replicate_tabulate n 0 d ∙ tabulate_ext n (λ i. d) (λ i. pick (ltb i 0) (f i) d) (λ i h. rw (le-ltb i 0 (omega arith)))

  -- all places
  pub fill_end : filled n d f n ≡ tabulate n f
  unfolding filled
  fill_end = tabulate_ext n (λ i. pick (ltb i n) (f i) d) f (λ i h. rw (lt-ltb i n h))

  -- the next place
  pub fill_place : {bs : List A} {x : A} (m : ℕ) → bs ≡ filled n d f m → m < n → x ≡ f m → set bs m x ≡ filled n d f (m + 1)
  unfolding filled at
  fill_place {bs} {x} m e h q =
      let here : at (m + 1) m ≡ x = rw (lt-ltb m (m + 1) (omega arith)) (sym q) in
      let s : set (tabulate n (at m)) m (at (m + 1) m) ≡ tabulate n (at (m + 1)) = set_tabulate n (at m) (at (m + 1)) m d h other in
      rw e (ap (λ y. set (tabulate n (at m)) m y) (sym here) ∙ s)
    where
      other : (j : ℕ) → (j ≡ m → ⊥) → at (m + 1) j ≡ at m j
      other j ne = by (dec_lt j m)
        where
          by : Dec (j < m) → at (m + 1) j ≡ at m j
          by (yes l) = rw (lt-ltb j m l, lt-ltb j (m + 1) (omega arith))
          by (no l) = rw (le-ltb j m (omega arith), le-ltb j (m + 1) (omega arith))

  -- the next of a group that begins at m
  pub fill_next : {bs : List A} {x : A} (m j : ℕ) → bs ≡ filled n d f (m + j) → m + j < n → x ≡ f (m + j) → set bs (m + j) x ≡ filled n d f (m + suc j)
  fill_next m j e h q = fill_place (m + j) e h q ∙ ap (filled n d f) (omega arith)

-- all places of a list
pub fill_list : {A : Type 0} {n : ℕ} (d : A) (xs : List A) {m : ℕ} → m ≡ n → length xs ≡ n → filled n d (λ k. get_or xs k d) m ≡ xs
fill_list {n = n} d xs p l = ap (filled n d (λ k. get_or xs k d)) p ∙ (fill_end n d (λ k. get_or xs k d) ∙ tabulate_get_d xs n d l)
