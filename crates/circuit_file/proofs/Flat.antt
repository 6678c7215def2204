-- The numbers of all lines, one after the other, in an array. Its length is a variable here, since an array of so many places must not be
-- written out. Assumes nothing.
use mathlib.Core.Path.{◌≡◌, sym, ap, ◌∙◌}
use mathlib.Core.List.{List, [], ◌∷◌, ◌++◌, append_assoc, append-nil}
use Prim.Native.Nat.{ℕ, suc, ◌+◌, ◌-◌, ◌≤◌, ◌<◌}
use native.Mathlib.Nat.{add-zero}
use native.Mathlib.Omega.{arith}
use native.Mathlib.Decide.{dec_lt}
use lib.ListN.{length, get_or, take, set, replicate, length-append, length-take, get_or-append, get_or-eq_default}
use lib.Seq.{take_all, get_or-take, get_or-append-add}
use Rattle.tables.specs.Place.{placed}
use Rattle.tables.proofs.Places.{replicate_tabulate, set_tabulate}
use Rattle.circuit_file.specs.File.{flat}

-- a line more
pub flat_more : (xss : List (List ℕ)) (ys : List ℕ) → flat (xss ++ (ys ∷ [])) ≡ flat xss ++ ys
unfolding flat
flat_more [] ys = append-nil ys
flat_more (xs ∷ xss) ys = ap (λ zs. xs ++ zs) (flat_more xss ys) ∙ sym (append_assoc xs (flat xss) ys)

pub flat_length : (xss : List (List ℕ)) (ys : List ℕ) → length (flat (xss ++ (ys ∷ []))) ≡ length (flat xss) + length ys
flat_length xss ys = ap length (flat_more xss ys) ∙ length-append (flat xss) ys

-- no line
pub flat_none : (n : ℕ) → replicate n 0 ≡ placed n (λ x. x) 0 (flat [])
unfolding flat
flat_none n = replicate_tabulate n 0 0

-- ---- a list's elements are put behind others one by one; behind its end stands the default already

module _ {A : Type 0} (xs ys : List A) (d : A) (j : ℕ) where
  -- all places but the next are as they were
  take_other : (i : ℕ) → (i ≡ j → ⊥) → get_or (take (suc j) ys) i d ≡ get_or (take j ys) i d
  take_other i n = by (dec_lt i j)
    where
      by : Dec (i < j) → get_or (take (suc j) ys) i d ≡ get_or (take j ys) i d
      by (yes h) = get_or-take (suc j) ys i d (omega arith) ∙ sym (get_or-take j ys i d h)
      by (no h) =
          let l : length (take (suc j) ys) ≤ i = rw length-take (omega arith) in
          let m : length (take j ys) ≤ i = rw length-take (omega arith) in
          get_or-eq_default (take (suc j) ys) d l ∙ sym (get_or-eq_default (take j ys) d m)

  part_other : (i : ℕ) → (i ≡ length xs + j → ⊥) → get_or (xs ++ take (suc j) ys) i d ≡ get_or (xs ++ take j ys) i d
  part_other i n = by (dec_lt i (length xs))
    where
      by : Dec (i < length xs) → get_or (xs ++ take (suc j) ys) i d ≡ get_or (xs ++ take j ys) i d
      by (yes h) = get_or-append xs (take (suc j) ys) d i h ∙ sym (get_or-append xs (take j ys) d i h)
      by (no h) =
          let e : i ≡ length xs + (i - length xs) = omega arith in
          let o = take_other (i - length xs) (λ q. n (omega arith)) in
          ap (λ m. get_or (xs ++ take (suc j) ys) m d) e
          ∙ (get_or-append-add xs (take (suc j) ys) (i - length xs) d
          ∙ (o
          ∙ (sym (get_or-append-add xs (take j ys) (i - length xs) d)
          ∙ ap (λ m. get_or (xs ++ take j ys) m d) (sym e))))

  -- the next place is filled
  pub placed_part : {B : Type 0} (n : ℕ) (g : A → B) → length xs + j < n
      → set (placed n g d (xs ++ take j ys)) (length xs + j) (g (get_or ys j d)) ≡ placed n g d (xs ++ take (suc j) ys)
  placed_part n g h =
      let e : get_or (xs ++ take (suc j) ys) (length xs + j) d ≡ get_or ys j d = get_or-append-add xs (take (suc j) ys) j d ∙ get_or-take (suc j) ys j d (omega arith) in
      let s =
      set_tabulate n (λ i. g (get_or (xs ++ take j ys) i d)) (λ i. g (get_or (xs ++ take (suc j) ys) i d)) (length xs + j) (g d) h
      (λ i m. ap g (part_other i m)) in
      rw e at s

-- the numbers of a line, which are three at most, and 0 behind them
module _ (n : ℕ) (xs ys : List ℕ) (short : length ys ≤ 3) (h : length xs + 2 < n) where
  three_placed : set (set (set (placed n (λ x. x) 0 xs) (length xs) (get_or ys 0 0)) (length xs + 1) (get_or ys 1 0)) (length xs + 2) (get_or ys 2 0) ≡ placed n (λ x. x) 0 (xs ++ ys)
  three_placed =
      let p0 = rw (add-zero, append-nil) at (placed_part xs ys 0 0 n (λ x. x) (omega arith)) in
      let p1 = placed_part xs ys 0 1 n (λ x. x) (omega arith) in
      let p2 = rw (take_all 3 ys short) at (placed_part xs ys 0 2 n (λ x. x) h) in
      rw (p0, p1, p2)

  pub stores_more : {numbers : List ℕ} {used a b c : ℕ} → numbers ≡ placed n (λ x. x) 0 xs → used ≡ length xs
      → get_or ys 0 0 ≡ a → get_or ys 1 0 ≡ b → get_or ys 2 0 ≡ c
      → set (set (set numbers used a) (used + 1) b) (used + 2) c ≡ placed n (λ x. x) 0 (xs ++ ys)
  stores_more e u ea eb ec = rw (e, u, ← ea, ← eb, ← ec) three_placed
