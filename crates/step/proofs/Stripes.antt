-- Stripes of n digits behind one another in a buffer, however many they are, of which each turn of a loop writes one digit of each. Assumes
-- nothing.
use Prim.Native.Nat.{ℕ, ◌+◌, ◌≤◌, ◌<◌}
use mathlib.Core.Path.{◌≡◌, refl, sym, ◌∙◌}
use mathlib.Core.List.{List, [], ◌∷◌, ◌++◌}
use native.Mathlib.Decide.{ℕ_discrete}
use native.Mathlib.Omega.{arith}
use lib.ListN.{length, get_or, set, take, drop, length-set, length-drop, take-append-drop}
use lib.Seq.{get_or-set_same, get_or-set_other, drop-set-lt, get_or-take, get_or-drop, drop-drop, length-take-le}
use Rattle.tables.specs.Place.{tabulate}
use Rattle.tables.proofs.Places.{tabulate_ext, tabulate_get_d}

-- a part of a list by its elements, and what lies behind it
piece :
    (n : ℕ) (x : ℕ → ℕ) (m : List ℕ) (a : ℕ) → a + n ≤ length m → ((i : ℕ) → i < n → get_or m (a + i) 0 ≡ x i)
    → drop a m ≡ tabulate n x ++ drop (a + n) m
piece n x m a h at =
    let long : n ≤ length (drop a m) = simp length-drop (omega arith) in
    let whole : take n (drop a m) ≡ tabulate n x =
    sym (tabulate_get_d (take n (drop a m)) n 0 (length-take-le n (drop a m) long))
    ∙ tabulate_ext n (λ i. get_or (take n (drop a m)) i 0) x (λ i l. get_or-take n (drop a m) i 0 l ∙ (get_or-drop a m i 0 ∙ at i l))
    in
    sym (take-append-drop n (drop a m)) ∙ rw (whole, drop-drop n a m)

-- a stripe is its digits by number, and the first of some stripes starts in place a
module _ (n : ℕ) where
  -- where the stripes end
  abbrev pub behind : ℕ → List (ℕ → ℕ) → ℕ
  behind a [] = a
  behind a (x ∷ xs) = behind (a + n) xs

  -- the stripes in front of a rest
  abbrev pub stripes_then : List (ℕ → ℕ) → List ℕ → List ℕ
  stripes_then [] rest = rest
  stripes_then (x ∷ xs) rest = tabulate n x ++ stripes_then xs rest

  -- the buffer when digit k of each has been stored
  abbrev pub stored : ℕ → ℕ → List (ℕ → ℕ) → List ℕ → List ℕ
  stored k a [] m = m
  stored k a (x ∷ xs) m = stored k (a + n) xs (set m (a + k) (x k))

  -- the first k digits of each are in the buffer
  abbrev Begun : ℕ → ℕ → List (ℕ → ℕ) → List ℕ → Type 0
  Begun k a [] m = Unit {0}
  Begun k a (x ∷ xs) m = ((i : ℕ) → i < k → get_or m (a + i) 0 ≡ x i) × Begun k (a + n) xs m

  behind_far : (a : ℕ) (xs : List (ℕ → ℕ)) → a ≤ behind a xs
  behind_far a [] = omega arith
  behind_far a (x ∷ xs) = omega (arith, behind_far (a + n) xs)

  -- a store in front of the stripes
  begun_kept : (k a : ℕ) (xs : List (ℕ → ℕ)) (m : List ℕ) (j v : ℕ) → j < a → Begun k a xs m → Begun k a xs (set m j v)
  begun_kept k a [] m j v h b = tt
  begun_kept k a (x ∷ xs) m j v h b =
      (λ i l. get_or-set_other m j (a + i) v 0 (λ e. omega arith) ∙ b.0 i l, begun_kept k (a + n) xs m j v (omega arith) b.1)

  -- the stores of a turn: the size, what lies before and behind the stripes, and the stripes
  stored_size : (k a : ℕ) (xs : List (ℕ → ℕ)) (m : List ℕ) → length (stored k a xs m) ≡ length m
  stored_size k a [] m = refl
  stored_size k a (x ∷ xs) m = stored_size k (a + n) xs (set m (a + k) (x k)) ∙ length-set m (a + k) (x k)

  stored_before : (k a : ℕ) (xs : List (ℕ → ℕ)) (m : List ℕ) (j : ℕ) → j < a → get_or (stored k a xs m) j 0 ≡ get_or m j 0
  stored_before k a [] m j h = refl
  stored_before k a (x ∷ xs) m j h =
      stored_before k (a + n) xs (set m (a + k) (x k)) j (omega arith) ∙ get_or-set_other m (a + k) j (x k) 0 (λ e. omega arith)

  module _ {k : ℕ} (h : k < n) where
    stored_behind : (a : ℕ) (xs : List (ℕ → ℕ)) (m : List ℕ) → drop (behind a xs) (stored k a xs m) ≡ drop (behind a xs) m
    stored_behind a [] m = refl
    stored_behind a (x ∷ xs) m =
        stored_behind (a + n) xs (set m (a + k) (x k)) ∙ drop-set-lt (behind (a + n) xs) m (a + k) (x k) (omega (arith, behind_far (a + n) xs))

    begun_more : (a : ℕ) (xs : List (ℕ → ℕ)) (m : List ℕ) → behind a xs ≤ length m → Begun k a xs m → Begun (k + 1) a xs (stored k a xs m)
    begun_more a [] m fits b = tt
    begun_more a (x ∷ xs) m fits b =
        let s : List ℕ = set m (a + k) (x k) in
        let size : length s ≡ length m = length-set m (a + k) (x k) in (
          λ i l. stored_before k (a + n) xs s (a + i) (omega arith) ∙ at i l (ℕ_discrete i k),
          begun_more (a + n) xs s (omega (arith, size)) (begun_kept k (a + n) xs m (a + k) (x k) (omega arith) b.1),
        )
      where
        at : (i : ℕ) → i < k + 1 → Dec (i ≡ k) → get_or (set m (a + k) (x k)) (a + i) 0 ≡ x i
        at i l (yes e) = rw e (get_or-set_same m (a + k) (x k) 0 (omega (arith, behind_far (a + n) xs)))
        at i l (no e) = get_or-set_other m (a + k) (a + i) (x k) 0 (λ q. e (omega arith)) ∙ b.0 i (omega arith)

  begun_all :
      (k a : ℕ) (xs : List (ℕ → ℕ)) (m : List ℕ) → n ≤ k → behind a xs ≤ length m → Begun k a xs m
      → drop a m ≡ stripes_then xs (drop (behind a xs) m)
  begun_all k a [] m h fits b = refl
  begun_all k a (x ∷ xs) m h fits b =
      piece n x m a (omega (arith, behind_far (a + n) xs)) (λ i l. b.0 i (omega arith)) ∙ rw (begun_all k (a + n) xs m h fits b.1)

  -- ---- in a buffer whose bytes were b: the first k digits of each stripe are written, and nothing behind the stripes
  module _ (xs : List (ℕ → ℕ)) (b : List ℕ) where
    pub record StripesTo (k : ℕ) (m : List ℕ) : Type 0 where
      pub size : length m ≡ length b
      pub rest : drop (behind 0 xs) m ≡ drop (behind 0 xs) b
      pub begun : Begun k 0 xs m

    module _ (fits : behind 0 xs ≤ length b) {k : ℕ} {m : List ℕ} (inv : StripesTo k m) where
      pub stripes_more : k < n → StripesTo (k + 1) (stored k 0 xs m)
      stripes_more h =
          record {
            size = stored_size k 0 xs m ∙ inv.size;
            rest = stored_behind h 0 xs m ∙ inv.rest;
            begun = begun_more h 0 xs m (omega (arith, inv.size)) inv.begun;
          }

      pub stripes_end : n ≤ k → m ≡ stripes_then xs (drop (behind 0 xs) b)
      stripes_end h = begun_all k 0 xs m h (omega (arith, inv.size)) inv.begun ∙ rw inv.rest
