-- Laws of lists by their places. Assumes nothing.
use mathlib.Core.Path.{◌≡◌, refl, sym, ap, ◌∙◌}
use mathlib.Core.List.{List, [], ◌∷◌, ◌++◌, map}
use Prim.Native.Nat.{ℕ, zero, suc, ◌+◌, ◌≤◌, ◌<◌}
use native.Mathlib.Nat.{add-zero, zero-add, lt_of_lt_of_le}
use native.Mathlib.Omega.{arith}
use native.Mathlib.Decide.{dec_lt, ℕ_discrete}
use lib.ListN.{length, get_or, take, set, replicate, length-set, length-append, length-map, get_or-append, get_or-eq_default, get_or-map}
use lib.Seq.{length-take-le, get_or-take, ext_get_or, get_or-set_same, get_or-set_other, get_or-append_seam}
use Rattle.tables.specs.Place.{tabulate_from, tabulate, placed}

pub length_tabulate : {A : Type 0} (n k : ℕ) (f : ℕ → A) → length (tabulate_from n k f) ≡ n
unfolding tabulate_from
length_tabulate zero k f = refl
length_tabulate (suc n) k f = ap suc (length_tabulate n (suc k) f)

tabulated : {A : Type 0} (n k : ℕ) (f : ℕ → A) (i : ℕ) (d : A) → i < n → get_or (tabulate_from n k f) i d ≡ f (k + i)
unfolding tabulate_from
tabulated zero k f i d h = absurd (omega arith)
tabulated (suc n) k f zero d h = rw add-zero
tabulated (suc n) k f (suc i) d h = tabulated n (suc k) f i d (omega arith) ∙ ap f (omega arith)

pub get_d_tabulate : {A : Type 0} (n : ℕ) (f : ℕ → A) (i : ℕ) (d : A) → i < n → get_or (tabulate n f) i d ≡ f i
get_d_tabulate n f i d h = tabulated n 0 f i d h ∙ rw zero-add

tabulated_ext : {A : Type 0} (n k : ℕ) (f g : ℕ → A) → ((i : ℕ) → k ≤ i → i < k + n → f i ≡ g i) → tabulate_from n k f ≡ tabulate_from n k g
unfolding tabulate_from
tabulated_ext zero k f g e = refl
tabulated_ext (suc n) k f g e = rw (e k (omega arith) (omega arith), tabulated_ext n (suc k) f g (λ i a b. e i (omega arith) (omega arith)))

pub tabulate_ext : {A : Type 0} (n : ℕ) (f g : ℕ → A) → ((i : ℕ) → i < n → f i ≡ g i) → tabulate n f ≡ tabulate n g
tabulate_ext n f g e = tabulated_ext n 0 f g (λ i a b. e i (omega arith))

pub replicate_tabulate : {A : Type 0} (n k : ℕ) (a : A) → replicate n a ≡ tabulate_from n k (λ i. a)
unfolding tabulate_from
replicate_tabulate zero k a = refl
replicate_tabulate (suc n) k a = ap (◌∷◌ a) (replicate_tabulate n (suc k) a)

-- a list by its elements at the places below its length
-- a list of one element holds it everywhere, and behind its end as the default
pub replicate_at : {A : Type 0} (n i : ℕ) (a : A) → get_or (replicate n a) i a ≡ a
replicate_at zero i a = refl
replicate_at (suc n) zero a = refl
replicate_at (suc n) (suc i) a = replicate_at n i a

pub tabulate_get_d : {A : Type 0} (xs : List A) (n : ℕ) (d : A) → length xs ≡ n → tabulate n (λ i. get_or xs i d) ≡ xs
tabulate_get_d xs n d e =
    ext_get_or d (tabulate n (λ i. get_or xs i d)) xs (length_tabulate n 0 (λ i. get_or xs i d) ∙ sym e)
    (λ i h. get_d_tabulate n (λ j. get_or xs j d) i d (rw length_tabulate at h))

-- one place is changed
pub set_tabulate : {A : Type 0} (n : ℕ) (f g : ℕ → A) (i : ℕ) (d : A) → i < n → ((j : ℕ) → (j ≡ i → ⊥) → g j ≡ f j) → set (tabulate n f) i (g i) ≡ tabulate n g
set_tabulate n f g i d h other =
    ext_get_or d (set (tabulate n f) i (g i)) (tabulate n g) (length-set (tabulate n f) i (g i) ∙ (length_tabulate n 0 f ∙ sym (length_tabulate n 0 g)))
    (λ j l. at j (rw (length-set, length_tabulate) at l) (ℕ_discrete j i))
  where
    long : i < length (tabulate n f)
    long = rw length_tabulate h

    at : (j : ℕ) → j < n → Dec (j ≡ i) → get_or (set (tabulate n f) i (g i)) j d ≡ get_or (tabulate n g) j d
    at j l (yes e) = rw (e, get_or-set_same (tabulate n f) i (g i) d long) (sym (get_d_tabulate n g i d h))
    at j l (no e) = get_or-set_other (tabulate n f) i j (g i) d e ∙ (get_d_tabulate n f j d l ∙ (sym (other j e) ∙ sym (get_d_tabulate n g j d l)))

-- the elements of a list with one more behind it
pub snoc_other : {A : Type 0} (xs : List A) (x d : A) (i : ℕ) → (i ≡ length xs → ⊥) → get_or (xs ++ (x ∷ [])) i d ≡ get_or xs i d
snoc_other xs x d i n = by (dec_lt i (length xs))
  where
    by : Dec (i < length xs) → get_or (xs ++ (x ∷ [])) i d ≡ get_or xs i d
    by (yes h) = get_or-append xs (x ∷ []) d i h
    by (no h) =
        let l : length (xs ++ (x ∷ [])) ≤ i = rw length-append (omega arith) in
        let m : length xs ≤ i = omega arith in
        get_or-eq_default (xs ++ (x ∷ [])) d l ∙ sym (get_or-eq_default xs d m)

-- the next place is filled
pub placed_more : {A B : Type 0} (n : ℕ) (g : A → B) (d : A) (xs : List A) (x : A) → length xs < n
    → set (placed n g d xs) (length xs) (g x) ≡ placed n g d (xs ++ (x ∷ []))
placed_more {A} n g d xs x h =
    let e : get_or (xs ++ (x ∷ [])) (length xs) d ≡ x = get_or-append_seam xs x [] d in
    let s = set_tabulate n (λ i. g (get_or xs i d)) (λ i. g (get_or (xs ++ (x ∷ [])) i d)) (length xs) (g d) h (λ j m. ap g (snoc_other xs x d j m)) in
    rw e at s

-- the first places
take_tabulated : {A : Type 0} (m n k : ℕ) (f : ℕ → A) → m ≤ n → take m (tabulate_from n k f) ≡ tabulate_from m k f
unfolding tabulate_from
take_tabulated zero n k f h = refl
take_tabulated (suc m) zero k f h = absurd (omega arith)
take_tabulated (suc m) (suc n) k f h = ap (◌∷◌ (f k)) (take_tabulated m n (suc k) f (omega arith))

pub take_tabulate : {A : Type 0} (m n : ℕ) (f : ℕ → A) → m ≤ n → take m (tabulate n f) ≡ tabulate m f
take_tabulate m n f h = take_tabulated m n 0 f h

-- a function of each place
map_tabulated : {A B : Type 0} (g : A → B) (n k : ℕ) (f : ℕ → A) → map g (tabulate_from n k f) ≡ tabulate_from n k (λ i. g (f i))
unfolding tabulate_from
map_tabulated g zero k f = refl
map_tabulated g (suc n) k f = ap (◌∷◌ (g (f k))) (map_tabulated g n (suc k) f)

pub map_tabulate : {A B : Type 0} (g : A → B) (n : ℕ) (f : ℕ → A) → map g (tabulate n f) ≡ tabulate n (λ i. g (f i))
map_tabulate g n f = map_tabulated g n 0 f

-- the places that are filled
pub take_placed : {A B : Type 0} (n : ℕ) (g : A → B) (d : A) (xs : List A) → length xs ≤ n → take (length xs) (placed n g d xs) ≡ map g xs
take_placed n g d xs h =
    let l : length (take (length xs) (placed n g d xs)) ≡ length xs = length-take-le (length xs) (placed n g d xs) (rw length_tabulate h) in
    ext_get_or (g d) (take (length xs) (placed n g d xs)) (map g xs) (l ∙ sym (length-map xs g))
    (λ i m. get_or-take (length xs) (placed n g d xs) i (g d) (rw l at m) ∙ (get_d_tabulate n (λ j. g (get_or xs j d)) i (g d) (lt_of_lt_of_le (rw l at m) h) ∙ sym (get_or-map g xs i d)))
