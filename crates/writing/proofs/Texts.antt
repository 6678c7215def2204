-- Laws of texts put one behind the other into a buffer. Assumes nothing.
use Prim.Native.Nat.{ℕ, zero, suc, ◌+◌, ◌-◌, ◌/◌, ◌%◌, ◌≤◌, ◌<◌}
use mathlib.Core.Path.{◌≡◌, refl, sym, ap, ap₂, subst, ◌∙◌}
use mathlib.Core.List.{List, [], ◌∷◌, ◌++◌, map, append_assoc, append-nil}
use native.Mathlib.Numerals.{add-one}
use native.Mathlib.Decide.{dec_lt}
use native.Mathlib.Omega.{arith}
use lib.ListN.{length, get_or, set, take, drop, length-append, length-set, length-take, take-append-drop, length-map, get_or-map}
use lib.Seq.{paste, paste-suc, length-paste, take-paste, drop-paste, take_all, take-suc, drop-drop, drop-set-lt, take-suc-set, length-take-le, get_or-take}
use borrow.Author.Tests.{lt-ltb, le-ltb, le-leb, lt-leb}
use Rattle.text.proofs.Laws.{decimal_large, line_length}
use Rattle.text.specs.Written.{decimal_in, decimal, written_line, written_body}
use Rattle.writing.specs.Lent.{Wrote, overlaid}

-- lists that agree from e on agree from any later place on
further : (m b : List ℕ) (e f : ℕ) → e ≤ f → drop e m ≡ drop e b → drop f m ≡ drop f b
further m b e f h q = let z : f ≡ e + (f - e) = omega arith in ap (λ n. drop n m) z ∙ sym (drop-drop (f - e) e m) ∙ ap (drop (f - e)) q ∙ drop-drop (f - e) e b ∙ ap (λ n. drop n b) (sym z)

-- two texts put one behind the other are one
pub wrote_both : {b m a t u : List ℕ} {at e f : ℕ} → Wrote b at t m e → Wrote m e u a f → Wrote b at (t ++ u) a f
wrote_both {b} {m} {a} {t} {u} {at} {e} {f} x y = record {
  next = let p = x.next in let q = y.next in omega (arith, length-append t u);
  front = y.front ∙ ap (λ l. l ++ u) x.front ∙ append_assoc (take at b) t u;
  rest = y.rest ∙ further m b e f (let q = y.next in omega arith) x.rest;
  size = y.size ∙ x.size;
}

pub wrote_is : {b a t u : List ℕ} {at e : ℕ} → t ≡ u → Wrote b at t a e → Wrote b at u a e
wrote_is {b} {a} {t} {u} {at} {e} q x = subst (λ t. Wrote b at t a e) q x

pub wrote_byte : (b : List ℕ) (at v : ℕ) → at < length b → Wrote b at (v ∷ []) (set b at v) (at + 1)
wrote_byte b at v h = record { next = refl; front = ap (λ n. take n (set b at v)) (add-one at) ∙ take-suc-set b at v h; rest = ap (λ n. drop n (set b at v)) (add-one at) ∙ drop-set-lt (suc at) b at v (omega arith) ∙ ap (λ n. drop n b) (sym (add-one at)); size = length-set b at v }

-- ---- the loop that copies
module _ (b : List ℕ) (at : ℕ) (s : List ℕ) (fits : at + length s ≤ length b) where
  pub paste_more : (i : ℕ) (m : List ℕ) → m ≡ paste b at s i → i < length s → set m (at + i) (get_or s i 0) ≡ paste b at s (i + 1)
  paste_more i m e h = ap (λ l. set l (at + i) (get_or s i 0)) e ∙ paste-suc b at s i 0 (omega arith) h ∙ ap (paste b at s) (sym (add-one i))

  pub paste_end : (i : ℕ) (m : List ℕ) → m ≡ paste b at s i → i ≡ length s → Wrote b at s m (at + i)
  paste_end i m e q = record {
    next = ap (λ n. at + n) q;
    front = ap (take (at + i)) e ∙ take-paste b at s i (omega arith) (omega arith) ∙ ap (λ l. take at b ++ l) (take_all i s (omega arith));
    rest = ap (drop (at + i)) e ∙ drop-paste b at s i (omega arith) (omega arith);
    size = ap length e ∙ length-paste b at s i (omega arith) (omega arith);
  }

-- ---- decimals of one byte
module _ (n : ℕ) where
  pub decimal_one : n < 10 → (48 + n) ∷ [] ≡ decimal n
  unfolding decimal decimal_in
  decimal_one h = sym (rw (lt-ltb n 10 h))

  pub decimal_two : 10 ≤ n → n / 10 < 10 → (48 + n / 10) ∷ (48 + n % 10) ∷ [] ≡ decimal n
  unfolding decimal decimal_in
  decimal_two g h = sym (rw (le-ltb n 10 g, lt-ltb (n / 10) 10 h))

  pub decimal_three : 10 ≤ n → 10 ≤ n / 10 → n / 10 / 10 < 10 → (48 + n / 10 / 10) ∷ (48 + n / 10 % 10) ∷ (48 + n % 10) ∷ [] ≡ decimal n
  unfolding decimal decimal_in
  decimal_three g h k = sym (rw (le-ltb n 10 g, le-ltb (n / 10) 10 h, lt-ltb (n / 10 / 10) 10 k))

-- more digits than three change nothing for a number that has three
decimal_three_most : (n : ℕ) → n < 1000 → decimal_in 4 n ≡ decimal_in 2 n
unfolding decimal_in
decimal_three_most n h = by (dec_lt n 10) (dec_lt (n / 10) 10)
  where
    by : Dec (n < 10) → Dec (n / 10 < 10) → decimal_in 4 n ≡ decimal_in 2 n
    by (yes a) d = rw (lt-ltb n 10 a)
    by (no a) (yes b) = let l : 10 ≤ n = omega arith in rw (le-ltb n 10 l, lt-ltb (n / 10) 10 b)
    by (no a) (no b) =
        let l : 10 ≤ n = omega arith in
        let m : 10 ≤ n / 10 = omega arith in
        let k : n / 10 / 10 < 10 = omega arith in
        rw (le-ltb n 10 l, le-ltb (n / 10) 10 m, lt-ltb (n / 10 / 10) 10 k)

-- a number of four or five digits, by its hundreds
pub decimal_more : (n : ℕ) → 1000 ≤ n → n < 100000 → decimal (n / 100) ++ ((48 + n / 10 % 10) ∷ (48 + n % 10) ∷ []) ≡ decimal n
unfolding decimal
decimal_more n g h =
    let e : n / 10 / 10 ≡ n / 100 = omega arith in
    sym (decimal_large 3 n (omega arith) ∙ rw (decimal_large 2 (n / 10) (omega arith), e, append_assoc, decimal_three_most (n / 100) (omega arith)))

pub decimal_more_length : (n : ℕ) → 1000 ≤ n → n < 100000 → length (decimal (n / 100)) + 2 ≡ length (decimal n)
decimal_more_length n g h = sym (length-append (decimal (n / 100)) ((48 + n / 10 % 10) ∷ (48 + n % 10) ∷ [])) ∙ ap length (decimal_more n g h)

-- a number has a digit
pub decimal_some : (n : ℕ) → 1 ≤ length (decimal n)
unfolding decimal decimal_in
decimal_some n = by (dec_lt n 10)
  where
    by : Dec (n < 10) → 1 ≤ length (decimal n)
    by (yes a) = rw (lt-ltb n 10 a) (omega arith)
    by (no a) = let l : 10 ≤ n = omega arith in rw (le-ltb n 10 l, length-append) (omega arith)

-- ---- a text put at the start of a lent buffer
pub overlaid_all : (t b a : List ℕ) (e : ℕ) → length t ≤ length b → Wrote b 0 t a e → a ≡ overlaid t b
unfolding overlaid
overlaid_all t b a e h w = let z : e ≡ length t = w.next ∙ (let y : 0 + length t ≡ length t = omega arith in y) in
    sym (take-append-drop e a) ∙ ap₂ (λ x y. x ++ y) w.front (w.rest ∙ ap (λ n. drop n b) z) ∙ sym (rw (le-leb (length t) (length b) h))

pub overlaid_none : (t b : List ℕ) → length b < length t → b ≡ overlaid t b
unfolding overlaid
overlaid_none t b h = sym (rw (lt-leb (length t) (length b) h))

pub wrote_none : (b : List ℕ) (at : ℕ) → Wrote b at [] b at
wrote_none b at = record { next = let z : at ≡ at + 0 = omega arith in z; front = sym (append-nil (take at b)); rest = refl; size = refl }

-- a text put at the start lies within the buffer, and is the buffer's beginning
pub wrote_within : (b t a : List ℕ) (e : ℕ) → Wrote b 0 t a e → e ≤ length a
wrote_within b t a e w = let q = sym (length-take e a) ∙ ap length w.front in let n = w.next in omega arith

pub wrote_start : (b t a : List ℕ) (e : ℕ) → Wrote b 0 t a e → take e a ≡ t
wrote_start b t a e w = w.front

-- ---- the lines of a body, one more at a time
line_front : (key value rest : List ℕ) → written_line key value rest ≡ written_line key value [] ++ rest
line_front key value rest =
    sym (append_assoc key (61 ∷ (value ++ (10 ∷ []))) rest ∙ ap (λ l. key ++ (61 ∷ l)) (append_assoc value (10 ∷ []) rest))

-- a line, and what was put behind it
pub wrote_line : {b m a : List ℕ} {at e f : ℕ} (key value : List ℕ) {rest : List ℕ} → Wrote b at (written_line key value []) m e → Wrote m e rest a f → Wrote b at (written_line key value rest) a f
wrote_line key value {rest} x y = wrote_is (sym (line_front key value rest)) (wrote_both x y)

module _ {A : Type 0} (letter : ℕ) (text : A → List ℕ) where
  body_more : (xs : List A) (x : A) (k : ℕ) → written_body letter text k (xs ++ (x ∷ [])) ≡ written_body letter text k xs ++ written_line (letter ∷ decimal (k + length xs)) (text x) []
  unfolding written_body
  body_more [] x k = let e : k + 0 ≡ k = omega arith in rw e
  body_more (y ∷ ys) x k =
      let e : k + suc (length ys) ≡ k + 1 + length ys = omega arith in
      let l : List ℕ = letter ∷ decimal k in
      let m : List ℕ = written_line (letter ∷ decimal (k + 1 + length ys)) (text x) [] in
      rw (e, body_more ys x (k + 1)) (line_front l (text y) (written_body letter text (k + 1) ys ++ m) ∙ (sym (append_assoc (written_line l (text y) []) (written_body letter text (k + 1) ys) m) ∙ ap (λ s. s ++ m) (sym (line_front l (text y) (written_body letter text (k + 1) ys)))))

  -- the next line behind the first k
  pub body_from : (start : ℕ) (xs : List A) (k : ℕ) (d : A) → k < length xs
      → written_body letter text start (take k xs) ++ written_line (letter ∷ decimal (start + k)) (text (get_or xs k d)) [] ≡ written_body letter text start (take (k + 1) xs)
  body_from start xs k d h =
      let e : length (take k xs) ≡ k = length-take-le k xs (omega arith) in
      let q : take (k + 1) xs ≡ take k xs ++ (get_or xs k d ∷ []) = ap (λ n. take n xs) (add-one k) ∙ take-suc xs k d h in
      sym (rw (q, body_more (take k xs) (get_or xs k d) start, e))

  pub body_next : (xs : List A) (k : ℕ) (d : A) → k < length xs
      → written_body letter text 1 (take k xs) ++ written_line (letter ∷ decimal (k + 1)) (text (get_or xs k d)) [] ≡ written_body letter text 1 (take (k + 1) xs)
  body_next xs k d h = let e : 1 + k ≡ k + 1 = omega arith in rw e at (body_from 1 xs k d h)

  -- the lines of the first k are no longer than all
  pub body_prefix : (k start : ℕ) (xs : List A) → length (written_body letter text start (take k xs)) ≤ length (written_body letter text start xs)
  unfolding written_body
  body_prefix zero start xs = omega arith
  body_prefix (suc k) start [] = omega arith
  body_prefix (suc k) start (x ∷ xs) =
      let a = body_prefix k (start + 1) xs in
      let l : List ℕ = letter ∷ decimal start in
      omega (arith, line_length l (text x) (written_body letter text (start + 1) (take k xs)), line_length l (text x) (written_body letter text (start + 1) xs))

-- the lines of a table's used places, of which f says what they hold
module _ {A B : Type 0} (f : A → B) (n : ℕ) (places : List A) (room : n ≤ length places) where
  used_length : length (map f (take n places)) ≡ n
  used_length = length-map (take n places) f ∙ length-take-le n places room

  -- those of the first k + 1
  pub places_next : (letter : ℕ) (text : B → List ℕ) (k : ℕ) (d : A) → k < n
      → written_body letter text 1 (take k (map f (take n places))) ++ written_line (letter ∷ decimal (k + 1)) (text (f (get_or places k d))) [] ≡ written_body letter text 1 (take (k + 1) (map f (take n places)))
  places_next letter text k d l =
      let h : k < length (map f (take n places)) = rw used_length l in
      let b = body_next letter text (map f (take n places)) k (f d) h in
      rw (get_or-map f (take n places) k d, get_or-take n places k d l) at b

  pub places_all : (k : ℕ) → n ≤ k → take k (map f (take n places)) ≡ map f (take n places)
  places_all k l = take_all k (map f (take n places)) (rw used_length l)
