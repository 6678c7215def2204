-- Lines and their written form: a written line is read, and only a written line is. Assumes nothing.
use mathlib.Core.Path.{◌≡◌, refl, sym, ap, ◌∙◌, subst}
use mathlib.Core.Bool.{Bool, true, false}
use mathlib.Core.List.{List, [], ◌∷◌, ◌++◌, append_assoc}
use Prim.Native.Nat.{ℕ, zero, suc, ◌+◌, ◌*◌, ◌-◌, ◌/◌, ◌%◌, ◌≤◌, ◌<◌, ◌^◌}
use native.Mathlib.Nat.{sub-zero, suc-sub-suc}
use native.Mathlib.Omega.{arith}
use native.Mathlib.Decide.{dec_lt, ℕ_discrete}
use lib.Dec.{ltb, eqb}
use lib.ListN.{length, get_or, take, drop, length-append, length-take}
use lib.Seq.{take-append_seam, drop-append-add, take-take, take-nil, drop-nil}
use borrow.Author.Tests.{ltb-false, eq-eqb, ne_eqb, eqb-true}
use Rattle.tables.specs.Choice.{pick}
use Rattle.tables.specs.declared.refusal.Reason.{Reason}
use Rattle.tables.specs.declared.refusal.Reason.TheVariants.{WrongForm}
use Rattle.text.specs.Search.{first_where, first_of, further, part}
use Rattle.text.specs.Number.{digits_from, digits_of, number_of, padded_of, on_number}
use Rattle.text.specs.Line.{cut_of, on_cut, is_numbered, keyed_line}
use Rattle.text.specs.Result.{Parsed, Next, Result, on_parsed, on_line}
use Rattle.text.specs.Result.Parsed.{good, bad}
use Rattle.text.specs.Result.Result.{refused}
use Rattle.text.specs.Written.{decimal_in, decimal, written_line}
use Rattle.text.specs.declared.line.Cut.{Cut}
use Rattle.text.specs.declared.line.Cut.TheVariants.{Line, Absent}
use Rattle.text.specs.declared.number.Number.{Number}
use Rattle.text.specs.declared.number.Number.TheVariants.{Is, Not}
use Rattle.text.specs.declared.search.Found.TheVariants.{At, Nothing}
use Rattle.tables.proofs.Choices.{clash, each_pick, pick_both}
use Rattle.text.proofs.Searching.{hit, each_found, further_inv}
use Rattle.text.proofs.Numbers.{number_written, number_read, number_padded, padded_digits, tenth}
use Rattle.text.proofs.Laws.{decimal_small, decimal_large}

-- ---- a byte that does not stand in a text

abbrev pub Free : ℕ → List ℕ → Type 0
Free b [] = Unit {0}
Free b (x ∷ xs) = (x ≡ b → ⊥) × Free b xs

pub free_append : (b : ℕ) (s t : List ℕ) → Free b s → Free b t → Free b (s ++ t)
free_append b [] t f g = g
free_append b (x ∷ xs) t f g = (f.0, free_append b xs t f.1 g)

pub first_at : (b : ℕ) (s t : List ℕ) → Free b s → first_of b (s ++ (b ∷ t)) ≡ At (length s)
unfolding first_where
first_at b [] t f = rw (eq-eqb b b refl)
first_at b (x ∷ xs) t f = rw (ne_eqb x b f.0, first_at b xs t f.1) (unfold further in refl)

pub first_free : (b : ℕ) (s : List ℕ) → Free b s → first_of b s ≡ Nothing
unfolding first_where
first_free b [] f = refl
first_free b (x ∷ xs) f = rw (ne_eqb x b f.0, first_free b xs f.1) (unfold further in refl)

-- the two parts of a list that is cut at its first b
pub cut_front : (b : ℕ) (s t : List ℕ) → take (length s) (s ++ (b ∷ t)) ≡ s
cut_front b s t = take-append_seam s (b ∷ t)

pub cut_behind : (b : ℕ) (s t : List ℕ) → drop (length s + 1) (s ++ (b ∷ t)) ≡ t
cut_behind b s t = drop-append-add s (b ∷ t) 1

-- and from where b was found to the list
cut_step : (b x : ℕ) (xs : List ℕ) (i : ℕ) → ((j : ℕ) → At j ≡ first_of b xs → xs ≡ take j xs ++ (b ∷ drop (j + 1) xs)) → Dec (x ≡ b)
    → At i ≡ pick (eqb x b) (At 0) (further (first_of b xs)) → x ∷ xs ≡ take i (x ∷ xs) ++ (b ∷ drop (i + 1) (x ∷ xs))
cut_step b x xs i ih (yes q) e =
    let z : i ≡ 0 = cc (rw (eq-eqb x b q) at e) in
    rw (z, q)
cut_step b x xs i ih (no q) e =
    let w = further_inv (first_of b xs) i (rw (ne_eqb x b q) at e) in
    let k : suc w.0 + 1 ≡ suc (w.0 + 1) = omega arith in
    rw (w.2, k) (ap (◌∷◌ x) (ih w.0 w.1))

pub cut_found : (b : ℕ) (s : List ℕ) (i : ℕ) → At i ≡ first_of b s → s ≡ take i s ++ (b ∷ drop (i + 1) s)
unfolding first_where
cut_found b [] i e = clash (cc)
cut_found b (x ∷ xs) i e = cut_step b x xs i (cut_found b xs) (ℕ_discrete x b) e

-- a byte that is no digit does not stand in a number
pub NoDigit : ℕ → Type 0
NoDigit b = (e : ℕ) → e < 10 → 48 + e ≡ b → ⊥

pub no_digit_below : (b : ℕ) → b < 48 → NoDigit b
unfolding NoDigit
no_digit_below b l e h q = omega arith

pub no_digit_above : (b : ℕ) → 57 < b → NoDigit b
unfolding NoDigit
no_digit_above b l e h q = omega arith

free_step : (b f n : ℕ) → NoDigit b → Free b (decimal_in f (n / 10)) → Dec (n < 10) → Free b (decimal_in (suc f) n)
unfolding NoDigit
free_step b f n o ih (yes l) = rw (decimal_small (suc f) n l) (o n l, tt)
free_step b f n o ih (no g) =
    let l : 10 ≤ n = omega arith in
    rw (decimal_large f n l) (free_append b (decimal_in f (n / 10)) ((48 + n % 10) ∷ []) ih (o (n % 10) (omega arith), tt))

free_in : (b f n : ℕ) → NoDigit b → n < 10 ^ suc f → Free b (decimal_in f n)
unfolding decimal_in NoDigit
free_in b zero n o h = (o n (omega arith), tt)
free_in b (suc f) n o h = free_step b f n o (free_in b f (n / 10) o (tenth f n h)) (dec_lt n 10)

pub free_decimal : (b n : ℕ) → NoDigit b → n < 100000 → Free b (decimal n)
unfolding decimal
free_decimal b n o h = free_in b 4 n o (omega arith)

-- nor a byte below the digits in what is read as one
module _ (b : ℕ) (low : b < 48) where
  from_free : (n : ℕ) (ds : List ℕ) (m : ℕ) → digits_from n ds ≡ Is m → Free b ds
  unfolding digits_from
  from_free n [] m e = tt
  from_free n (d ∷ ds) m e = by (from_free (n * 10 + (d - 48)) ds m) e
    where
      P : Number → Type 0
      P x = x ≡ Is m → Free b (d ∷ ds)

      by : (digits_from (n * 10 + (d - 48)) ds ≡ Is m → Free b ds) → P (pick (ltb d 48) Not (pick (ltb 57 d) Not (digits_from (n * 10 + (d - 48)) ds)))
      by ih = each_pick P (ltb d 48) (λ _ q. clash (cc)) (λ l. each_pick P (ltb 57 d) (λ _ q. clash (cc)) (λ _ q. (λ z. omega (arith, ltb-false d 48 l), ih q)))

  of_free : (s : List ℕ) (m : ℕ) → digits_of s ≡ Is m → Free b s
  unfolding digits_of
  of_free s m = each_pick (λ x. x ≡ Is m → Free b s) (ltb 5 (length s)) (λ _ q. clash (cc)) (λ _. from_free 0 s m)

  pub padded_free : (s : List ℕ) (m : ℕ) → padded_of s ≡ Is m → Free b s
  padded_free s m e = of_free s m (padded_digits s m e)

  pub number_free : (s : List ℕ) (m : ℕ) → number_of s ≡ Is m → Free b s
  number_free s m e = padded_free s m (number_padded s m e)

-- ---- the cut of a line

each_cut : {A : Type 0} (P : A → Type 0) (c : Cut) {a : A} {f : ℕ → ℕ → A} → P a → ((i j : ℕ) → c ≡ Line i j → P (f i j)) → P (on_cut c a f)
each_cut P (Line i j) p q = q i j refl
each_cut P Absent p q = p

-- by where its two bytes are found
module _ (rest : List ℕ) {end : ℕ} (f : first_of 10 rest ≡ At end) where
  pub cut_none : first_of 61 (take end rest) ≡ Nothing → cut_of rest ≡ Absent
  unfolding cut_of
  cut_none g = rw (f, g)

  pub cut_both : {equals : ℕ} → first_of 61 (take end rest) ≡ At equals → cut_of rest ≡ Line equals end
  unfolding cut_of
  cut_both g = rw (f, g)

-- where the two bytes of a line were found
pub record CutAt (rest : List ℕ) (equals end : ℕ) : Type 0 where
  pub feed : At end ≡ first_of 10 rest
  pub sign : At equals ≡ first_of 61 (take end rest)

pub cut_at : (rest : List ℕ) (equals end : ℕ) → cut_of rest ≡ Line equals end → CutAt rest equals end
unfolding cut_of
cut_at rest equals end =
    each_found P (first_of 10 rest) (λ q. clash (cc)) (λ e f. each_found P (first_of 61 (take e rest)) (λ q. clash (cc)) (λ i g q. same e i f g (cc) (cc)))
  where
    P : Cut → Type 0
    P c = c ≡ Line equals end → CutAt rest equals end

    same : (e i : ℕ) → At e ≡ first_of 10 rest → At i ≡ first_of 61 (take e rest) → e ≡ end → i ≡ equals → CutAt rest equals end
    same e i f g p q = record { feed = rw p at f; sign = rw (p, q) at g }

pub cut_within : {rest : List ℕ} {equals end : ℕ} → CutAt rest equals end → (equals < end) × (end < length rest)
cut_within {rest} {equals} {end} c =
    let a : end < length rest = (hit _ rest 0 end c.feed).below in
    let b : equals < length (take end rest) = (hit _ (take end rest) 0 equals c.sign).below in
    (omega (arith, length-take end rest), a)

-- the same, of what a call ensures and what is known of its result
pub cut_known : (rest : List ℕ) {r : Cut} {equals end : ℕ} → r ≡ cut_of rest → r ≡ Line equals end → (equals < end) × (end < length rest)
cut_known rest e d = cut_within (cut_at rest _ _ (sym e ∙ d))

pub drop_take : {A : Type 0} (a e : ℕ) (s : List A) → drop a (take e s) ≡ part a e s
drop_take zero e s = rw sub-zero
drop_take (suc a) zero s = rw (drop-nil, zero_sub)
  where
    zero_sub : 0 - suc a ≡ 0
    zero_sub = omega arith
drop_take (suc a) (suc e) [] = rw (drop-nil, take-nil)
drop_take (suc a) (suc e) (x ∷ xs) = rw suc-sub-suc (drop_take a e xs)

module _ (key value rest : List ℕ) where
  pub front : List ℕ
  front = key ++ (61 ∷ value)

  pub front_length : length front ≡ length key + 1 + length value
  unfolding front
  front_length = rw length-append (omega arith)

  by_front : written_line key value rest ≡ front ++ (10 ∷ rest)
  unfolding front
  by_front = sym (append_assoc key (61 ∷ value) (10 ∷ rest))

  module _ (k₁ : Free 10 key) (k₂ : Free 61 key) (v : Free 10 value) where
    pub cut_written : cut_of (written_line key value rest) ≡ Line (length key) (length front)
    unfolding cut_of front
    cut_written =
        let f : Free 10 (key ++ (61 ∷ value)) = free_append 10 key (61 ∷ value) k₁ (λ q. omega arith, v) in
        rw (by_front, first_at 10 (key ++ (61 ∷ value)) rest f, cut_front 10 (key ++ (61 ∷ value)) rest, first_at 61 key value k₂)

    key_written : take (length key) (written_line key value rest) ≡ key
    key_written = cut_front 61 key (value ++ (10 ∷ rest))

    value_written : part (length key + 1) (length front) (written_line key value rest) ≡ value
    value_written =
        let n : length front - (length key + 1) ≡ length value = omega (arith, front_length) in
        rw (n, cut_behind 61 key (value ++ (10 ∷ rest))) (take-append_seam value (10 ∷ rest))

    rest_written : drop (length front + 1) (written_line key value rest) ≡ rest
    rest_written = rw by_front (cut_behind 10 front rest)

    -- A WRITTEN LINE IS READ by what its value stands for, and the reading goes on behind it
    pub line_step : {A B : Type 0} (t : List ℕ → Bool) (form : List ℕ → Parsed A) (n : ℕ) (go : A → List ℕ → Result B) → t key ≡ true
        → on_line n (keyed_line t form) (written_line key value rest) go ≡ on_parsed (form value) (λ e. refused e n) (λ x. go x rest)
    unfolding keyed_line
    line_step {A} {B} t form n go e = rw (cut_written, key_written, e, value_written) (by (form value))
      where
        by : (p : Parsed A)
            → on_parsed (on_parsed {B = Parsed (Next A)} p bad (λ x. good (record { value = x; next = length front + 1 }))) (λ r. refused r n) (λ x. go x.value (drop x.next (written_line key value rest)))
            ≡ on_parsed p (λ r. refused r n) (λ x. go x rest)
        by (good x) = ap (go x) rest_written
        by (bad r) = refl

-- a line by its cut, its key and its value
module _ {A : Type 0} (t : List ℕ → Bool) (form : List ℕ → Parsed A) (rest : List ℕ) where
  pub keyed_absent : cut_of rest ≡ Absent → keyed_line t form rest ≡ bad WrongForm
  unfolding keyed_line
  keyed_absent c = rw c

  module _ {i j : ℕ} (c : cut_of rest ≡ Line i j) where
    pub keyed_other : t (take i rest) ≡ false → keyed_line t form rest ≡ bad WrongForm
    unfolding keyed_line
    keyed_other n = rw (c, n)

    module _ (n : t (take i rest) ≡ true) where
      pub keyed_bad : {e : Reason} → form (part (i + 1) j rest) ≡ bad e → keyed_line t form rest ≡ bad e
      unfolding keyed_line
      keyed_bad f = rw (c, n, f)

      pub keyed_good : {x : A} → form (part (i + 1) j rest) ≡ good x → keyed_line t form rest ≡ good (record { value = x; next = j + 1 })
      unfolding keyed_line
      keyed_good f = rw (c, n, f)

-- the next line begins within the bytes left
pub line_inside : {A : Type 0} (t : List ℕ → Bool) (form : List ℕ → Parsed A) (rest : List ℕ) (x : Next A) → keyed_line t form rest ≡ good x → x.next ≤ length rest
unfolding keyed_line
line_inside {A} t form rest x =
    each_cut P (cut_of rest) (λ q. clash (cc)) (λ i j c. each_pick P (t (take i rest)) (λ _. by (cut_within (cut_at rest i j c)).1 (form (part (i + 1) j rest))) (λ _ q. clash (cc)))
  where
    P : Parsed (Next A) → Type 0
    P p = p ≡ good x → x.next ≤ length rest

    by : {j : ℕ} → j < length rest → (p : Parsed A) → P (on_parsed p bad (λ y. good (record { value = y; next = j + 1 })))
    by {j} h (good y) q = let z : record { value = y; next = j + 1 } ≡ x = cc in subst (λ (w : Next A). w.next ≤ length rest) z (omega arith)
    by h (bad r) q = clash (cc)

-- a line that is read: its key and its value
pub record LineOf {A : Type 0} (t : List ℕ → Bool) (form : List ℕ → Parsed A) (rest : List ℕ) (x : Next A) : Type 0 where
  pub key : List ℕ
  pub text : List ℕ
  pub named : t key ≡ true
  pub stands : form text ≡ good x.value
  pub whole : rest ≡ written_line key text (drop x.next rest)

-- ONLY A WRITTEN LINE IS READ
pub line_read : {A : Type 0} (t : List ℕ → Bool) (form : List ℕ → Parsed A) (rest : List ℕ) (x : Next A) → keyed_line t form rest ≡ good x → LineOf t form rest x
unfolding keyed_line
line_read {A} t form rest x =
    each_cut P (cut_of rest) (λ q. clash (cc)) (λ i j c. each_pick P (t (take i rest)) (λ named. by (cut_at rest i j c) named (form (part (i + 1) j rest)) refl) (λ _ q. clash (cc)))
  where
    P : Parsed (Next A) → Type 0
    P p = p ≡ good x → LineOf t form rest x

    by : {i j : ℕ} → CutAt rest i j → t (take i rest) ≡ true → (p : Parsed A) → form (part (i + 1) j rest) ≡ p
        → P (on_parsed p bad (λ y. good (record { value = y; next = j + 1 })))
    by {i} {j} c named (good y) e q =
        let z : record { value = y; next = j + 1 } ≡ x = cc in
        let a : take i (take j rest) ≡ take i rest = take-take i j rest (let w = cut_within c in omega (arith, w.0)) in
        let b : drop (i + 1) (take j rest) ≡ part (i + 1) j rest = drop_take (i + 1) j rest in
        let f : take j rest ≡ take i rest ++ (61 ∷ part (i + 1) j rest) = cut_found 61 (take j rest) i c.sign ∙ rw (a, b) in
        let w : rest ≡ written_line (take i rest) (part (i + 1) j rest) (drop (j + 1) rest) =
        cut_found 10 rest j c.feed ∙ (ap (λ s. s ++ (10 ∷ drop (j + 1) rest)) f ∙ append_assoc (take i rest) (61 ∷ part (i + 1) j rest) (10 ∷ drop (j + 1) rest)) in
        subst (LineOf t form rest) z (record { key = take i rest; text = part (i + 1) j rest; named = named; stands = e; whole = w })
    by c named (bad r) e q = clash (cc)

-- ---- keys of a letter and a number

pub numbered_none : (l n : ℕ) (s : List ℕ) → length s ≡ 0 → false ≡ is_numbered l n s
unfolding is_numbered
numbered_none l n [] e = refl
numbered_none l n (x ∷ xs) e = absurd (omega arith)

pub numbered_some : (l n : ℕ) (s : List ℕ) → (length s ≡ 0 → ⊥) → is_numbered l n s ≡ pick (eqb (get_or s 0 0) l) (on_number (number_of (drop 1 s)) false λ m. eqb m n) false
unfolding is_numbered
numbered_some l n [] e = absurd (e refl)
numbered_some l n (x ∷ xs) e = refl

pub numbered_written : (l n : ℕ) → n < 100000 → is_numbered l n (l ∷ decimal n) ≡ true
unfolding is_numbered
numbered_written l n h = rw (eq-eqb l l refl, number_written n h, eq-eqb n n refl)

numbered_step : (l n x : ℕ) (xs : List ℕ) (f : Number) → f ≡ number_of xs → pick (eqb x l) (on_number f false λ m. eqb m n) false ≡ true → x ∷ xs ≡ l ∷ decimal n
numbered_step l n x xs (Is m) q e =
    let w = pick_both (eqb x l) (eqb m n) e in
    let a : x ≡ l = eqb-true x l w.0 in
    let b : m ≡ n = eqb-true m n w.1 in
    let d : xs ≡ decimal m = number_read xs m (sym q) in
    rw (a, d, b)
numbered_step l n x xs Number.Not q e = let w = pick_both (eqb x l) false e in clash (cc w.1)

pub numbered_read : (l n : ℕ) (s : List ℕ) → is_numbered l n s ≡ true → s ≡ l ∷ decimal n
unfolding is_numbered
numbered_read l n [] e = clash (cc)
numbered_read l n (x ∷ xs) e = numbered_step l n x xs (number_of xs) refl e
