-- Files line by line: what a written line of a header gives, and what a file that is read has in its lines. Assumes nothing.
use mathlib.Core.Path.{◌≡◌, refl, sym, ap, ◌∙◌}
use mathlib.Core.Bool.{Bool, true, false}
use mathlib.Core.List.{List, [], ◌∷◌, ◌++◌}
use Prim.Native.Nat.{ℕ, zero, suc, ◌+◌, ◌/◌, ◌%◌, ◌≤◌, ◌<◌}
use native.Mathlib.Omega.{arith}
use native.Mathlib.Decide.{dec_lt, ℕ_discrete}
use lib.Dec.{eqb}
use lib.ListN.{length, drop, length-append}
use borrow.Author.Tests.{eq-eqb, ne_eqb}
use Rattle.tables.specs.Choice.{pick}
use Rattle.tables.specs.declared.refusal.Reason.{Reason}
use Rattle.tables.specs.declared.refusal.Outcome.TheVariants.{Accepted}
use Rattle.text.specs.Line.{is_key, keyed_line}
use Rattle.text.specs.Number.{padded_of}
use Rattle.text.specs.Count.{count_form, counted_as}
use Rattle.text.specs.Result.{Parsed, Next, Result, on_parsed, on_line, map_result, outcome_of}
use Rattle.text.specs.Result.Parsed.{good, bad}
use Rattle.text.specs.Result.Result.{accepted, refused}
use Rattle.text.specs.Written.{decimal_in, decimal, written_line}
use Rattle.text.specs.declared.line.Counted.{Counted}
use Rattle.text.specs.declared.line.Counted.TheVariants.{Count, Wrong}
use Rattle.text.specs.declared.number.Number.TheVariants.{Is}
use Rattle.tables.proofs.Choices.{clash}
use Rattle.text.proofs.Searching.{same_refl, same_eq}
use Rattle.text.proofs.Numbers.{padded_written, padded_own}
use Rattle.text.proofs.Laws.{decimal_small, decimal_large}
use Rattle.text.proofs.Lines.{Free, free_append, padded_free, line_step, line_read}
use Rattle.text.proofs.Counts.{value_below, value_above, value_within, count_read}

-- ---- bytes that a text lacks

abbrev pub lacks : ℕ → List ℕ → Bool
lacks b [] = true
lacks b (x ∷ xs) = pick (eqb x b) false (lacks b xs)

-- of a text that is given, by computing
pub free : (b : ℕ) (s : List ℕ) → lacks b s ≡ true → Free b s
free b [] e = tt
free b (x ∷ xs) e = by (ℕ_discrete x b) (free b xs) e
  where
    by : Dec (x ≡ b) → (lacks b xs ≡ true → Free b xs) → pick (eqb x b) false (lacks b xs) ≡ true → Free b (x ∷ xs)
    by (yes q) ih t = clash (cc (rw (eq-eqb x b q) at t))
    by (no q) ih t = (q, ih (rw (ne_eqb x b q) at t))

-- ---- decimals, also of numbers that no file has

free_below_in : (b f n : ℕ) → b < 48 → Free b (decimal_in f n)
free_below_in b zero n h = unfold decimal_in in (λ q. omega arith, tt)
free_below_in b (suc f) n h = by (dec_lt n 10) (free_below_in b f (n / 10) h)
  where
    by : Dec (n < 10) → Free b (decimal_in f (n / 10)) → Free b (decimal_in (suc f) n)
    by (yes l) ih = rw (decimal_small (suc f) n l) (λ q. omega arith, tt)
    by (no g) ih =
        let l : 10 ≤ n = omega arith in
        rw (decimal_large f n l) (free_append b (decimal_in f (n / 10)) ((48 + n % 10) ∷ []) ih (λ q. omega arith, tt))

pub free_below : (b n : ℕ) → b < 48 → Free b (decimal n)
unfolding decimal
free_below b n h = free_below_in b 4 n h

snoc_inj : (xs ys : List ℕ) (a b : ℕ) → xs ++ (a ∷ []) ≡ ys ++ (b ∷ []) → (xs ≡ ys) × (a ≡ b)
snoc_inj [] [] a b e = (refl, cc)
snoc_inj [] (y ∷ ys) a b e = absurd (omega (arith, simp length-append at (ap length e)))
snoc_inj (x ∷ xs) [] a b e = absurd (omega (arith, simp length-append at (ap length e)))
snoc_inj (x ∷ xs) (y ∷ ys) a b e =
    let h : x ≡ y = cc in
    let t : xs ++ (a ∷ []) ≡ ys ++ (b ∷ []) = cc in
    let w = snoc_inj xs ys a b t in
    (rw (h, w.0), w.1)

-- one digit, or digits and a last one
data Digits (f n : ℕ) : Type 0 where
  one : n < 10 → decimal_in (suc f) n ≡ (48 + n) ∷ [] → Digits f n
  more : 10 ≤ n → decimal_in (suc f) n ≡ decimal_in f (n / 10) ++ ((48 + n % 10) ∷ []) → Digits f n

digits : (f n : ℕ) → Digits f n
digits f n = by (dec_lt n 10)
  where
    by : Dec (n < 10) → Digits f n
    by (yes l) = one l (decimal_small (suc f) n l)
    by (no g) = let l : 10 ≤ n = omega arith in more l (decimal_large f n l)

-- a word of two letters or more is no number
pub decimal_word : (n : ℕ) (s : List ℕ) (b : ℕ) → 1 ≤ length s → 57 < b → decimal n ≡ s ++ (b ∷ []) → ⊥
unfolding decimal
decimal_word n s b h o e = by (digits 3 n)
  where
    by : Digits 3 n → ⊥
    by (one l p) =
        let d : (48 + n) ∷ [] ≡ s ++ (b ∷ []) = cc in
        omega (arith, simp length-append at (ap length d))
    by (more l p) =
        let d : decimal_in 3 (n / 10) ++ ((48 + n % 10) ∷ []) ≡ s ++ (b ∷ []) = cc in
        omega (arith, (snoc_inj (decimal_in 3 (n / 10)) s (48 + n % 10) b d).1)

-- ---- what an accepted file says of each step

pub parsed_accepted : {A B : Type 0} (p : Parsed A) (line : ℕ) (go : A → Result B) (x : B)
    → on_parsed p (λ e. refused e line) go ≡ accepted x → (y : A) × (p ≡ good y) × (go y ≡ accepted x)
parsed_accepted (good y) line go x e = (y, refl, e)
parsed_accepted (bad r) line go x e = clash (cc)

pub map_accepted : {A B : Type 0} (f : A → B) (r : Result A) (x : B) → map_result f r ≡ accepted x → (y : A) × (r ≡ accepted y) × (f y ≡ x)
map_accepted f (accepted y) x e = (y, refl, cc)
map_accepted f (refused r n) x e = clash (cc)

pub test_accepted : {A : Type 0} (t : Bool) (e : Reason) (line : ℕ) (r : Result A) (x : A) → pick t (refused e line) r ≡ accepted x → r ≡ accepted x
test_accepted true e line r x q = clash (cc)
test_accepted false e line r x q = q

pub outcome_accepted : {A : Type 0} (file : ℕ) (r : Result A) → outcome_of file r ≡ Accepted → (x : A) × (r ≡ accepted x)
outcome_accepted file (accepted x) e = (x, refl)
outcome_accepted file (refused r n) e = clash (cc)

-- a line that is read, and how the reading goes on
pub record LineThen {A B : Type 0} (t : List ℕ → Bool) (form : List ℕ → Parsed A) (go : A → List ℕ → Result B) (file : List ℕ) (x : B) : Type 0 where
  pub value : A
  pub key : List ℕ
  pub text : List ℕ
  pub rest : List ℕ
  pub named : t key ≡ true
  pub stands : form text ≡ good value
  pub whole : file ≡ written_line key text rest
  pub goes : go value rest ≡ accepted x

pub line_then : {A B : Type 0} (t : List ℕ → Bool) (form : List ℕ → Parsed A) (line : ℕ) (go : A → List ℕ → Result B) (file : List ℕ) (x : B)
    → on_line line (keyed_line t form) file go ≡ accepted x → LineThen t form go file x
line_then t form line go file x e =
    let w = parsed_accepted (keyed_line t form file) line (λ y. go y.value (drop y.next file)) x e in
    let l = line_read t form file w.0 w.1 in
    record {
      value = w.0.value;
      key = l.key;
      text = l.text;
      rest = drop w.0.next file;
      named = l.named;
      stands = l.stands;
      whole = l.whole;
      goes = w.2;
    }

-- ---- the lines of counts

module _ (key : List ℕ) (low high : ℕ) (outside : Reason) {B : Type 0} (line : ℕ) (go : ℕ → List ℕ → Result B) where
  abbrev Read : List ℕ → Result B
  Read file = on_line line (keyed_line (is_key key) (count_form low high outside)) file go

  -- a count that is read, and how the reading goes on
  pub record CountThen (file : List ℕ) (x : B) : Type 0 where
    pub count : ℕ
    pub text : List ℕ
    pub rest : List ℕ
    pub least : low ≤ count
    pub most : count ≤ high
    pub number : padded_of text ≡ Is count
    pub whole : file ≡ written_line key text rest
    pub goes : go count rest ≡ accepted x

  pub count_then : (file : List ℕ) (x : B) → Read file ≡ accepted x → CountThen file x
  count_then file x e =
      let l = line_then (is_key key) (count_form low high outside) line go file x e in
      let c = count_read low high outside l.text l.value l.stands in
      let k : l.key ≡ key = same_eq l.key key l.named in
      record {
        count = l.value;
        text = l.text;
        rest = l.rest;
        least = c.least;
        most = c.most;
        number = c.number;
        whole = l.whole ∙ rw k;
        goes = l.goes;
      }

  module _ (feed : lacks 10 key ≡ true) (sign : lacks 61 key ≡ true) (n : ℕ) (rest : List ℕ) where
    written : Read (written_line key (decimal n) rest) ≡ on_parsed (count_form low high outside (decimal n)) (λ e. refused e line) (λ m. go m rest)
    written =
        line_step key (decimal n) rest (free 10 key feed) (free 61 key sign) (free_below 10 n (omega arith)) (is_key key) (count_form low high outside) line go (same_refl key)

    -- a count that is padded is read as one that is not
    pub count_padded : (v : List ℕ) → padded_of v ≡ Is n → low ≤ n → n ≤ high → Read (written_line key v rest) ≡ go n rest
    count_padded v e l u =
        line_step key v rest (free 10 key feed) (free 61 key sign) (padded_free 10 (omega arith) v n e) (is_key key) (count_form low high outside) line go (same_refl key)
        ∙ rw (value_within low high outside v e l u)

    pub count_in : low ≤ n → n ≤ high → n < 100000 → Read (written_line key (decimal n) rest) ≡ go n rest
    count_in l u h = count_padded (decimal n) (padded_written n h) l u

    pub count_below : n < low → n < 100000 → Read (written_line key (decimal n) rest) ≡ refused outside line
    count_below l h = written ∙ rw (value_below low high outside (decimal n) (padded_written n h) l)

    pub count_above : low ≤ n → high < n → n < 100000 → Read (written_line key (decimal n) rest) ≡ refused outside line
    count_above l u h = written ∙ rw (value_above low high outside (decimal n) (padded_written n h) l u)

    -- where the file is accepted, the count is in range, whatever it is
    pub count_range : (x : B) → Read (written_line key (decimal n) rest) ≡ accepted x → (low ≤ n) × (n ≤ high) × (go n rest ≡ accepted x)
    count_range x e =
        let w = parsed_accepted (count_form low high outside (decimal n)) line (λ m. go m rest) x (sym written ∙ e) in
        let c = count_read low high outside (decimal n) w.0 w.1 in
        let q : n ≡ w.0 = padded_own n w.0 c.number in
        rw q (c.least, c.most, w.2)

-- what a call ensures of a count's line, and what is known of its result
pub counted_is : {p : Parsed (Next ℕ)} {r : Counted} {n i : ℕ} → counted_as r ≡ p → r ≡ Count n i → p ≡ good (record { value = n; next = i })
counted_is e d = sym e ∙ ap counted_as d

pub counted_wrong : {p : Parsed (Next ℕ)} {r : Counted} {x : Reason} → counted_as r ≡ p → r ≡ Wrong x → p ≡ bad x
counted_wrong e d = sym e ∙ ap counted_as d
