-- A line of so many digits: cut at its first equals sign and by its count, it is the line that the definition cuts at its line feed.
-- Assumes nothing.
use mathlib.Core.Path.{◌≡◌, refl, sym, ap, ap₂, ◌∙◌, subst}
use mathlib.Core.Bool.{Bool, true, false}
use mathlib.Core.List.{List, [], ◌∷◌, ◌++◌}
use Prim.Native.Nat.{ℕ, zero, suc, ◌+◌, ◌-◌, ◌≤◌, ◌<◌}
use native.Mathlib.Numerals.{add-one}
use native.Mathlib.Omega.{arith}
use native.Mathlib.Decide.{ℕ_discrete}
use lib.Dec.{eqb}
use lib.ListN.{length, get_or, take, drop, take-append-drop}
use lib.Seq.{take-nil, drop-cons, drop-drop, length-take-le}
use borrow.Author.Tests.{eqb-true, eq-eqb, ne_eqb}
use Rattle.tables.specs.Choice.{pick}
use Rattle.tables.specs.declared.refusal.Reason.TheVariants.{WrongForm}
use Rattle.text.specs.Search.{first_where, first_of, further, part}
use Rattle.text.specs.Number.{number_of}
use Rattle.text.specs.Line.{cut_of, is_numbered, keyed_line}
use Rattle.text.specs.Digits.{are_digits, digits_in, digits_form}
use Rattle.text.specs.Result.{Parsed, Next}
use Rattle.text.specs.Result.Parsed.{good, bad}
use Rattle.text.specs.Written.{written_line}
use Rattle.text.specs.declared.line.Cut.{Cut}
use Rattle.text.specs.declared.line.Cut.TheVariants.{Line, Absent}
use Rattle.text.specs.declared.search.Found.{Found}
use Rattle.text.specs.declared.search.Found.TheVariants.{At, Nothing}
use Rattle.tables.proofs.Choices.{clash, pick_both}
use Rattle.text.proofs.Searching.{hit, further_inv}
use Rattle.text.proofs.Numbers.{each_number}
use Rattle.text.proofs.Lines.{Free, number_free, cut_found, cut_at, cut_within, cut_written, front, front_length, keyed_absent, keyed_other, keyed_bad, keyed_good}
use Rattle.text.proofs.DigitLines.{part_length, form_length, form_other, form_digits, text_of_digits, digits_free}

-- ---- the first of its kind

-- what stands before the first b is free of it
front_free : (b : ℕ) (s : List ℕ) (i : ℕ) → At i ≡ first_of b s → Free b (take i s)
unfolding first_where
front_free b [] i e = clash (cc)
front_free b (x ∷ xs) i e = by (ℕ_discrete x b) (front_free b xs) e
  where
    by : Dec (x ≡ b) → ((j : ℕ) → At j ≡ first_of b xs → Free b (take j xs)) → At i ≡ pick (eqb x b) (At 0) (further (first_of b xs)) → Free b (take i (x ∷ xs))
    by (yes q) ih e = let z : i ≡ 0 = cc (rw (eq-eqb x b q) at e) in rw z tt
    by (no q) ih e = let w = further_inv (first_of b xs) i (rw (ne_eqb x b q) at e) in rw w.2 (q, ih w.0 w.1)

one_further : (k : ℕ) (f : Found) → At k ≡ f → At (suc k) ≡ further f
unfolding further
one_further k f e = ap further e

-- the first b of a front is that of the whole
first_take : (b : ℕ) (s : List ℕ) (j i : ℕ) → At i ≡ first_of b (take j s) → At i ≡ first_of b s
unfolding first_where
first_take b [] j i e = rw take-nil at e
first_take b (x ∷ xs) zero i e = clash (cc)
first_take b (x ∷ xs) (suc j) i e = by (ℕ_discrete x b) (first_take b xs j) e
  where
    by : Dec (x ≡ b) → ((k : ℕ) → At k ≡ first_of b (take j xs) → At k ≡ first_of b xs) → At i ≡ pick (eqb x b) (At 0) (further (first_of b (take j xs)))
        → At i ≡ pick (eqb x b) (At 0) (further (first_of b xs))
    by (yes q) ih e = rw (eq-eqb x b q) (rw (eq-eqb x b q) at e)
    by (no q) ih e =
        let w = further_inv (first_of b (take j xs)) i (rw (ne_eqb x b q) at e) in
        rw (ne_eqb x b q) (ap At w.2 ∙ one_further w.0 (first_of b xs) (ih w.0 w.1))

-- ---- a byte below the digits stands in no key that is a letter and a number
module _ (b : ℕ) (low : b < 48) where
  numbered_free : (l n : ℕ) (s : List ℕ) → (l ≡ b → ⊥) → is_numbered l n s ≡ true → Free b s
  unfolding is_numbered
  numbered_free l n [] d e = clash (cc)
  numbered_free l n (x ∷ xs) d e =
      let w = pick_both (eqb x l) _ e in
      (λ q. d (sym (eqb-true x l w.0) ∙ q), each_number (λ t. t ≡ true → Free b xs) (number_of xs) (λ q. clash (cc)) (λ m f _. number_free b low xs m (sym f)) w.1)

-- ---- the line
module _ (letter number count : ℕ) (rest : List ℕ) where
  abbrev Keyed : Parsed (Next (List Bool))
  Keyed = keyed_line (is_numbered letter number) (digits_form count) rest

  -- where there is no line, it is wrong
  by_cut : ((i j : ℕ) → cut_of rest ≡ Line i j → Keyed ≡ bad WrongForm) → Keyed ≡ bad WrongForm
  by_cut h = by (cut_of rest) refl
    where
      by : (c : Cut) → cut_of rest ≡ c → Keyed ≡ bad WrongForm
      by (Line i j) e = h i j e
      by Absent e = keyed_absent (is_numbered letter number) (digits_form count) rest e

  pub no_sign : Nothing ≡ first_of 61 rest → Keyed ≡ bad WrongForm
  no_sign n = by_cut (λ i j c. let f = first_take 61 rest j i (cut_at rest i j c).sign in clash (cc))

  module _ {equals : ℕ} (f : At equals ≡ first_of 61 rest) where
    -- the equals sign of a line is the first one
    the_sign : {i j : ℕ} → cut_of rest ≡ Line i j → i ≡ equals
    the_sign {i} {j} c = let g = first_take 61 rest j i (cut_at rest i j c).sign in cc

    pub other_key : is_numbered letter number (take equals rest) ≡ false → Keyed ≡ bad WrongForm
    other_key n = by_cut (λ i j c. keyed_other (is_numbered letter number) (digits_form count) rest c (rw (the_sign c) n))

    module _ (k : is_numbered letter number (take equals rest) ≡ true) where
      -- it is enough to look at a line whose line feed stands where it has to
      wrong_value : (equals + 1 + count < length rest → get_or rest (equals + 1 + count) 0 ≡ 10 → are_digits (part (equals + 1) (equals + 1 + count) rest) ≡ false)
          → Keyed ≡ bad WrongForm
      wrong_value h = by_cut (λ i j c. keyed_bad (is_numbered letter number) (digits_form count) rest c (rw (the_sign c) k) (by c (ℕ_discrete (length (part (i + 1) j rest)) count)))
        where
          by : {i j : ℕ} → cut_of rest ≡ Line i j → Dec (length (part (i + 1) j rest) ≡ count) → digits_form count (part (i + 1) j rest) ≡ bad WrongForm
          by {i} {j} c (no n) = form_length count (part (i + 1) j rest) n
          by {i} {j} c (yes e) =
              let w = cut_within (cut_at rest i j c) in
              let g = hit (λ x. eqb x 10) rest 0 j (cut_at rest i j c).feed in
              let s : i ≡ equals = the_sign c in
              let l : length (part (i + 1) j rest) ≡ j - (i + 1) = part_length (i + 1) j rest (omega (arith, w.1)) in
              let d : equals + 1 + count ≡ j = omega (arith, w.0) in
              form_other count (part (i + 1) j rest) e (rw (s, ← d) (h (rw d g.below) (rw d (eqb-true (get_or rest j 0) 10 g.passes))))

      pub too_short_lem : length rest - (equals + 1) ≤ count → Keyed ≡ bad WrongForm
      too_short_lem l = wrong_value (λ a b. absurd (omega arith))

      pub no_feed : (get_or rest (equals + 1 + count) 0 ≡ 10 → ⊥) → Keyed ≡ bad WrongForm
      no_feed n = wrong_value (λ a b. absurd (n b))

      pub no_digits : are_digits (part (equals + 1) (equals + 1 + count) rest) ≡ false → Keyed ≡ bad WrongForm
      no_digits n = wrong_value (λ a b. n)

      module _ (h : (letter ≡ 10 → ⊥)) (l : equals + 1 + count < length rest) (e : get_or rest (equals + 1 + count) 0 ≡ 10) (d : are_digits (part (equals + 1) (equals + 1 + count) rest) ≡ true) where
        key : List ℕ
        key = take equals rest

        value : List ℕ
        value = part (equals + 1) (equals + 1 + count) rest

        behind : List ℕ
        behind = drop (equals + 1 + count + 1) rest

        tail : drop (equals + 1) rest ≡ value ++ (10 ∷ behind)
        unfolding value behind
        tail =
            let m : equals + 1 + (equals + 1 + count - (equals + 1)) ≡ equals + 1 + count = omega arith in
            let t : drop (equals + 1 + count) rest ≡ 10 ∷ drop (equals + 1 + count + 1) rest = drop-cons rest (equals + 1 + count) 0 l ∙ rw (e, ← add-one (equals + 1 + count)) in
            sym (take-append-drop (equals + 1 + count - (equals + 1)) (drop (equals + 1) rest))
            ∙ ap (λ s. part (equals + 1) (equals + 1 + count) rest ++ s) (drop-drop (equals + 1 + count - (equals + 1)) (equals + 1) rest ∙ (ap (λ n. drop n rest) m ∙ t))

        written : rest ≡ written_line key value behind
        unfolding key
        written = cut_found 61 rest equals f ∙ ap (λ s. take equals rest ++ (61 ∷ s)) tail

        cut : cut_of rest ≡ Line equals (equals + 1 + count)
        unfolding key value
        cut =
            let u : equals < length rest = (hit (λ x. eqb x 61) rest 0 equals f).below in
            let a : length (take equals rest) ≡ equals = length-take-le equals rest (omega arith) in
            let b : length (part (equals + 1) (equals + 1 + count) rest) ≡ count = part_length (equals + 1) (equals + 1 + count) rest (omega arith) ∙ omega arith in
            let g : length (front key value behind) ≡ equals + 1 + count = front_length key value behind ∙ rw (a, b) in
            let v : Free 10 value = subst (Free 10) (sym (text_of_digits value d)) (digits_free (digits_in value)) in
            ap cut_of written ∙ (cut_written key value behind (numbered_free 10 (omega arith) letter number key h k) (front_free 61 rest equals f) v ∙ ap₂ Line a g)

        pub good_line : Keyed ≡ good (record { value = digits_in (part (equals + 1) (equals + 1 + count) rest); next = equals + 1 + count + 1 })
        good_line =
            keyed_good (is_numbered letter number) (digits_form count) rest cut k
            (form_digits count (part (equals + 1) (equals + 1 + count) rest) (part_length (equals + 1) (equals + 1 + count) rest (omega arith) ∙ omega arith) d)
