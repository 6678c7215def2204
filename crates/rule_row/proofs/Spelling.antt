-- What the bytes of a row's value are: its word, and behind it the texts of its numbers, padded or not. Assumes nothing.
use mathlib.Core.Path.{◌≡◌, refl, sym, ap, ◌∙◌, subst}
use mathlib.Core.Bool.{Bool, true, false}
use mathlib.Core.List.{List, [], ◌∷◌, ◌++◌, append-nil}
use Prim.Native.Nat.{ℕ, zero, suc, ◌+◌, ◌<◌}
use native.Mathlib.Omega.{arith}
use lib.Dec.{eqb}
use lib.ListN.{take, drop}
use borrow.Author.Tests.{eqb-true}
use Rattle.tables.specs.Choice.{pick}
use Rattle.tables.specs.Bytes.{same_bytes}
use Rattle.tables.specs.Kind.{kinds, kind_count, kind_at, no_kind, word_of, place_of, with_numbers, numbers_in, first_number, second_number}
use Rattle.tables.specs.declared.kind.Kind.{Kind}
use Rattle.tables.specs.declared.refusal.Reason.TheVariants.{BadReference}
use Rattle.tables.specs.declared.row.Row.{Row}
use Rattle.tables.specs.declared.row.Row.TheVariants.{Constant, Signal, Unary, Binary}
use Rattle.tables.proofs.KindTable.{below, kind_of_row, place_of_kind, numbers_again, numbers_own, numbers_count, numbers_place}
use Rattle.text.specs.Search.{first_where, first_of, further}
use Rattle.text.specs.Number.{padded_of}
use Rattle.text.specs.Result.{Parsed, on_parsed}
use Rattle.text.specs.Result.Parsed.{good, bad}
use Rattle.text.specs.declared.search.Found.{Found}
use Rattle.text.specs.declared.search.Found.TheVariants.{At, Nothing}
use Rattle.text.specs.declared.number.Number.TheVariants.{Is}
use Rattle.tables.proofs.Choices.{clash, each_pick}
use Rattle.text.proofs.Searching.{hit, each_found, same_eq}
use Rattle.text.proofs.Numbers.{each_number}
use Rattle.text.proofs.Lines.{Free, first_at, first_free, cut_front, cut_behind, cut_found, padded_free}
use Rattle.text.proofs.Headers.{lacks, free}
use Rattle.rule_row.specs.Row.{kind_named, form_of, row_form, in_range, row_value}
use Rattle.rule_row.proofs.RowValues.{form_counted}

-- ---- the words of the table, each by one test over the whole table

abbrev is_at : ℕ → Found → Bool
is_at k (At i) = eqb i k
is_at k Nothing = false

found_at : (k : ℕ) (f : Found) → is_at k f ≡ true → f ≡ At k
found_at k (At i) t = ap At (eqb-true i k t)
found_at k Nothing t = clash (cc)

-- each word is that of its own kind and of no earlier one
word_named : (k : ℕ) → k < kind_count → kind_named (word_of (kind_at k)) ≡ At k
unfolding kind_named kind_at kinds first_where further same_bytes
word_named k h = found_at k _ (below (λ k. is_at k (kind_named (word_of (kind_at k)))) kind_count refl k h)

pub word_no_space : (k : ℕ) → k < kind_count → Free 32 (word_of (kind_at k))
unfolding kind_at kinds
word_no_space k h = free 32 (word_of (kind_at k)) (below (λ k. lacks 32 (word_of (kind_at k))) kind_count refl k h)

pub word_no_feed : (k : ℕ) → k < kind_count → Free 10 (word_of (kind_at k))
unfolding kind_at kinds
word_no_feed k h = free 10 (word_of (kind_at k)) (below (λ k. lacks 10 (word_of (kind_at k))) kind_count refl k h)

-- a row's word with numbers of the right count
pub form_row : (r : Row) (a b : ℕ) → form_of (word_of (kind_at (place_of r))) (numbers_in r) a b ≡ good (with_numbers r a b)
form_row r a b =
    let w = kind_of_row r in
    let n : numbers_in (kind_at (place_of r)).row ≡ numbers_in r = ap numbers_in w.1 ∙ numbers_count r 0 0 in
    form_counted (word_of (kind_at (place_of r))) (numbers_in r) a b (word_named (place_of r) w.0) n
    ∙ ap good (ap (λ (s : Row). with_numbers s a b) w.1 ∙ numbers_again r a b 0 0)

form_none : (w : List ℕ) → Free 32 w → row_form (w ++ []) ≡ form_of w 0 0 0
unfolding row_form
form_none w f = rw (append-nil, first_free 32 w f)

form_one : (w t : List ℕ) (a : ℕ) → Free 32 w → padded_of t ≡ Is a → row_form (w ++ (32 ∷ t)) ≡ form_of w 1 a 0
unfolding row_form
form_one w t a f e = rw (first_at 32 w t f, cut_behind 32 w t, first_free 32 t (padded_free 32 (omega arith) t a e), e, cut_front 32 w t)

form_two : (w t u : List ℕ) (a b : ℕ) → Free 32 w → padded_of t ≡ Is a → padded_of u ≡ Is b → row_form (w ++ (32 ∷ (t ++ (32 ∷ u)))) ≡ form_of w 2 a b
unfolding row_form
form_two w t u a b f d e =
    rw (
      first_at 32 w (t ++ (32 ∷ u)) f,
      cut_behind 32 w (t ++ (32 ∷ u)),
      first_at 32 t u (padded_free 32 (omega arith) t a d),
      cut_front 32 t u,
      d,
      cut_behind 32 t u,
      e,
      cut_front 32 w (t ++ (32 ∷ u)),
    )

-- ---- the texts behind a row's word

abbrev Texts : ℕ → ℕ → ℕ → List ℕ → Type 0
Texts zero a b s = s ≡ []
Texts (suc zero) a b s = (t : List ℕ) × (s ≡ 32 ∷ t) × (padded_of t ≡ Is a)
Texts (suc (suc n)) a b s = (t : List ℕ) × (u : List ℕ) × (s ≡ 32 ∷ (t ++ (32 ∷ u))) × (padded_of t ≡ Is a) × (padded_of u ≡ Is b)

-- those that stand for the numbers of this row
abbrev pub Spelled : Row → List ℕ → Type 0
Spelled r s = Texts (numbers_in r) (first_number r) (second_number r) s

-- A ROW THAT IS SPELLED IS READ
pub form_spelled : (r : Row) (s : List ℕ) → Spelled r s → row_form (word_of (kind_at (place_of r)) ++ s) ≡ good r
form_spelled r s h = by r h (word_no_space (place_of r) (kind_of_row r).0) (form_row r (first_number r) (second_number r) ∙ ap good (numbers_own r))
  where
    by : (r : Row) → Spelled r s → Free 32 (word_of (kind_at (place_of r))) → form_of (word_of (kind_at (place_of r))) (numbers_in r) (first_number r) (second_number r) ≡ good r
        → row_form (word_of (kind_at (place_of r)) ++ s) ≡ good r
    by (Constant k) h f e = rw h (form_none _ f ∙ e)
    by (Signal k a) h f e = rw h.1 (form_one _ h.0 a f h.2 ∙ e)
    by (Unary k a) h f e = rw h.1 (form_one _ h.0 a f h.2 ∙ e)
    by (Binary k a b) h f e = rw h.2 (form_two _ h.0 h.1 a b f h.3 h.4 ∙ e)

pub value_spelled : (signals number : ℕ) (r : Row) (s : List ℕ) → Spelled r s
    → row_value signals number (word_of (kind_at (place_of r)) ++ s) ≡ pick (in_range signals number r) (good r) (bad BadReference)
unfolding row_value
value_spelled signals number r s h = rw (form_spelled r s h)

-- ---- NOTHING ELSE IS READ

texts_of : (r : Row) (a b : ℕ) (s : List ℕ) → Texts (numbers_in r) a b s → Spelled (with_numbers r a b) s
texts_of (Constant k) a b s h = h
texts_of (Signal k c) a b s h = h
texts_of (Unary k c) a b s h = h
texts_of (Binary k c d) a b s h = h

-- what a value says where it is of its form
abbrev pub SpelledIn : List ℕ → Row → Type 0
SpelledIn v r = (s : List ℕ) × (v ≡ word_of (kind_at (place_of r)) ++ s) × Spelled r s

abbrev Says : List ℕ → Parsed Row → Type 0
Says v (good r) = SpelledIn v r
Says v (bad e) = Unit {0}

form_says : (w : List ℕ) (n a b : ℕ) (v s : List ℕ) → v ≡ w ++ s → Texts n a b s → Says v (form_of w n a b)
unfolding form_of kind_named
form_says w n a b v s e h =
    each_found (Says v) (kind_named w) tt (λ k q. each_pick (Says v) (eqb (numbers_in (kind_at k).row) n) (λ o. whole k q (eqb-true (numbers_in (kind_at k).row) n o)) (λ _. tt))
  where
    whole : (k : ℕ) → At k ≡ first_where (λ (k : Kind). same_bytes w (word_of k)) kinds → numbers_in (kind_at k).row ≡ n → SpelledIn v (with_numbers (kind_at k).row a b)
    whole k q o =
        let x = hit (λ (k : Kind). same_bytes w (word_of k)) kinds no_kind k q in
        let h₁ : k < kind_count = unfold kinds in x.below in
        let z : w ≡ word_of (kind_at k) = unfold kind_at in same_eq w (word_of (kind_at k)) x.passes in
        let p : place_of (with_numbers (kind_at k).row a b) ≡ k = numbers_place (kind_at k).row a b ∙ place_of_kind k h₁ in
        (s, e ∙ rw (p, ← z), texts_of (kind_at k).row a b s (rw o h))

row_says : (v : List ℕ) → Says v (row_form v)
unfolding row_form
row_says v =
    each_found P (first_of 32 v) (form_says v 0 0 0 v [] (sym (append-nil v)) refl) (λ i e.
    each_found P (first_of 32 (drop (i + 1) v))
    (each_number P (padded_of (drop (i + 1) v)) tt (λ a m. form_says (take i v) 1 a 0 v (32 ∷ drop (i + 1) v) (cut_found 32 v i e) (drop (i + 1) v, refl, sym m))) (λ j d.
    each_number P (padded_of (take j (drop (i + 1) v))) tt (λ a m.
    each_number P (padded_of (drop (j + 1) (drop (i + 1) v))) tt (λ b n.
    form_says (take i v) 2 a b v (32 ∷ drop (i + 1) v) (cut_found 32 v i e)
    (take j (drop (i + 1) v), drop (j + 1) (drop (i + 1) v), ap (◌∷◌ 32) (cut_found 32 (drop (i + 1) v) j d), sym m, sym n)))))
  where
    P : Parsed Row → Type 0
    P f = Says v f

pub value_says : (signals number : ℕ) (v : List ℕ) (r : Row) → row_value signals number v ≡ good r → SpelledIn v r
unfolding row_value
value_says signals number v r = by (row_form v) (row_says v)
  where
    by : (p : Parsed Row) → Says v p → on_parsed p bad (λ r. pick (in_range signals number r) (good r) (bad BadReference)) ≡ good r → SpelledIn v r
    by (good s) w =
        each_pick (λ p. p ≡ good r → SpelledIn v r) (in_range signals number s)
        (λ _ q. let z : s ≡ r = cc in subst (SpelledIn v) z w) (λ _ q. clash (cc))
    by (bad e) w = λ q. clash (cc)
