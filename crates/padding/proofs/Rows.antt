-- The value of a row, padded. Assumes nothing.
use mathlib.Core.Path.{◌≡◌, refl, sym, ap, ◌∙◌, subst}
use mathlib.Core.Bool.{Bool, true, false}
use mathlib.Core.List.{List, [], ◌∷◌, ◌++◌, append_assoc}
use Prim.Native.Nat.{ℕ, ◌+◌, ◌≤◌, ◌<◌}
use native.Mathlib.Omega.{arith}
use lib.ListN.{length, length-append}
use Rattle.tables.specs.Kind.{kinds, kind_count, kind_at, word_of, place_of}
use Rattle.tables.specs.declared.row.Row.{Row}
use Rattle.tables.specs.declared.row.Row.TheVariants.{Constant, Signal, Unary, Binary}
use Rattle.tables.proofs.Choices.{clash}
use Rattle.tables.proofs.KindTable.{below, word_short, kind_of_row}
use Rattle.text.specs.Number.{padded_of}
use Rattle.text.specs.Result.Parsed.{good}
use Rattle.text.specs.Written.{decimal}
use Rattle.text.specs.declared.number.Number.TheVariants.{Is}
use Rattle.text.proofs.Lines.{Free, free_append, padded_free}
use Rattle.rule_row.specs.Row.{in_range, row_value}
use Rattle.rule_row.specs.Written.{numbers_text, written_row}
use Rattle.rule_row.proofs.Spelling.{word_no_feed, Spelled, value_spelled, value_says}
use Rattle.rule_row.proofs.WrittenRows.{Small, range_small}
use Rattle.padding.specs.Padding.{Before, Before.start, Before.digit, Before.other, behind}
use Rattle.padding.proofs.Bytes.{PaddedFrom, no_number, after, same_on, same_back}
use Rattle.padding.proofs.Numbers.{digits_in_lem, number_on, number_back}
use Rattle.padding.proofs.Lines.{step_on, step_back, ValueThen, value_on, value_back, Reads}

-- ---- the words of the table: no number begins in one, and behind it stands no digit

abbrev is_other : Before → Bool
is_other start = false
is_other digit = false
is_other other = true

is_other_lem : (p : Before) → is_other p ≡ true → p ≡ other
is_other_lem start e = clash (cc)
is_other_lem digit e = clash (cc)
is_other_lem other e = refl

word_none : (k : ℕ) → k < kind_count → no_number other (word_of (kind_at k)) ≡ true
unfolding kind_at kinds
word_none k h = below (λ k. no_number other (word_of (kind_at k))) kind_count refl k h

word_after : (k : ℕ) → k < kind_count → after other (word_of (kind_at k)) ≡ other
unfolding kind_at kinds
word_after k h = is_other_lem _ (below (λ k. is_other (after other (word_of (kind_at k)))) kind_count refl k h)

-- ---- from a row to what it is padded to

numbers_on : (r : Row) (v t s : List ℕ) → Spelled r v → PaddedFrom other t s → PaddedFrom other (numbers_text r ++ (10 ∷ t)) (v ++ (10 ∷ s))
numbers_on (Constant k) v t s h p = rw h (step_on other 10 refl p)
numbers_on (Signal k a) v t s h p = rw h.1 (step_on other 32 refl (value_on h.0 a h.2 p))
numbers_on (Unary k a) v t s h p = rw h.1 (step_on other 32 refl (value_on h.0 a h.2 p))
numbers_on (Binary k a b) v t s h p =
    rw (h.2, append_assoc (decimal a) (32 ∷ decimal b) (10 ∷ t), append_assoc h.0 (32 ∷ h.1) (10 ∷ s))
    (step_on other 32 refl (number_on h.0 a 32 h.3 refl (value_on h.1 b h.4 p)))

-- WHAT IS READ AS A ROW IS THE WRITTEN ROW, PADDED
pub row_on : (signals k : ℕ) (v : List ℕ) (r : Row) (t s : List ℕ) → row_value signals k v ≡ good r
    → PaddedFrom other t s → PaddedFrom other (written_row r ++ (10 ∷ t)) (v ++ (10 ∷ s))
row_on signals k v r t s e p =
    let w = value_says signals k v r e in
    let word : List ℕ = word_of (kind_at (place_of r)) in
    let c : place_of r < kind_count = (kind_of_row r).0 in
    let i = numbers_on r w.0 t s w.2 p in
    rw (w.1, append_assoc word (numbers_text r) (10 ∷ t), append_assoc word w.0 (10 ∷ s))
    (same_on other word (word_none (place_of r) c) (subst (λ q. PaddedFrom q (numbers_text r ++ (10 ∷ t)) (w.0 ++ (10 ∷ s))) (sym (word_after (place_of r) c)) i))

-- ---- and back

-- the texts of numbers, in a line
abbrev Texts : Row → List ℕ → Type 0
Texts r v = Spelled r v × Free 10 v × (length v ≤ 12)

number_text : (a : ℕ) (v : List ℕ) → padded_of v ≡ Is a → Free 10 v × (length v ≤ 5)
number_text a v e = (padded_free 10 (omega arith) v a e, (digits_in_lem v a e).short)

one_back : (a : ℕ) (t s : List ℕ) → a < 100000 → PaddedFrom other (32 ∷ (decimal a ++ (10 ∷ t))) s
    → ValueThen (λ v. ((u : List ℕ) × (v ≡ 32 ∷ u) × (padded_of u ≡ Is a)) × Free 10 v × (length v ≤ 12)) t s
one_back a t s h p =
    let b = step_back other 32 (decimal a ++ (10 ∷ t)) s refl p in
    let w = value_back a t b.0 h b.2 in
    let n = number_text a w.text w.stands in
    record {
      text = 32 ∷ w.text;
      rest = w.rest;
      whole = b.1 ∙ ap (◌∷◌ 32) w.whole;
      stands = ((w.text, refl, w.stands), (λ q. omega arith, n.0), omega (arith, n.1));
      goes = w.goes;
    }

two_back : (a b : ℕ) (t s : List ℕ) → a < 100000 → b < 100000 → PaddedFrom other (32 ∷ ((decimal a ++ (32 ∷ decimal b)) ++ (10 ∷ t))) s
    → ValueThen (λ v. ((u : List ℕ) × (w : List ℕ) × (v ≡ 32 ∷ (u ++ (32 ∷ w))) × (padded_of u ≡ Is a) × (padded_of w ≡ Is b)) × Free 10 v × (length v ≤ 12)) t s
two_back a b t s h k p =
    let r = step_back other 32 (decimal a ++ (32 ∷ (decimal b ++ (10 ∷ t)))) s refl (rw (append_assoc (decimal a) (32 ∷ decimal b) (10 ∷ t)) at p) in
    let x = number_back a 32 (decimal b ++ (10 ∷ t)) r.0 h refl r.2 in
    let y = value_back b t x.rest k x.goes in
    let m = number_text a x.text x.number in
    let n = number_text b y.text y.stands in
    record {
      text = 32 ∷ (x.text ++ (32 ∷ y.text));
      rest = y.rest;
      whole = r.1 ∙ ap (◌∷◌ 32) (x.whole ∙ (ap (λ z. x.text ++ (32 ∷ z)) y.whole ∙ sym (append_assoc x.text (32 ∷ y.text) (10 ∷ y.rest))));
      stands = (
        (x.text, y.text, refl, x.number, y.stands),
        (λ q. omega arith, free_append 10 x.text (32 ∷ y.text) m.0 (λ q. omega arith, n.0)),
        rw length-append (omega (arith, m.1, n.1)),
      );
      goes = y.goes;
    }

numbers_back : (r : Row) (t s : List ℕ) → Small r → PaddedFrom other (numbers_text r ++ (10 ∷ t)) s → ValueThen (Texts r) t s
numbers_back (Constant k) t s h p =
    let b = step_back other 10 t s refl p in
    record { text = []; rest = b.0; whole = b.1; stands = (refl, tt, omega arith); goes = b.2 }
numbers_back (Signal k a) t s h p = one_back a t s h.0 p
numbers_back (Unary k a) t s h p = one_back a t s h.0 p
numbers_back (Binary k a b) t s h p = two_back a b t s h.0 h.1 p

-- THE WRITTEN ROW, PADDED, IS READ AS THAT ROW
pub row_back : (signals : ℕ) → signals ≤ 32 → (k : ℕ) (r : Row) (t s : List ℕ) → k < 100000 → in_range signals k r ≡ true
    → PaddedFrom other (written_row r ++ (10 ∷ t)) s → ValueThen (Reads (row_value signals) 20 k r) t s
row_back signals hs k r t s h e p =
    let word : List ℕ = word_of (kind_at (place_of r)) in
    let c : place_of r < kind_count = (kind_of_row r).0 in
    let a = same_back other word (numbers_text r ++ (10 ∷ t)) s (word_none (place_of r) c) (rw (append_assoc word (numbers_text r) (10 ∷ t)) at p) in
    let w = numbers_back r t a.0 (range_small signals k hs (omega arith) r e)
    (subst (λ q. PaddedFrom q (numbers_text r ++ (10 ∷ t)) a.0) (word_after (place_of r) c) a.2) in
    record {
      text = word ++ w.text;
      rest = w.rest;
      whole = a.1 ∙ (ap (◌++◌ word) w.whole ∙ sym (append_assoc word w.text (10 ∷ w.rest)));
      stands = (
        value_spelled signals k r w.text w.stands.0 ∙ rw e,
        free_append 10 word w.text (word_no_feed (place_of r) c) w.stands.1,
        rw length-append (omega (arith, word_short (place_of r) c, w.stands.2)),
      );
      goes = w.goes;
    }
