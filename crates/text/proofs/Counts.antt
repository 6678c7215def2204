-- Counts and their written form. Assumes nothing.
use mathlib.Core.Path.{◌≡◌, sym, ap, ◌∙◌}
use mathlib.Core.Bool.{false}
use mathlib.Core.List.{List}
use Prim.Native.Nat.{ℕ, ◌≤◌, ◌<◌}
use lib.Dec.{ltb}
use lib.ListN.{length}
use borrow.Author.Tests.{lt-ltb, le-ltb, ltb-false}
use Rattle.tables.specs.declared.refusal.Reason.{Reason}
use Rattle.tables.specs.declared.refusal.Reason.TheVariants.{WrongForm}
use Rattle.text.specs.Number.{padded_of}
use Rattle.text.specs.Count.{count_form, counted_as}
use Rattle.text.specs.Line.{is_key, keyed_line}
use Rattle.text.specs.Result.{Parsed}
use Rattle.text.specs.Result.Parsed.{good, bad}
use Rattle.text.specs.Written.{decimal}
use Rattle.text.specs.declared.line.Counted.{Counted}
use Rattle.text.specs.declared.line.Counted.TheVariants.{Count}
use Rattle.text.specs.declared.number.Number.TheVariants.{Is, Not}
use Rattle.tables.proofs.Choices.{clash, each_pick}
use Rattle.text.proofs.Numbers.{padded_written, each_number}
use Rattle.text.proofs.Lines.{line_inside, line_read}

-- the value of a count, by its number
module _ (low high : ℕ) (outside : Reason) (v : List ℕ) where
  pub value_no_number : padded_of v ≡ Not → count_form low high outside v ≡ bad WrongForm
  unfolding count_form
  value_no_number e = rw e

  module _ {n : ℕ} (e : padded_of v ≡ Is n) where
    pub value_below : n < low → count_form low high outside v ≡ bad outside
    unfolding count_form
    value_below h = rw (e, lt-ltb n low h)

    pub value_above : low ≤ n → high < n → count_form low high outside v ≡ bad outside
    unfolding count_form
    value_above l h = rw (e, le-ltb n low l, lt-ltb high n h)

    pub value_within : low ≤ n → n ≤ high → count_form low high outside v ≡ good n
    unfolding count_form
    value_within l h = rw (e, le-ltb n low l, le-ltb high n h)

-- a written count in range
pub count_written : (low high : ℕ) (outside : Reason) (n : ℕ) → low ≤ n → n ≤ high → n < 100000 → count_form low high outside (decimal n) ≡ good n
count_written low high outside n l u h = value_within low high outside (decimal n) (padded_written n h) l u

-- what is read of a count: its number, and that it is in range
pub record CountOf (low high : ℕ) (v : List ℕ) (n : ℕ) : Type 0 where
  pub least : low ≤ n
  pub most : n ≤ high
  pub number : padded_of v ≡ Is n

pub count_read : (low high : ℕ) (outside : Reason) (v : List ℕ) (n : ℕ) → count_form low high outside v ≡ good n → CountOf low high v n
unfolding count_form
count_read low high outside v n =
    each_number P (padded_of v) (λ q. clash (cc)) (λ m e. each_pick P (ltb m low) (λ _ q. clash (cc)) (λ l. each_pick P (ltb high m) (λ _ q. clash (cc)) (λ u q. whole m e l u (cc))))
  where
    P : Parsed ℕ → Type 0
    P p = p ≡ good n → CountOf low high v n

    whole : (m : ℕ) → Is m ≡ padded_of v → ltb m low ≡ false → ltb high m ≡ false → m ≡ n → CountOf low high v n
    whole m e l u q =
        record {
          least = rw q at (ltb-false m low l);
          most = rw q at (ltb-false high m u);
          number = sym e ∙ ap Is q;
        }

-- the same of what reading a line ensures and what is known of its result
pub counted : (key : List ℕ) (low high : ℕ) (outside : Reason) (rest : List ℕ) {r : Counted} {n i : ℕ}
    → counted_as r ≡ keyed_line (is_key key) (count_form low high outside) rest → r ≡ Count n i → (low ≤ n) × (n ≤ high) × (i ≤ length rest)
counted key low high outside rest {n = n} {i = i} e d =
    let g : keyed_line (is_key key) (count_form low high outside) rest ≡ good (record { value = n; next = i }) = sym e ∙ ap counted_as d in
    let l = line_read (is_key key) (count_form low high outside) rest (record { value = n; next = i }) g in
    let c = count_read low high outside l.text n l.stands in
    (c.least, c.most, line_inside (is_key key) (count_form low high outside) rest (record { value = n; next = i }) g)
