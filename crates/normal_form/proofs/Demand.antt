-- DEMAND 2 ON THE NORMAL FORM: "The normal form negates signals only and is satisfied by the same takes." The first half is
-- `form_normal` (Ranges.antt). Assumes nothing.
use Prim.Native.Nat.{◌≤◌}
use mathlib.Core.Logic.{◌↔◌}
use native.Mathlib.Omega.{arith}
use lib.ListN.{length}
use Rattle.tables.specs.declared.row.Formula.{Formula}
use Rattle.rule_file.specs.Valid.{InRange}
use Rattle.meaning.specs.Reading.{Reading, classical}
use Rattle.meaning.specs.Trace.{InfiniteTrace}
use Rattle.meaning.specs.Satisfaction.{Satisfies, SatisfiesNormal}
use Rattle.meaning.specs.Published.{PublishedSatisfies, PublishedSatisfiesNormal}
use Rattle.meaning.proofs.Published.{published_satisfies, published_satisfies_normal}
use Rattle.meaning.proofs.Readings.{Full, classical_full}
use Rattle.normal_form.specs.declared.sign.Sign.{Sign}
use Rattle.normal_form.specs.declared.sign.Sign.TheVariants.{Plain, Negated}
use Rattle.normal_form.specs.Reached.{Reached.root}
use Rattle.normal_form.specs.Numbering.{normal_rows, new_number, normal_form}
use Rattle.normal_form.proofs.Operands.{row_below}
use Rattle.normal_form.proofs.Normality.{normal}
use Rattle.normal_form.proofs.Ranges.{rows_double, form_normal}
use Rattle.normal_form.proofs.FormTables.{table_ordered, form_ordered}
use Rattle.normal_form.proofs.SameMeaning.{Under, implies, same_root}

module _ (f : Formula) (range : InRange f) where
  few : (s : Sign) → length (normal_rows f s) ≤ 128
  few s = let a = rows_double f s range in let b = range.most_rows in omega arith

  module _ (R : Reading) (w : InfiniteTrace) where
    -- in any reading, the normal form implies the rule, and that of the negation excludes it
    normal_under : (s : Sign) → SatisfiesNormal R w (normal_form f s) → Under s (Satisfies R w f)
    unfolding normal_form
    normal_under s x =
        let n = normal f s range in
        implies f s (new_number f s) (normal_rows f s) n (few s) (row_below f range) range.some_rows R w f.rows s root 0 (rw n.root_last x)

    pub normal_implies : SatisfiesNormal R w (normal_form f Plain) → Satisfies R w f
    normal_implies = normal_under Plain

    pub negated_excludes : SatisfiesNormal R w (normal_form f Negated) → ¬ Satisfies R w f
    negated_excludes = normal_under Negated

    -- in a full reading, both are exact
    module _ (full : Full R) where
      normal_exact : (s : Sign) → SatisfiesNormal R w (normal_form f s) ↔ Under s (Satisfies R w f)
      unfolding normal_form
      normal_exact s = same_root f s (new_number f s) (normal_rows f s) (normal f s range) (few s) (row_below f range) range.some_rows R w full 0

      pub normal_same : SatisfiesNormal R w (normal_form f Plain) ↔ Satisfies R w f
      normal_same = normal_exact Plain

      pub negated_opposite : SatisfiesNormal R w (normal_form f Negated) ↔ (¬ Satisfies R w f)
      negated_opposite = normal_exact Negated

  -- THE CLAIM, in the reading of the claims and with no hypothesis left: an infinite trace satisfies the formula exactly when it
  -- satisfies the normal form, and the negated formula's normal form exactly when it does not satisfy the formula
  pub satisfied_alike : (w : InfiniteTrace) → SatisfiesNormal classical w (normal_form f Plain) ↔ Satisfies classical w f
  satisfied_alike w = normal_same classical w classical_full

  pub satisfied_opposite : (w : InfiniteTrace) → SatisfiesNormal classical w (normal_form f Negated) ↔ (¬ Satisfies classical w f)
  satisfied_opposite w = negated_opposite classical w classical_full

  -- both by the published meaning (document 003, figure 1)
  pub satisfied_as_published : (w : InfiniteTrace) → Satisfies classical w f ↔ PublishedSatisfies classical w f
  satisfied_as_published = published_satisfies f (table_ordered f.signals f.rows f.places range.rows_in_range)

  pub normal_as_published : (s : Sign) (w : InfiniteTrace) → SatisfiesNormal classical w (normal_form f s) ↔ PublishedSatisfiesNormal classical w (normal_form f s)
  normal_as_published s = published_satisfies_normal (normal_form f s) (form_ordered (normal_form f s) (form_normal f s range))
