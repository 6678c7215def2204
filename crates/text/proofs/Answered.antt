-- What a reader's outcome says of the file. Assumes nothing.
use mathlib.Core.Path.{◌≡◌, refl, ap, subst}
use Prim.Native.Nat.{ℕ}
use Rattle.tables.specs.declared.refusal.Reason.{Reason}
use Rattle.tables.specs.declared.refusal.Reason.TheVariants.{WrongForm}
use Rattle.tables.specs.declared.refusal.Refusal.{Refusal}
use Rattle.tables.specs.declared.refusal.Outcome.{Outcome}
use Rattle.tables.specs.declared.refusal.Outcome.TheVariants.{Accepted, Refused}
use Rattle.tables.proofs.Outcomes.{refused_only}
use Rattle.text.specs.Result.{Result, outcome_of, table_or}
use Rattle.text.specs.Result.Result.{accepted, refused}

refusal_in : Outcome → Refusal
refusal_in Accepted = record { reason = WrongForm; file = 0; line = 0 }
refusal_in (Refused x) = x

same_refusal : {x y : Refusal} → Refused x ≡ Refused y → x ≡ y
unfolding refusal_in
same_refusal e = ap refusal_in e

module _ {A : Type 0} (file : ℕ) where
  -- what an accepted file stands for is the table that was read
  pub accepted_table : (empty : A) (p : Result A) → outcome_of file p ≡ Accepted → p ≡ accepted (table_or empty p)
  accepted_table empty (accepted x) e = refl
  accepted_table empty (refused r n) e = refused_only refl e

  -- what is so of each refused file and its refusal is so of this one
  pub refused_table : (p : Result A) {x : Refusal} → outcome_of file p ≡ Refused x
      → (P : Result A → Refusal → Type 0) → ((e : Reason) (n : ℕ) → P (refused e n) (record { reason = e; file = file; line = n })) → P p x
  refused_table (accepted y) h P k = refused_only h refl
  refused_table (refused e n) h P k = subst (P (refused e n)) (same_refusal h) (k e n)
