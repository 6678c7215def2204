-- Checks one after the other. Assumes nothing.
use mathlib.Core.Path.{◌≡◌, refl, sym, ap, subst, ◌∙◌}
use mathlib.Core.Bool.{Bool, true, false}
use Prim.Native.Nat.{ℕ}
use lib.Dec.{eqb}
use borrow.Author.Tests.{eq-eqb, ne_eqb}
use Rattle.tables.specs.Choice.{pick}
use Rattle.tables.specs.declared.refusal.Reason.{Reason}
use Rattle.tables.specs.declared.refusal.Reason.TheVariants.{SignalsDiffer}
use Rattle.tables.specs.declared.refusal.Refusal.{Refusal}
use Rattle.tables.specs.declared.refusal.Outcome.{Outcome}
use Rattle.tables.specs.declared.refusal.Outcome.TheVariants.{Accepted, Refused}
use Rattle.tables.specs.Refusal.{and_then, call_refused}

-- a check that refuses ends it
pub stops : {a o : Outcome} {x : Refusal} (rest : Outcome) → a ≡ o → a ≡ Refused x → a ≡ and_then o rest
stops {a} {o} {x} rest e r = r ∙ ap (λ y. and_then y rest) (sym r ∙ e)

-- one that accepts leaves it to the next
pub goes : {a o : Outcome} (rest : Outcome) → a ≡ o → a ≡ Accepted → rest ≡ and_then o rest
goes rest e r = ap (λ y. and_then y rest) (sym r ∙ e)

IsRefused : Outcome → Type 0
IsRefused Accepted = ⊥
IsRefused (Refused x) = Unit {0}

pub refused_only : {A : Type 0} {a : Outcome} {x : Refusal} → a ≡ Refused x → a ≡ Accepted → A
unfolding IsRefused
refused_only r e = absurd (subst IsRefused (sym r ∙ e) tt)

-- a test that turns back where it fails
module _ (reason : Reason) {b : Bool} where
  pub fails : b ≡ false → call_refused reason ≡ pick b Accepted (call_refused reason)
  fails e = sym (ap (λ y. pick y Accepted (call_refused reason)) e)

  pub passes : b ≡ true → Accepted ≡ pick b Accepted (call_refused reason)
  passes e = sym (ap (λ y. pick y Accepted (call_refused reason)) e)

pub differ : (a b : ℕ) → (a ≡ b → ⊥) → call_refused SignalsDiffer ≡ pick (eqb a b) Accepted (call_refused SignalsDiffer)
differ a b n = fails SignalsDiffer (ne_eqb a b n)

pub agree : (a b : ℕ) → a ≡ b → Accepted ≡ pick (eqb a b) Accepted (call_refused SignalsDiffer)
agree a b e = passes SignalsDiffer (eq-eqb a b e)

-- what two checks accept, each accepts; what a test accepts passes it
pub both_accept : (a b : Outcome) → and_then a b ≡ Accepted → (a ≡ Accepted) × (b ≡ Accepted)
both_accept Accepted b e = (refl, e)
both_accept (Refused x) b e = refused_only refl e

pub test_accepts : (reason : Reason) (b : Bool) → pick b Accepted (call_refused reason) ≡ Accepted → b ≡ true
test_accepts reason true e = refl
test_accepts reason false e = refused_only refl e
