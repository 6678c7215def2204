-- The refusals of a cycle's digits in their order, and what digits that are accepted have. Assumes nothing.
use Prim.Native.Nat.{ℕ}
use mathlib.Core.Path.{◌≡◌, refl, sym, ap₂, ◌∙◌}
use mathlib.Core.Bool.{Bool, true, false, ◌&&◌}
use mathlib.Core.List.{List}
use lib.Dec.{eqb}
use lib.ListN.{length}
use borrow.Author.Tests.{eqb-true, eq-eqb, ne_eqb}
use Rattle.tables.specs.Choice.{pick}
use Rattle.tables.specs.Refusal.{and_then, call_refused}
use Rattle.tables.specs.declared.refusal.Reason.TheVariants.{WrongForm, SignalsDiffer, SizeDiffers}
use Rattle.tables.specs.declared.refusal.Outcome.{Outcome}
use Rattle.tables.specs.declared.refusal.Outcome.TheVariants.{Accepted}
use Rattle.tables.proofs.Outcomes.{stops, goes, fails, passes, both_accept, test_accepts}
use Rattle.text.specs.Digits.{are_digits}
use Rattle.simulator.specs.Simulation.{digits_outcome}

-- there are i inputs and l latches
module _ (i l : ℕ) (inputs latches : List ℕ) where
  -- the checks from each on
  abbrev FromLatches : Outcome
  FromLatches = pick (eqb (length latches) l) Accepted (call_refused SizeDiffers)

  abbrev FromInputs : Outcome
  FromInputs = and_then (pick (eqb (length inputs) i) Accepted (call_refused SignalsDiffer)) FromLatches

  module _ {x y : Bool} (ei : x ≡ are_digits inputs) (el : y ≡ are_digits latches) where
    digits : (x && y) ≡ (are_digits inputs && are_digits latches)
    digits = ap₂ (λ u v. u && v) ei el

    pub other_byte : (x && y) ≡ false → call_refused WrongForm ≡ digits_outcome i l inputs latches
    other_byte n = stops FromInputs (fails WrongForm (sym digits ∙ n)) refl

    module _ (d : (x && y) ≡ true) where
      from_inputs : FromInputs ≡ digits_outcome i l inputs latches
      from_inputs = goes FromInputs (passes WrongForm (sym digits ∙ d)) refl

      pub other_inputs : ¬ (length inputs ≡ i) → call_refused SignalsDiffer ≡ digits_outcome i l inputs latches
      other_inputs n = stops FromLatches (fails SignalsDiffer (ne_eqb (length inputs) i n)) refl ∙ from_inputs

      module _ (e : length inputs ≡ i) where
        from_latches : FromLatches ≡ digits_outcome i l inputs latches
        from_latches = goes FromLatches (passes SignalsDiffer (eq-eqb (length inputs) i e)) refl ∙ from_inputs

        pub other_latches : ¬ (length latches ≡ l) → call_refused SizeDiffers ≡ digits_outcome i l inputs latches
        other_latches n = fails SizeDiffers (ne_eqb (length latches) l n) ∙ from_latches

        pub all_right : length latches ≡ l → Accepted ≡ digits_outcome i l inputs latches
        all_right q = passes SizeDiffers (eq-eqb (length latches) l q) ∙ from_latches

  -- DIGITS THAT ARE ACCEPTED ARE AS MANY AS THERE ARE INPUTS AND LATCHES
  pub accepted_counts : digits_outcome i l inputs latches ≡ Accepted → (length inputs ≡ i) × (length latches ≡ l)
  accepted_counts e =
      let x = both_accept (pick (are_digits inputs && are_digits latches) Accepted (call_refused WrongForm)) FromInputs e in
      let y = both_accept (pick (eqb (length inputs) i) Accepted (call_refused SignalsDiffer)) FromLatches x.1 in
      (eqb-true (length inputs) i (test_accepts SignalsDiffer _ y.0), eqb-true (length latches) l (test_accepts SizeDiffers _ y.1))
