-- The refusals of a call in their order, and what an accepted call has. Assumes nothing.
use Prim.Native.Nat.{ℕ, ◌≤◌, ◌<◌}
use mathlib.Core.Path.{◌≡◌, refl, sym, ap, ap₂, ◌∙◌}
use mathlib.Core.Bool.{Bool, true, false, ◌&&◌}
use mathlib.Core.List.{List}
use lib.Dec.{eqb, leb}
use lib.ListN.{length}
use borrow.Author.Tests.{eqb-true, eq-eqb, ne_eqb, le-leb, lt-leb, leb-true}
use Rattle.tables.specs.Choice.{pick}
use Rattle.tables.specs.Refusal.{and_then, call_refused}
use Rattle.tables.proofs.Outcomes.{stops, goes, fails, passes, both_accept, test_accepts}
use Rattle.tables.specs.declared.refusal.Reason.TheVariants.{WrongForm, SignalsDiffer, SizeDiffers, ShortBuffer}
use Rattle.tables.specs.declared.refusal.Outcome.{Outcome}
use Rattle.tables.specs.declared.refusal.Outcome.TheVariants.{Accepted}
use Rattle.tables.specs.declared.row.NormalForm.{NormalForm}
use Rattle.text.specs.Digits.{are_digits}
use Rattle.tables.proofs.Choices.{clash}
use Rattle.monitors.specs.State.{state_size}
use Rattle.step.specs.Fitting.{Fitting}
use Rattle.step.specs.Step.{form_outcome, output_size}

both_on : (a b : Bool) → a && b ≡ true → (a ≡ true) × (b ≡ true)
both_on true b e = (refl, e)
both_on false b e = clash (cc)

module _ (g : NormalForm) (p a s : List ℕ) (room : ℕ) where
  abbrev counted : Bool
  counted = eqb (length s) g.signals

  abbrev sized : Bool
  sized = eqb (length p) (state_size g.rows) && eqb (length a) g.rows

  -- the test of the sizes with the one that was computed
  pub measured : {size : ℕ} {b : Bool} → size ≡ state_size g.rows → (eqb (length p) size && eqb (length a) g.rows) ≡ b → sized ≡ b
  measured e t = sym (ap (λ n. eqb (length p) n && eqb (length a) g.rows) e) ∙ t

  -- the checks from each on
  abbrev FromRoom : Outcome
  FromRoom = pick (leb (output_size g.rows) room) Accepted (call_refused ShortBuffer)

  abbrev FromSizes : Outcome
  FromSizes = and_then (pick sized Accepted (call_refused SizeDiffers)) FromRoom

  abbrev FromSignals : Outcome
  FromSignals = and_then (pick counted Accepted (call_refused SignalsDiffer)) FromSizes

  module _ {x y z : Bool} (ep : x ≡ are_digits p) (ea : y ≡ are_digits a) (es : z ≡ are_digits s) where
    digits : ((x && y) && z) ≡ ((are_digits p && are_digits a) && are_digits s)
    digits = ap₂ (λ u v. u && v) (ap₂ (λ u v. u && v) ep ea) es

    pub other_byte : ((x && y) && z) ≡ false → call_refused WrongForm ≡ form_outcome g p a s room
    other_byte n = stops FromSignals (fails WrongForm (sym digits ∙ n)) refl

    module _ (d : ((x && y) && z) ≡ true) where
      from_signals : FromSignals ≡ form_outcome g p a s room
      from_signals = goes FromSignals (passes WrongForm (sym digits ∙ d)) refl

      pub other_signals : ¬ (length s ≡ g.signals) → call_refused SignalsDiffer ≡ form_outcome g p a s room
      other_signals n = stops FromSizes (fails SignalsDiffer (ne_eqb (length s) g.signals n)) refl ∙ from_signals

      module _ (e : length s ≡ g.signals) where
        from_sizes : FromSizes ≡ form_outcome g p a s room
        from_sizes = goes FromSizes (passes SignalsDiffer (eq-eqb (length s) g.signals e)) refl ∙ from_signals

        pub other_sizes : sized ≡ false → call_refused SizeDiffers ≡ form_outcome g p a s room
        other_sizes n = stops FromRoom (fails SizeDiffers n) refl ∙ from_sizes

        module _ (m : sized ≡ true) where
          from_room : FromRoom ≡ form_outcome g p a s room
          from_room = goes FromRoom (passes SizeDiffers m) refl ∙ from_sizes

          pub too_short_lem : room < output_size g.rows → call_refused ShortBuffer ≡ form_outcome g p a s room
          too_short_lem l = fails ShortBuffer (lt-leb (output_size g.rows) room l) ∙ from_room

          pub all_right : output_size g.rows ≤ room → Accepted ≡ form_outcome g p a s room
          all_right l = passes ShortBuffer (le-leb (output_size g.rows) room l) ∙ from_room

  -- A CALL THAT IS ACCEPTED FITS THE NORMAL FORM
  pub accepted_fits : form_outcome g p a s room ≡ Accepted → Fitting g p a s room
  accepted_fits e =
      let x = both_accept (pick ((are_digits p && are_digits a) && are_digits s) Accepted (call_refused WrongForm)) FromSignals e in
      let y = both_accept (pick counted Accepted (call_refused SignalsDiffer)) FromSizes x.1 in
      let z = both_accept (pick sized Accepted (call_refused SizeDiffers)) FromRoom y.1 in
      let sizes = both_on (eqb (length p) (state_size g.rows)) (eqb (length a) g.rows) (test_accepts SizeDiffers _ z.0) in
      record {
        signals_agree = eqb-true (length s) g.signals (test_accepts SignalsDiffer _ y.0);
        state_agrees = eqb-true (length p) (state_size g.rows) sizes.0;
        activators_agree = eqb-true (length a) g.rows sizes.1;
        enough = leb-true (output_size g.rows) room (test_accepts ShortBuffer _ z.1);
      }
