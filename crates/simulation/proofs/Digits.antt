-- Digits that are handed to the simulator are taken, and say what they were written from. Assumes nothing.
use Prim.Native.Nat.{ℕ, ◌<◌}
use mathlib.Core.Path.{◌≡◌, refl, ap, ◌∙◌}
use mathlib.Core.Bool.{Bool, true, false}
use lib.Dec.{eqb}
use lib.ListN.{length, get_or}
use borrow.Author.Tests.{eq-eqb}
use Rattle.tables.specs.Choice.{pick}
use Rattle.tables.specs.Place.{tabulate}
use Rattle.tables.specs.declared.refusal.Outcome.TheVariants.{Accepted}
use Rattle.tables.proofs.Places.{length_tabulate, get_d_tabulate, map_tabulate}
use Rattle.text.proofs.Laws.{are_written, text_length}
use Rattle.simulator.specs.Simulation.{digits_outcome}
use Rattle.text.specs.Digits.{value_at}
use Rattle.simulation.specs.FromZero.{digits_up_to}

pub digits_size : (n : ℕ) (x : ℕ → Bool) → length (digits_up_to n x) ≡ n
digits_size n x = text_length (tabulate n x) ∙ length_tabulate n 0 x

says : (b : Bool) → eqb (pick b 49 48) 49 ≡ b
says true = refl
says false = refl

pub digit_there : (n : ℕ) (x : ℕ → Bool) (k : ℕ) → k < n → value_at (digits_up_to n x) k ≡ x k
digit_there n x k h =
    ap (λ ds. eqb (get_or ds k 0) 49) (map_tabulate (λ b. pick {A = ℕ} b 49 48) n x)
    ∙ (ap (λ d. eqb d 49) (get_d_tabulate n (λ i. pick {A = ℕ} (x i) 49 48) k 0 h) ∙ says (x k))

pub digits_taken : (i l : ℕ) (x y : ℕ → Bool) → digits_outcome i l (digits_up_to i x) (digits_up_to l y) ≡ Accepted
digits_taken i l x y =
    rw (are_written (tabulate i x), are_written (tabulate l y), eq-eqb (length (digits_up_to i x)) i (digits_size i x), eq-eqb (length (digits_up_to l y)) l (digits_size l y)) refl
