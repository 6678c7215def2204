-- What an answered call of a writing service left in the lent buffer. Assumes nothing.
use Prim.Native.Nat.{ℕ}
use mathlib.Core.Path.{◌≡◌, refl}
use mathlib.Core.Bool.{Bool, true, false}
use mathlib.Core.List.{List, ◌++◌}
use lib.Dec.{leb}
use lib.ListN.{length, take, drop}
use lib.Seq.{take-append_seam}
use Rattle.tables.specs.Choice.{pick}
use Rattle.tables.specs.Refusal.{on_outcome}
use Rattle.tables.specs.declared.refusal.Outcome.{Outcome}
use Rattle.tables.specs.declared.refusal.Outcome.TheVariants.{Accepted, Refused}
use Rattle.tables.proofs.Choices.{clash}
use Rattle.writing.specs.declared.answer.Bytes.TheVariants.{Count, Refused as BytesRefused}
use Rattle.writing.specs.Answer.{too_short, written_answer}
use Rattle.writing.specs.Lent.{overlaid}

-- so many bytes as it answered are the text, and the table was accepted
pub answered_text : (o : Outcome) (text buf : List ℕ) (n : ℕ) → on_outcome o BytesRefused (written_answer text buf) ≡ Count n
    → (o ≡ Accepted) × (take n (on_outcome o (λ r. buf) (overlaid text buf)) ≡ text)
unfolding overlaid
answered_text (Refused r) text buf n e = clash (cc)
answered_text Accepted text buf n e = (refl, by (leb (length text) (length buf)) e)
  where
    by : (t : Bool) → pick t (Count (length text)) (BytesRefused too_short) ≡ Count n → take n (pick t (text ++ drop (length text) buf) buf) ≡ text
    by true q = let z : length text ≡ n = cc in rw (← z) (take-append_seam text (drop (length text) buf))
    by false q = clash (cc)
