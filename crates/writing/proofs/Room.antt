-- What a writer answers, by how much room it is lent (of too little: `short_delivers`). Assumes nothing.
use Prim.Native.Nat.{ℕ, ◌≤◌, ◌<◌}
use mathlib.Core.Path.{◌≡◌, refl, sym}
use mathlib.Core.List.{List, append-nil}
use native.Mathlib.Decide.{dec_lt}
use native.Mathlib.Omega.{arith}
use lib.ListN.{length}
use lib.Seq.{drop-length}
use borrow.Author.Tests.{le-leb}
use Rattle.tables.specs.declared.refusal.Refusal.{Refusal}
use Rattle.tables.proofs.Choices.{clash, know}
use Rattle.writing.specs.declared.answer.Bytes.TheVariants.{Count, Refused}
use Rattle.writing.specs.Answer.{too_short, written_answer}
use Rattle.writing.specs.Lent.{overlaid}
use Rattle.writing.proofs.Answers.{short_delivers}

module _ (out buf : List ℕ) where
  pub room_enough : length out ≤ length buf → written_answer out buf ≡ Count (length out)
  room_enough h = rw (le-leb (length out) (length buf) h) refl

  -- a refusal is 10, and given only where the buffer is shorter
  pub refused_short : {why : Refusal} → written_answer out buf ≡ Refused why → (why ≡ too_short) × (length buf < length out)
  refused_short {why} e = by (dec_lt (length buf) (length out))
    where
      by : Dec (length buf < length out) → (why ≡ too_short) × (length buf < length out)
      by (yes h) = let q = know e (sym (short_delivers {text = out} {before = buf} h).answered) in (cc, h)
      by (no h) = let q = know e (room_enough (omega arith)) in clash (cc)

  -- a buffer of the output's length holds the output, and nothing else
  pub room_exact : length buf ≡ length out → overlaid out buf ≡ out
  unfolding overlaid
  room_exact e = rw (le-leb (length out) (length buf) (omega arith), ← e, drop-length buf) (append-nil out)

  -- a length is the output's
  pub written_length : {n : ℕ} → written_answer out buf ≡ Count n → n ≡ length out
  written_length {n} e = by (dec_lt (length buf) (length out))
    where
      by : Dec (length buf < length out) → n ≡ length out
      by (yes h) = let q = know e (sym (short_delivers {text = out} {before = buf} h).answered) in clash (cc)
      by (no h) = let q = know e (room_enough (omega arith)) in cc
