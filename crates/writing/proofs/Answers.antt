-- Delivery, in place and from a text that is ready, and that what is printed is fixed where its text is. Assumes nothing.
use Prim.Native.Nat.{ℕ, ◌+◌, ◌≤◌, ◌<◌}
use mathlib.Core.Path.{◌≡◌, refl, sym, subst, subst⁻¹, ◌∙◌}
use mathlib.Core.List.{List}
use native.Mathlib.Omega.{arith}
use lib.ListN.{length}
use borrow.Author.Tests.{le-leb, lt-leb}
use Rattle.tables.specs.Only.{TheOnlyPair}
use Rattle.tables.specs.declared.refusal.Outcome.{Outcome}
use Rattle.tables.specs.declared.refusal.Outcome.TheVariants.{Accepted, Refused as OutcomeRefused}
use Rattle.tables.specs.declared.refusal.Refusal.{Refusal}
use Rattle.writing.specs.declared.answer.Bytes.{Bytes}
use Rattle.writing.specs.declared.answer.Bytes.TheVariants.{Count, Refused}
use Rattle.writing.specs.Answer.{too_short, Delivers, Printed}
use Rattle.writing.specs.Lent.{Wrote}
use Rattle.writing.specs.Refusal.{refusal_text, Told}
use Rattle.writing.proofs.Texts.{overlaid_all, overlaid_none}

-- a text that was put at the start of a buffer that has room for it
pub wrote_delivers : {text before after : List ℕ} {n : ℕ} → length text ≤ length before → Wrote before 0 text after n → Delivers text before after (Count n)
wrote_delivers {text} {before} {after} {n} h w = record {
  answered = let e : n ≡ length text = w.next ∙ (let z : 0 + length text ≡ length text = omega arith in z) in rw (le-leb (length text) (length before) h, e) refl;
  left = overlaid_all text before after n h w;
}

-- one that has none
pub short_delivers : {text before : List ℕ} → length before < length text → Delivers text before before (Refused too_short)
short_delivers {text} {before} h = record { answered = rw (lt-leb (length text) (length before) h) refl; left = overlaid_none text before h }

pub delivers_is : {made text before after : List ℕ} {answer : Bytes} → made ≡ text → Delivers made before after answer → Delivers text before after answer
delivers_is {made} {text} {before} {after} {answer} e d = subst (λ x. Delivers x before after answer) e d

-- A DELIVERY IS FIXED BY ITS TEXT, and a print-out where there is one such text
pub delivered_once : {text before after other : List ℕ} {answer reply : Bytes} → Delivers text before after answer → Delivers text before other reply → (other ≡ after) × (reply ≡ answer)
delivered_once x y = (y.left ∙ sym x.left, y.answered ∙ sym x.answered)

pub only_printed : (IsText : List ℕ → Type 0) → ((s t : List ℕ) → IsText s → IsText t → s ≡ t) → (before after : List ℕ) (answer : Bytes)
    → Printed IsText before after answer → TheOnlyPair (Printed IsText before) after answer
only_printed IsText one before after answer x = record {
  so = x;
  only = λ other reply y. delivered_once x.delivered (delivers_is (one y.text x.text y.is_text x.is_text) y.delivered);
}

-- ---- the text of a refusal, or another
module _ (o : Outcome) (IsText : List ℕ → Type 0) {before after : List ℕ} {answer : Bytes} where
  pub told_refused : {why : Refusal} → o ≡ OutcomeRefused why → Delivers (refusal_text why) before after answer → Printed (Told o IsText) before after answer
  told_refused {why} e d = record { text = refusal_text why; is_text = subst⁻¹ (λ o. Told o IsText (refusal_text why)) e refl; delivered = d }

  pub told_accepted : (text : List ℕ) → o ≡ Accepted → IsText text → Delivers text before after answer → Printed (Told o IsText) before after answer
  told_accepted text e is d = record { text = text; is_text = subst⁻¹ (λ o. Told o IsText text) e is; delivered = d }
