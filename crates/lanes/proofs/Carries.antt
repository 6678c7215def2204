-- One word of an expansion of until, from what holds behind the word. Assumes nothing.
use Prim.Native.Nat.{ℕ, suc, ◌+◌, ◌-◌, ◌^◌, ◌≤◌, ◌<◌}
use mathlib.Core.Path.{◌≡◌, refl, sym, ap, ◌∙◌}
use mathlib.Core.Bool.{Bool, true, false, ◌&&◌, ◌||◌}
use native.Mathlib.Omega.{arith}
use lib.Dec.{eqb}
use lib.Bits.{bit_and, bit_or}
use borrow.Author.Tests.{lt-ltb}
use Rattle.tables.specs.Choice.{pick}
use Rattle.tables.specs.Bit.{word_from}
use Rattle.tables.proofs.Bits.{word_ext}
use Rattle.meaning.specs.Approximant.{approximant}
use Rattle.lanes.specs.Word.{Ends}
use Rattle.lanes.proofs.Words.{word_and, word_or, word_last}
use Rattle.lanes.proofs.Windows.{keep_to, goal_to, keep_to_ends, goal_to_ends, window}

no_more : (a b : Bool) → b ≡ (b || (a && false))
no_more a true = refl
no_more true false = refl
no_more false false = refl

-- what carry_back promises
abbrev Carried : ℕ → ℕ → ℕ → Type 0
Carried keep goal r =
    (b : ℕ) (k g : ℕ → Bool) → Ends (b + 64) k → Ends (b + 64) g → keep ≡ word_from 64 b k → goal ≡ word_from 64 b g → r ≡ word_from 64 b (approximant k g false 64)

module _ (b : ℕ) (k g : ℕ → Bool) (keep goal : ℕ) (ke : keep ≡ word_from 64 b k) (ge : goal ≡ word_from 64 b g) where
  keep_there : (x : Bool) → keep ≡ word_from 64 b (keep_to (b + 64) k g x)
  keep_there x = ke ∙ word_ext 64 b k (keep_to (b + 64) k g x) (λ i p q. sym (ap (λ t. t && k i) (lt-ltb i (b + 64) q)))

  carried : (x : Bool) (word r : ℕ) → word ≡ word_from 64 b (goal_to (b + 64) k g x) → Carried keep word r → r ≡ word_from 64 b (λ i. approximant k g x (b + 64 - i) i)
  carried x word r p c =
      c b (keep_to (b + 64) k g x) (goal_to (b + 64) k g x) (keep_to_ends (b + 64) k g x) (goal_to_ends (b + 64) k g x) (keep_there x) p
      ∙ word_ext 64 b (approximant (keep_to (b + 64) k g x) (goal_to (b + 64) k g x) false 64) (λ i. approximant k g x (b + 64 - i) i) same
    where
      same : (i : ℕ) → b ≤ i → i < b + 64 → approximant (keep_to (b + 64) k g x) (goal_to (b + 64) k g x) false 64 i ≡ approximant k g x (b + 64 - i) i
      same i l h =
          let d : suc (b + 63 - i) + (i - b) ≡ 64 = omega arith in
          let n : suc (b + 63 - i) ≡ b + 64 - i = omega arith in
          ap (λ m. approximant (keep_to (b + 64) k g x) (goal_to (b + 64) k g x) false m i) (sym d)
          ∙ window (b + 64) k g x (b + 63 - i) (i - b) i (omega arith)
          ∙ ap (λ m. approximant k g x m i) n

  -- nothing holds behind the word
  carried_off : (r : ℕ) → Carried keep goal r → r ≡ word_from 64 b (λ i. approximant k g false (b + 64 - i) i)
  carried_off r = carried false goal r (ge ∙ word_ext 64 b g (goal_to (b + 64) k g false) (λ i p q. no_more (k i) (g i) ∙ sym (ap (λ t. t && (g i || (k i && false))) (lt-ltb i (b + 64) q))))

  -- it does
  carried_on : (r : ℕ) → Carried keep (bit_or goal (bit_and keep (2 ^ 63))) r → r ≡ word_from 64 b (λ i. approximant k g true (b + 64 - i) i)
  carried_on r = carried true (bit_or goal (bit_and keep (2 ^ 63))) r (
      rw (ke, ge, ← word_last 63 b, word_and 64 b k (λ i. eqb (suc i) (b + 64)), word_or 64 b g (λ i. k i && eqb (suc i) (b + 64)))
      (word_ext 64 b (λ i. g i || (k i && eqb (suc i) (b + 64))) (goal_to (b + 64) k g true) (λ i p q. sym (ap (λ t. t && (g i || (k i && eqb (suc i) (b + 64)))) (lt-ltb i (b + 64) q))))
      )

  -- the bit there says which
  pub carried_bit_on : (x : Bool) (bit : ℕ) → bit ≡ pick x 1 0 → bit ≡ 1 → (r : ℕ) → Carried keep (bit_or goal (bit_and keep (2 ^ 63))) r → r ≡ word_from 64 b (λ i. approximant k g x (b + 64 - i) i)
  carried_bit_on true bit e one r c = carried_on r c
  carried_bit_on false bit e one r c = absurd (omega arith)

  pub carried_bit_off : (x : Bool) (bit : ℕ) → bit ≡ pick x 1 0 → (bit ≡ 1 → ⊥) → (r : ℕ) → Carried keep goal r → r ≡ word_from 64 b (λ i. approximant k g x (b + 64 - i) i)
  carried_bit_off true bit e other r c = absurd (other e)
  carried_bit_off false bit e other r c = carried_off r c
