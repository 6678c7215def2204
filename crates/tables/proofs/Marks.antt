-- A lane that gets its bits one after the other. Assumes nothing.
use mathlib.Core.Path.{◌≡◌, refl, sym, ap, ◌∙◌}
use mathlib.Core.Bool.{Bool, true, false}
use Prim.Native.Nat.{ℕ, zero, suc, ◌+◌, ◌*◌, ◌/◌, ◌%◌, ◌^◌, ◌<◌}
use native.Mathlib.Decide.{ℕ_discrete}
use lib.Dec.{eqb}
use lib.ListN.{get_or, replicate}
use borrow.Author.Tests.{eq-eqb, ne_eqb}
use Rattle.tables.specs.Choice.{pick}
use Rattle.tables.specs.Bit.{word_from, lane_of, marked}
use Rattle.tables.proofs.Places.{tabulate_ext, replicate_tabulate}
use Rattle.tables.proofs.Bits.{lane_ext, mark_room, lane_marked}

word_none : (n k : ℕ) → word_from n k (λ i. false) ≡ 0
unfolding word_from
word_none zero k = refl
word_none (suc n) k = rw (word_none n (suc k))

-- the lane that the code begins with has no bit
pub lane_none : lane_of (λ c. false) ≡ record { words = replicate 4 0 }
unfolding lane_of
lane_none = ap (λ ws. record { words = ws }) (tabulate_ext 4 (λ i. word_from 64 (i * 64) (λ c. false)) (λ i. 0) (λ i h. word_none 64 (i * 64)) ∙ sym (replicate_tabulate 4 0 0))

module _ (f : ℕ → Bool) (c : ℕ) (h : c < 256) (unset : f c ≡ false) where
  -- a bit that is not set has room
  pub bit_room : get_or (lane_of f).words (c / 64) 0 + 2 ^ (c % 64) < 2 ^ 64
  bit_room =
      mark_room {f = f} {g = λ i. pick (eqb i c) true (f i)} {c = c}
      (record { was = unset; is = rw (eq-eqb c c refl); other = λ i n. rw (ne_eqb i c n) }) h

  -- the next digit: its bit is set where the digit is 1
  pub lane_digit : (g : ℕ → Bool) → ((i : ℕ) → (i ≡ c → ⊥) → g i ≡ f i) → pick (g c) (marked (lane_of f) c) (lane_of f) ≡ lane_of g
  lane_digit g other = by (g c) refl
    where
      same : g c ≡ false → (i : ℕ) → Dec (i ≡ c) → f i ≡ g i
      same e i (yes q) = rw q (unset ∙ sym e)
      same e i (no n) = sym (other i n)

      by : (b : Bool) → g c ≡ b → pick b (marked (lane_of f) c) (lane_of f) ≡ lane_of g
      by true e = lane_marked (record { was = unset; is = e; other = other }) h
      by false e = lane_ext f g (λ i l. same e i (ℕ_discrete i c))
