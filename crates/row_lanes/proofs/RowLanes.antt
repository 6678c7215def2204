-- The lanes of rows by their kinds, from those of the operations on lanes. Assumes nothing.
use Prim.Native.Nat.{ℕ}
use mathlib.Core.Path.{◌≡◌, refl, sym, ap, ◌∙◌}
use mathlib.Core.Bool.{Bool, true, false, not, ◌&&◌, ◌||◌}
use lib.Dec.{ltb}
use Rattle.tables.specs.Bit.{bit_at, lane_of}
use Rattle.tables.specs.declared.trace.Lane.{Lane}
use Rattle.tables.proofs.Bits.{lane_ext}
use Rattle.lanes.specs.Truth.{Shows}
use Rattle.lanes.proofs.Masks.{known_masked}
use Rattle.lanes.proofs.Shown.{cut, cut_same, shows_alike}

pub and_off : (b : Bool) → (b && false) ≡ false
and_off true = refl
and_off false = refl

and_on : (b : Bool) → (b && true) ≡ b
and_on true = refl
and_on false = refl

module _ (n : ℕ) where
  -- every cycle, and none
  pub all_shown : (lane : Lane) → lane ≡ lane_of (λ i. ltb i n) → Shows n lane (λ i. true)
  all_shown lane e = e ∙ lane_ext _ _ (λ i h. sym (and_on (ltb i n)))

  pub none_shown : (lane : Lane) → lane ≡ lane_of (λ i. false) → Shows n lane (λ i. false)
  none_shown lane e = e ∙ lane_ext _ _ (λ i h. sym (and_off (ltb i n)))

  and_swap : (x y : Bool) → (x && y) ≡ (y && x)
  and_swap true true = refl
  and_swap true false = refl
  and_swap false true = refl
  and_swap false false = refl

  -- any lane, at the cycles alone
  pub signal_shown : (lane r : Lane) → r ≡ lane_of (λ i. bit_at lane i && ltb i n) → Shows n r (bit_at lane)
  signal_shown lane r e = e ∙ lane_ext _ _ (λ i h. and_swap (bit_at lane i) (ltb i n))

  module _ (q : ℕ → Bool) where
    pub not_shown : lane_of (λ i. ltb i n && not (cut n q i)) ≡ lane_of (cut n (λ i. not (q i)))
    not_shown = shows_alike n (λ i. not (cut n q i)) (λ i. not (q i)) (λ i h. ap not (cut_same n q i h))

  either_cut : (b x y : Bool) → ((b && x) || (b && y)) ≡ (b && (x || y))
  either_cut true x y = refl
  either_cut false x y = refl

  both_cut : (b x y : Bool) → ((b && x) && (b && y)) ≡ (b && (x && y))
  both_cut true x y = refl
  both_cut false x y = refl

  module _ (p q : ℕ → Bool) where
    pub either_shown : lane_of (λ i. cut n p i || cut n q i) ≡ lane_of (cut n (λ i. p i || q i))
    either_shown = lane_ext _ _ (λ i h. either_cut (ltb i n) (p i) (q i))

    pub both_shown : (a : Lane) → Shows n a p → lane_of (λ i. bit_at a i && cut n q i) ≡ lane_of (cut n (λ i. p i && q i))
    both_shown a s = known_masked a (cut n p) (cut n q) s ∙ lane_ext _ _ (λ i h. both_cut (ltb i n) (p i) (q i))
