-- The lanes of until and next over an open take. Assumes nothing.
use Prim.Native.Nat.{ℕ, suc, ◌-◌, ◌≤◌, ◌<◌}
use mathlib.Core.Path.{◌≡◌, sym, ◌∙◌}
use mathlib.Core.Bool.{Bool, false}
use native.Mathlib.Decide.{dec_lt}
use native.Mathlib.Omega.{arith}
use lib.Dec.{ltb}
use borrow.Author.Tests.{lt-ltb, le-ltb}
use Rattle.tables.specs.Bit.{lane_of}
use Rattle.tables.specs.declared.trace.Lane.{Lane}
use Rattle.tables.proofs.Bits.{lane_ext}
use Rattle.meaning.specs.Approximant.{approximant}
use Rattle.meaning.proofs.Streams.{approximant_local}
use Rattle.lanes.specs.Truth.{Shows}
use Rattle.lanes.proofs.Recordings.{recording_carry}
use Rattle.lanes.proofs.Shown.{cut, cut_same, cut_ends, shows_alike}
use Rattle.row_lanes.specs.Pass.{until_pass, next_pass}
use Rattle.row_lanes.proofs.RowLanes.{and_off}

module _ (n : ℕ) (most : n ≤ 256) where
  -- what lane::carry promises
  abbrev Carried : Lane → Lane → Lane → Type 0
  Carried keep goal r = (k g : ℕ → Bool) → keep ≡ lane_of k → goal ≡ lane_of g → r ≡ lane_of (λ i. approximant k g false (256 - i) i)

  -- keep and goal end with the take, so what they are behind it does not count
  pub carry_shown : (k g : ℕ → Bool) {keep goal r : Lane} → Carried keep goal r → Shows n keep k → Shows n goal g → Shows n r (until_pass n k g)
  carry_shown k g c s t =
      c (cut n k) (cut n g) s t
      ∙ recording_carry n most (cut n k) (cut n g) (cut_ends n k) (cut_ends n g)
      ∙ shows_alike n _ _ (λ i h. approximant_local (cut n k) (cut n g) k g false (n - i) i (λ j a b. (cut_same n k j (omega arith), cut_same n g j (omega arith))))

  -- what lane::next promises
  abbrev Later : Lane → Lane → Type 0
  Later lane r = (f : ℕ → Bool) → f 256 ≡ false → lane ≡ lane_of f → r ≡ lane_of (λ i. f (suc i))

  pub next_shown : (q : ℕ → Bool) {lane r : Lane} → Later lane r → Shows n lane q → Shows n r (next_pass n q)
  next_shown q l s = l (cut n q) (cut_ends n q 256 most) s ∙ lane_ext _ _ (λ i h. by i (dec_lt (suc i) n))
    where
      by : (i : ℕ) → Dec (suc i < n) → cut n q (suc i) ≡ cut n (next_pass n q) i
      by i (yes h) = rw (lt-ltb i n (omega arith), lt-ltb (suc i) n h)
      by i (no h) = rw (le-ltb (suc i) n (omega arith)) (sym (and_off (ltb i n)))
