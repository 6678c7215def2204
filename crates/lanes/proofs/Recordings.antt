-- Carrying over a recording of n cycles: where keep and goal end with it, nothing comes from behind. Assumes nothing.
use Prim.Native.Nat.{ℕ, ◌+◌, ◌-◌, ◌≤◌, ◌<◌}
use mathlib.Core.Path.{◌≡◌, sym, ap, ◌∙◌}
use mathlib.Core.Bool.{Bool, false, ◌&&◌}
use native.Mathlib.Decide.{dec_lt}
use native.Mathlib.Omega.{arith}
use lib.Dec.{ltb}
use borrow.Author.Tests.{lt-ltb, le-ltb}
use Rattle.tables.specs.Bit.{lane_of}
use Rattle.tables.proofs.Bits.{lane_ext}
use Rattle.meaning.specs.Approximant.{approximant}
use Rattle.meaning.proofs.Streams.{approximant_split}
use Rattle.lanes.specs.Word.{Ends}
use Rattle.lanes.proofs.Stretches.{goal_ends}

module _ (n : ℕ) (most : n ≤ 256) (k g : ℕ → Bool) (ke : Ends n k) (ge : Ends n g) where
  pub recording_carry : lane_of (λ i. approximant k g false (256 - i) i) ≡ lane_of (λ i. ltb i n && approximant k g false (n - i) i)
  recording_carry = lane_ext _ _ (λ i h. by i h (dec_lt i n))
    where
      by : (i : ℕ) → i < 256 → Dec (i < n) → approximant k g false (256 - i) i ≡ (ltb i n && approximant k g false (n - i) i)
      by i h (yes l) =
          let d : n - i + (256 - n) ≡ 256 - i = omega arith in
          ap (λ m. approximant k g false m i) (sym d)
          ∙ approximant_split k g false (n - i) (256 - n) i
          ∙ ap (λ x. approximant k g x (n - i) i) (goal_ends n k g ke ge (256 - n) (i + (n - i)) (omega arith))
          ∙ sym (ap (λ t. t && approximant k g false (n - i) i) (lt-ltb i n l))
      by i h (no l) = goal_ends n k g ke ge (256 - i) i (omega arith) ∙ sym (ap (λ t. t && approximant k g false (n - i) i) (le-ltb i n (omega arith)))
