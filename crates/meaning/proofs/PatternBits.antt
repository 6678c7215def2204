-- What is computed for a row from the bits of its operands (rowBit), and that it is what the pattern says where the operands' bits are
-- their truth, in any reading. Until and weak until are computed to a depth (Streams). Assumes nothing.
use Prim.Native.Nat.{ℕ, suc, ◌+◌, ◌*◌, ◌-◌, ◌≤◌, ◌<◌}
use mathlib.Core.Path.{◌≡◌, refl, sym, ap, ap₂, ◌∙◌}
use mathlib.Core.Logic.{◌↔◌, ◌⊎◌, inl, inr}
use mathlib.Core.Bool.{Bool, true, false, ◌&&◌, ◌||◌, true≢false}
use native.Mathlib.Omega.{arith}
use Rattle.tables.specs.declared.row.Row.{Row}
use Rattle.meaning.specs.Reading.{Reading, Either}
use Rattle.meaning.specs.Operator.{Until, Always}
use Rattle.meaning.specs.Trace.{InfiniteTrace}
use Rattle.meaning.specs.Pattern.{Pattern, Pattern.now, Pattern.next, Pattern.connective, Pattern.temporal, left, right, pattern_of}
use Rattle.meaning.specs.Pattern.{keep_bit, goal_bit, connective_bit, keep_bits, goal_bits, signed_bit, operand_bits}
use Rattle.meaning.specs.Nesting.{delay}
use Rattle.meaning.specs.Approximant.{approximant}
use Rattle.meaning.proofs.Readings.{On, on_and_off, on_from}
use Rattle.meaning.proofs.Periodic.{Periodic}
use Rattle.meaning.proofs.Streams.{approximant_is, approximant_periodic, Reached, KeptForever}
use Rattle.meaning.proofs.Pattern.{Keep, Goal, Keeps, Goals, Connective, Temporal, Holds, Signed}

-- ---- the bits

-- depth: how many cycles to look ahead from each cycle
module _ (depth : ℕ → ℕ) (p q : ℕ → Bool) where
  abbrev pub pattern_bit : Pattern → ℕ → Bool
  pattern_bit now i = q i
  pattern_bit next i = q (suc i)
  pattern_bit (connective f) i = connective_bit f (p i) (q i)
  pattern_bit (temporal f w) i = approximant (keep_bits f p q) (goal_bits f p q) w (depth i) i

abbrev pub row_bit : InfiniteTrace → (ℕ → ℕ) → (ℕ → ℕ → Bool) → Row → ℕ → Bool
row_bit w depth bits r i = pattern_bit depth (operand_bits w bits (left r)) (operand_bits w bits (right r)) (pattern_of r) i

-- ---- they are what the pattern says

pub and_iff : {A B : Type 0} (a b : Bool) → A ↔ On a → B ↔ On b → (A × B) ↔ On (a && b)
and_iff true b e f = (λ x. f.0 x.1, λ x. (e.1 refl, f.1 x))
and_iff false b e f = (λ x. e.0 x.0, λ x. on_and_off x refl)

pub keep_iff : {A B : Type 0} (f a b : Bool) → A ↔ On a → B ↔ On b → Keep f A B ↔ On (keep_bit f a b)
keep_iff true a b x y = x
keep_iff false a b x y = y

pub goal_iff : {A B : Type 0} (f a b : Bool) → A ↔ On a → B ↔ On b → Goal f A B ↔ On (goal_bit f a b)
goal_iff true a b x y = y
goal_iff false a b x y = and_iff a b x y

pub signed_iff : {A : Type 0} (s b : Bool) → A ↔ On b → Signed s A ↔ On (signed_bit s b)
signed_iff true b e = e
signed_iff false true e = (λ n. absurd (n (e.1 refl)), λ x. on_and_off x refl)
signed_iff false false e = (λ _. refl, λ _ x. true≢false (sym (e.0 x)))

pub signal_iff : (s b : Bool) → (b ≡ s) ↔ On (signed_bit s b)
signal_iff true b = (λ x. x, λ x. x)
signal_iff false true = (λ e. sym e, λ e. sym e)
signal_iff false false = (λ e. refl, λ e. refl)

module _ (R : Reading) where
  or_iff : {A B : Type 0} (a b : Bool) → A ↔ On a → B ↔ On b → Either R A B ↔ On (a || b)
  or_iff {A} {B} true b e f = (λ x. refl, λ x. R.unit (inl (e.1 refl)))
  or_iff {A} {B} false b e f = (λ m. on_from R m out, λ x. R.unit (inr (f.1 x)))
    where
      out : A ⊎ B → On b
      out (inl x) = on_and_off (e.0 x) refl
      out (inr x) = f.0 x

  pub connective_iff : {A B : Type 0} (f a b : Bool) → A ↔ On a → B ↔ On b → Connective R f A B ↔ On (connective_bit f a b)
  connective_iff true a b x y = or_iff a b x y
  connective_iff false a b x y = and_iff a b x y

  module _ (K G : ℕ → Type 0) (k g : ℕ → Bool) (ik : (j : ℕ) → K j ↔ On (k j)) (ig : (j : ℕ) → G j ↔ On (g j))
      (N b : ℕ) (N>0 : 0 < N) (kp : Periodic N b k) (gp : Periodic N b g) (i d : ℕ) (enough : (b - i) + N ≤ d) where
    temporal_iff : (w : Bool) → Temporal R w K G i ↔ On (approximant k g w d i)
    temporal_iff w = (λ m. out w m, λ e. into w ((approximant_is k g N b N>0 kp gp w d i enough).0 e))
      where
        until : (w : Bool) → Until R K G i → On (approximant k g w d i)
        until w m = on_from R m (λ x. (approximant_is k g N b N>0 kp gp w d i enough).1
            (inl (x.0, x.1.0, (ig x.0).0 x.1.1, λ c l h. (ik c).0 (x.1.2 c l h))))

        out : (w : Bool) → Temporal R w K G i → On (approximant k g w d i)
        out false m = until false m
        out true m = on_from R m side
          where
            side : Until R K G i ⊎ Always K i → On (approximant k g true d i)
            side (inl u) = until true u
            side (inr h) = (approximant_is k g N b N>0 kp gp true d i enough).1 (inr (refl, λ j l. (ik j).0 (h j l)))

        met : Reached k g i → Until R K G i
        met f = R.unit (f.0, (f.1, (ig f.0).1 f.2, λ c l h. (ik c).1 (f.3 c l h)))

        into : (w : Bool) → Reached k g i ⊎ (On w × KeptForever k g i) → Temporal R w K G i
        into true (inl f) = R.unit (inl (met f))
        into true (inr x) = R.unit (inr (λ j l. (ik j).1 (x.1 j l)))
        into false (inl f) = met f
        into false (inr x) = on_and_off x.0 refl

-- ---- where the operands' bits are periodic

module _ (N b : ℕ) (N>0 : 0 < N) (depth : ℕ → ℕ) (enough : (i : ℕ) → (b - i) + N ≤ depth i) (p q : ℕ → Bool) (pp : Periodic N b p) (qp : Periodic N b q) where
  at_once : (x : ℕ → Bool) → Periodic N b x → Periodic N (b + 0 * N) x
  at_once x xp i h = xp i (omega arith)

  -- the row's own bits are, as many rounds later as it delays
  pub pattern_bit_periodic : (x : Pattern) → Periodic N (b + delay x * N) (pattern_bit depth p q x)
  pattern_bit_periodic now = at_once q qp
  pattern_bit_periodic next = at_once (λ i. q (suc i))
      (λ i h. let e : suc (i + N) ≡ suc i + N = omega arith in ap q e ∙ qp (suc i) (omega arith))
  pattern_bit_periodic (connective f) = at_once (λ i. connective_bit f (p i) (q i)) (λ i h. ap₂ (connective_bit f) (pp i h) (qp i h))
  pattern_bit_periodic (temporal f w) = at_once (λ i. approximant (keep_bits f p q) (goal_bits f p q) w (depth i) i)
      (approximant_periodic (keep_bits f p q) (goal_bits f p q) N b N>0
      (λ i h. ap₂ (keep_bit f) (pp i h) (qp i h)) (λ i h. ap₂ (goal_bit f) (pp i h) (qp i h)) w depth enough)

  module _ (R : Reading) (P Q : ℕ → Type 0) (isP : (j : ℕ) → P j ↔ On (p j)) (isQ : (j : ℕ) → Q j ↔ On (q j)) where
    pub pattern_bit_is : (x : Pattern) (i : ℕ) → Holds R P Q x i ↔ On (pattern_bit depth p q x i)
    pattern_bit_is now i = isQ i
    pattern_bit_is next i = isQ (suc i)
    pattern_bit_is (connective f) i = connective_iff R f (p i) (q i) (isP i) (isQ i)
    pattern_bit_is (temporal f w) i = temporal_iff R (Keeps f P Q) (Goals f P Q) (keep_bits f p q) (goal_bits f p q)
        (λ j. keep_iff f (p j) (q j) (isP j) (isQ j)) (λ j. goal_iff f (p j) (q j) (isP j) (isQ j)) N b N>0
        (λ j h. ap₂ (keep_bit f) (pp j h) (qp j h)) (λ j h. ap₂ (goal_bit f) (pp j h) (qp j h)) i (depth i) (enough i) w
