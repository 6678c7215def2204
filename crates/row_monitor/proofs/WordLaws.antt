-- Words of 64 cycles: negation, one bit, any bit, and the words of a monitor's moves. Assumes nothing.
use Prim.Native.Nat.{ℕ, zero, suc, ◌+◌, ◌-◌, ◌*◌, ◌/◌, ◌%◌, ◌^◌, ◌<◌}
use mathlib.Core.Path.{◌≡◌, refl, sym, ap, ap₂, ◌∙◌}
use mathlib.Core.Bool.{Bool, true, false, not, ◌&&◌, ◌||◌}
use native.Mathlib.Omega.{arith}
use lib.Dec.{eqb}
use lib.Bits.{bit_and, bit_or}
use lib.ListN.{get_or}
use native.Mathlib.Decide.{ℕ_discrete}
use borrow.Author.Tests.{eq-eqb, ne_eqb}
use Rattle.std.proofs.lemmas.Nat.{and_mask}
use Rattle.std.proofs.Math.Bool.{and-true}
use Rattle.tables.specs.Choice.{pick}
use Rattle.tables.specs.Bit.{bit_at, word_from}
use Rattle.tables.specs.declared.row.Row.{Row}
use Rattle.tables.specs.declared.trace.Lane.{Lane}
use Rattle.tables.proofs.Bits.{word_ext}
use Rattle.lanes.proofs.Words.{word_odd, word_and, word_or, word_every, word_without}
use Rattle.lanes.proofs.Masks.{word_bit, word_masked}
use Rattle.meaning.specs.Approximant.{approximant}
use Rattle.row_monitor.specs.declared.word.Moves.{Moves}
use Rattle.row_monitor.specs.Word.{some, when_active, when_pending, MovesOf, dropped, held, failing, staying}

-- every bit
abbrev every : ℕ
every = 18446744073709551615

pub word_all : (b : ℕ) → every ≡ word_from 64 b (λ i. true)
word_all b = omega (arith, word_every 64 b)

pub word_none : (n b : ℕ) → 0 ≡ word_from n b (λ i. false)
unfolding word_from
word_none zero b = refl
word_none (suc n) b = rw (← word_none n (suc b))

pub word_not : (w b : ℕ) (f : ℕ → Bool) → w ≡ word_from 64 b f → every - w ≡ word_from 64 b (λ i. not (f i))
word_not w b f e = ap₂ (λ x y. x - y) (word_all b) (e ∙ sym (word_and 64 b (λ i. true) f)) ∙ word_without 64 b (λ i. true) f

pub word_first : (w b : ℕ) (f : ℕ → Bool) → w ≡ word_from 64 b f → eqb (w % 2) 1 ≡ f b
word_first w b f e = rw (e, word_odd 63 b f) (by (f b))
  where
    by : (x : Bool) → eqb (pick x 1 0) 1 ≡ x
    by true = refl
    by false = refl

some_on : (n b : ℕ) (f : ℕ → Bool) → not (eqb (word_from n b f) 0) ≡ some n b f
unfolding word_from some
some_on zero b f = refl
some_on (suc n) b f = by (f b) (some_on n (suc b) f)
  where
    by : (x : Bool) → not (eqb (word_from n (suc b) f) 0) ≡ some n (suc b) f → not (eqb (pick x 1 0 + 2 * word_from n (suc b) f) 0) ≡ (x || some n (suc b) f)
    by true e = rw (ne_eqb (1 + 2 * word_from n (suc b) f) 0 (λ q. omega arith))
    by false e = twice (ℕ_discrete (word_from n (suc b) f) 0)
      where
        twice : Dec (word_from n (suc b) f ≡ 0) → not (eqb (0 + 2 * word_from n (suc b) f) 0) ≡ some n (suc b) f
        twice (yes z) = ap not (eq-eqb (0 + 2 * word_from n (suc b) f) 0 (omega arith) ∙ sym (eq-eqb (word_from n (suc b) f) 0 z)) ∙ e
        twice (no z) = ap not (ne_eqb (0 + 2 * word_from n (suc b) f) 0 (λ q. z (omega arith)) ∙ sym (ne_eqb (word_from n (suc b) f) 0 z)) ∙ e

pub word_any : (w b : ℕ) (f : ℕ → Bool) → w ≡ word_from 64 b f → not (eqb w 0) ≡ some 64 b f
word_any w b f e = rw e (some_on 64 b f)

-- a word of the lane, by the lane's bits
pub word_of_lane : (l : Lane) (q : ℕ) → get_or l.words q 0 < 2 ^ 64 → get_or l.words q 0 ≡ word_from 64 (q * 64) (bit_at l)
unfolding bit_at
word_of_lane l q h =
    let whole : get_or l.words q 0 % 2 ^ 64 ≡ get_or l.words q 0 = omega arith in
    sym (and_mask (get_or l.words q 0) 64 ∙ whole) ∙ ap (bit_and (get_or l.words q 0)) (word_all (q * 64)) ∙ word_masked 64 (q * 64) (get_or l.words q 0) (λ i. true)
    ∙ word_ext 64 (q * 64) _ _ (λ i lo hi.
    let p : i - q * 64 ≡ i % 64 = omega arith in
    let r : q ≡ i / 64 = omega arith in
    rw (p, r) (and-true (word_bit (get_or l.words (i / 64) 0) (i % 64))))

-- ---- the moves of a monitor that reads its activator alone, and of one for which an activator and a pending are the same

module _ {row : Row} {f g : ℕ → Bool} {b : ℕ} where
  pub moves_check : {fails : ℕ} {m : Moves} → m ≡ record { fails = fails; waits = 0; drops = 0; holds = 0 }
      → fails ≡ word_from 64 b (λ i. (when_active row (f i) (g i)).failed)
      → 0 ≡ word_from 64 b (λ i. (when_active row (f i) (g i)).pending)
      → 0 ≡ word_from 64 b (λ i. (when_pending row (f i) (g i)).failed)
      → 0 ≡ word_from 64 b (λ i. (when_pending row (f i) (g i)).pending)
      → MovesOf row f g b m
  moves_check e p q r s = rw e (record { fails = p; waits = q; drops = r; holds = s })

  pub moves_go : {fails waits : ℕ} {m : Moves} → m ≡ record { fails = fails; waits = waits; drops = fails; holds = waits }
      → fails ≡ word_from 64 b (λ i. (when_active row (f i) (g i)).failed)
      → waits ≡ word_from 64 b (λ i. (when_active row (f i) (g i)).pending)
      → fails ≡ word_from 64 b (λ i. (when_pending row (f i) (g i)).failed)
      → waits ≡ word_from 64 b (λ i. (when_pending row (f i) (g i)).pending)
      → MovesOf row f g b m
  moves_go e p q r s = rw e (record { fails = p; waits = q; drops = r; holds = s })

-- ---- the words of a whole report

module _ (row : Row) (f g : ℕ → Bool) (b : ℕ) where
  pub dropped_end : 0 % 2 ≡ pick (dropped row f g (b + 64) (b + 64)) 1 0
  unfolding approximant
  dropped_end = let q : b + 64 - (b + 64) ≡ 0 = omega arith in rw q refl

  pub held_end : 1 % 2 ≡ pick (held row f g (b + 64) (b + 64)) 1 0
  unfolding approximant
  held_end = let q : b + 64 - (b + 64) ≡ 0 = omega arith in rw q refl

module _ {row : Row} {f g : ℕ → Bool} {b word x : ℕ} {m : Moves} (z : ℕ → Bool) (zs : word ≡ word_from 64 b z) (ms : MovesOf row f g b m) where
  pub failing_word : x ≡ word_from 64 b (λ i. dropped row f g (b + 64) (suc i)) → bit_and word (bit_or m.fails (bit_and m.waits x)) ≡ word_from 64 b (λ i. z i && failing row f g (b + 64) i)
  failing_word xs =
      ap₂ bit_and zs (ap₂ bit_or ms.fails (ap₂ bit_and ms.waits xs ∙ word_and 64 b (λ i. (when_active row (f i) (g i)).pending) (λ i. dropped row f g (b + 64) (suc i)))
      ∙ word_or 64 b (λ i. (when_active row (f i) (g i)).failed) (λ i. (when_active row (f i) (g i)).pending && dropped row f g (b + 64) (suc i)))
      ∙ word_and 64 b z (failing row f g (b + 64))

  pub staying_word : x ≡ word_from 64 b (λ i. held row f g (b + 64) (suc i)) → bit_and word (bit_and m.waits x) ≡ word_from 64 b (λ i. z i && staying row f g (b + 64) i)
  staying_word xs =
      ap₂ bit_and zs (ap₂ bit_and ms.waits xs ∙ word_and 64 b (λ i. (when_active row (f i) (g i)).pending) (λ i. held row f g (b + 64) (suc i)))
      ∙ word_and 64 b z (staying row f g (b + 64))
