-- An expansion of until that looks no further than a cycle e, with x for what holds there. Assumes nothing.
use Prim.Native.Nat.{ℕ, zero, suc, ◌+◌}
use mathlib.Core.Path.{◌≡◌, refl, ap, ◌∙◌}
use mathlib.Core.Bool.{Bool, true, false, ◌&&◌, ◌||◌}
use native.Mathlib.Omega.{arith}
use lib.Dec.{ltb, eqb}
use borrow.Author.Tests.{lt-ltb, le-ltb, eq-eqb, ne_eqb}
use Rattle.meaning.specs.Approximant.{expand, approximant}
use Rattle.lanes.specs.Word.{Ends}
use Rattle.lanes.proofs.Stretches.{goal_ends}

last : (a b x : Bool) → expand a (b || (a && (x && true))) false ≡ expand a b x
last a true x = refl
last true false true = refl
last true false false = refl
last false false x = refl

earlier : (a b x y : Bool) → expand a (b || (a && (x && false))) y ≡ expand a b y
earlier a true x y = refl
earlier true false true y = refl
earlier true false false y = refl
earlier false false x y = refl

module _ (e : ℕ) (k g : ℕ → Bool) (x : Bool) where
  -- keep and goal up to e; the goal at the last cycle takes in what holds at e
  abbrev pub keep_to : ℕ → Bool
  keep_to j = ltb j e && k j

  abbrev pub goal_to : ℕ → Bool
  goal_to j = ltb j e && (g j || (k j && (x && eqb (suc j) e)))

  pub keep_to_ends : Ends e keep_to
  keep_to_ends j h = rw (le-ltb j e h)

  pub goal_to_ends : Ends e goal_to
  goal_to_ends j h = rw (le-ltb j e h)

  pub window : (d t i : ℕ) → i + suc d ≡ e → approximant keep_to goal_to false (suc d + t) i ≡ approximant k g x (suc d) i
  unfolding approximant
  window zero t i h =
      let z : 1 + t ≡ suc t = omega arith in
      ap (λ n. approximant keep_to goal_to false n i) z
      ∙ ap (expand (keep_to i) (goal_to i)) (goal_ends e keep_to goal_to keep_to_ends goal_to_ends t (suc i) (omega arith))
      ∙ rw (lt-ltb i e (omega arith), eq-eqb (suc i) e (omega arith)) (last (k i) (g i) x)
  window (suc d) t i h =
      let z : suc (suc d) + t ≡ suc (suc d + t) = omega arith in
      ap (λ n. approximant keep_to goal_to false n i) z
      ∙ ap (expand (keep_to i) (goal_to i)) (window d t (suc i) (omega arith))
      ∙ rw (lt-ltb i e (omega arith), ne_eqb (suc i) e (λ q. omega arith)) (earlier (k i) (g i) x _)
