-- Expansions of until to twice a depth, from those to the depth. Assumes nothing.
use Prim.Native.Nat.{ℕ, zero, suc, ◌+◌, ◌-◌, ◌/◌, ◌^◌, ◌≤◌}
use mathlib.Core.Path.{◌≡◌, refl, sym, ap, ap₂, ◌∙◌, fun_ext}
use mathlib.Core.Bool.{Bool, true, false, ◌&&◌, ◌||◌}
use native.Mathlib.Nat.{add-zero, pow-suc}
use Rattle.std.proofs.lemmas.Nat.{pow_pos}
use native.Mathlib.Omega.{arith}
use Rattle.meaning.specs.Approximant.{expand, approximant}
use lib.Bits.{bit_and, bit_or}
use Rattle.tables.specs.Bit.{word_from}
use Rattle.lanes.specs.Word.{Ends}
use Rattle.lanes.specs.declared.word.Stretch.{Stretch}
use Rattle.lanes.proofs.Words.{word_and, word_or, word_shifted}

-- no goal at all
abbrev pub never : ℕ → Bool
never i = false

-- keep holds for d cycles
abbrev pub kept_for : (ℕ → Bool) → ℕ → ℕ → Bool
kept_for k = approximant k never true

expand_either : (k g a c x : Bool) → expand k g (a || (c && x)) ≡ (expand k g a || (expand k false c && x))
expand_either k true a c x = refl
expand_either false false a c x = refl
expand_either true false a c x = refl

module _ (k g : ℕ → Bool) where
  -- the goal within s cycles, or keep for s cycles and what holds there
  pub approximant_either : (w : Bool) (s d i : ℕ) → approximant k g w (s + d) i ≡ (approximant k g false s i || (kept_for k s i && approximant k g w d (i + s)))
  unfolding approximant
  approximant_either w zero d i = let z : 0 + d ≡ d = omega arith in ap₂ (approximant k g w) z (sym (add-zero i))
  approximant_either w (suc s) d i =
      let z : suc s + d ≡ suc (s + d) = omega arith in
      let y : suc i + s ≡ i + suc s = omega arith in
      ap (λ n. approximant k g w n i) z
      ∙ ap (expand (k i) (g i)) (approximant_either w s d (suc i) ∙ ap (λ j. approximant k g false s (suc i) || (kept_for k s (suc i) && approximant k g w d j)) y)
      ∙ expand_either (k i) (g i) (approximant k g false s (suc i)) (kept_for k s (suc i)) (approximant k g w d (i + suc s))

and_off : (b : Bool) → (b && false) ≡ false
and_off true = refl
and_off false = refl

never_met : (k : ℕ → Bool) (d i : ℕ) → approximant k never false d i ≡ false
unfolding approximant
never_met k zero i = refl
never_met k (suc d) i = ap (λ x. k i && x) (never_met k d (suc i)) ∙ and_off (k i)

module _ (k g : ℕ → Bool) (s i : ℕ) where
  pub goal_twice : approximant k g false (s + s) i ≡ (approximant k g false s i || (kept_for k s i && approximant k g false s (i + s)))
  goal_twice = approximant_either k g false s s i

  pub keep_twice : kept_for k (s + s) i ≡ (kept_for k s i && kept_for k s (i + s))
  keep_twice = approximant_either k never true s s i ∙ ap (λ x. x || (kept_for k s i && kept_for k s (i + s))) (never_met k s i)

-- ---- ends

module _ (e : ℕ) (k g : ℕ → Bool) (ke : Ends e k) where
  pub goal_ends : Ends e g → (d : ℕ) → Ends e (approximant k g false d)
  unfolding approximant
  goal_ends ge zero j h = refl
  goal_ends ge (suc d) j h = rw (ke j h, ge j h)

pub keep_ends : (e : ℕ) (k : ℕ → Bool) → Ends e k → (d : ℕ) → Ends e (kept_for k (suc d))
unfolding approximant
keep_ends e k ke d j h = rw (ke j h)

-- ---- as words

and_on : (b : Bool) → (b && true) ≡ b
and_on true = refl
and_on false = refl

or_off : (g k : Bool) → expand k g false ≡ g
or_off true k = refl
or_off false true = refl
or_off false false = refl

module _ (b : ℕ) (k g : ℕ → Bool) (ke : Ends (b + 64) k) (ge : Ends (b + 64) g) where
  -- a word pair is that of the stretches of s cycles
  pub record OfLength (s : ℕ) (x : Stretch) : Type 0 where
    pub keeps : x.keep ≡ word_from 64 b (kept_for k s)
    pub goals : x.goal ≡ word_from 64 b (approximant k g false s)

  pub of_one : (x : Stretch) → x.keep ≡ word_from 64 b k → x.goal ≡ word_from 64 b g → OfLength 1 x
  unfolding approximant
  of_one x p q = record {
    keeps = p ∙ ap (word_from 64 b) (fun_ext (λ i. sym (and_on (k i))));
    goals = q ∙ ap (word_from 64 b) (fun_ext (λ i. sym (or_off (g i) (k i))));
  }

  pub of_twice : (s : ℕ) (x y : Stretch) → OfLength (suc s) x → y.keep ≡ bit_and x.keep (x.keep / 2 ^ suc s) → y.goal ≡ bit_or x.goal (bit_and x.keep (x.goal / 2 ^ suc s)) → OfLength (suc s + suc s) y
  of_twice s x y o p q =
      let kw = word_shifted 64 b (suc s) (kept_for k (suc s)) (keep_ends (b + 64) k ke s) in
      let gw = word_shifted 64 b (suc s) (approximant k g false (suc s)) (goal_ends (b + 64) k g ke ge (suc s)) in
      record {
        keeps = p ∙ rw (o.keeps, kw) (word_and 64 b _ _) ∙ ap (word_from 64 b) (fun_ext (λ i. sym (keep_twice k g (suc s) i)));
        goals = q ∙ rw (o.keeps, o.goals, gw, word_and 64 b (kept_for k (suc s)) (λ i. approximant k g false (suc s) (i + suc s))) (word_or 64 b _ _) ∙ ap (word_from 64 b) (fun_ext (λ i. sym (goal_twice k g (suc s) i)));
      }

  -- k doublings, and one more by s cycles
  pub of_doubled : (k s : ℕ) → s ≡ 2 ^ k → (x y : Stretch) → OfLength (2 ^ k) x → y.keep ≡ bit_and x.keep (x.keep / 2 ^ s) → y.goal ≡ bit_or x.goal (bit_and x.keep (x.goal / 2 ^ s)) → OfLength (2 ^ (k + 1)) y
  of_doubled n s is x y o p q =
      let some : 1 ≤ 2 ^ n = pow_pos n in
      let l : 2 ^ n ≡ suc (2 ^ n - 1) = omega arith in
      let e : 2 ^ (n + 1) ≡ suc (2 ^ n - 1) + suc (2 ^ n - 1) = let z : n + 1 ≡ suc n = omega arith in rw z (omega (arith, pow-suc 2 n)) in
      rw e (of_twice (2 ^ n - 1) x y (rw l at o) (rw (is, l) at p) (rw (is, l) at q))
