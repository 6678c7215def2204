-- Negation of the temporal operators: each pair of duals, over operands that are each other's negations. The dual excludes the
-- operator in any reading (X-excludes); where the operator fails the dual holds in a full reading (X-else). Assumes nothing.
use Prim.Native.Nat.{ℕ, suc, ◌≤◌, ◌<◌}
use mathlib.Core.Path.{◌≡◌, subst}
use mathlib.Core.Logic.{◌↔◌, ◌⊎◌, inl, inr}
use mathlib.Core.Bool.{Bool, true, false, not}
use native.Mathlib.Nat.{eq-or-lt_of_le}
use Rattle.meaning.specs.Reading.{Reading, Either}
use Rattle.meaning.specs.Operator.{During, Next, Always, Ever, Until, Weak, Srelease, Release}
use Rattle.meaning.specs.Pattern.{Pattern, Pattern.now, Pattern.next, Pattern.connective, Pattern.temporal}
use Rattle.meaning.proofs.Readings.{Full, lt_or_le, induction_from}
use Rattle.meaning.proofs.Pattern.{dual_pattern, Keep, Goal, Temporal, Holds}
use Rattle.meaning.proofs.MeaningByPattern.{srelease_until, release_weak}

-- ---- operands and the dual's operands

-- never both
abbrev pub Exclude : (ℕ → Type 0) → (ℕ → Type 0) → Type 0
Exclude a a' = (j : ℕ) → a' j → ¬ a j

-- each where the other fails
abbrev pub Cover : (ℕ → Type 0) → (ℕ → Type 0) → Type 0
Cover a a' = (j : ℕ) → (¬ a j → a' j) × (¬ a' j → a j)

-- each is the other's negation
abbrev pub Opposite : (ℕ → Type 0) → (ℕ → Type 0) → Type 0
Opposite a a' = (j : ℕ) → (a' j ↔ (¬ a j)) × (a j ↔ (¬ a' j))

exclude : {a a' : ℕ → Type 0} → Opposite a a' → Exclude a a'
exclude o j = (o j).0.0

cover : {a a' : ℕ → Type 0} → Opposite a a' → Cover a a'
cover o j = ((o j).0.1, (o j).1.1)

-- ---- keep and goal; A and B are the operands, A' and B' those of the dual

module _ (f : Bool) {A B A' B' : Type 0} (a : A' → ¬ A) (b : B' → ¬ B) where
  goal_goal : Goal (not f) A' B' → Goal f A B → ⊥
  goal_goal = elim f as (λ f. Goal (not f) A' B' → Goal f A B → ⊥) [ true ↦ (λ x y. b x.1 y) | false ↦ (λ x y. b x y.1) ]

  goal_keep : Goal (not f) A' B' → Keep f A B → ⊥
  goal_keep = elim f as (λ f. Goal (not f) A' B' → Keep f A B → ⊥) [ true ↦ (λ x y. a x.0 y) | false ↦ (λ x y. b x y) ]

  keep_goal : Keep (not f) A' B' → Goal f A B → ⊥
  keep_goal = elim f as (λ f. Keep (not f) A' B' → Goal f A B → ⊥) [ true ↦ (λ x y. b x y) | false ↦ (λ x y. a x y.0) ]

-- where neither goal is met, both are kept
both_keep :
    (f : Bool) {A B A' B' : Type 0} → (¬ A → A') → (¬ B → B') → (¬ A' → A) → (¬ B' → B) → ¬ Goal f A B → ¬ Goal (not f) A' B'
    → Keep f A B × Keep (not f) A' B'
both_keep true a b a' b' n n' = (a' (λ x. n' (x, b n)), b n)
both_keep false a b a' b' n n' = (b' n', a (λ x. n (x, b' n')))

-- ---- until and weak until, K and G against K' and G'

module _ (R : Reading) (K G K' G' : ℕ → Type 0) (gg : (j : ℕ) → G' j → G j → ⊥) (gk : (j : ℕ) → G' j → K j → ⊥)
    (kg : (j : ℕ) → K' j → G j → ⊥) (i : ℕ) where
  -- two goals, whichever comes first
  not_both_met : (j : ℕ) → (i ≤ j) × G j × During K i j → (k : ℕ) → (i ≤ k) × G' k × During K' i k → ⊥
  not_both_met j x k y = by (lt_or_le k j)
    where
      later : (j ≡ k) ⊎ (j < k) → ⊥
      later (inl e) = gg k y.1 (subst G e x.1)
      later (inr h) = kg j (y.2 j x.0 h) x.1

      by : (k < j) ⊎ (j ≤ k) → ⊥
      by (inl h) = gk k y.1 (x.2 k y.0 h)
      by (inr h) = later (eq-or-lt_of_le h)

  temporal_excludes : (w : Bool) → Temporal R (not w) K' G' i → ¬ Temporal R w K G i
  temporal_excludes true y x = R.sure y (λ y'. R.sure x (side y'))
    where
      side : (k : ℕ) × ((i ≤ k) × G' k × During K' i k) → Until R K G i ⊎ Always K i → ⊥
      side y' (inl u) = R.sure u (λ x'. not_both_met x'.0 x'.1 y'.0 y'.1)
      side y' (inr h) = gk y'.0 y'.1.1 (h y'.0 y'.1.0)
  temporal_excludes false y x = R.sure x (λ x'. R.sure y (side x'))
    where
      side : (j : ℕ) × ((i ≤ j) × G j × During K i j) → Until R K' G' i ⊎ Always K' i → ⊥
      side x' (inl u) = R.sure u (λ y'. not_both_met x'.0 x'.1 y'.0 y'.1)
      side x' (inr h) = kg x'.0 (h x'.0 x'.1.0) x'.1.1

module _ (R : Reading) (full : Full R) (K G K' G' : ℕ → Type 0) (kept : (j : ℕ) → ¬ G j → ¬ G' j → K j × K' j) (i : ℕ) where
  temporal_else : (w : Bool) → ¬ Temporal R w K G i → Temporal R (not w) K' G' i
  temporal_else w n = by w n
    where
      going : ¬ Until R K G i → ¬ ((k : ℕ) × ((i ≤ k) × G' k × During K' i k)) → (j : ℕ) → i ≤ j → K j × K' j
      going n n' = induction_from (λ j. K j × K' j) i (λ j l d.
          kept j (λ s. n (R.unit (j, (l, s, λ k a b. (d k a b).0)))) (λ s. n' (j, (l, s, λ k a b. (d k a b).1))))

      by : (w : Bool) → ¬ Temporal R w K G i → Temporal R (not w) K' G' i
      by true n = full _ (λ n'. n (R.unit (inr (λ j l. (going (λ u. n (R.unit (inl u))) n' j l).0))))
      by false n = full _ (λ n'. n' (inr (λ j l. (going n (λ x. n' (inl (R.unit x))) j l).1)))

-- ---- the patterns

module _ (R : Reading) (P Q P' Q' : ℕ → Type 0) (p : Exclude P P') (q : Exclude Q Q') where
  pub holds_excludes : (x : Pattern) (i : ℕ) → Holds R P' Q' (dual_pattern x) i → ¬ Holds R P Q x i
  holds_excludes now i = q i
  holds_excludes next i = q (suc i)
  holds_excludes (connective true) i = λ x m. R.sure m (side x)
    where
      side : P' i × Q' i → P i ⊎ Q i → ⊥
      side x (inl y) = p i x.0 y
      side x (inr y) = q i x.1 y
  holds_excludes (connective false) i = λ m y. R.sure m (side y)
    where
      side : P i × Q i → P' i ⊎ Q' i → ⊥
      side y (inl x) = p i x y.0
      side y (inr x) = q i x y.1
  holds_excludes (temporal f w) i =
      temporal_excludes R _ _ _ _ (λ j. goal_goal f (p j) (q j)) (λ j. goal_keep f (p j) (q j)) (λ j. keep_goal f (p j) (q j)) i w

module _ (R : Reading) (full : Full R) (P Q P' Q' : ℕ → Type 0) (p : Cover P P') (q : Cover Q Q') where
  pub holds_else : (x : Pattern) (i : ℕ) → ¬ Holds R P Q x i → Holds R P' Q' (dual_pattern x) i
  holds_else now i = (q i).0
  holds_else next i = (q (suc i)).0
  holds_else (connective true) i = λ n. ((p i).0 (λ x. n (R.unit (inl x))), (q i).0 (λ x. n (R.unit (inr x))))
  holds_else (connective false) i = λ n. full _ (λ n'. n ((p i).1 (λ x. n' (inl x)), (q i).1 (λ x. n' (inr x))))
  holds_else (temporal f w) i = temporal_else R full _ _ _ _ (λ j. both_keep f (p j).0 (q j).0 (p j).1 (q j).1) i w

-- ---- the operators of one operand

module _ (R : Reading) (a a' : ℕ → Type 0) (p : Exclude a a') (i : ℕ) where
  pub always_excludes : Ever R a' i → ¬ Always a i
  always_excludes m h = R.sure m (λ x. p x.0 x.1.1 (h x.0 x.1.0))

  pub ever_excludes : Always a' i → ¬ Ever R a i
  ever_excludes h m = R.sure m (λ x. p x.0 (h x.0 x.1.0) x.1.1)

module _ (R : Reading) (full : Full R) (a a' : ℕ → Type 0) (p : Cover a a') (i : ℕ) where
  pub always_else : ¬ Always a i → Ever R a' i
  always_else n = full _ (λ n'. n (λ j l. (p j).1 (λ x. n' (j, (l, x)))))

  pub ever_else : ¬ Ever R a i → Always a' i
  ever_else n = λ j l. (p j).0 (λ x. n (R.unit (j, (l, x))))

module _ (R : Reading) (full : Full R) (a a' : ℕ → Type 0) (p : Opposite a a') (i : ℕ) where
  pub not_next : (¬ Next a i) ↔ Next a' i
  not_next = ((p (suc i)).0.1, (p (suc i)).0.0)

  pub not_always : (¬ Always a i) ↔ Ever R a' i
  not_always = (always_else R full a a' (cover p) i, always_excludes R a a' (exclude p) i)

  pub not_ever : (¬ Ever R a i) ↔ Always a' i
  not_ever = (ever_else R full a a' (cover p) i, ever_excludes R a a' (exclude p) i)

-- ---- of two operands

module _ (R : Reading) (a b a' b' : ℕ → Type 0) (p : Exclude a a') (q : Exclude b b') (i : ℕ) where
  pub and_excludes : Either R (a' i) (b' i) → ¬ (a i × b i)
  and_excludes = holds_excludes R a b a' b' p q (connective false) i

  pub or_excludes : a' i × b' i → ¬ Either R (a i) (b i)
  or_excludes = holds_excludes R a b a' b' p q (connective true) i

  pub until_excludes : Release R a' b' i → ¬ Until R a b i
  until_excludes x = holds_excludes R a b a' b' p q (temporal true false) i ((release_weak R a' b' i).0 x)

  pub release_excludes : Until R a' b' i → ¬ Release R a b i
  release_excludes x y = holds_excludes R a b a' b' p q (temporal false true) i x ((release_weak R a b i).0 y)

  pub weak_excludes : Srelease R a' b' i → ¬ Weak R a b i
  weak_excludes x = holds_excludes R a b a' b' p q (temporal true true) i ((srelease_until R a' b' i).0 x)

  pub srelease_excludes : Weak R a' b' i → ¬ Srelease R a b i
  srelease_excludes x y = holds_excludes R a b a' b' p q (temporal false false) i x ((srelease_until R a b i).0 y)

module _ (R : Reading) (full : Full R) (a b a' b' : ℕ → Type 0) (p : Cover a a') (q : Cover b b') (i : ℕ) where
  pub and_else : ¬ (a i × b i) → Either R (a' i) (b' i)
  and_else = holds_else R full a b a' b' p q (connective false) i

  pub or_else : ¬ Either R (a i) (b i) → a' i × b' i
  or_else = holds_else R full a b a' b' p q (connective true) i

  pub until_else : ¬ Until R a b i → Release R a' b' i
  until_else n = (release_weak R a' b' i).1 (holds_else R full a b a' b' p q (temporal true false) i n)

  pub release_else : ¬ Release R a b i → Until R a' b' i
  release_else n = holds_else R full a b a' b' p q (temporal false true) i (λ x. n ((release_weak R a b i).1 x))

  pub weak_else : ¬ Weak R a b i → Srelease R a' b' i
  weak_else n = (srelease_until R a' b' i).1 (holds_else R full a b a' b' p q (temporal true true) i n)

  pub srelease_else : ¬ Srelease R a b i → Weak R a' b' i
  srelease_else n = holds_else R full a b a' b' p q (temporal false false) i (λ x. n ((srelease_until R a b i).1 x))

module _ (R : Reading) (full : Full R) (a b a' b' : ℕ → Type 0) (p : Opposite a a') (q : Opposite b b') (i : ℕ) where
  pub not_and : (¬ (a i × b i)) ↔ Either R (a' i) (b' i)
  not_and = (and_else R full a b a' b' (cover p) (cover q) i, and_excludes R a b a' b' (exclude p) (exclude q) i)

  pub not_or : (¬ Either R (a i) (b i)) ↔ (a' i × b' i)
  not_or = (or_else R full a b a' b' (cover p) (cover q) i, or_excludes R a b a' b' (exclude p) (exclude q) i)

  pub not_until : (¬ Until R a b i) ↔ Release R a' b' i
  not_until = (until_else R full a b a' b' (cover p) (cover q) i, until_excludes R a b a' b' (exclude p) (exclude q) i)

  pub not_release : (¬ Release R a b i) ↔ Until R a' b' i
  not_release = (release_else R full a b a' b' (cover p) (cover q) i, release_excludes R a b a' b' (exclude p) (exclude q) i)

  pub not_weak : (¬ Weak R a b i) ↔ Srelease R a' b' i
  not_weak = (weak_else R full a b a' b' (cover p) (cover q) i, weak_excludes R a b a' b' (exclude p) (exclude q) i)

  pub not_srelease : (¬ Srelease R a b i) ↔ Weak R a' b' i
  not_srelease = (srelease_else R full a b a' b' (cover p) (cover q) i, srelease_excludes R a b a' b' (exclude p) (exclude q) i)
