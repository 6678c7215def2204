-- Bits of until and weak until over Bools: expanded to a depth of d cycles, with w behind them (approximant). Where keep and goal are
-- periodic, a depth to the end of the first period is enough, and the bits are the truth (approximant-is). Two passes over the
-- period, or one to the end of a prefix, reach it (two-rounds, to_end). Assumes nothing.
use Prim.Native.Nat.{ℕ, zero, suc, ◌+◌, ◌-◌, ◌≤◌, ◌<◌}
use mathlib.Core.Path.{◌≡◌, refl, subst, subst⁻¹, sym, ap, ap₂, ◌∙◌}
use mathlib.Core.Logic.{◌↔◌, ◌⊎◌, inl, inr}
use mathlib.Core.Bool.{Bool, true, false}
use native.Mathlib.Nat.{eq-or-lt_of_le, add-zero}
use native.Mathlib.Omega.{arith}
use Rattle.meaning.specs.Operator.{During}
use Rattle.meaning.specs.Approximant.{expand, approximant}
use Rattle.meaning.proofs.Readings.{induction_from, lt_or_le, during_cons, On, on_and_off, bools_equal}
use Rattle.meaning.proofs.Periodic.{Periodic}

pub expand_cases : (k g x : Bool) → On (expand k g x) → On g ⊎ (On k × On x)
expand_cases k true x e = inl refl
expand_cases true false x e = inr (refl, e)
expand_cases false false x e = on_and_off e refl

pub expand_on : (k g x : Bool) → On g ⊎ (On k × On x) → On (expand k g x)
expand_on k true x h = refl
expand_on true false x (inl e) = on_and_off e refl
expand_on true false x (inr e) = e.1
expand_on false false x (inl e) = e
expand_on false false x (inr e) = e.0

module _ (k g : ℕ → Bool) where
  abbrev pub Reached : ℕ → Type 0
  Reached i = (j : ℕ) × (i ≤ j) × On (g j) × During (λ c. On (k c)) i j

  abbrev pub KeptForever : ℕ → Type 0
  KeptForever i = (j : ℕ) → i ≤ j → On (k j)

  -- ---- what an approximant says

  abbrev KeptFor : Bool → ℕ → ℕ → Type 0
  KeptFor w d i = On w × During (λ c. On (k c)) i (i + d)

  approximant_out : (w : Bool) (d i : ℕ) → On (approximant k g w d i) → Reached i ⊎ KeptFor w d i
  unfolding approximant
  approximant_out w zero i e = inr (e, λ c a b. absurd (omega arith))
  approximant_out w (suc d) i e = by (expand_cases (k i) (g i) (approximant k g w d (suc i)) e) (approximant_out w d (suc i))
    where
      on : On (k i) → Reached (suc i) ⊎ KeptFor w d (suc i) → Reached i ⊎ KeptFor w (suc d) i
      on h (inl f) = inl (f.0, omega arith, f.2, during_cons (λ c. On (k c)) i f.0 h f.3)
      on h (inr x) = inr (x.0, during_cons (λ c. On (k c)) i (i + suc d) h (λ c a b. x.1 c a (omega arith)))

      by : On (g i) ⊎ (On (k i) × On (approximant k g w d (suc i))) → (On (approximant k g w d (suc i)) → Reached (suc i) ⊎ KeptFor w d (suc i)) → Reached i ⊎ KeptFor w (suc d) i
      by (inl h) rec = inl (i, omega arith, h, λ c a b. absurd (omega arith))
      by (inr h) rec = on h.0 (rec h.1)

  approximant_reached : (w : Bool) (d i j : ℕ) → i ≤ j → j < i + d → On (g j) → During (λ c. On (k c)) i j → On (approximant k g w d i)
  unfolding approximant
  approximant_reached w zero i j a b h f = absurd (omega arith)
  approximant_reached w (suc d) i j a b h f = expand_on (k i) (g i) (approximant k g w d (suc i)) (by (eq-or-lt_of_le a) (approximant_reached w d (suc i) j))
    where
      by :
          (i ≡ j) ⊎ (i < j) → (suc i ≤ j → j < suc i + d → On (g j) → During (λ c. On (k c)) (suc i) j → On (approximant k g w d (suc i)))
          → On (g i) ⊎ (On (k i) × On (approximant k g w d (suc i)))
      by (inl e) rec = inl (subst⁻¹ (λ m. On (g m)) e h)
      by (inr l) rec = inr (f i (omega arith) l, rec l (omega arith) h (λ c x y. f c (omega arith) y))

  approximant_kept : (d i : ℕ) → During (λ c. On (k c)) i (i + d) → On (approximant k g true d i)
  unfolding approximant
  approximant_kept zero i f = refl
  approximant_kept (suc d) i f = expand_on (k i) (g i) (approximant k g true d (suc i))
      (inr (f i (omega arith) (omega arith), approximant_kept d (suc i) (λ c a b. f c (omega arith) (omega arith))))

  -- ---- where keep and goal are periodic

  module _ (N b : ℕ) (N>0 : 0 < N) (kp : Periodic N b k) (gp : Periodic N b g) where
    -- what holds near i, and follows at j + N from j, holds from i on
    from_near : (P : ℕ → Type 0) (i d : ℕ) → (b - i) + N ≤ d → ((j : ℕ) → i ≤ j → j < i + d → P j) → ((j : ℕ) → i ≤ j → b ≤ j → P j → P (j + N)) → (j : ℕ) → i ≤ j → P j
    from_near P i d h near on = induction_from P i (λ j l below. by j l below (lt_or_le j (i + d)))
      where
        by : (j : ℕ) → i ≤ j → During P i j → (j < i + d) ⊎ (i + d ≤ j) → P j
        by j l below (inl x) = near j l x
        by j l below (inr x) =
            let e : j - N + N ≡ j = omega arith in
            subst P e (on (j - N) (omega arith) (omega arith) (below (j - N) (omega arith) (omega arith)))

    -- one period behind b is deep enough
    pub approximant_is : (w : Bool) (d i : ℕ) → (b - i) + N ≤ d → On (approximant k g w d i) ↔ (Reached i ⊎ (On w × KeptForever i))
    approximant_is w d i h = (λ e. out (approximant_out w d i e), into)
      where
        out : Reached i ⊎ KeptFor w d i → Reached i ⊎ (On w × KeptForever i)
        out (inl f) = inl f
        out (inr x) = inr (x.0, from_near (λ j. On (k j)) i d h x.1 (λ j l m y. kp j m ∙ y))

        into : Reached i ⊎ (On w × KeptForever i) → On (approximant k g w d i)
        into (inl f) = from_near (λ j. On (g j) → During (λ c. On (k c)) i j → On (approximant k g w d i)) i d h (λ j l m. approximant_reached w d i j l m)
            (λ j l m y a c. y (sym (gp j m) ∙ a) (λ e p q. c e p (omega arith))) f.0 f.1 f.2 f.3
        into (inr x) = subst⁻¹ (λ v. On (approximant k g v d i)) (x.0) (approximant_kept d i (λ c p q. x.1 c p))

    pub approximant_deep : (w : Bool) (d e i : ℕ) → (b - i) + N ≤ d → (b - i) + N ≤ e → approximant k g w d i ≡ approximant k g w e i
    approximant_deep w d e i h l =
        let p = approximant_is w d i h in
        let q = approximant_is w e i l in
        bools_equal _ _ (λ x. q.1 (p.0 x)) (λ x. p.1 (q.0 x))

    pub approximant_shift : (w : Bool) (d i : ℕ) → b ≤ i → approximant k g w d (i + N) ≡ approximant k g w d i
    unfolding approximant
    approximant_shift w zero i h = refl
    approximant_shift w (suc d) i h =
        let e : suc (i + N) ≡ suc i + N = omega arith in
        ap₂ (λ x y. expand x y (approximant k g w d (suc (i + N)))) (kp i h) (gp i h)
        ∙ ap (expand (k i) (g i)) (ap (approximant k g w d) e ∙ approximant_shift w d (suc i) (omega arith))

    module _ (w : Bool) (depth : ℕ → ℕ) (enough : (i : ℕ) → (b - i) + N ≤ depth i) where
      pub approximant_periodic : Periodic N b (λ i. approximant k g w (depth i) i)
      approximant_periodic i h = approximant_shift w (depth (i + N)) i h ∙ approximant_deep w (depth (i + N)) (depth i) i (omega (arith, enough (i + N))) (enough i)

      pub approximant_expands : (i : ℕ) → approximant k g w (depth i) i ≡ expand (k i) (g i) (approximant k g w (depth (suc i)) (suc i))
      unfolding approximant
      approximant_expands i = approximant_deep w (depth i) (suc (depth (suc i))) i (enough i) (omega (arith, enough (suc i)))

-- ---- how code reaches that depth

module _ (k g : ℕ → Bool) where
  pub approximant_split : (w : Bool) (d e i : ℕ) → approximant k g w (d + e) i ≡ approximant k g (approximant k g w e (i + d)) d i
  unfolding approximant
  approximant_split w zero e i =
      let p : zero + e ≡ e = omega arith in
      ap (λ d. approximant k g w d i) p ∙ ap (approximant k g w e) (sym (add-zero i))
  approximant_split w (suc d) e i =
      let p : suc d + e ≡ suc (d + e) = omega arith in
      let q : suc i + d ≡ i + suc d = omega arith in
      ap (λ d. approximant k g w d i) p ∙ ap (expand (k i) (g i)) (approximant_split w d e (suc i) ∙ ap (λ j. approximant k g (approximant k g w e j) d (suc i)) q)

  -- keep and goal count at the cycles passed alone
  pub approximant_local :
      (k' g' : ℕ → Bool) (w : Bool) (d i : ℕ) → ((j : ℕ) → i ≤ j → j < i + d → (k j ≡ k' j) × (g j ≡ g' j))
      → approximant k g w d i ≡ approximant k' g' w d i
  unfolding approximant
  approximant_local k' g' w zero i e = refl
  approximant_local k' g' w (suc d) i e =
      let h = e i (omega arith) (omega arith) in
      rw (h.0, h.1) (ap (expand (k' i) (g' i)) (approximant_local k' g' w d (suc i) (λ j a b. e j (omega arith) (omega arith))))

  -- on a lasso: one pass over the loop from w, and another one from what the first left at the loop's cycle l
  pub two_rounds_lem : (N b : ℕ) → 0 < N → Periodic N b k → Periodic N b g → (w : Bool) (l d i : ℕ) → b ≤ l → i + d ≡ l + N
      → approximant k g (approximant k g w N l) d i ≡ approximant k g w (d + N) i
  two_rounds_lem N b N>0 kp gp w l d i h e = ap (λ x. approximant k g x d i) (sym (approximant_shift k g N b N>0 kp gp w N l h) ∙ ap (approximant k g w N) (sym e)) ∙ sym (approximant_split w d N i)

  -- on a prefix of n cycles: one pass from false, where nothing holds at n
  pub to_end_lem : (w : Bool) (n d i : ℕ) → i + d ≡ n → expand (k n) (g n) w ≡ false → approximant k g w (d + 1) i ≡ approximant k g false d i
  unfolding approximant
  to_end_lem w n d i e off = approximant_split w d 1 i ∙ ap (λ x. approximant k g x d i) (ap (λ j. expand (k j) (g j) w) e ∙ off)
