-- A round goes back by a cycle. Assumes nothing.
use Prim.Native.Nat.{ℕ, suc, ◌+◌, ◌-◌, ◌*◌, ◌≤◌, ◌<◌}
use mathlib.Core.Path.{◌≡◌, refl, sym, ap, subst, subst⁻¹, ◌∙◌}
use mathlib.Core.Bool.{Bool, ◌&&◌}
use mathlib.Core.List.{List}
use native.Mathlib.Decide.{ℕ_discrete}
use native.Mathlib.Omega.{arith}
use lib.Dec.{ltb, eqb}
use borrow.Author.Tests.{eq-eqb, ne_eqb}
use Rattle.tables.specs.Choice.{pick}
use Rattle.tables.specs.declared.row.NormalForm.{NormalForm}
use Rattle.tables.proofs.Bits.{word_ext}
use Rattle.cycle_rows.specs.Cycle.{CycleFrom, Given}
use Rattle.rounds.specs.Rounds.{Columns}
use Rattle.rounds.specs.Recorded.{RecordedFrom, RoundBack}

-- what is recorded from a cycle on is of the columns from there on
recorded_alike :
    (rows n from : ℕ) (words : List ℕ) (x y : Columns) → ((c : ℕ) → from ≤ c → x c ≡ y c) → RecordedFrom rows n from words x → RecordedFrom rows n from words y
recorded_alike rows n from words x y e recorded k w h l =
    recorded k w h l ∙ word_ext (64 - (from - 64 * w)) (64 * w + (from - 64 * w)) _ _ (λ c a b. ap (λ (f : ℕ → Bool). ltb c n && f (suc k)) (e c (omega arith)))

module _ (g : NormalForm) (rows : ℕ) (e : g.rows ≡ rows) (given : ℕ → Given) (n to : ℕ) (later : Columns) where
  pub back_none : (left : ℕ → Bool) (words : List ℕ) → later to ≡ left → RecordedFrom rows n to words later → RoundBack g given n to to later left words
  back_none left words begins recorded = record {
    columns = later;
    kept = λ c h. refl;
    made = λ c a b. absurd (omega arith);
    ends = begins;
    recorded = subst⁻¹ (λ m. RecordedFrom m n to words later) e recorded;
  }

  module _ (c : ℕ) (c<to : c < to) (left left' : ℕ → Bool) (words words' : List ℕ) (back : RoundBack g given n (suc c) to later left words) where
    -- one column more
    columns' : Columns
    columns' i = pick (eqb i c) left' (back.columns i)

    here : columns' c ≡ left'
    unfolding columns'
    here = ap (λ b. pick b left' (back.columns c)) (eq-eqb c c refl)

    other : (i : ℕ) → (i ≡ c → ⊥) → columns' i ≡ back.columns i
    unfolding columns'
    other i ne = ap (λ b. pick b left' (back.columns i)) (ne_eqb i c ne)

    pub back_more :
        CycleFrom g (given c) left left'
        → ((x : Columns) → RecordedFrom rows n (suc c) words x → ((k : ℕ) → k < rows → x c (suc k) ≡ left' (suc k)) → RecordedFrom rows n c words' x)
        → RoundBack g given n c to later left' words'
    back_more filled records = record {
      columns = columns';
      kept = λ i h. other i (λ z. omega arith) ∙ back.kept i h;
      made = λ i a b. by i a b (ℕ_discrete i c);
      ends = here;
      recorded =
          let before : RecordedFrom rows n (suc c) words back.columns = subst (λ m. RecordedFrom m n (suc c) words back.columns) e back.recorded in
          subst⁻¹ (λ m. RecordedFrom m n c words' columns') e
          (records columns' (recorded_alike rows n (suc c) words back.columns columns' (λ i h. sym (other i (λ z. omega arith))) before) (λ k h. ap (λ f. f (suc k)) here));
    }
      where
        by : (i : ℕ) → c ≤ i → i < to → Dec (i ≡ c) → CycleFrom g (given i) (columns' (suc i)) (columns' i)
        by i a b (yes q) =
            let ahead : columns' (suc i) ≡ left = other (suc i) (λ z. omega arith) ∙ ap (λ z. back.columns (suc z)) q ∙ back.ends in
            let now : columns' i ≡ left' = ap columns' q ∙ here in
            subst⁻¹ (λ (x : ℕ → Bool). CycleFrom g (given i) x (columns' i)) ahead
            (subst⁻¹ (λ (x : ℕ → Bool). CycleFrom g (given i) left x) now (subst⁻¹ (λ z. CycleFrom g (given z) left left') q filled))
        by i a b (no q) =
            subst⁻¹ (λ (x : ℕ → Bool). CycleFrom g (given i) x (columns' i)) (other (suc i) (λ z. omega arith))
            (subst⁻¹ (λ (x : ℕ → Bool). CycleFrom g (given i) (back.columns (suc i)) x) (other i q) (back.made i (omega arith) b))
