-- On an unrolled lasso that covers the rows (specs/Covers) the truth of each is the bit computed by two passes over the recording, in
-- any reading (lasso-truth). Any lasso covers them once enough rounds are written out before its loop (covers-later), and unrolls to the
-- same trace. So on any lasso truth is decided (lasso-decided), all readings agree on it (lasso-readings), and it repeats from as many
-- rounds behind the loop's cycle on as rows that look back are nested (lasso-repeats). Assumes nothing.
use Prim.Native.Nat.{ℕ, ◌+◌, ◌*◌, ◌-◌, ◌≤◌, ◌<◌}
use mathlib.Core.Path.{◌≡◌, refl, subst, subst⁻¹, sym, ap, ◌∙◌, fun_ext}
use mathlib.Core.Logic.Iff
use mathlib.Core.Logic.{◌↔◌, inl}
use mathlib.Core.Bool.{Bool}
use native.Mathlib.Nat.{add-mul, mul-le-mul_right}
use native.Mathlib.Omega.{arith}
use Rattle.meaning.specs.Reading.{Reading}
use Rattle.meaning.specs.Trace.{InfiniteTrace, position}
use Rattle.meaning.specs.Satisfaction.{Table, RowTrue}
use Rattle.meaning.specs.Rows.{Ordered}
use Rattle.meaning.specs.Pattern.{pattern_of}
use Rattle.meaning.specs.Nesting.{delay, most_below, nested, most_nested}
use Rattle.meaning.specs.Covers.{Covers}
use Rattle.meaning.specs.Approximant.{approximant}
use Rattle.meaning.proofs.Readings.{row_induction, On, decided_by}
use Rattle.meaning.proofs.Rows.{each_map}
use Rattle.meaning.proofs.Truth.{every_cycle, truth_interprets}
use Rattle.meaning.proofs.Nesting.{most_below_lem, nested_is, nested_most}
use Rattle.meaning.proofs.Periodic.{Periodic, position_below, position_periodic, at_position, written_position}
use Rattle.meaning.proofs.Streams.{two_rounds_lem}
use Rattle.meaning.proofs.PatternBits.{row_bit}
use Rattle.meaning.proofs.Evaluation.{Computes, Evaluation, bits_of, bits_computed, row_bit_local, evaluation_periodic, evaluation_is}

module _ (n l : ℕ) (l<n : l < n) where
  -- to the end of the recording, and once more round the loop
  abbrev pub two_rounds : ℕ → ℕ
  two_rounds i = (n - i) + (n - l)

  -- how code gets there: from w over the loop, and from what that left at the loop's cycle over the whole recording
  pub two_passes :
      (k g : ℕ → Bool) → Periodic (n - l) l k → Periodic (n - l) l g → (w : Bool) (i : ℕ) → i ≤ n
      → approximant k g w (two_rounds i) i ≡ approximant k g (approximant k g w (n - l) l) (n - i) i
  two_passes k g kp gp w i h = sym (two_rounds_lem k g (n - l) l (omega arith) kp gp w l (n - i) i (omega arith) (omega arith))

  -- a recording by cycles and signals, and its unrolling (`unrolled` of a Trace is one)
  module _ (recording : ℕ → ℕ → Bool) where
    abbrev pub lasso : InfiniteTrace
    lasso i = recording (position n l i)

    module _ (t : Table) (m : ℕ) (ordered : Ordered m t) where
      -- bits for the recording's cycles alone, each computed from its own cycle and those ahead along the loop
      abbrev pub ComputesLasso : (ℕ → ℕ → Bool) → Type 0
      ComputesLasso bits = (k : ℕ) → k < m → (c : ℕ) → c < n → bits k c ≡ row_bit lasso two_rounds (λ a i. bits a (position n l i)) (t k) c

      module _ (covers : Covers n l recording t m) where
        -- from where on row k's operands repeat, and from where on row k itself does
        abbrev begins : ℕ → ℕ
        begins k = covers.since + most_below (nested t) (t k) * (n - l)

        abbrev settles : ℕ → ℕ
        settles k = covers.since + nested t k * (n - l)

        pub begins_settles : (k : ℕ) → k < m → begins k + delay (pattern_of (t k)) * (n - l) ≡ settles k
        begins_settles k h =
            let d = add-mul (most_below (nested t) (t k)) (delay (pattern_of (t k))) (n - l) in
            subst⁻¹ (λ x. begins k + delay (pattern_of (t k)) * (n - l) ≡ covers.since + x * (n - l)) (nested_is t m ordered k h)
            (omega (arith, d))

        unfoldable pub lasso_evaluation : (bits : ℕ → ℕ → Bool) → Computes every_cycle lasso two_rounds t m bits → Evaluation every_cycle lasso t m bits
        lasso_evaluation bits computes = record {
          period = n - l;
          since = covers.since;
          start = begins;
          from = settles;
          depth = two_rounds;
          period>0 = omega arith;
          lives = λ i h. refl;
          signals = covers.repeats;
          ordered = ordered;
          computes = computes;
          enough = λ k h i. omega (arith, begins_settles k h, covers.late k h);
          early = λ k h. omega arith;
          nests = λ k h. each_map _ _ (λ a x. let y = mul-le-mul_right (n - l) x in omega arith) (t k) (most_below_lem (nested t) (t k));
          gains = λ k h. inl (omega (arith, begins_settles k h));
        }

        repeats_from :
            (bits : ℕ → ℕ → Bool) → Computes every_cycle lasso two_rounds t m bits → (k : ℕ) → k < m → Periodic (n - l) (settles k) (bits k)
        unfolding lasso_evaluation
        repeats_from bits computes = evaluation_periodic every_cycle lasso t m bits (lasso_evaluation bits computes)

        -- bits computed on the unrolling repeat along it
        pub bits_at_position :
            (bits : ℕ → ℕ → Bool) → Computes every_cycle lasso two_rounds t m bits → (k : ℕ) → k < m → (i : ℕ) → bits k (position n l i) ≡ bits k i
        bits_at_position bits computes k h = at_position n l l<n (bits k)
            (λ i x. repeats_from bits computes k h i (omega (arith, covers.late k h)))

        -- there are bits for the recording's cycles alone
        pub lasso_bits_computed : ComputesLasso (bits_of every_cycle lasso two_rounds t)
        lasso_bits_computed k h c c<n = bits_computed every_cycle lasso two_rounds t m ordered k h c ∙ ap (λ f. f c) (sym (row_bit_local every_cycle lasso two_rounds t _ (bits_of every_cycle lasso two_rounds t) (t k)
            (each_map _ _ (λ a x. fun_ext (bits_at_position (bits_of every_cycle lasso two_rounds t) (bits_computed every_cycle lasso two_rounds t m ordered) a (omega arith))) (t k) (ordered k h))))

        -- repeated along the loop, they are computed on the unrolling
        pub lasso_unrolls : (bits : ℕ → ℕ → Bool) → ComputesLasso bits → Computes every_cycle lasso two_rounds t m (λ k i. bits k (position n l i))
        lasso_unrolls bits computes k h i = same k h i ∙ there k h i ∙ ap (λ f. f i) (sym (local k h (λ a x. same a (omega arith))))
          where
            whole : ℕ → ℕ → Bool
            whole = bits_of every_cycle lasso two_rounds t

            there : Computes every_cycle lasso two_rounds t m whole
            there = bits_computed every_cycle lasso two_rounds t m ordered

            local :
                (k : ℕ) → k < m → ((a : ℕ) → a < k → (i : ℕ) → bits a (position n l i) ≡ whole a i)
                → row_bit lasso two_rounds (λ a i. bits a (position n l i)) (t k) ≡ row_bit lasso two_rounds whole (t k)
            local k h ih = row_bit_local every_cycle lasso two_rounds t (λ a i. bits a (position n l i)) whole (t k) (each_map _ _ (λ a x. fun_ext (ih a x)) (t k) (ordered k h))

            same : (k : ℕ) → k < m → (i : ℕ) → bits k (position n l i) ≡ whole k i
            same = row_induction (λ k. k < m → (i : ℕ) → bits k (position n l i) ≡ whole k i) (λ k ih h i.
                computes k h (position n l i) (position_below n l l<n i) ∙ ap (λ f. f (position n l i)) (local k h (λ a x. ih a x (omega arith)))
                ∙ sym (there k h (position n l i)) ∙ bits_at_position whole there k h i)

        -- what is computed is the truth
        pub lasso_truth :
            (bits : ℕ → ℕ → Bool) → ComputesLasso bits → (R : Reading) (k : ℕ) → k < m → (i : ℕ) → RowTrue R lasso t k i ↔ On (bits k (position n l i))
        lasso_truth bits computes R = evaluation_is every_cycle lasso t m (λ k i. bits k (position n l i)) (lasso_evaluation _ (lasso_unrolls bits computes)) R (RowTrue R lasso t) (truth_interprets R lasso t m ordered)

-- ---- which lassos cover the rows

module _ (n l : ℕ) (l<n : l < n) (recording : ℕ → ℕ → Bool) (t : Table) (m : ℕ) where
  -- any lasso, with as many rounds written out as rows are nested
  pub covers_later :
      (d : ℕ) → ((k : ℕ) → k < m → nested t k ≤ d) → Covers (n + d * (n - l)) (l + d * (n - l)) (λ c. recording (position n l c)) t m
  covers_later d most =
      let e : n + d * (n - l) - (l + d * (n - l)) ≡ n - l = omega arith in
      record {
        since = l;
        repeats = λ s i h. ap (λ c. recording c s)
            (written_position n l l<n d _ ∙ ap (λ p. position n l (i + p)) e
            ∙ position_periodic n l l<n i h ∙ sym (written_position n l l<n d i));
        late = λ k h. let x = mul-le-mul_right (n - l) (most k h) in subst⁻¹ (λ p. l + nested t k * p ≤ l + d * (n - l)) e (omega arith);
      }

  -- any lasso as it stands, where none is nested
  pub covers_unnested : ((k : ℕ) → k < m → nested t k ≡ 0) → Covers n l recording t m
  covers_unnested none = record {
    since = l;
    repeats = λ s i h. ap (λ c. recording c s) (position_periodic n l l<n i h);
    late = λ k h. subst⁻¹ (λ x. l + x * (n - l) ≤ l) (none k h) (omega arith);
  }

  -- ---- so truth on any lasso is what is computed on one that covers the rows

  module _ (ordered : Ordered m t) where
    abbrev rounds : ℕ
    rounds = most_nested t m

    abbrev cycles : ℕ
    cycles = n + rounds * (n - l)

    abbrev loop : ℕ
    loop = l + rounds * (n - l)

    loop<cycles : loop < cycles
    loop<cycles = omega arith

    abbrev written : ℕ → ℕ → Bool
    written c = recording (position n l c)

    abbrev written_out : InfiniteTrace
    written_out = lasso cycles loop loop<cycles written

    covered : Covers cycles loop written t m
    covered = covers_later rounds (nested_most t m)

    abbrev bits : ℕ → ℕ → Bool
    bits = bits_of every_cycle written_out (two_rounds cycles loop loop<cycles) t

    computed : Computes every_cycle written_out (two_rounds cycles loop loop<cycles) t m bits
    computed = bits_computed every_cycle written_out (two_rounds cycles loop loop<cycles) t m ordered

    same_trace : written_out ≡ lasso n l l<n recording
    same_trace = fun_ext (λ i. ap recording (written_position n l l<n rounds i))

    truth_is : (R : Reading) (k : ℕ) → k < m → (i : ℕ) → RowTrue R (lasso n l l<n recording) t k i ↔ On (bits k i)
    truth_is R k h i = subst (λ w. RowTrue R w t k i ↔ On (bits k i)) same_trace
        (evaluation_is every_cycle written_out t m bits
        (lasso_evaluation cycles loop loop<cycles written t m ordered covered bits computed) R
        (RowTrue R written_out t) (truth_interprets R written_out t m ordered) k h i)

    bits_repeat : (k : ℕ) → k < m → Periodic (n - l) (l + nested t k * (n - l)) (bits k)
    unfolding covered covers_later
    bits_repeat k h =
        let e : cycles - loop ≡ n - l = omega arith in
        subst (λ p. Periodic p (l + nested t k * p) (bits k)) e
        (repeats_from cycles loop loop<cycles written t m ordered covered bits computed k h)

    pub lasso_decided : (R : Reading) (k : ℕ) → k < m → (i : ℕ) → Dec (RowTrue R (lasso n l l<n recording) t k i)
    lasso_decided R k h i = decided_by (truth_is R k h i)

    pub lasso_readings :
        (R S : Reading) (k : ℕ) → k < m → (i : ℕ) → RowTrue R (lasso n l l<n recording) t k i ↔ RowTrue S (lasso n l l<n recording) t k i
    lasso_readings R S k h i = Iff.trans (truth_is R k h i) (Iff.symm (truth_is S k h i))

    -- "On a looped take their truth repeats at the latest after as many loop rounds as past operators are nested along one branch"
    pub lasso_repeats :
        (R : Reading) (k : ℕ) → k < m → (i : ℕ) → l + nested t k * (n - l) ≤ i
        → RowTrue R (lasso n l l<n recording) t k (i + (n - l)) ↔ RowTrue R (lasso n l l<n recording) t k i
    lasso_repeats R k h i x = Iff.trans (truth_is R k h (i + (n - l)))
        (subst⁻¹ (λ b. On b ↔ RowTrue R (lasso n l l<n recording) t k i) (bits_repeat k h i x) (Iff.symm (truth_is R k h i)))
