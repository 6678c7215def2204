-- Laws of the written-out take, over the number of rounds (written_from: its endless repetition is the same) and then over as many as past
-- operators are nested in a normal form (covered-range to covered-covers). They say nothing of how many these are; only the last three rest
-- on there being none yet. Assumes nothing.
use Prim.Native.Nat.{ℕ, suc, ◌+◌, ◌*◌, ◌-◌, ◌%◌, ◌^◌, ◌≤◌, ◌<◌}
use mathlib.Core.Path.{◌≡◌, refl, sym, ap, subst, subst⁻¹, ◌∙◌}
use mathlib.Core.Logic.{◌↔◌}
use mathlib.Core.Bool.{false}
use mathlib.Core.List.{[]}
use native.Mathlib.Nat.{mul-le-mul_right, zero-div}
use native.Mathlib.Decide.{dec_le, ℕ_discrete}
use native.Mathlib.Omega.{arith}
use lib.ListN.{get_or-eq_default}
use Rattle.std.specs.Prelude.{Result, Ok, Err}
use Rattle.std.specs.Result.{result_unwrap_or}
use Rattle.tables.specs.Bit.{bit_at}
use Rattle.tables.specs.declared.row.NormalForm.{NormalForm}
use Rattle.tables.specs.declared.trace.Ending.{Ending}
use Rattle.tables.specs.declared.trace.Ending.TheVariants.{Open, Loop}
use Rattle.tables.specs.declared.trace.Lane.{Lane}
use Rattle.tables.specs.declared.trace.Trace.{Trace}
use Rattle.tables.proofs.Places.{get_d_tabulate, length_tabulate}
use Rattle.meaning.specs.Trace.{signal_at, position, unrolled}
use Rattle.meaning.specs.Satisfaction.{table_of}
use Rattle.meaning.specs.Nesting.{nested, nesting}
use Rattle.meaning.specs.Covers.{CoversIn, CoversForm}
use Rattle.meaning.proofs.Nesting.{nested_most, nesting_none}
use Rattle.meaning.proofs.Periodic.{position_below, unrolled_periodic, written_position}
use Rattle.take_file.specs.Valid.{Below, InRange}
use Rattle.lanes.specs.Truth.{lane_in}
use Rattle.lanes.proofs.Shown.{shown_bit}
use Rattle.written_out.specs.WrittenOut.{round_cycles, written_trace, written_out}
use Rattle.written_out.specs.Covered.{covered, CoverableIn, Coverable}
use Rattle.written_out.proofs.OneLane.{repeated}
use Rattle.written_out.proofs.Lanes.{written_lane}
use Rattle.written_out.proofs.Whole.{loop_whole, loop_too_long, loop_below, written_open, written_none, written_some}

-- ---- over the rounds

-- u is t, whose loop begins at l, with d rounds of it written out before it
pub record WrittenFrom (t : Trace) (l d : ℕ) (u : Trace) : Type 0 where
  pub ending : u.ending ≡ Loop (l + round_cycles t l d)
  pub cycles : u.cycles ≡ t.cycles + round_cycles t l d
  pub signals : u.signals ≡ t.signals
  pub most : t.cycles ≤ 256 → u.cycles ≤ 256
  -- "its endless repetition" is the same
  pub same : l < t.cycles → (i s : ℕ) → s ≤ 32 → unrolled u (l + round_cycles t l d) i s ≡ unrolled t l i s
  -- it repeats from where t's does, which is before its own loop
  pub repeats : l < t.cycles → (s i : ℕ) → l ≤ i
      → signal_at u (position u.cycles (l + round_cycles t l d) (i + (t.cycles - l))) s ≡ signal_at u (position u.cycles (l + round_cycles t l d) i) s

-- a place behind the last lane is never on
no_lane : (c : ℕ) → bit_at (record { words = [] }) c ≡ false
unfolding bit_at
no_lane c = rw (zero-div (2 ^ (c % 64)))

module _ (t : Trace) (l : ℕ) where
  -- no rounds: the take itself
  none_from : t.ending ≡ Loop l → WrittenFrom t l 0 t
  none_from loops =
      let e : l + round_cycles t l 0 ≡ l = omega arith in
      let f : t.cycles + round_cycles t l 0 ≡ t.cycles = omega arith in
      record {
        ending = loops ∙ ap Loop (sym e);
        cycles = sym f;
        signals = refl;
        most = λ h. h;
        same = λ h i s b. ap (λ m. unrolled t m i s) e;
        repeats = λ h s i from. rw e (unrolled_periodic t l h s i from);
      }

  module _ (d : ℕ) (fits : t.cycles + round_cycles t l d ≤ 256) where
    abbrev u : Trace
    u = written_trace t l (round_cycles t l d)

    -- a signal of the written lanes, by where the lasso is
    written_signal : (c s : ℕ) → s ≤ 32 → c < t.cycles + round_cycles t l d → signal_at u c s ≡ signal_at t (position t.cycles l c) s
    written_signal c s h b =
        shown_bit (t.cycles + round_cycles t l d) (lane_in u.lanes (s - 1)) (repeated t.cycles l (lane_in t.lanes (s - 1))) fits
        (get_d_tabulate 32 (written_lane t.lanes t.cycles l (t.cycles + round_cycles t l d)) (s - 1) (record { words = [] }) (omega arith)) c b

    -- there is no lane behind the 32nd
    beyond : (c s : ℕ) → 32 < s → signal_at u c s ≡ false
    beyond c s h =
        ap (λ (x : Lane). bit_at x c) (get_or-eq_default u.lanes (record { words = [] }) (rw length_tabulate (omega arith))) ∙ no_lane c

    module _ (l<n : l < t.cycles) where
      same : (i s : ℕ) → s ≤ 32 → unrolled u (l + round_cycles t l d) i s ≡ unrolled t l i s
      same i s h =
          written_signal _ s h (position_below (t.cycles + round_cycles t l d) (l + round_cycles t l d) (omega arith) i)
          ∙ ap (λ c. signal_at t c s) (written_position t.cycles l l<n d i)

      repeats : (s i : ℕ) → l ≤ i → unrolled u (l + round_cycles t l d) (i + (t.cycles - l)) s ≡ unrolled u (l + round_cycles t l d) i s
      repeats s i from = by (dec_le s 32)
        where
          by : Dec (s ≤ 32) → unrolled u (l + round_cycles t l d) (i + (t.cycles - l)) s ≡ unrolled u (l + round_cycles t l d) i s
          by (yes h) = same (i + (t.cycles - l)) s h ∙ unrolled_periodic t l l<n s i from ∙ sym (same i s h)
          by (no h) = beyond _ s (omega arith) ∙ sym (beyond _ s (omega arith))

    trace_from : WrittenFrom t l d u
    trace_from = record { ending = refl; cycles = refl; signals = refl; most = λ h. fits; same = same; repeats = repeats }

ok_only : {out : Result Trace Trace} {u t : Trace} → out ≡ Ok u → out ≡ Err t → ⊥
ok_only e f = cc

same_ok : {out : Result Trace Trace} {u v : Trace} → out ≡ Ok u → out ≡ Ok v → u ≡ v
same_ok e f = cc

module _ (t : Trace) (l : ℕ) (loops : t.ending ≡ Loop l) where
  -- with no rounds it is the take itself, and otherwise it goes by its cycles
  pub written_whole : (d : ℕ) → t.cycles + round_cycles t l d ≤ 256 → (u : Trace) × (written_out t d ≡ Ok u)
  written_whole d fits = by (ℕ_discrete d 0)
    where
      by : Dec (d ≡ 0) → (u : Trace) × (written_out t d ≡ Ok u)
      by (yes z) = (t, ap (written_out t) z ∙ written_none t l loops)
      by (no n) = (_, written_some t l d loops n ∙ loop_whole t l (round_cycles t l d) fits)

  -- it is too long exactly where its cycles pass 256: without rounds never
  pub written_too_long : t.cycles ≤ 256 → (d : ℕ) → (written_out t d ≡ Err t) ↔ (256 < t.cycles + round_cycles t l d)
  written_too_long most d = (λ e. to e (dec_le (t.cycles + round_cycles t l d) 256), λ h. from h (ℕ_discrete d 0))
    where
      to : written_out t d ≡ Err t → Dec (t.cycles + round_cycles t l d ≤ 256) → 256 < t.cycles + round_cycles t l d
      to e (yes h) = let w = written_whole d h in absurd (ok_only w.1 e)
      to e (no h) = omega arith

      from : 256 < t.cycles + round_cycles t l d → Dec (d ≡ 0) → written_out t d ≡ Err t
      from h (yes z) = let p : t.cycles + round_cycles t l d ≡ t.cycles + round_cycles t l 0 = ap (λ x. t.cycles + round_cycles t l x) z in absurd (omega (arith, p))
      from h (no n) = written_some t l d loops n ∙ loop_too_long t l (round_cycles t l d) h

  -- THE WRITTEN-OUT TAKE HAS THE SAME ENDLESS REPETITION
  pub written_from : (d : ℕ) (u : Trace) → written_out t d ≡ Ok u → WrittenFrom t l d u
  written_from d u e = by (ℕ_discrete d 0) (dec_le (t.cycles + round_cycles t l d) 256)
    where
      is : (v : Trace) → written_out t d ≡ Ok v → WrittenFrom t l d v → WrittenFrom t l d u
      is v w from = subst (WrittenFrom t l d) (same_ok w e) from

      by : Dec (d ≡ 0) → Dec (t.cycles + round_cycles t l d ≤ 256) → WrittenFrom t l d u
      by (yes z) q = is t (ap (written_out t) z ∙ written_none t l loops) (subst⁻¹ (λ x. WrittenFrom t l x t) z (none_from t l loops))
      by (no n) (yes fits) = is _ (written_some t l d loops n ∙ loop_whole t l (round_cycles t l d) fits) (trace_from t l d fits)
      by (no n) (no long) =
          absurd (ok_only e (written_some t l d loops n ∙ loop_too_long t l (round_cycles t l d) (omega arith)))

  pub written_unrolled : InRange t → (d : ℕ) (u : Trace) → written_out t d ≡ Ok u
      → (i s : ℕ) → s ≤ 32 → unrolled u (l + round_cycles t l d) i s ≡ unrolled t l i s
  written_unrolled range d u e = (written_from d u e).same (loop_below range l loops)

-- ---- at as many rounds as past operators are nested

pub covered_open : (g : NormalForm) (t : Trace) → t.ending ≡ Open → covered g t ≡ t
unfolding covered
covered_open g t e = ap (λ x. result_unwrap_or x t) (written_open t (nesting g) e)

module _ (g : NormalForm) (t : Trace) where
  module _ (l : ℕ) (loops : t.ending ≡ Loop l) (able : Coverable g t) where
    pub covered_loop_lem : WrittenFrom t l (nesting g) (covered g t)
    unfolding covered
    covered_loop_lem =
        let w = written_whole t l loops (nesting g) (subst (CoverableIn g t) loops able) in
        written_from t l loops (nesting g) (covered g t) (w.1 ∙ ap Ok (sym (ap (λ x. result_unwrap_or x t) w.1)))

    pub covered_unrolled : InRange t → (i s : ℕ) → s ≤ 32 → unrolled (covered g t) (l + round_cycles t l (nesting g)) i s ≡ unrolled t l i s
    covered_unrolled range = covered_loop_lem.same (loop_below range l loops)

  pub covered_range : InRange t → Coverable g t → InRange (covered g t)
  covered_range range able = by t.ending refl
    where
      by : (x : Ending) → t.ending ≡ x → InRange (covered g t)
      by Open e = subst⁻¹ InRange (covered_open g t e) range
      by (Loop l) e =
          let w = covered_loop_lem l e able in
          let b = loop_below range l e in
          record {
            some_signals = subst⁻¹ (λ x. 1 ≤ x) w.signals range.some_signals;
            most_signals = subst⁻¹ (λ x. x ≤ 32) w.signals range.most_signals;
            some_cycles = subst⁻¹ (λ x. 1 ≤ x) w.cycles (omega (arith, range.some_cycles));
            most_cycles = w.most range.most_cycles;
            loop = subst⁻¹ (Below (covered g t).cycles) w.ending (subst⁻¹ (λ x. l + round_cycles t l (nesting g) < x) w.cycles (omega (arith, b)));
          }

  pub covered_covers : InRange t → Coverable g t → CoversForm g (covered g t)
  covered_covers range able = by t.ending refl
    where
      by : (x : Ending) → t.ending ≡ x → CoversForm g (covered g t)
      by Open e = subst⁻¹ (CoversIn g (covered g t)) (ap (λ (x : Trace). x.ending) (covered_open g t e) ∙ e) tt
      by (Loop l) e =
          let w = covered_loop_lem l e able in
          let b = loop_below range l e in
          let p : (covered g t).cycles - (l + round_cycles t l (nesting g)) ≡ t.cycles - l = omega (arith, w.cycles, b) in
          subst⁻¹ (CoversIn g (covered g t)) w.ending (record {
            since = l;
            repeats = λ s i from. subst⁻¹ (λ n. signal_at (covered g t) (position (covered g t).cycles (l + round_cycles t l (nesting g)) (i + n)) s
                ≡ unrolled (covered g t) (l + round_cycles t l (nesting g)) i s) p (w.repeats b s i from);
            late = λ k h. subst⁻¹ (λ n. l + nested (table_of g.places) k * n ≤ l + round_cycles t l (nesting g)) p
                (let m = mul-le-mul_right (t.cycles - l) (nested_most (table_of g.places) (suc g.rows) k h) in omega (arith, m));
          })

-- without rows that look back it is the take itself
pub covered_unnested : (g : NormalForm) (t : Trace) → nesting g ≡ 0 → covered g t ≡ t
unfolding covered
covered_unnested g t none = by t.ending refl
  where
    by : (x : Ending) → t.ending ≡ x → result_unwrap_or (written_out t (nesting g)) t ≡ t
    by Open e = ap (λ x. result_unwrap_or x t) (written_open t (nesting g) e)
    by (Loop l) e = ap (λ d. result_unwrap_or (written_out t d) t) none ∙ ap (λ x. result_unwrap_or x t) (written_none t l e)

-- ---- for the time being: no kind looks back, so that no rounds are written out

pub coverable : (g : NormalForm) (t : Trace) → InRange t → Coverable g t
coverable g t range = by t.ending
  where
    by : (x : Ending) → CoverableIn g t x
    by Open = tt
    by (Loop l) = subst⁻¹ (λ d. t.cycles + round_cycles t l d ≤ 256) (nesting_none g) (omega (arith, range.most_cycles))

pub covered_itself : (g : NormalForm) (t : Trace) → covered g t ≡ t
covered_itself g t = covered_unnested g t (nesting_none g)

-- every take in range covers every normal form
pub covers_itself : (g : NormalForm) (t : Trace) → InRange t → CoversForm g t
covers_itself g t range = subst (CoversForm g) (covered_itself g t) (covered_covers g t range (coverable g t range))
