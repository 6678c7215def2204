-- The loop over rounds: what holds before each, and what is answered behind the last. Assumes nothing.
use Prim.Native.Nat.{ℕ, zero, suc, ◌-◌, ◌≤◌, ◌<◌}
use mathlib.Core.Path.{◌≡◌, refl, sym, subst, subst⁻¹}
use mathlib.Core.Logic.{◌↔◌, inl, inr}
use mathlib.Core.Bool.{Bool, true, false, true≢false}
use mathlib.Core.List.{List}
use native.Mathlib.Omega.{arith}
use Rattle.tables.specs.declared.row.NormalForm.{NormalForm}
use Rattle.tables.specs.declared.row.Row.{Row}
use Rattle.tables.specs.declared.trace.Ending.TheVariants.{Loop}
use Rattle.tables.specs.declared.trace.Lane.{Lane}
use Rattle.tables.specs.declared.trace.Trace.{Trace}
use Rattle.meaning.specs.Trace.{signal_at}
use Rattle.meaning.specs.Satisfaction.{table_of}
use Rattle.meaning.specs.Rows.{Each}
use Rattle.meaning.specs.Covers.{CoversIn}
use Rattle.meaning.specs.Pattern.{Pattern, Pattern.now, Pattern.next, Pattern.connective, Pattern.temporal, pattern_of}
use Rattle.meaning.proofs.Rows.{each_map}
use Rattle.normal_form.specs.Form.{InNormalForm}
use Rattle.normal_form.proofs.FormTables.{form_operands}
use Rattle.take_file.specs.Valid.{Below as LoopBelow, InRange}
use Rattle.lanes.specs.Truth.{lane_in, Shows, TrueIn, Filled}
use Rattle.cycle_rows.specs.Cells.{row_cell}
use Rattle.cycle_rows.specs.Cycle.{CycleFrom}
use Rattle.cycle_rows.proofs.Only.{cycle_alike}
use Rattle.between_rounds.specs.Between.{sure_in, Handed, Surveyed}
use Rattle.rounds.specs.Rounds.{Columns, start_of, RisesAt, Rises, given_at, ByCycle}
use Rattle.rounds.specs.Recorded.{RecordedFrom, RoundBack, SpreadTo, given_from}
use Rattle.rounds.proofs.LassoBits.{lasso_bit, true_bits}
use Rattle.rounds.proofs.History.{History, Unsure, none_yet, one_more, by_cycle, all_right}
use Rattle.rounds.proofs.Spreading.{spread_alike}
use Rattle.rounds.proofs.Start.{all_start}

-- the row's own number counts the rows on a branch, if not well
rises_at : (k : ℕ) (r : Row) (p : Pattern) → Each (λ a. (1 ≤ a) × (a < suc k)) r → RisesAt (λ a. a - 1) (suc k) r p
rises_at k r now e = each_map _ _ (λ a x. omega (arith, x.0, x.1)) r e
rises_at k r next e = each_map _ _ (λ a x. omega (arith, x.0, x.1)) r e
rises_at k r (connective f) e = each_map _ _ (λ a x. omega (arith, x.0, x.1)) r e
rises_at k r (temporal f w) e = each_map _ _ (λ a x. omega (arith, x.0, x.1)) r e

-- NO MORE ROUNDS THAN ROWS
pub rounds_most :
    (g : NormalForm) → InNormalForm g → (rounds : ℕ)
    → ((depth : ℕ → ℕ) → Rises g depth → (most : ℕ) → ((k : ℕ) → k < g.rows → depth (suc k) ≤ most) → rounds ≤ suc most) → rounds ≤ g.rows
rounds_most g ok rounds few =
    let some = ok.some_rows in
    let rises : Rises g (λ a. a - 1) = λ k h. rises_at k (table_of g.places (suc k)) (pattern_of (table_of g.places (suc k))) (form_operands g ok (suc k) (omega arith)) in
    let m : rounds ≤ suc (g.rows - 1) = few (λ a. a - 1) rises (g.rows - 1) (λ k h. omega arith) in
    omega arith

pub loop_within : (t : Trace) (l : ℕ) → InRange t → t.ending ≡ Loop l → l < t.cycles
loop_within t l range e = subst (λ ending. LoopBelow t.cycles ending) e range.loop

module _ (g : NormalForm) (t : Trace) (l : ℕ) (ok : InNormalForm g) (l<n : l < t.cycles) (covers : CoversIn g t (Loop l)) where
  pub bits : ℕ → ℕ → Bool
  bits = (true_bits g t l ok l<n covers).0

  pub true_bit : (k : ℕ) → k < g.rows → (c : ℕ) → c < t.cycles → bits (suc k) c ≡ lasso_bit t.cycles l (signal_at t) bits (table_of g.places (suc k)) c
  unfolding bits
  true_bit k h = (true_bits g t l ok l<n covers).1 (suc k) (omega arith)

  told : (k : ℕ) → k < g.rows → (c : ℕ) → c < t.cycles → TrueIn g t (Loop l) (suc k) c ↔ (bits (suc k) c ≡ true)
  unfolding bits
  told k h = (true_bits g t l ok l<n covers).2 (suc k) (omega arith)

  pub record Looping (rounds : ℕ) (cells : List Bool) (words : List ℕ) (sure : List Bool) (done : Bool) : Type 0 where
    pub history : History g t l ok l<n bits true_bit rounds (row_cell cells) (sure_in sure) words
    pub unsure : done ≡ false → Unsure g t l ok l<n bits true_bit rounds (sure_in sure)
    pub all : done ≡ true → (k : ℕ) → k < g.rows → sure_in sure (suc k) ≡ true
    pub some : done ≡ true → 1 ≤ rounds

  module _ (digits : List Bool) (spread : SpreadTo g.signals t.cycles t.lanes digits) where
    as_recorded : (c : ℕ) → c < t.cycles → (u here : ℕ → Bool) → CycleFrom g (given_from digits c) u here → CycleFrom g (given_at t c) u here
    as_recorded c h u here made = cycle_alike g ok (given_from digits c) (given_at t c) (spread_alike g t digits spread c h) u u (λ k b. refl) here made

    -- before the first round
    pub loop_first :
        (blank start cells sure : List Bool) (words : List ℕ) → ((k : ℕ) → sure_in sure k ≡ false) → ((k : ℕ) → row_cell blank k ≡ false)
        → Handed (table_of g.places) g.rows (sure_in sure) (row_cell blank) (row_cell start) → CycleFrom g (given_from digits l) (row_cell start) (row_cell cells)
        → Looping 0 cells words sure false
    loop_first blank start cells sure words none off handing made = record {
      history = none_yet g t l ok l<n bits true_bit (row_cell cells) (sure_in sure) words
          (cycle_alike g ok (given_from digits l) (given_at t l) (spread_alike g t digits spread l l<n) (row_cell start) (λ k. start_of (table_of g.places k))
          (all_start (table_of g.places) g.rows (sure_in sure) (row_cell blank) (row_cell start) none off handing) (row_cell cells) made)
          none;
      unsure = λ e. inl refl;
      all = λ e. absurd (true≢false (sym e));
      some = λ e. absurd (true≢false (sym e));
    }

    -- a round more
    pub loop_more :
        (rounds : ℕ) (cells behind cells' sure sure' : List Bool) (words words' : List ℕ) (done' : Bool) → Looping rounds cells words sure false
        → Handed (table_of g.places) g.rows (sure_in sure) (row_cell cells) (row_cell behind)
        → RoundBack g (given_from digits) t.cycles l t.cycles (λ c. row_cell behind) (row_cell cells') words'
        → Surveyed (table_of g.places) g.rows (row_cell behind) (row_cell cells') (sure_in sure')
        → (done' ≡ true → (k : ℕ) → k < g.rows → sure_in sure' (suc k) ≡ true)
        → (done' ≡ false → (k : ℕ) × (k < g.rows) × (sure_in sure' (suc k) ≡ false)) → Looping (suc rounds) cells' words' sure' done'
    loop_more rounds cells behind cells' sure sure' words words' done' before handing back surveyed all some =
        let n : ℕ = t.cycles in
        let x : Columns = back.columns in
        let begins : x n ≡ row_cell behind = back.kept n (omega arith) in
        record {
          history = one_more g t l ok l<n bits true_bit (row_cell cells) (sure_in sure) words x (row_cell cells') (sure_in sure') words'
              (subst⁻¹ (λ (y : ℕ → Bool). Handed (table_of g.places) g.rows (sure_in sure) (row_cell cells) y) begins handing)
              (λ c a b. as_recorded c b (x (suc c)) (x c) (back.made c a b)) back.ends
              (subst⁻¹ (λ (y : ℕ → Bool). Surveyed (table_of g.places) g.rows y (x l) (sure_in sure')) begins
              (subst⁻¹ (λ (y : ℕ → Bool). Surveyed (table_of g.places) g.rows (row_cell behind) y (sure_in sure')) back.ends surveyed))
              back.recorded rounds before.history (before.unsure refl);
          unsure = λ e. inr (some e);
          all = all;
          some = λ e. omega arith;
        }

    -- no more rounds than rows
    pub loop_few : {rounds : ℕ} {cells sure : List Bool} {words : List ℕ} {done : Bool} → Looping rounds cells words sure done → rounds ≤ g.rows
    loop_few {rounds} at = rounds_most g ok rounds at.history.few

    -- the last round goes on to the first cycle, and its lanes are answered
    module _ (rounds : ℕ) (cells left sure : List Bool) (words words' : List ℕ) (lanes : List Lane) (at : Looping rounds cells words sure true)
        (goes : (later : Columns) → later l ≡ row_cell cells → RecordedFrom g.rows t.cycles l words later → RoundBack g (given_from digits) t.cycles 0 l later (row_cell left) words')
        (shows : (x : Columns) → RecordedFrom g.rows t.cycles 0 words' x → (k : ℕ) → k < g.rows → Shows t.cycles (lane_in lanes k) (λ c. x c (suc k))) where
      abbrev Answered : Type 0
      Answered = ((k : ℕ) → k < g.rows → (f : ℕ → Bool) × Shows t.cycles (lane_in lanes k) f × ((c : ℕ) → c < t.cycles → TrueIn g t (Loop l) (suc k) c ↔ (f c ≡ true))) × ByCycle g t l rounds lanes

      by_rounds : (r : ℕ) → rounds ≡ r → History g t l ok l<n bits true_bit r (row_cell cells) (sure_in sure) words → 1 ≤ r → Answered
      by_rounds zero e h some = absurd (omega arith)
      by_rounds (suc r) e h some =
          let back = goes (h.columns r) h.last.leaves h.last.recorded in
          let x : Columns = back.columns in
          let stem : (c : ℕ) → c < l → CycleFrom g (given_at t c) (x (suc c)) (x c) = λ c b. as_recorded c (omega arith) (x (suc c)) (x c) (back.made c (omega arith) b) in
          let shown = shows x back.recorded in (
            λ k b. (
              λ c. x c (suc k),
              shown k b,
              λ c lt. subst⁻¹ (λ y. TrueIn g t (Loop l) (suc k) c ↔ (y ≡ true)) (all_right g t l ok l<n bits true_bit r (row_cell cells) (sure_in sure) words h x back.kept stem (at.all refl) k b c lt) (told k b c lt),
            ),
            subst⁻¹ (λ m. ByCycle g t l m lanes) e (by_cycle g t l ok l<n bits true_bit r (row_cell cells) (sure_in sure) words h x back.kept stem lanes shown),
          )

      pub loop_answered : t.ending ≡ Loop l → Filled g t lanes × ByCycle g t l rounds lanes
      loop_answered e =
          let a : Answered = by_rounds rounds refl at.history (at.some refl) in
          (λ k b. subst⁻¹ (λ ending. (f : ℕ → Bool) × Shows t.cycles (lane_in lanes k) f × ((c : ℕ) → c < t.cycles → TrueIn g t ending (suc k) c ↔ (f c ≡ true))) e (a.0 k b), a.1)
