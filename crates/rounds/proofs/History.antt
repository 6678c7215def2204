-- The rounds so far, how one more is added, and what stands behind the last. Assumes nothing.
use Prim.Native.Nat.{ℕ, zero, suc, ◌≤◌, ◌<◌}
use mathlib.Core.Path.{◌≡◌, refl, sym, ap, subst⁻¹, ◌∙◌, fun_ext}
use mathlib.Core.Logic.{◌⊎◌, inl, inr}
use mathlib.Core.Bool.{Bool, true, false, true≢false}
use mathlib.Core.List.{List}
use native.Mathlib.Decide.{dec_lt, ℕ_discrete}
use native.Mathlib.Omega.{arith}
use lib.Dec.{eqb}
use borrow.Author.Tests.{eq-eqb, ne_eqb}
use Rattle.tables.specs.Choice.{pick}
use Rattle.tables.specs.declared.row.NormalForm.{NormalForm}
use Rattle.tables.specs.declared.trace.Lane.{Lane}
use Rattle.tables.specs.declared.trace.Trace.{Trace}
use Rattle.meaning.specs.Trace.{signal_at}
use Rattle.meaning.specs.Satisfaction.{Table, table_of}
use Rattle.meaning.specs.Rows.{Each}
use Rattle.meaning.specs.Pattern.{Pattern, Pattern.now, Pattern.next, Pattern.connective, Pattern.temporal, pattern_of}
use Rattle.meaning.proofs.Nesting.{nesting_none}
use Rattle.normal_form.specs.Form.{InNormalForm}
use Rattle.normal_form.proofs.FormTables.{form_operands}
use Rattle.lanes.specs.Truth.{lane_in, Shows}
use Rattle.cycle_rows.specs.Cycle.{CycleFrom}
use Rattle.between_rounds.specs.Between.{every_operand, handed, Handed, Surveyed}
use Rattle.rounds.specs.Rounds.{Columns, start_for, start_of, Rises, given_at, round_end, Round, Begins, ByCycle}
use Rattle.rounds.specs.Recorded.{RecordedFrom}
use Rattle.rounds.proofs.LassoBits.{lasso_bit}
use Rattle.rounds.proofs.OneRound.{Starts, sure_right, starts_next, starts_first}
use Rattle.rounds.proofs.NextRound.{first_deep, deeper}

-- ---- a list of rounds with one more, or another, at r

abbrev pub put : (ℕ → Columns) → ℕ → Columns → ℕ → Columns
put columns r x q = pick (eqb q r) x (columns q)

pub put_same : (columns : ℕ → Columns) (r : ℕ) (x : Columns) → put columns r x r ≡ x
put_same columns r x = ap (λ b. pick b x (columns r)) (eq-eqb r r refl)

pub put_other : (columns : ℕ → Columns) (r : ℕ) (x : Columns) (q : ℕ) → (q ≡ r → ⊥) → put columns r x q ≡ columns q
put_other columns r x q ne = ap (λ b. pick b x (columns q)) (ne_eqb q r ne)

-- ---- where a round ends, and where it begins

-- no row looks back yet
pub ends_at_loop : (g : NormalForm) (l : ℕ) → round_end g l ≡ l
ends_at_loop g l = ap (λ n. pick (eqb n 0) l 0) (nesting_none g)

-- a row goes on or starts anew
handed_either : (p : Pattern) (operands x b : Bool) → b ≡ handed p operands x → (b ≡ x) ⊎ (b ≡ start_for p)
handed_either now operands x b e = inl e
handed_either next operands x b e = inl e
handed_either (connective f) operands x b e = inl e
handed_either (temporal f w) true x b e = inl e
handed_either (temporal f w) false x b e = inr e

module _ (g : NormalForm) (t : Trace) (l : ℕ) where
  pub handed_begins :
      (sure left behind : ℕ → Bool) (x : Columns) → Handed (table_of g.places) g.rows sure left behind → x t.cycles ≡ behind → Begins g t l left x
  handed_begins sure left behind x h e k lt = handed_either (pattern_of (table_of g.places (suc k))) (every_operand sure (table_of g.places (suc k))) (left (suc k)) (x t.cycles (suc k)) (ap (λ f. f (suc k)) e ∙ h k lt)

  -- what counts of a round is what stands behind its last cycle
  pub begins_same : (left : ℕ → Bool) (x y : Columns) → x t.cycles ≡ y t.cycles → Begins g t l left y → Begins g t l left x
  begins_same left x y e b k lt = subst⁻¹ (λ f. (f (suc k) ≡ left (suc k)) ⊎ (f (suc k) ≡ start_of (table_of g.places (suc k)))) e (b k lt)

module _ (g : NormalForm) (t : Trace) (l : ℕ) (ok : InNormalForm g) (l<n : l < t.cycles) (bits : ℕ → ℕ → Bool)
    (true_bit : (k : ℕ) → k < g.rows → (c : ℕ) → c < t.cycles → bits (suc k) c ≡ lasso_bit t.cycles l (signal_at t) bits (table_of g.places (suc k)) c) where
  abbrev pub T : Table
  T = table_of g.places

  pub operands : (k : ℕ) → k < g.rows → Each (λ a. (1 ≤ a) × (a < suc k)) (T (suc k))
  operands k h = form_operands g ok (suc k) (omega arith)

  -- the last round: where it started, what it left, what is sure behind it, and its words
  pub record LastRound (x : Columns) (left sure : ℕ → Bool) (words : List ℕ) : Type 0 where
    pub starts : Starts l T g.rows bits (x t.cycles)
    pub leaves : x l ≡ left
    pub surveyed : Surveyed T g.rows (x t.cycles) (x l) sure
    pub recorded : RecordedFrom g.rows t.cycles l words x

  abbrev pub Last : ℕ → (ℕ → Columns) → (ℕ → Bool) → (ℕ → Bool) → (ℕ → Bool) → List ℕ → Type 0
  Last zero columns entered left sure words = (entered ≡ left) × ((k : ℕ) → sure k ≡ false)
  Last (suc r) columns entered left sure words = LastRound (columns r) left sure words

  pub record History (rounds : ℕ) (left sure : ℕ → Bool) (words : List ℕ) : Type 0 where
    pub columns : ℕ → Columns
    pub entered : ℕ → Bool
    pub enters : CycleFrom g (given_at t l) (λ k. start_of (T k)) entered
    pub made : (r : ℕ) → r < rounds → Round g t l l (columns r)
    pub first : 0 < rounds → Begins g t l entered (columns 0)
    pub goes_on : (r : ℕ) → suc r < rounds → Begins g t l (columns r l) (columns (suc r))
    pub last : Last rounds columns entered left sure words
    pub deep : (depth : ℕ → ℕ) → Rises g depth → (k : ℕ) → k < g.rows → depth (suc k) < rounds → sure (suc k) ≡ true
    pub few : (depth : ℕ → ℕ) → Rises g depth → (most : ℕ) → ((k : ℕ) → k < g.rows → depth (suc k) ≤ most) → rounds ≤ suc most

  -- a round more is needed
  abbrev pub Unsure : ℕ → (ℕ → Bool) → Type 0
  Unsure rounds sure = (rounds ≡ 0) ⊎ ((k : ℕ) × (k < g.rows) × (sure (suc k) ≡ false))

  pub none_yet :
      (entered sure : ℕ → Bool) (words : List ℕ) → CycleFrom g (given_at t l) (λ k. start_of (T k)) entered → ((k : ℕ) → sure k ≡ false)
      → History 0 entered sure words
  none_yet entered sure words enters none = record {
    columns = λ r c k. false;
    entered = entered;
    enters = enters;
    made = λ r h. absurd (omega arith);
    first = λ h. absurd (omega arith);
    goes_on = λ r h. absurd (omega arith);
    last = (refl, none);
    deep = λ depth rises k h lt. absurd (omega arith);
    few = λ depth rises most h. omega arith;
  }

  -- ---- one round more

  module _ (left sure : ℕ → Bool) (words : List ℕ) (x : Columns) (left' sure' : ℕ → Bool) (words' : List ℕ)
      (handing : Handed T g.rows sure left (x t.cycles)) (round : Round g t l l x) (leaves : x l ≡ left')
      (surveyed : Surveyed T g.rows (x t.cycles) (x l) sure') (recorded : RecordedFrom g.rows t.cycles l words' x) where
    made_more : (r : ℕ) (columns : ℕ → Columns) → ((q : ℕ) → q < r → Round g t l l (columns q)) → (q : ℕ) → q < suc r → Round g t l l (put columns r x q)
    made_more r columns made q h = by (ℕ_discrete q r)
      where
        by : Dec (q ≡ r) → Round g t l l (put columns r x q)
        by (yes e) = subst⁻¹ (λ (y : Columns). Round g t l l y) (ap (put columns r x) e ∙ put_same columns r x) round
        by (no e) = subst⁻¹ (λ (y : Columns). Round g t l l y) (put_other columns r x q e) (made q (omega arith))

    -- no more than the rows that look ahead on a branch ask for
    few_more :
        (r : ℕ) → Unsure r sure → ((depth : ℕ → ℕ) → Rises g depth → (k : ℕ) → k < g.rows → depth (suc k) < r → sure (suc k) ≡ true)
        → (depth : ℕ → ℕ) → Rises g depth → (most : ℕ) → ((k : ℕ) → k < g.rows → depth (suc k) ≤ most) → suc r ≤ suc most
    few_more r (inl e) deep depth rises most h = omega arith
    few_more r (inr u) deep depth rises most h = by (dec_lt (depth (suc u.0)) r)
      where
        by : Dec (depth (suc u.0) < r) → suc r ≤ suc most
        by (yes b) = absurd (true≢false (sym (deep depth rises u.0 u.1 b) ∙ u.2))
        by (no b) = let m = h u.0 u.1 in omega arith

    newest : (r : ℕ) (columns : ℕ → Columns) → Starts l T g.rows bits (x t.cycles) → LastRound (put columns r x r) left' sure' words'
    newest r columns starts = subst⁻¹ (λ (y : Columns). LastRound y left' sure' words') (put_same columns r x) (record { starts = starts; leaves = leaves; surveyed = surveyed; recorded = recorded })

    pub one_more : (r : ℕ) → History r left sure words → Unsure r sure → History (suc r) left' sure' words'
    one_more zero h u =
        let none : (k : ℕ) → sure k ≡ false = h.last.1 in
        let starts = starts_first l T g.rows bits left (x t.cycles) (rw (fun_ext none) at handing) in
        record {
          columns = put h.columns 0 x;
          entered = h.entered;
          enters = h.enters;
          made = made_more 0 h.columns h.made;
          first = λ b. handed_begins g t l sure h.entered (x t.cycles) (put h.columns 0 x 0) (subst⁻¹ (λ (y : ℕ → Bool). Handed T g.rows sure y (x t.cycles)) h.last.0 handing) refl;
          goes_on = λ q b. absurd (omega arith);
          last = newest 0 h.columns starts;
          deep = λ depth rises k b lt. first_deep T g.rows operands depth rises (x t.cycles) (x l) sure' surveyed k b lt;
          few = few_more 0 u h.deep;
        }
    one_more (suc r) h u =
        let y : Columns = h.columns r in
        let before : LastRound y left sure words = h.last in
        let handed_on : Handed T g.rows sure (y l) (x t.cycles) = subst⁻¹ (λ (z : ℕ → Bool). Handed T g.rows sure z (x t.cycles)) before.leaves handing in
        let starts = starts_next t.cycles l l<n (given_at t) T g.rows operands bits true_bit l (omega arith) y (h.made r (omega arith)) before.starts sure before.surveyed (x t.cycles) handed_on in
        record {
          columns = put h.columns (suc r) x;
          entered = h.entered;
          enters = h.enters;
          made = made_more (suc r) h.columns h.made;
          first = λ b. begins_same g t l h.entered (put h.columns (suc r) x 0) (h.columns 0) (ap (λ (z : Columns). z t.cycles) (put_other h.columns (suc r) x 0 (λ e. omega arith))) (h.first (omega arith));
          goes_on = λ q b. on q b (ℕ_discrete q r);
          last = newest (suc r) h.columns starts;
          deep = λ depth rises k b lt. deeper t.cycles l l<n (given_at t) T g.rows operands bits true_bit y (h.made r (omega arith)) before.starts sure before.surveyed x round handed_on sure' surveyed depth rises (suc r) (h.deep depth rises) k b lt;
          few = few_more (suc r) u h.deep;
        }
      where
        on : (q : ℕ) → suc q < suc (suc r) → Dec (q ≡ r) → Begins g t l (put h.columns (suc r) x q l) (put h.columns (suc r) x (suc q))
        on q b (yes e) =
            let from : put h.columns (suc r) x q ≡ h.columns r = put_other h.columns (suc r) x q (λ z. omega arith) ∙ ap h.columns e in
            let to : put h.columns (suc r) x (suc q) ≡ x = ap (λ z. put h.columns (suc r) x (suc z)) e ∙ put_same h.columns (suc r) x in
            subst⁻¹ (λ (z : Columns). Begins g t l (z l) (put h.columns (suc r) x (suc q))) from
            (subst⁻¹ (λ (z : Columns). Begins g t l (h.columns r l) z) to
            (handed_begins g t l sure (h.columns r l) (x t.cycles) x (subst⁻¹ (λ (z : ℕ → Bool). Handed T g.rows sure z (x t.cycles)) h.last.leaves handing) refl))
        on q b (no e) =
            let from : put h.columns (suc r) x q ≡ h.columns q = put_other h.columns (suc r) x q (λ z. omega arith) in
            let to : put h.columns (suc r) x (suc q) ≡ h.columns (suc q) = put_other h.columns (suc r) x (suc q) (λ z. omega arith) in
            subst⁻¹ (λ (z : Columns). Begins g t l (z l) (put h.columns (suc r) x (suc q))) from
            (subst⁻¹ (λ (z : Columns). Begins g t l (h.columns q l) z) to (h.goes_on q (omega arith)))

  -- ---- the last round goes on through the stem

  module _ (r : ℕ) (left sure : ℕ → Bool) (words : List ℕ) (h : History (suc r) left sure words) (x : Columns)
      (kept : (c : ℕ) → l ≤ c → x c ≡ h.columns r c) (stem : (c : ℕ) → c < l → CycleFrom g (given_at t c) (x (suc c)) (x c)) where
    pub whole_round : Round g t l 0 x
    whole_round c a b = by (dec_lt c l)
      where
        by : Dec (c < l) → CycleFrom g (given_at t c) (x (suc c)) (x c)
        by (yes s) = stem c s
        by (no s) = subst⁻¹ (λ (y : ℕ → Bool). CycleFrom g (given_at t c) y (x c)) (kept (suc c) (omega arith))
            (subst⁻¹ (λ (y : ℕ → Bool). CycleFrom g (given_at t c) (h.columns r (suc c)) y) (kept c (omega arith)) (h.made r (omega arith) c (omega arith) b))

    -- EVERY CYCLE OF EVERY ROUND IS FILLED FROM WHAT IT IS GIVEN AND THE ROWS ONE CYCLE ON
    pub by_cycle : (lanes : List Lane) → ((k : ℕ) → k < g.rows → Shows t.cycles (lane_in lanes k) (λ c. x c (suc k))) → ByCycle g t l (suc r) lanes
    by_cycle lanes shown = record {
      columns = put h.columns r x;
      some = omega arith;
      made = λ q b. subst⁻¹ (λ m. Round g t l m (put h.columns r x q)) (ends_at_loop g l) (made_with q b (ℕ_discrete q r));
      whole = λ q e. subst⁻¹ (λ (y : Columns). Round g t l 0 y) (newest_is q e) whole_round;
      entered = h.entered;
      enters = h.enters;
      first = begins_same g t l h.entered (put h.columns r x 0) (h.columns 0) (behind 0 (ℕ_discrete 0 r)) (h.first (omega arith));
      goes_on = λ q b.
          let from : put h.columns r x q ≡ h.columns q = put_other h.columns r x q (λ z. omega arith) in
          subst⁻¹ (λ (z : Columns). Begins g t l (z l) (put h.columns r x (suc q))) from (begins_same g t l (h.columns q l) (put h.columns r x (suc q)) (h.columns (suc q)) (behind (suc q) (ℕ_discrete (suc q) r)) (h.goes_on q b));
      answered = λ q e k b. subst⁻¹ (λ (y : Columns). Shows t.cycles (lane_in lanes k) (λ c. y c (suc k))) (newest_is q e) (shown k b);
      few = h.few;
    }
      where
        newest_is : (q : ℕ) → suc q ≡ suc r → put h.columns r x q ≡ x
        newest_is q e = let z : q ≡ r = omega arith in ap (put h.columns r x) z ∙ put_same h.columns r x

        made_with : (q : ℕ) → q < suc r → Dec (q ≡ r) → Round g t l l (put h.columns r x q)
        made_with q b (yes e) = subst⁻¹ (λ (y : Columns). Round g t l l y) (newest_is q (ap suc e)) (λ c a. whole_round c (omega arith))
        made_with q b (no e) = subst⁻¹ (λ (y : Columns). Round g t l l y) (put_other h.columns r x q e) (h.made q b)

        behind : (q : ℕ) → Dec (q ≡ r) → put h.columns r x q t.cycles ≡ h.columns q t.cycles
        behind q (yes e) = ap (λ (y : Columns). y t.cycles) (newest_is q (ap suc e)) ∙ kept t.cycles (omega arith) ∙ ap (λ z. h.columns z t.cycles) (sym e)
        behind q (no e) = ap (λ (y : Columns). y t.cycles) (put_other h.columns r x q e)

    -- ALL ROWS SURE, ITS COLUMNS ARE THE TRUTH
    pub all_right : ((k : ℕ) → k < g.rows → sure (suc k) ≡ true) → (k : ℕ) → k < g.rows → (c : ℕ) → c < t.cycles → x c (suc k) ≡ bits (suc k) c
    all_right all k b c lt =
        let before : LastRound (h.columns r) left sure words = h.last in
        let e = kept t.cycles (omega arith) in
        let starts = subst⁻¹ (λ (y : ℕ → Bool). Starts l T g.rows bits y) e before.starts in
        let surveyed : Surveyed T g.rows (x t.cycles) (x l) sure =
        subst⁻¹ (λ (y : ℕ → Bool). Surveyed T g.rows y (x l) sure) e (subst⁻¹ (λ (y : ℕ → Bool). Surveyed T g.rows (h.columns r t.cycles) y sure) (kept l (omega arith)) before.surveyed) in
        sure_right t.cycles l l<n (given_at t) T g.rows operands bits true_bit 0 (omega arith) x whole_round starts sure surveyed k b (all k b) c (omega arith) lt
