-- A cycle filled in place, step by step. Assumes nothing.
use Prim.Native.Nat.{ℕ, suc, ◌+◌, ◌-◌, ◌*◌, ◌≤◌, ◌<◌}
use mathlib.Core.Path.{◌≡◌, refl, sym, ap, subst, ◌∙◌}
use mathlib.Core.Bool.{Bool, true, false}
use mathlib.Core.List.{List}
use native.Mathlib.Decide.{ℕ_discrete}
use native.Mathlib.Omega.{arith}
use mir.Val.{bool_byte}
use lib.ListN.{length, get_or, set, length-set}
use lib.Seq.{get_or-set_same, get_or-set_other}
use Rattle.tables.specs.declared.row.NormalForm.{NormalForm}
use Rattle.meaning.specs.Satisfaction.{table_of}
use Rattle.meaning.specs.Rows.{Each, EachSignal}
use Rattle.meaning.specs.Pattern.{left, right, pattern_of}
use Rattle.meaning.proofs.Rows.{each_map, each_zip, each_signal, each_signal_map}
use Rattle.normal_form.specs.Form.{InNormalForm}
use Rattle.normal_form.proofs.FormTables.{form_operands, row_signals}
use Rattle.cycle_rows.specs.Cycle.{row_from}
use Rattle.cycle_rows.specs.Cells.{given_in, row_cell, FilledIn}
use Rattle.cycle_rows.specs.declared.prepare.Step.{Step}
use Rattle.cycle_rows.specs.Steps.{case_in, cell_of, case_of, step_in, StepsOf}
use Rattle.cycle_rows.proofs.RowFrom.{row_from_local, step_bit_from, cells_below, turn_before, turn_after}

-- the case that a step finds, as the code has it
abbrev pub found_case : Step → List Bool → ℕ
found_case step cells = bool_byte (get_or cells step.first false) + 2 * bool_byte (get_or cells step.second false) + 4 * bool_byte (get_or cells step.own false)

found_case_lem : (a b x : Bool) → bool_byte a + 2 * bool_byte b + 4 * bool_byte x ≡ case_of a b x
found_case_lem true true true = refl
found_case_lem true true false = refl
found_case_lem true false true = refl
found_case_lem true false false = refl
found_case_lem false true true = refl
found_case_lem false true false = refl
found_case_lem false false true = refl
found_case_lem false false false = refl

-- the rows whose turn is before step i are filled; all other cells are as before
module _ (g : NormalForm) (turn : ℕ → ℕ) (before : List Bool) where
  pub record FilledTo (i : ℕ) (cells : List Bool) : Type 0 where
    pub size : length cells ≡ length before
    pub filled : (k : ℕ) → 1 ≤ k → k ≤ g.rows → turn k < i → row_cell cells k ≡ row_from (given_in before) (row_cell cells) (row_cell before) (table_of g.places k) k
    pub ahead : (k : ℕ) → 1 ≤ k → k ≤ g.rows → i ≤ turn k → row_cell cells k ≡ row_cell before k
    pub signals : (j : ℕ) → j < 32 → get_or cells j false ≡ get_or before j false
    pub behind : (j : ℕ) → 32 + g.rows ≤ j → get_or cells j false ≡ get_or before j false

module _ {g : NormalForm} (ok : InNormalForm g) {steps : List Step} (s : StepsOf g steps) where
  row_of : (k : ℕ) → 1 ≤ k → k ≤ g.rows → Each (λ a. (1 ≤ a) × (a < k)) (table_of g.places k) × EachSignal (λ n. (1 ≤ n) × (n ≤ 32)) (table_of g.places k)
  row_of k a b = (form_operands g ok k (omega arith), let e : suc (k - 1) ≡ k = omega arith in subst (λ m. EachSignal (λ n. (1 ≤ n) × (n ≤ 32)) (table_of g.places m)) e (row_signals g ok (k - 1) (omega arith)))

  -- the cells that a step names are among the 160
  pub step_cells : (i : ℕ) → i < g.rows → ((step_in steps i).own < 160) × ((step_in steps i).first < 160) × ((step_in steps i).second < 160)
  step_cells i h =
      let k = s.row_at i in
      let a = s.stepped i h in
      let r = row_of k a.0 a.1 in
      let b = cells_below (table_of g.places k) (each_map _ _ (λ m x. (x.0, omega (arith, x.1, a.1, ok.most_rows))) (table_of g.places k) r.0) r.1 in
      (omega (arith, (s.step i h).into, a.1, ok.most_rows), omega (arith, (s.step i h).first, b.0), omega (arith, (s.step i h).second, b.1))

  module _ {before cells : List Bool} {i : ℕ} (sized : length before ≡ 160) (h : i < g.rows) (f : FilledTo g s.turn before i cells) (x : Bool) where
    abbrev k₀ : ℕ
    k₀ = s.row_at i

    abbrev after : List Bool
    after = set cells (31 + k₀) x

    written : row_cell after k₀ ≡ x
    written = get_or-set_same cells (31 + k₀) x false (omega (arith, f.size, (s.stepped i h).1, ok.most_rows))

    kept : (j : ℕ) → (j ≡ 31 + k₀ → ⊥) → get_or after j false ≡ get_or cells j false
    kept j d = get_or-set_other cells (31 + k₀) j x false d

    row_kept : (a : ℕ) → (a ≡ k₀ → ⊥) → row_cell after a ≡ row_cell cells a
    row_kept a d = kept (31 + a) (λ e. d (omega arith))

    -- another turn is another row
    other_row : (a : ℕ) → (s.turn a ≡ i → ⊥) → a ≡ k₀ → ⊥
    other_row a d e = d (ap s.turn e ∙ (s.stepped i h).2)

    earlier : (k : ℕ) → 1 ≤ k → k ≤ g.rows → s.turn k < suc i → (k ≡ k₀ → ⊥) → s.turn k < i
    earlier k a b l q = by (ℕ_discrete (s.turn k) i)
      where
        by : Dec (s.turn k ≡ i) → s.turn k < i
        by (yes d) = absurd (q (sym (s.turned k a b).1 ∙ ap s.row_at d))
        by (no d) = omega arith

    -- the row whose turn it is, from the cells as its step finds them
    row_now : x ≡ row_from (given_in cells) (row_cell cells) (row_cell cells) (table_of g.places k₀) k₀ → x ≡ row_from (given_in before) (row_cell after) (row_cell before) (table_of g.places k₀) k₀
    row_now e =
        let a = s.stepped i h in
        let r = table_of g.places k₀ in
        let w = row_of k₀ a.0 a.1 in
        e ∙ row_from_local (given_in cells) (given_in before) (row_cell cells) (row_cell after) (row_cell cells) (row_cell before) r k₀
        (each_signal_map _ _ r (λ n y. f.signals (n - 1) (omega (arith, y.0, y.1))) w.1)
        (λ d. each_map _ _ (λ m y. sym (row_kept m (λ z. omega (arith, y.1)))) r w.0)
        (λ d. each_zip _ _ _ (λ m y z. f.ahead m y.0 (omega (arith, y.1, a.1)) (omega (arith, z, a.2))) r w.0 (turn_before s.turn k₀ r (pattern_of r) d (s.in_turn k₀ a.0 a.1)))
        (f.ahead k₀ a.0 a.1 (omega (arith, a.2)))

    -- a row that is filled reads no row whose turn is to come
    row_then : (k : ℕ) → 1 ≤ k → k ≤ g.rows → s.turn k < i
        → row_from (given_in before) (row_cell cells) (row_cell before) (table_of g.places k) k ≡ row_from (given_in before) (row_cell after) (row_cell before) (table_of g.places k) k
    row_then k a b l =
        let r = table_of g.places k in
        row_from_local (given_in before) (given_in before) (row_cell cells) (row_cell after) (row_cell before) (row_cell before) r k
        (each_signal _ (λ n. refl) r)
        (λ d. each_map _ _ (λ m y. sym (row_kept m (other_row m (λ z. omega (arith, y))))) r (turn_after s.turn k r (pattern_of r) d (s.in_turn k a b)))
        (λ d. each_map _ _ (λ m y. refl) r (row_of k a b).0)
        refl

    filled_more : x ≡ row_from (given_in cells) (row_cell cells) (row_cell cells) (table_of g.places k₀) k₀ → FilledTo g s.turn before (suc i) after
    filled_more e = record {
      size = length-set cells (31 + k₀) x ∙ f.size;
      filled = λ k a b l. by k a b l (ℕ_discrete k k₀);
      ahead = λ k a b l. row_kept k (other_row k (λ z. omega arith)) ∙ f.ahead k a b (omega arith);
      signals = λ j l. kept j (λ z. omega (arith, (s.stepped i h).0)) ∙ f.signals j l;
      behind = λ j l. kept j (λ z. omega (arith, (s.stepped i h).1)) ∙ f.behind j l;
    }
      where
        by : (k : ℕ) → 1 ≤ k → k ≤ g.rows → s.turn k < suc i → Dec (k ≡ k₀) → row_cell after k ≡ row_from (given_in before) (row_cell after) (row_cell before) (table_of g.places k) k
        by k a b l (yes q) = subst (λ m. row_cell after m ≡ row_from (given_in before) (row_cell after) (row_cell before) (table_of g.places m) m) (sym q) (written ∙ row_now e)
        by k a b l (no q) = let n = earlier k a b l q in row_kept k q ∙ (f.filled k a b n ∙ row_then k a b n)

  -- what a step finds, looked up, is the row from the cells as they are
  step_told : (cells : List Bool) (i : ℕ) → i < g.rows
      → case_in (step_in steps i).table (found_case (step_in steps i) cells) ≡ row_from (given_in cells) (row_cell cells) (row_cell cells) (table_of g.places (s.row_at i)) (s.row_at i)
  step_told cells i h =
      let p = s.step i h in
      let r = table_of g.places (s.row_at i) in
      let e = found_case_lem (get_or cells (cell_of (left r)) false) (get_or cells (cell_of (right r)) false) (row_cell cells (s.row_at i)) in
      rw (p.into, p.first, p.second, e)
      (p.told (get_or cells (cell_of (left r)) false) (get_or cells (cell_of (right r)) false) (row_cell cells (s.row_at i)) ∙ step_bit_from cells r (s.row_at i))

  pub filled_step : {before cells : List Bool} {i : ℕ} → length before ≡ 160 → i < g.rows → FilledTo g s.turn before i cells
      → FilledTo g s.turn before (suc i) (set cells (step_in steps i).own (case_in (step_in steps i).table (found_case (step_in steps i) cells)))
  filled_step {before} {cells} {i} sized h f =
      let x = case_in (step_in steps i).table (found_case (step_in steps i) cells) in
      subst (λ n. FilledTo g s.turn before (suc i) (set cells n x)) (sym (s.step i h).into) (filled_more sized h f x (step_told cells i h))

  pub filled_all : {before cells : List Bool} {i : ℕ} → g.rows ≤ i → FilledTo g s.turn before i cells → FilledIn g before cells
  filled_all l f = record {
    size = f.size;
    rows = λ k h. f.filled (suc k) (omega arith) h (omega (arith, (s.turned (suc k) (omega arith) h).0));
    signals = f.signals;
    behind = f.behind;
  }
