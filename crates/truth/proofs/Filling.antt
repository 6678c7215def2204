-- The lanes of all rows over an open take, one after the other, and that they tell the truth. Assumes nothing.
use Prim.Native.Nat.{ℕ, suc, ◌+◌, ◌-◌, ◌≤◌, ◌<◌}
use mathlib.Core.Path.{◌≡◌, sym, ap, subst, ◌∙◌}
use mathlib.Core.Bool.{Bool, ◌&&◌}
use mathlib.Core.List.{List, []}
use native.Mathlib.Decide.{ℕ_discrete}
use native.Mathlib.Omega.{arith}
use lib.ListN.{length, set, length-set}
use lib.Seq.{get_or-set_same, get_or-set_other}
use borrow.Author.Tests.{le-ltb, lt-ltb}
use Rattle.tables.specs.declared.row.Row.{Row}
use Rattle.tables.specs.declared.row.NormalForm.{NormalForm}
use Rattle.tables.specs.declared.trace.Ending.TheVariants.{Open}
use Rattle.tables.specs.declared.trace.Lane.{Lane}
use Rattle.tables.specs.declared.trace.Trace.{Trace}
use Rattle.meaning.specs.Trace.{InfiniteTrace, signal_at}
use Rattle.meaning.specs.Satisfaction.{Table, table_of}
use Rattle.meaning.specs.Rows.{Each, Ordered, Positive}
use Rattle.meaning.proofs.Rows.{each_map}
use Rattle.meaning.proofs.Evaluation.{bits_within, bits_of, bits_computed}
use Rattle.meaning.proofs.PatternBits.{row_bit}
use Rattle.meaning.proofs.StrongTruth.{cycles_below}
use Rattle.meaning.proofs.Prefix.{prefix, to_end}
use Rattle.normal_form.specs.Form.{InNormalForm}
use Rattle.normal_form.proofs.FormTables.{form_ordered, form_positive}
use Rattle.lanes.specs.Word.{Ends}
use Rattle.lanes.specs.Truth.{Shows, lane_in, Filled}
use Rattle.lanes.proofs.Shown.{shows_alike}
use Rattle.row_lanes.specs.Pass.{row_pass}
use Rattle.truth.proofs.Told.{prefix_bits, prefix_told}
use Rattle.truth.proofs.Matches.{row_prefix}

module _ (n : ℕ) (signals : ℕ → ℕ → Bool) (t : Table) (m : ℕ) where
  -- at each of the n cycles the bits of each row below m are what a pass finds for it
  abbrev pub Found : (ℕ → ℕ → Bool) → Type 0
  Found bits = (k : ℕ) → k < m → (c : ℕ) → c < n → bits k c ≡ row_pass n signals bits (t k) c

  -- the lanes of the first k rows are filled
  pub record FilledTo (k : ℕ) (lanes : List Lane) : Type 0 where
    pub size : length lanes ≡ 128
    pub shown : (bits : ℕ → ℕ → Bool) → Found bits → (j : ℕ) → j < k → Shows n (lane_in lanes j) (bits (suc j))

  pub fill_none : (lanes : List Lane) → length lanes ≡ 128 → FilledTo 0 lanes
  fill_none lanes e = record { size = e; shown = λ bits f j h. absurd (omega arith) }

  pub fill_next :
      {k : ℕ} {lanes : List Lane} (lane : Lane) → k < 128 → suc k < m → FilledTo k lanes
      → ((bits : ℕ → ℕ → Bool) → Found bits → Shows n lane (row_pass n signals bits (t (suc k)))) → FilledTo (k + 1) (set lanes k lane)
  fill_next {k} {lanes} lane most h filled new = record { size = length-set lanes k lane ∙ filled.size; shown = λ bits f j l. by bits f j l (ℕ_discrete j k) }
    where
      by : (bits : ℕ → ℕ → Bool) → Found bits → (j : ℕ) → j < k + 1 → Dec (j ≡ k) → Shows n (lane_in (set lanes k lane) j) (bits (suc j))
      by bits f j l (yes e) =
          let s : Shows n lane (bits (suc k)) = new bits f ∙ shows_alike n _ _ (λ c b. sym (f (suc k) h c b)) in
          rw e (get_or-set_same lanes k lane (record { words = [] }) (omega (arith, filled.size)) ∙ s)
      by bits f j l (no e) = get_or-set_other lanes k j lane (record { words = [] }) e ∙ filled.shown bits f j (omega arith)

  -- the operands' lanes are there
  pub earlier_shown :
      {k : ℕ} {lanes : List Lane} → FilledTo k lanes → (bits : ℕ → ℕ → Bool) → Found bits → (r : Row) → Each (λ a. (1 ≤ a) × (a < suc k)) r
      → Each (λ a. Shows n (lane_in lanes (a - 1)) (bits a)) r
  earlier_shown {k} {lanes} filled bits f r below = each_map _ _ (λ a x. let e : suc (a - 1) ≡ a = omega (arith, x.0) in rw e at (filled.shown bits f (a - 1) (omega (arith, x.0, x.1)))) r below

  pub fill_enough : {k j : ℕ} {lanes : List Lane} → j ≤ k → FilledTo k lanes → FilledTo j lanes
  fill_enough h filled = record { size = filled.size; shown = λ bits f i l. filled.shown bits f i (omega arith) }

-- the lane of a row, from what its kind's lane shows
module _ (n : ℕ) (signals bits : ℕ → ℕ → Bool) {lane found : Lane} (e : lane ≡ found) where
  pub row_shown : {r s : Row} → r ≡ s → Shows n found (row_pass n signals bits s) → Shows n lane (row_pass n signals bits r)
  row_shown {r} {s} q x = subst (λ y. Shows n lane (row_pass n signals bits y)) (sym q) (e ∙ x)

module _ (n : ℕ) (w : InfiniteTrace) (p : Table) where
  -- the bits computed to the end of a prefix end with it
  prefix_bits_end : (k : ℕ) → Ends n (prefix_bits n w p k)
  unfolding bits_of bits_within
  prefix_bits_end k i h = ap (λ b. b && row_bit (prefix n w) (to_end n w) (bits_within (cycles_below n) (prefix n w) (to_end n w) p k) (p k) i) (le-ltb i n h)

  -- and a pass finds them
  prefix_found : (m : ℕ) → Ordered m p → ((k : ℕ) → k < m → Positive (p k)) → Found n w p m (prefix_bits n w p)
  prefix_found m ordered positive k h c b =
      bits_computed (cycles_below n) (prefix n w) (to_end n w) p m ordered k h c
      ∙ ap (λ x. x && row_bit (prefix n w) (to_end n w) (prefix_bits n w p) (p k) c) (lt-ltb c n b)
      ∙ row_prefix n w (prefix_bits n w p) prefix_bits_end (p k) (positive k h) c b

-- ALL ROWS FILLED, EACH LANE TELLS WHERE ITS ROW IS TRUE
module _ (g : NormalForm) (t : Trace) (ok : InNormalForm g) (e : t.ending ≡ Open) where
  pub filled_tells : (lanes : List Lane) → FilledTo t.cycles (signal_at t) (table_of g.places) (suc g.rows) g.rows lanes → Filled g t lanes
  filled_tells lanes filled k h =
      let n : ℕ = t.cycles in
      let w : InfiniteTrace = signal_at t in
      let p : Table = table_of g.places in
      let found = prefix_found n w p (suc g.rows) (form_ordered g ok) (form_positive g ok) in
      rw e (prefix_bits n w p (suc k), filled.shown (prefix_bits n w p) found k h, prefix_told g t ok (suc k) (omega arith))
