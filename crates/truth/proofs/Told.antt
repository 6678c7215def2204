-- Bits that are on where rows are true. Assumes nothing.
use Prim.Native.Nat.{ℕ, suc, ◌<◌}
use mathlib.Core.Logic.{◌↔◌}
use mathlib.Core.Bool.{Bool}
use Rattle.tables.specs.declared.row.NormalForm.{NormalForm}
use Rattle.tables.specs.declared.trace.Ending.{Ending}
use Rattle.tables.specs.declared.trace.Ending.TheVariants.{Open, Loop}
use Rattle.tables.specs.declared.trace.Trace.{Trace}
use Rattle.take_file.specs.Valid.{Below as LoopBelow}
use Rattle.meaning.specs.Reading.{classical}
use Rattle.meaning.specs.Trace.{InfiniteTrace, signal_at}
use Rattle.meaning.specs.Satisfaction.{Table, table_of}
use Rattle.meaning.specs.Rows.{Ordered}
use Rattle.meaning.specs.Covers.{CoversIn}
use Rattle.meaning.proofs.Readings.{On}
use Rattle.meaning.proofs.Evaluation.{bits_of, bits_computed}
use Rattle.meaning.proofs.StrongTruth.{cycles_below}
use Rattle.meaning.proofs.Prefix.{prefix, to_end, prefix_truth}
use Rattle.normal_form.specs.Form.{InNormalForm}
use Rattle.normal_form.proofs.FormTables.{form_ordered, form_positive}
use Rattle.lanes.specs.Truth.{TrueIn}
use Rattle.rounds.proofs.LassoBits.{true_bits}

-- the bits of rows computed to the end of a prefix
module _ (n : ℕ) (w : InfiniteTrace) (p : Table) where
  abbrev pub prefix_bits : ℕ → ℕ → Bool
  prefix_bits = bits_of (cycles_below n) (prefix n w) (to_end n w) p

module _ (g : NormalForm) (t : Trace) (ok : InNormalForm g) where
  -- they are on where each row is true
  abbrev pub Told : Ending → (ℕ → ℕ → Bool) → Type 0
  Told ending bits = (k : ℕ) → k < suc g.rows → (c : ℕ) → c < t.cycles → TrueIn g t ending k c ↔ On (bits k c)

  pub prefix_told : Told Open (prefix_bits t.cycles (signal_at t) (table_of g.places))
  prefix_told k h c b =
      let n : ℕ = t.cycles in
      let w : InfiniteTrace = signal_at t in
      let p : Table = table_of g.places in
      let m : ℕ = suc g.rows in
      let ordered : Ordered m p = form_ordered g ok in
      let e = prefix_truth n w p m ordered (form_positive g ok) (prefix_bits n w p) (bits_computed (cycles_below n) (prefix n w) (to_end n w) p m ordered) classical k h c in
      (λ x. e.0 (b, x), λ x. (e.1 x).1)

  -- there are such bits for any recording that covers the form
  pub told_bits : (ending : Ending) → LoopBelow t.cycles ending → CoversIn g t ending → (bits : ℕ → ℕ → Bool) × Told ending bits
  told_bits Open below covers = (prefix_bits t.cycles (signal_at t) (table_of g.places), prefix_told)
  told_bits (Loop l) below covers = let x = true_bits g t l ok below covers in (x.0, x.2)
