-- The signals by cycle, one after the other. Assumes nothing.
use Prim.Native.Nat.{ℕ, ◌+◌, ◌-◌, ◌*◌, ◌<◌}
use mathlib.Core.Path.{◌≡◌, refl, ◌∙◌}
use mathlib.Core.Bool.{Bool, false}
use mathlib.Core.List.{List}
use native.Mathlib.Omega.{arith}
use native.Mathlib.Decide.{ℕ_discrete}
use lib.ListN.{length, get_or, set, length-set}
use lib.Seq.{get_or-set_same, get_or-set_other}
use Rattle.tables.specs.Bit.{bit_at}
use Rattle.tables.specs.declared.row.NormalForm.{NormalForm}
use Rattle.tables.specs.declared.trace.Lane.{Lane}
use Rattle.tables.specs.declared.trace.Trace.{Trace}
use Rattle.lanes.specs.Truth.{lane_in}
use Rattle.cycle_rows.proofs.Only.{GivenAlike}
use Rattle.rounds.specs.Rounds.{given_at}
use Rattle.rounds.specs.Recorded.{SpreadTo, given_from}

-- ---- one signal: its first c cycles are put
pub record SignalTo (lane : Lane) (s : ℕ) (before : List Bool) (c : ℕ) (digits : List Bool) : Type 0 where
  pub long : length digits ≡ 8192
  pub made : (i : ℕ) → i < c → get_or digits (32 * i + s) false ≡ bit_at lane i
  pub others : (u i : ℕ) → u < 32 → (u ≡ s → ⊥) → get_or digits (32 * i + u) false ≡ get_or before (32 * i + u) false

pub signal_start : {lane : Lane} {s : ℕ} {before : List Bool} → length before ≡ 8192 → SignalTo lane s before 0 before
signal_start l = record { long = l; made = λ i h. absurd (omega arith); others = λ u i h n. refl }

pub signal_more : {lane : Lane} {s : ℕ} {before : List Bool} {c : ℕ} {digits : List Bool} → SignalTo lane s before c digits → s < 32 → c < 256
    → (b : Bool) → b ≡ bit_at lane c → SignalTo lane s before (c + 1) (set digits (32 * c + s) b)
signal_more {lane} {s} {before} {c} {digits} inv h l b e =
    record {
      long = length-set digits (32 * c + s) b ∙ inv.long;
      made = λ i m. by i m (ℕ_discrete i c);
      others = λ u i m n. get_or-set_other digits (32 * c + s) (32 * i + u) b false (λ q. n (omega arith)) ∙ inv.others u i m n;
    }
  where
    by : (i : ℕ) → i < c + 1 → Dec (i ≡ c) → get_or (set digits (32 * c + s) b) (32 * i + s) false ≡ bit_at lane i
    by i m (yes q) = rw q (get_or-set_same digits (32 * c + s) b false (omega (arith, inv.long)) ∙ e)
    by i m (no q) = get_or-set_other digits (32 * c + s) (32 * i + s) b false (λ r. q (omega arith)) ∙ inv.made i (omega arith)

-- ---- one signal more
pub spread_more : (lanes : List Lane) (digits after : List Bool) (s cycles : ℕ) → SpreadTo s cycles lanes digits → s < 32
    → ((c : ℕ) → c < cycles → get_or after (32 * c + s) false ≡ bit_at (lane_in lanes s) c)
    → ((u c : ℕ) → u < 32 → (u ≡ s → ⊥) → get_or after (32 * c + u) false ≡ get_or digits (32 * c + u) false)
    → SpreadTo (s + 1) cycles lanes after
spread_more lanes digits after s cycles done h put others u c m l = by (ℕ_discrete u s)
  where
    by : Dec (u ≡ s) → get_or after (32 * c + u) false ≡ bit_at (lane_in lanes u) c
    by (yes q) = rw q (put c l)
    by (no q) = others u c (omega arith) q ∙ done u c (omega arith) l

-- they are those of the recording
pub spread_alike : (g : NormalForm) (t : Trace) (digits : List Bool) → SpreadTo g.signals t.cycles t.lanes digits → (c : ℕ) → c < t.cycles
    → GivenAlike g (given_from digits c) (given_at t c)
spread_alike g t digits spread c h = record { signals = λ i p q. spread (i - 1) c (omega arith) h }
