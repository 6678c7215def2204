-- The monitor of one row in the 64 cycles of a word at once. Assumes nothing.
use Rattle.std.specs.Prelude.{ℕ, zero, suc, ◌+◌, ◌-◌, ◌%◌, ◌≤◌, ◌≡◌, Bool, true, false, not, ◌&&◌, ◌||◌, ◌⊎◌, Result, ok_or}
use Rattle.std.specs.Bool.{then_some}
use Rattle.tables.specs.Bit.{bit_at, word_from}
use Rattle.tables.specs.declared.row.Row.{Row}
use Rattle.meaning.specs.Approximant.{approximant}
use Rattle.monitors.specs.declared.Output.{Output}
use Rattle.monitors.specs.Monitor.{row_monitor}
use Rattle.row_monitor.specs.declared.row.Course.{Course}
use Rattle.row_monitor.specs.declared.row.RowMonitor.{RowMonitor}
use Rattle.row_monitor.specs.declared.word.Moves.{Moves}

-- f is on in one of the n cycles from b on
unfoldable pub some : ℕ → ℕ → (ℕ → Bool) → Bool
some zero b f = false
some (suc n) b f = f b || some n (suc b) f

-- what a row's monitor says where the row is active and was not pending, and where it is not active and was pending
abbrev pub when_active : Row → Bool → Bool → Output
when_active r a b = row_monitor r a b (record { active = true; pending = false })

abbrev pub when_pending : Row → Bool → Bool → Output
when_pending r a b = row_monitor r a b (record { active = false; pending = true })

-- the same in each of the 64 cycles from b on, f and g standing at the row's numbers
pub record MovesOf (row : Row) (f g : ℕ → Bool) (b : ℕ) (m : Moves) : Type 0 where
  pub fails : m.fails ≡ word_from 64 b (λ i. (when_active row (f i) (g i)).failed)
  pub waits : m.waits ≡ word_from 64 b (λ i. (when_active row (f i) (g i)).pending)
  pub drops : m.drops ≡ word_from 64 b (λ i. (when_pending row (f i) (g i)).failed)
  pub holds : m.holds ≡ word_from 64 b (λ i. (when_pending row (f i) (g i)).pending)

module _ (row : Row) (f g : ℕ → Bool) (e : ℕ) where
  -- a monitor that was pending before cycle i: it fails below cycle e; it is still pending there
  abbrev pub dropped : ℕ → Bool
  dropped i = approximant (λ j. (when_pending row (f j) (g j)).pending) (λ j. (when_pending row (f j) (g j)).failed) false (e - i) i

  abbrev pub held : ℕ → Bool
  held i = approximant (λ j. (when_pending row (f j) (g j)).pending) (λ j. false) true (e - i) i

  -- the same of one whose row is active in cycle i
  abbrev pub failing : ℕ → Bool
  failing i = (when_active row (f i) (g i)).failed || ((when_active row (f i) (g i)).pending && dropped (suc i))

  abbrev pub staying : ℕ → Bool
  staying i = (when_active row (f i) (g i)).pending && held (suc i)

  -- the n cycles before e, from b on, where z says when the row is active and p whether it was pending before: none of them fails;
  -- and whether it is pending behind them
  abbrev pub clean_from : ℕ → ℕ → (ℕ → Bool) → Bool → Bool
  clean_from n b z p = not (some n b (λ i. z i && failing i)) && not (p && dropped b)

  abbrev pub pending_from : ℕ → ℕ → (ℕ → Bool) → Bool → Bool
  pending_from n b z p = some n b (λ i. z i && staying i) || (p && held b)

-- whether it is pending behind the word at b: Ok where none of its cycles fails
unfoldable pub word_report : RowMonitor → ℕ → Bool → Result Bool Bool
word_report monitor b p = ok_or (then_some clean behind) behind
  where
    clean : Bool
    clean = clean_from monitor.row (bit_at monitor.first) (bit_at monitor.second) (b + 64) 64 b (bit_at monitor.active) p

    behind : Bool
    behind = pending_from monitor.row (bit_at monitor.first) (bit_at monitor.second) (b + 64) 64 b (bit_at monitor.active) p

-- the 64 cycles from cycle i of the course on are the word of the recording that begins at c, and either all of them count or none
pub record WholeWord (c i : ℕ) (course : Course) : Type 0 where
  pub aligned : c % 64 ≡ 0
  pub recorded : c + 64 ≤ course.cycles
  pub within : i + 64 ≤ course.end
  pub counting : (i + 64 ≤ course.from) ⊎ (course.from ≤ i)
