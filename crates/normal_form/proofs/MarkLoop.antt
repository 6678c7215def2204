-- The loop that marks downward. Assumes nothing.
use mathlib.Core.Path.{◌≡◌, refl, sym, ap, ◌∙◌}
use mathlib.Core.Bool.{Bool, true, false}
use mathlib.Core.List.{List}
use Prim.Native.Nat.{ℕ, suc, ◌-◌, ◌/◌, ◌≤◌, ◌<◌}
use native.Mathlib.Omega.{arith}
use lib.ListN.{get_or}
use Rattle.tables.specs.Choice.{pick}
use Rattle.tables.specs.declared.row.RowPlace.{RowPlace}
use Rattle.normal_form.specs.Operand.{row_in}
use Rattle.normal_form.specs.Sign.{sign_of}
use Rattle.normal_form.specs.Reach.{operands_marked, marked_down}

-- m is what the marks m₀ have become, from slot n down to slot j
pub record DownAt (ps : List RowPlace) (n : ℕ) (m₀ : List Bool) (j : ℕ) (m : List Bool) : Type 0 where
  pub within : j ≤ n
  pub goes : marked_down ps n m₀ ≡ marked_down ps j m

pub down_start : (ps : List RowPlace) (n : ℕ) (m : List Bool) → DownAt ps n m n m
down_start ps n m = record { within = omega arith; goes = refl }

module _ {ps : List RowPlace} {n : ℕ} {m₀ : List Bool} {j : ℕ} {m : List Bool} (inv : DownAt ps n m₀ j m) where
  down_one : 0 < j → marked_down ps n m₀ ≡ marked_down ps (j - 1) (pick (get_or m (j - 1) false) (operands_marked (row_in ps ((j - 1) / 2)) (sign_of (j - 1)) m) m)
  unfolding marked_down
  down_one h = let e : j ≡ suc (j - 1) = omega arith in inv.goes ∙ ap (λ i. marked_down ps i m) e

  pub down_marked : 0 < j → get_or m (j - 1) false ≡ true → DownAt ps n m₀ (j - 1) (operands_marked (row_in ps ((j - 1) / 2)) (sign_of (j - 1)) m)
  down_marked h t = record { within = let w = inv.within in omega arith; goes = rw t at (down_one h) }

  pub down_free : 0 < j → get_or m (j - 1) false ≡ false → DownAt ps n m₀ (j - 1) m
  down_free h t = record { within = let w = inv.within in omega arith; goes = rw t at (down_one h) }

  pub down_end : j ≤ 0 → m ≡ marked_down ps n m₀
  unfolding marked_down
  down_end h = let e : j ≡ 0 = omega arith in sym (inv.goes ∙ ap (λ i. marked_down ps i m) e)
