-- The line `none`, byte by byte, and that no sheet file is taken for it. Assumes nothing.
use Prim.Native.Nat.{ℕ}
use mathlib.Core.Path.{◌≡◌, refl, ap}
use native.Mathlib.Omega.{arith}
use lib.ListN.{get_or}
use Rattle.tables.specs.Bytes.{bytes}
use Rattle.tables.specs.declared.trace.Activation.{Activation}
use Rattle.sheet_file.specs.Written.{written_sheet}
use Rattle.sheet_text.specs.Answer.{none_text}

pub prints_none : none_text ≡ bytes "none\n"
prints_none = refl

-- a sheet file begins with `f`
pub none_apart : (a : Activation) → written_sheet a ≡ none_text → ⊥
unfolding written_sheet
none_apart a e = let first : ◌≡◌ {A = ℕ} 102 110 = ap (λ l. get_or l 0 0) e in omega arith
