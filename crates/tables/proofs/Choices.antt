-- Laws that every proof about choices and equations uses. Assumes nothing.
use Prim.Native.Nat.{ℕ, ◌-◌}
use mathlib.Core.Path.{◌≡◌, refl, sym, ◌∙◌}
use mathlib.Core.Bool.{Bool, true, false}
use mathlib.Core.List.{List}
use native.Mathlib.Omega.{arith}
use lib.ListN.{length, take, drop, length-drop}
use lib.Seq.{take_all}
use Rattle.tables.specs.Choice.{pick}

-- what a call ensures of its result, and what is known of the result
pub know : {A : Type 0} {r a b : A} → r ≡ a → r ≡ b → a ≡ b
know e d = sym e ∙ d

-- a part that goes to the end
pub rest_part : {A : Type 0} (k : ℕ) (s : List A) → take (length s - k) (drop k s) ≡ drop k s
rest_part k s = take_all (length s - k) (drop k s) (omega (arith, length-drop k s))

-- two constructors are never equal
pub clash : {A : Type 0} → ◌≡◌ {A = ℕ} 0 1 → A
clash z = absurd (omega arith)

-- what holds in each case holds of the whole
pub each_pick : {A : Type 0} (P : A → Type 0) (t : Bool) {a b : A} → (t ≡ true → P a) → (t ≡ false → P b) → P (pick t a b)
each_pick P true p q = p refl
each_pick P false p q = q refl

pub pick_both : (t b : Bool) → pick t b false ≡ true → (t ≡ true) × (b ≡ true)
pick_both true b e = (refl, e)
pick_both false b e = clash (cc)
