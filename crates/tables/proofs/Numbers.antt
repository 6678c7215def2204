-- The numbers of the reasons tell them apart, and each reason is the one that its number names. Assumes nothing.
use Prim.Native.Nat.{◌≤◌}
use mathlib.Core.Path.{◌≡◌, refl, sym, ap, ◌∙◌}
use native.Mathlib.Omega.{arith}
use Rattle.tables.specs.Refusal.{number, numbered}
use Rattle.tables.specs.declared.refusal.Reason.{Reason}
use Rattle.tables.specs.declared.refusal.Reason.TheVariants.{TooLong, WrongForm, WrongFormat, CountOutOfRange, BadReference, BadLoop, SignalsDiffer, WrongEnding, SizeDiffers, ShortBuffer, TooManyCycles}

-- THE REASON OF A REASON'S NUMBER
pub numbered_number : (reason : Reason) → numbered (number reason) ≡ reason
numbered_number TooLong = refl
numbered_number WrongForm = refl
numbered_number WrongFormat = refl
numbered_number CountOutOfRange = refl
numbered_number BadReference = refl
numbered_number BadLoop = refl
numbered_number SignalsDiffer = refl
numbered_number WrongEnding = refl
numbered_number SizeDiffers = refl
numbered_number ShortBuffer = refl
numbered_number TooManyCycles = refl

-- NO TWO REASONS HAVE ONE NUMBER
pub number_once : (a b : Reason) → number a ≡ number b → a ≡ b
number_once a b e = sym (numbered_number a) ∙ (ap numbered e ∙ numbered_number b)

-- the list goes from 1 to 11
pub number_listed : (reason : Reason) → (1 ≤ number reason) × (number reason ≤ 11)
number_listed TooLong = (omega arith, omega arith)
number_listed WrongForm = (omega arith, omega arith)
number_listed WrongFormat = (omega arith, omega arith)
number_listed CountOutOfRange = (omega arith, omega arith)
number_listed BadReference = (omega arith, omega arith)
number_listed BadLoop = (omega arith, omega arith)
number_listed SignalsDiffer = (omega arith, omega arith)
number_listed WrongEnding = (omega arith, omega arith)
number_listed SizeDiffers = (omega arith, omega arith)
number_listed ShortBuffer = (omega arith, omega arith)
number_listed TooManyCycles = (omega arith, omega arith)
