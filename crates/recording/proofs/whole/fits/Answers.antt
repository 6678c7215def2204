use native.Mathlib.Nat.{lt_of_lt_of_le}
use lib.Pow.{pow_mono}
use borrow.Author.Rules.{rules}
use Rattle.recording.proofs.whole.fits.Goals as goal

-- a word of 64 bits fits so many cycles and more
pub returns-then-cycles-ge64 : goal.returns-then-cycles-ge64
returns-then-cycles-ge64 c = record { answer = (λ e. lt_of_lt_of_le (search rules) (pow_mono c.if-cycles-ge64.true), λ h. search rules) }
