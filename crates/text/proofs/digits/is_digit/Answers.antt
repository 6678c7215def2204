use Rattle.text.proofs.DigitLines.{digit_is}
use Rattle.text.proofs.digits.is_digit.Goals as goal

pub returns : goal.returns
returns c = record { answer = digit_is _ }
