use mathlib.Core.Path.{sym}
use Rattle.recording.proofs.Words.{words_none}
use Rattle.recording.proofs.empty.Goals as goal

pub returns : goal.returns
returns c = record { none = sym words_none }
