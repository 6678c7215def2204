use Rattle.recording.proofs.Laws.{lanes_empty}
use Rattle.take_file.proofs.take.refuse.Goals as goal

pub returns : goal.returns
returns c = record { answer = rw lanes_empty }
