use Rattle.circuit_file.proofs.Reading.{refusal}
use Rattle.circuit_file.proofs.refuse.Goals as goal

pub returns : goal.returns
returns c = record { answer = refusal _ _ }
