use Rattle.sheet_file.proofs.Rows.{rows_none}
use Rattle.sheet_file.proofs.sheet.refuse.Goals as goal

pub returns : goal.returns
returns c = record { answer = rw rows_none }
