use Rattle.sheet_file.proofs.Rows.{row_lane_lem}
use Rattle.sheet_file.proofs.row.digits_to_lane.Goals as goal

pub returns : goal.returns
returns c = record { answer = row_lane_lem _ c.row_word.ensures.answer c.row_word-2.ensures.answer c.row_word-3.ensures.answer c.row_word-4.ensures.answer }
