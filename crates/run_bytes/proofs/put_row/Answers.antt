use Rattle.run_bytes.proofs.Encoding.{row_put}
use Rattle.run_bytes.proofs.put_row.Goals as goal

pub returns : goal.returns
returns c = record { more = λ f b e. row_put f c.args.at e c.args.row c.place_of.ensures.place.0 c.first_number.ensures.answer c.second_number.ensures.answer c.requires b }
