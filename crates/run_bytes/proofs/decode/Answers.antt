use Rattle.run_bytes.proofs.Decoding.{run_again}
use Rattle.run_bytes.proofs.decode.Goals as goal

pub returns : goal.returns
returns c = record {
  run = λ run fits e.
      run_again run e (c.words_in-words.ensures.words run fits e) (c.places_in-places.ensures.places run fits e) c.number_in.ensures.cycles;
}
