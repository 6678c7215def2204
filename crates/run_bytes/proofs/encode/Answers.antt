use Rattle.run_bytes.specs.Bytes.{byte_of, run_length}
use Rattle.run_bytes.proofs.Filled.{fill_start}
use Rattle.run_bytes.proofs.encode.Goals as goal

pub returns : goal.returns
returns c = record { bytes = c.put_tail.ensures.more (c.put_rows.ensures.more (c.put_words.ensures.more (fill_start run_length 0 (byte_of c.args.run)))) }
