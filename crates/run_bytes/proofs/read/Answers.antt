use Rattle.run_bytes.proofs.Reading.{told_length, told_same}
use Rattle.run_bytes.proofs.read.Goals as goal

pub returns-then-bytes-ne-RUN_LENGTH : goal.returns-then-bytes-ne-RUN_LENGTH
returns-then-bytes-ne-RUN_LENGTH c = let both = told_length c.if-bytes-ne-RUN_LENGTH.true in record { those = both.0; every = both.1 }

pub decode-run-requires : goal.decode-run-requires
decode-run-requires c = c.if-bytes-ne-RUN_LENGTH.false

pub returns : goal.returns
returns c = let both = told_same c.decode-run.ensures.run c.encode-again.ensures.bytes c.same-whole.ensures.answer in record { those = both.0; every = both.1 }
