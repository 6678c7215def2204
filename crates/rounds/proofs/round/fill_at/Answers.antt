use native.Mathlib.Omega.{arith}
use Rattle.cycle_rows.proofs.Only.{cycle_alike}
use Rattle.rounds.proofs.round.fill_at.Goals as goal

pub returns : goal.returns
returns c = record {
  filled = λ g p.
      cycle_alike g p.form _ _ (record { signals = λ i a b. c.put_signals.ensures.put _ (omega arith) }) _ _
      (λ k h. c.put_signals.ensures.rows _ (omega arith)) _ (c.fill_cycle.ensures.filled g p).rows;
}
