use Rattle.meaning.specs.Satisfaction.{table_of}
use Rattle.between_rounds.specs.Between.{sure_in}
use Rattle.between_rounds.proofs.Rows.{HandedTo}
use Rattle.between_rounds.proofs.restart.Given as goal

abbrev pub invariant-loop-k : goal.invariant-loop-k
invariant-loop-k l = HandedTo (table_of l.form.places) (sure_in l.sure) l.initial.cells l.k l.cells
