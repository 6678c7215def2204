use mathlib.Core.Path.{subst}
use native.Mathlib.Omega.{arith}
use Rattle.tables.specs.Bytes.{bytes}
use Rattle.text.specs.Written.{decimal}
use Rattle.writing.proofs.Texts.{wrote_none, wrote_line}
use Rattle.check_text.specs.Text.{CycleBelow}
use Rattle.check_text.proofs.finding.put_place.Goals as goal

pub put_number_line-requires : goal.put_number_line-requires
put_number_line-requires c =
    let small = subst (CycleBelow 1000) c.in-Failed.is c.requires.1 in
    omega (arith, small, c.requires.0)

pub returns-in-Root : goal.returns-in-Root
returns-in-Root c = record { text = rw c.in-Root.is (wrote_none _ _) }

pub returns-in-Failed : goal.returns-in-Failed
returns-in-Failed c = record { text = rw c.in-Failed.is (wrote_line (bytes "row") (decimal _) c.put_number_line-i.ensures.text c.put_number_line.ensures.text) }

pub returns-in-Starved : goal.returns-in-Starved
returns-in-Starved c = record { text = rw c.in-Starved.is c.put_number_line-in-Starved.ensures.text }

pub returns-in-Pending : goal.returns-in-Pending
returns-in-Pending c = record { text = rw c.in-Pending.is c.put_number_line-in-Pending.ensures.text }

pub returns-in-Passes : goal.returns-in-Passes
returns-in-Passes c = record { text = rw c.in-Passes.is (wrote_none _ _) }
