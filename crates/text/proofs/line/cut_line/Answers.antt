use mathlib.Core.Path.{sym}
use native.Mathlib.Omega.{arith}
use lib.ListN.{length-take}
use Rattle.text.specs.Line.{cut_of}
use Rattle.tables.proofs.Choices.{know}
use Rattle.text.proofs.Searching.{found}
use Rattle.text.proofs.Lines.{cut_none, cut_both}
use Rattle.text.proofs.line.cut_line.Goals as goal

pub returns-in_default : goal.returns-in_default
unfolding cut_of
returns-in_default c = record { answer = rw (know c.find.ensures.answer c.in_default.is) }

pub slice_bounds-find-end : goal.slice_bounds-find-end
slice_bounds-find-end c = simp length-take (omega (arith, (found _ _ 0 c.find.ensures.answer c.in-At.is).below))

pub returns-in_default-find : goal.returns-in_default-find
returns-in_default-find c = record { answer = sym (cut_none _ (know c.find.ensures.answer c.in-At.is) (know c.find-2.ensures.answer c.in_default-find.is)) }

pub returns : goal.returns
returns c = record { answer = sym (cut_both _ (know c.find.ensures.answer c.in-At.is) (know c.find-2.ensures.answer c.in-At-find.is)) }
