use mathlib.Core.Path.{subst}
use Rattle.meaning.specs.Covers.{CoversIn}
use Rattle.truth.proofs.fill.fill.Goals as goal

pub fill_looped-requires : goal.fill_looped-requires
fill_looped-requires c =
    (c.requires.0, c.requires.1, c.in-Loop.is, subst (CoversIn c.args.form c.args.trace) c.in-Loop.is c.requires.2)
