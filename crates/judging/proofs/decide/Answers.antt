use mathlib.Core.Path.{subst⁻¹}
use Rattle.meaning.specs.Covers.{CoversIn}
use Rattle.normal_form.specs.declared.sign.Sign.TheVariants.{Plain, Negated}
use Rattle.normal_form.proofs.Ranges.{form_normal}
use Rattle.judging.proofs.Roots.{found_holds, found_breaks, found_kept, found_broken, found_open}
use Rattle.judging.proofs.decide.Goals as goal

pub root_true-yes-requires : goal.root_true-yes-requires
root_true-yes-requires c = (rw c.requires.0 (form_normal c.args.formula Plain c.requires.1), c.requires.2, c.requires.3)

pub returns-then-yes-2 : goal.returns-then-yes-2
returns-then-yes-2 c = record { verdict = found_kept c.args.formula c.args.trace c.requires.1 c.requires.2 c.requires.0 c.root_true-yes.ensures.root c.in-Open.is c.if-yes-2.true }

pub root_true-requires : goal.root_true-requires
root_true-requires c =
    (rw c.normal_form-negated.ensures.answer (form_normal c.args.formula Negated c.requires.1), c.requires.2, subst⁻¹ (CoversIn c.normal_form-negated.result c.args.trace) c.in-Open.is tt)

pub returns-then-yes : goal.returns-then-yes
returns-then-yes c = record { verdict = found_holds c.args.formula c.args.trace c.requires.1 c.requires.2 c.requires.0 c.root_true-yes.ensures.root c.in-Loop.is c.if-yes.true }

pub returns-else-yes : goal.returns-else-yes
returns-else-yes c = record { verdict = found_breaks c.args.formula c.args.trace c.requires.1 c.requires.2 c.requires.0 c.root_true-yes.ensures.root c.in-Loop.is c.if-yes.false }

pub returns-then-root_true : goal.returns-then-root_true
returns-then-root_true c = record { verdict = found_broken c.args.formula c.args.trace c.requires.1 c.requires.2 c.requires.0 c.root_true-yes.ensures.root c.in-Open.is c.if-yes-2.false c.normal_form-negated.ensures.answer c.root_true.ensures.root c.if-root_true.true }

pub returns-else-root_true : goal.returns-else-root_true
returns-else-root_true c = record { verdict = found_open c.args.formula c.args.trace c.requires.1 c.requires.2 c.requires.0 c.root_true-yes.ensures.root c.in-Open.is c.if-yes-2.false c.normal_form-negated.ensures.answer c.root_true.ensures.root c.if-root_true.false }
