use mathlib.Core.Path.{sym, ap₂, subst, ◌∙◌}
use Rattle.tables.specs.Refusal.{and_then}
use Rattle.tables.specs.declared.row.NormalForm.{NormalForm}
use Rattle.tables.specs.declared.trace.Trace.{Trace}
use Rattle.tables.proofs.Choices.{know}
use Rattle.tables.proofs.Outcomes.{both_accept}
use Rattle.normal_form.specs.declared.sign.Sign.TheVariants.{Plain}
use Rattle.normal_form.specs.Numbering.{normal_form}
use Rattle.meeting.specs.declared.Wanted.TheVariants.{Either}
use Rattle.meeting.proofs.Covered.{have_met, met_form, met_range}
use Rattle.checking.specs.Finding.{FindingOf}
use Rattle.checking.proofs.Answers.{met_sizes, refused_answer, found_answer}
use Rattle.checking.proofs.check_met.Goals as goal

pub find-found-requires : goal.find-found-requires
find-found-requires c =
    let met = have_met Either c.args.formula c.args.trace c.requires (c.meet-met.ensures.outcome, (c.meet-met.ensures.form, c.meet-met.ensures.covered)) (both_accept _ _ (sym c.first_refusal-outcome.ensures.outcome ∙ c.in-Accepted.is)).0 in
    (met_form met, met_range met)

pub returns-in-Refused : goal.returns-in-Refused
returns-in-Refused c = record {
  answer = let sizes = met_sizes c.args.formula c.args.trace c.args.sheet _ _ _ (λ e. c.meet-met.ensures.form (c.meet-met.ensures.outcome ∙ e)) (λ e. c.meet-met.ensures.covered (c.meet-met.ensures.outcome ∙ e)) in
      refused_answer c.args.formula c.args.trace c.args.sheet _
      (know (c.first_refusal-outcome.ensures.outcome ∙ ap₂ and_then c.meet-met.ensures.outcome c.check_sizes-sizes.ensures.outcome ∙ sizes) c.in-Refused.is);
}

pub returns-in-Accepted : goal.returns-in-Accepted
returns-in-Accepted c = record {
  answer = let e = (both_accept _ _ (sym c.first_refusal-outcome.ensures.outcome ∙ c.in-Accepted.is)).0 in
      let sizes = met_sizes c.args.formula c.args.trace c.args.sheet _ _ _ (λ e. c.meet-met.ensures.form (c.meet-met.ensures.outcome ∙ e)) (λ e. c.meet-met.ensures.covered (c.meet-met.ensures.outcome ∙ e)) in
      found_answer c.args.formula c.args.trace c.args.sheet _
      (know (c.first_refusal-outcome.ensures.outcome ∙ ap₂ and_then c.meet-met.ensures.outcome c.check_sizes-sizes.ensures.outcome ∙ sizes) c.in-Accepted.is)
      c.find-found.result
      (subst (λ (u : Trace). FindingOf (normal_form c.args.formula Plain) u c.args.sheet c.find-found.result) (c.meet-met.ensures.covered e)
      (subst (λ (g : NormalForm). FindingOf g c.meet-met.result.covered c.args.sheet c.find-found.result) (c.meet-met.ensures.form e) c.find-found.ensures.finding));
}
