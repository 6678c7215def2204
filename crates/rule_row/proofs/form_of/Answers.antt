use mathlib.Core.Path.{◌∙◌, sym, ap}
use Rattle.tables.specs.Kind.{kinds, no_kind, numbers_in}
use Rattle.tables.specs.declared.kind.Kind.{Kind}
use Rattle.tables.proofs.Choices.{know}
use Rattle.text.proofs.Searching.{found}
use Rattle.rule_row.specs.Row.{kind_named, form_as}
use Rattle.rule_row.specs.declared.RowForm.TheVariants.{Form}
use Rattle.rule_row.proofs.RowValues.{form_unknown, form_miscounted, form_counted}
use Rattle.rule_row.proofs.form_of.Goals as goal

pub returns-in_default : goal.returns-in_default
returns-in_default c = record { answer = sym (form_unknown _ _ _ _ (know c.kind_named.ensures.answer c.in_default.is)) }

pub kind_at-kind-requires : goal.kind_at-kind-requires
unfolding kind_named kinds
kind_at-kind-requires c = (found _ kinds no_kind c.kind_named.ensures.answer c.in-At.is).below

pub returns-then-numbers_in-count : goal.returns-then-numbers_in-count
returns-then-numbers_in-count c = record { answer = sym (form_miscounted _ _ _ _ (know c.kind_named.ensures.answer c.in-At.is) (λ e. c.if-numbers_in-count.true (c.numbers_in.ensures.answer ∙ (ap (λ (k : Kind). numbers_in k.row) c.kind_at-kind.ensures.kind ∙ e)))) }

pub returns : goal.returns
returns c = record { answer = ap (λ (k : Kind). form_as (Form k.row c.args.first c.args.second)) c.kind_at-kind.ensures.kind ∙ sym (form_counted _ _ _ _ (know c.kind_named.ensures.answer c.in-At.is) (sym (ap (λ (k : Kind). numbers_in k.row) c.kind_at-kind.ensures.kind) ∙ (sym c.numbers_in.ensures.answer ∙ c.if-numbers_in-count.false))) }
