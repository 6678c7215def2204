use Rattle.normal_form.proofs.row.signed_row.Goals as goal

pub returns-in-Negated : goal.returns-in-Negated
returns-in-Negated c = record { answer = rw c.in-Negated.is c.dual.ensures.answer }
