use Rattle.sheet_maker.proofs.sets_root.Goals as goal

pub returns : goal.returns
returns c = record { root = c.bit.ensures.answer }
