use Rattle.check_text.proofs.check.Goals as goal

pub returns : goal.returns
returns c = record { prints = c.check_read.ensures.prints _ _ c.read_pair-pair.ensures.answer _ c.read_sheet-third.ensures.answer }
