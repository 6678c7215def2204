use Rattle.sheet_text.proofs.sheet.Goals as goal

pub returns : goal.returns
returns c = record { prints = c.sheet_read.ensures.prints _ _ c.read_pair-pair.ensures.answer }
