use mathlib.Core.Path.{refl}
use Rattle.sheet_maker.proofs.Sheets.{filled_made}
use borrow.Author.Rules.{rules}
use Rattle.sheet_maker.proofs.truth_sheet.Goals as goal

pub returns : goal.returns
returns c = record { made = filled_made c.args.form c.args.trace _ c.requires.1.most_cycles (search rules) refl refl c.fill-truth.ensures.filled }
