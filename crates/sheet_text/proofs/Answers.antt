-- The text of `sheet` for a sheet that is made. Assumes nothing.
use mathlib.Core.Path.{◌≡◌, refl}
use mathlib.Core.Logic.{◌↔◌}
use mathlib.Core.Bool.{Bool, true, false}
use Rattle.tables.specs.declared.row.Formula.{Formula}
use Rattle.tables.specs.declared.row.NormalForm.{NormalForm}
use Rattle.tables.specs.declared.trace.Activation.{Activation}
use Rattle.tables.specs.declared.trace.Trace.{Trace}
use Rattle.sheet_file.specs.Written.{written_sheet}
use Rattle.meaning.proofs.Readings.{on_and_off}
use Rattle.meeting.proofs.Covered.{HaveMet}
use Rattle.monitors.specs.Sheet.{activator_at}
use Rattle.sheet_maker.specs.Made.{Satisfied, IsMade}
use Rattle.sheet_maker.proofs.Sheets.{made_met, root_set}
use Rattle.sheet_text.specs.Answer.{none_text, IsMadeText, IsMadeText.sheet, IsMadeText.none}

module _ {f : Formula} {t : Trace} {g : NormalForm} {u : Trace} (met : HaveMet f t g u) {a : Activation} (made : IsMade g u a) {b : Bool} (bit : b ≡ activator_at a 0 a.rows) where
  root : (b ≡ true) ↔ Satisfied f t
  root = root_set met made bit

  pub sheet_text : b ≡ true → IsMadeText f t (written_sheet a)
  sheet_text y = sheet (root.0 y) a (made_met met made) refl

  pub none_text_lem : b ≡ false → IsMadeText f t none_text
  none_text_lem n = none (λ x. on_and_off (root.1 x) n) refl
