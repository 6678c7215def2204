use native.Mathlib.Omega.{arith}
use Rattle.tables.proofs.Choices.{know}
use Rattle.meeting.specs.declared.Wanted.TheVariants.{Either}
use Rattle.meeting.proofs.Laws.{meeting_line}
use Rattle.meeting.proofs.Covered.{have_met, met_form, met_range, met_covers}
use Rattle.writing.proofs.Answers.{told_refused, told_accepted}
use Rattle.sheet_maker.proofs.Sheets.{rows_met, cycles_met}
use Rattle.sheet_text.specs.Answer.{IsMadeText}
use Rattle.sheet_text.proofs.Answers.{sheet_text, none_text_lem}
use Rattle.sheet_text.proofs.sheet_met.Goals as goal

pub deliver_refusal-requires : goal.deliver_refusal-requires
deliver_refusal-requires c = omega (arith, meeting_line Either c.args.formula c.args.trace (know c.meet-met.ensures.outcome c.in-Refused.is))

pub truth_sheet-sheet-requires : goal.truth_sheet-sheet-requires
truth_sheet-sheet-requires c =
    let met = have_met Either c.args.formula c.args.trace c.requires (c.meet-met.ensures.outcome, (c.meet-met.ensures.form, c.meet-met.ensures.covered)) c.in-Accepted.is in
    (met_form met, met_range met, met_covers met)

pub sets_root-requires : goal.sets_root-requires
sets_root-requires c =
    rows_met (have_met Either c.args.formula c.args.trace c.requires (c.meet-met.ensures.outcome, (c.meet-met.ensures.form, c.meet-met.ensures.covered)) c.in-Accepted.is)
    c.truth_sheet-sheet.ensures.made

pub write_sheet-requires : goal.write_sheet-requires
write_sheet-requires c =
    let met = have_met Either c.args.formula c.args.trace c.requires (c.meet-met.ensures.outcome, (c.meet-met.ensures.form, c.meet-met.ensures.covered)) c.in-Accepted.is in
    let rows = rows_met met c.truth_sheet-sheet.ensures.made in
    (rows.0, rows.1, cycles_met met c.truth_sheet-sheet.ensures.made)

pub returns-in-Refused : goal.returns-in-Refused
returns-in-Refused c = record { prints = told_refused _ (IsMadeText c.args.formula c.args.trace) (know c.meet-met.ensures.outcome c.in-Refused.is) c.deliver_refusal.ensures.delivers }

pub returns-then-sets_root : goal.returns-then-sets_root
returns-then-sets_root c = record {
  prints = let met = have_met Either c.args.formula c.args.trace c.requires (c.meet-met.ensures.outcome, (c.meet-met.ensures.form, c.meet-met.ensures.covered)) c.in-Accepted.is in
      let text = sheet_text met c.truth_sheet-sheet.ensures.made c.sets_root.ensures.root c.if-sets_root.true in
      told_accepted _ (IsMadeText c.args.formula c.args.trace) _ (know c.meet-met.ensures.outcome c.in-Accepted.is) text c.write_sheet.ensures.delivers;
}

pub returns-else-sets_root : goal.returns-else-sets_root
returns-else-sets_root c = record {
  prints = let met = have_met Either c.args.formula c.args.trace c.requires (c.meet-met.ensures.outcome, (c.meet-met.ensures.form, c.meet-met.ensures.covered)) c.in-Accepted.is in
      let text = none_text_lem met c.truth_sheet-sheet.ensures.made c.sets_root.ensures.root c.if-sets_root.false in
      told_accepted _ (IsMadeText c.args.formula c.args.trace) _ (know c.meet-met.ensures.outcome c.in-Accepted.is) text c.deliver.ensures.delivers;
}
