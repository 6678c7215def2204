use Rattle.tables.proofs.Choices.{know}
use Rattle.meeting.specs.declared.Wanted.TheVariants.{Either}
use Rattle.meeting.proofs.Covered.{have_met, met_form, met_range, met_covers}
use Rattle.sheet_maker.proofs.Answers.{refused_makes, sheet_makes, none_makes}
use Rattle.sheet_maker.proofs.Sheets.{rows_met, cycles_met}
use Rattle.sheet_maker.proofs.make_met.Goals as goal

pub truth_sheet-sheet-requires : goal.truth_sheet-sheet-requires
truth_sheet-sheet-requires c =
    let met = have_met Either c.args.formula c.args.trace c.requires (c.meet-met.ensures.outcome, (c.meet-met.ensures.form, c.meet-met.ensures.covered)) c.in-Accepted.is in
    (met_form met, met_range met, met_covers met)

pub sets_root-requires : goal.sets_root-requires
sets_root-requires c =
    rows_met (have_met Either c.args.formula c.args.trace c.requires (c.meet-met.ensures.outcome, (c.meet-met.ensures.form, c.meet-met.ensures.covered)) c.in-Accepted.is)
    c.truth_sheet-sheet.ensures.made

pub write_sheet-requires : goal.write_sheet-requires
write_sheet-requires c =
    let met = have_met Either c.args.formula c.args.trace c.requires (c.meet-met.ensures.outcome, (c.meet-met.ensures.form, c.meet-met.ensures.covered)) c.in-Accepted.is in
    let rows = rows_met met c.truth_sheet-sheet.ensures.made in
    (rows.0, rows.1, cycles_met met c.truth_sheet-sheet.ensures.made)

pub returns-in-Refused : goal.returns-in-Refused
returns-in-Refused c = record { makes = refused_makes _ c.args.formula c.args.trace c.args.buf.now (λ e. c.requires.0) (know c.meet-met.ensures.outcome c.in-Refused.is) }

pub returns-then-sets_root : goal.returns-then-sets_root
returns-then-sets_root c = record {
  makes = let met = have_met Either c.args.formula c.args.trace c.requires (c.meet-met.ensures.outcome, (c.meet-met.ensures.form, c.meet-met.ensures.covered)) c.in-Accepted.is in
      sheet_makes _ c.args.formula c.args.trace c.args.buf.now (λ e. c.requires.0) met c.truth_sheet-sheet.ensures.made (know c.meet-met.ensures.outcome c.in-Accepted.is)
      c.sets_root.ensures.root c.if-sets_root.true c.maker_answer.ensures.answer
      c.write_sheet.ensures.delivers;
}

pub returns-else-sets_root : goal.returns-else-sets_root
returns-else-sets_root c = record {
  makes = let met = have_met Either c.args.formula c.args.trace c.requires (c.meet-met.ensures.outcome, (c.meet-met.ensures.form, c.meet-met.ensures.covered)) c.in-Accepted.is in
      none_makes _ c.args.formula c.args.trace c.args.buf.now (λ e. c.requires.0) met c.truth_sheet-sheet.ensures.made (know c.meet-met.ensures.outcome c.in-Accepted.is)
      c.sets_root.ensures.root c.if-sets_root.false;
}
