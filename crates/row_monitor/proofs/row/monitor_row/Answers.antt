use Prim.Native.Nat.{◌*◌, ◌/◌}
use mathlib.Core.Path.{◌≡◌, sym, ap, ◌∙◌}
use native.Mathlib.Omega.{arith}
use Rattle.row_monitor.specs.Word.{word_report}
use Rattle.row_monitor.proofs.ReportLoop.{report_start, cycle_small, report_goes}
use Rattle.row_monitor.proofs.WordLoop.{word_goes}
use Rattle.row_monitor.proofs.row.monitor_row.Goals as goal

pub loop-i-init : goal.loop-i-init
loop-i-init c = record { small = omega arith; to = report_start c.args.monitor c.args.course }

pub loop-i-preserved-in-loop-i : goal.loop-i-preserved-in-loop-i
loop-i-preserved-in-loop-i c =
    let w = c.whole_word.ensures.answer c.if-whole_word.true in
    let q : c.loop-i.c / 64 * 64 ≡ c.loop-i.c = omega (arith, w.aligned) in
    let given = sym (ap (λ b. word_report c.args.monitor b c.loop-i.report.pending) q) ∙ sym c.monitor_word.ensures.answer ∙ c.in-Ok.is in
    let settled = rw c.row-waiting.ensures.answer at c.if-counts-report.true in
    let to = word_goes c.args.monitor c.args.course c.loop-i.invariant.to w given settled c.next_cycle-c.ensures.answer in
    record { small = cycle_small c.args.monitor c.args.course c.requires to; to = to }

pub loop-i-preserved : goal.loop-i-preserved
loop-i-preserved c =
    let to = report_goes c.args.monitor c.args.course c.loop-i.invariant.to c.loop-i-test.true c.say-said.ensures.answer c.if-said.false c.next_cycle-c-in-loop-i.ensures.answer in
    record { small = cycle_small c.args.monitor c.args.course c.requires to; to = to }
