use mathlib.Core.Path.{ap}
use borrow.Author.Rules.{rules}
use Rattle.writing.proofs.Texts.{wrote_is}
use Rattle.circuit_file.specs.Written.{written_lines}
use Rattle.line_writer.proofs.Lines.{more_lines}
use Rattle.circuit_writer.proofs.Sections.{outputs_parted}
use Rattle.circuit_writer.proofs.section.put_outputs.Goals as goal

pub returns-clause-text : goal.returns-clause-text
returns-clause-text c =
    let a = c.put_said-a.ensures.text (λ w. w.failed) (search rules) in
    let b = c.put_said-b.ensures.text (λ w. w.accept) (search rules) in
    let d = c.put_said.ensures.text (λ w. w.pending) (search rules) in
    wrote_is (ap written_lines (outputs_parted c.args.form)) (more_lines _ _ a (more_lines _ _ b d))
