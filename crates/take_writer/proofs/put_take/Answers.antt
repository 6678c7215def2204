use mathlib.Core.List.{[]}
use mathlib.Core.Path.{◌≡◌}
use native.Mathlib.Omega.{arith}
use lib.ListN.{length}
use Rattle.tables.specs.Bytes.{bytes}
use Rattle.text.specs.Written.{decimal}
use Rattle.text.proofs.Laws.{line_length}
use Rattle.take_file.specs.Written.{ending_text, written_take}
use Rattle.writing.proofs.Texts.{wrote_line}
use borrow.Author.Rules.{rules}
use Rattle.take_writer.proofs.Lengths.{ending_small, parts}
use Rattle.take_writer.proofs.put_take.Goals as goal

pub put_number_line-a-requires : goal.put_number_line-a-requires
put_number_line-a-requires c =
    let full : length c.args.trace.lanes ≡ 32 = search rules in
    let lengths = parts c.args.trace full c.requires.0 in
    omega (arith, c.requires.1, c.requires.0.most_signals, c.requires.0.most_cycles)

pub put_number_line-b-requires : goal.put_number_line-b-requires
put_number_line-b-requires c =
    let full : length c.args.trace.lanes ≡ 32 = search rules in
    let lengths = parts c.args.trace full c.requires.0 in
    let first-length = line_length (bytes "format") (decimal 1) [] in
    omega (arith, c.requires.1, c.requires.0.most_signals, c.requires.0.most_cycles)

pub put_number_line-c-requires : goal.put_number_line-c-requires
put_number_line-c-requires c =
    let full : length c.args.trace.lanes ≡ 32 = search rules in
    let lengths = parts c.args.trace full c.requires.0 in
    let second-length = line_length (bytes "signals") (decimal c.args.trace.signals) [] in
    let first-length = line_length (bytes "format") (decimal 1) [] in
    omega (arith, c.requires.1, c.requires.0.most_signals, c.requires.0.most_cycles)

pub put_ending-d-requires : goal.put_ending-d-requires
put_ending-d-requires c =
    let full : length c.args.trace.lanes ≡ 32 = search rules in
    let lengths = parts c.args.trace full c.requires.0 in
    let third-length = line_length (bytes "cycles") (decimal c.args.trace.cycles) [] in
    let second-length = line_length (bytes "signals") (decimal c.args.trace.signals) [] in
    let first-length = line_length (bytes "format") (decimal 1) [] in
    (omega (arith, c.requires.1, c.requires.0.most_signals, c.requires.0.most_cycles), ending_small c.args.trace.ending c.args.trace.cycles 1000 (omega (arith, c.requires.0.most_cycles)) c.requires.0.loop)

pub put_cycles-requires : goal.put_cycles-requires
put_cycles-requires c =
    let full : length c.args.trace.lanes ≡ 32 = search rules in
    let lengths = parts c.args.trace full c.requires.0 in
    let ending_length = line_length (bytes "loop") (ending_text c.args.trace.ending) [] in
    let third-length = line_length (bytes "cycles") (decimal c.args.trace.cycles) [] in
    let second-length = line_length (bytes "signals") (decimal c.args.trace.signals) [] in
    let first-length = line_length (bytes "format") (decimal 1) [] in
    (c.requires.0, omega (arith, c.requires.1, c.requires.0.most_signals, c.requires.0.most_cycles))

pub returns : goal.returns
unfolding written_take
returns c = record {
  text = wrote_line (bytes "format") (decimal 1) c.put_number_line-a.ensures.text
      (wrote_line (bytes "signals") (decimal c.args.trace.signals) c.put_number_line-b.ensures.text
      (wrote_line (bytes "cycles") (decimal c.args.trace.cycles) c.put_number_line-c.ensures.text
      (wrote_line (bytes "loop") (ending_text c.args.trace.ending) c.put_ending-d.ensures.text c.put_cycles.ensures.text)));
}
