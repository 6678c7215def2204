-- What the service writes says the normal form, and nothing is lost in writing it. Assumes nothing.
use mathlib.Core.Path.{◌≡◌, refl}
use native.Mathlib.Omega.{arith}
use lib.ListN.{length}
use borrow.Author.Tests.{le-ltb}
use Rattle.tables.specs.declared.row.Formula.{Formula}
use Rattle.text.specs.Result.Result.{accepted}
use Rattle.rule_file.specs.Valid.{InRange}
use Rattle.rule_file.proofs.Rules.{text_read}
use Rattle.normal_form.specs.declared.sign.Sign.{Sign}
use Rattle.normal_form.specs.Numbering.{normal_rows, normal_form}
use Rattle.normal_form.proofs.Ranges.{normal_ranges, form_normal, form_rows_lem}
use Rattle.row_writer.specs.Normal.{written_normal}
use Rattle.normal_file.specs.Answer.{output}
use Rattle.normal_file.specs.Reading.{normal_of, parse_normal}
use Rattle.normal_file.proofs.Lengths.{output_most}

-- THE OUTPUT READS BACK AS THE NORMAL FORM
pub read_back : (f : Formula) (s : Sign) → InRange f → parse_normal (output f s) ≡ accepted (normal_form f s)
unfolding parse_normal written_normal normal_form
read_back f s ok =
    let g = form_normal f s ok in
    rw (le-ltb 65536 (length (output f s)) (omega (arith, output_most f s ok, ok.most_rows)))
    (rw (form_rows_lem f s ok) (text_read 128 normal_of f.signals (length (normal_rows f s)) (normal_rows f s) (omega arith) ok.some_signals ok.most_signals g.some_rows g.most_rows refl (normal_ranges f s ok)))
