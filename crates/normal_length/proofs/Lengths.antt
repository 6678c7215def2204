-- A rule file's length from its counts and its rows' lines. Assumes nothing.
use Prim.Native.Nat.{ℕ, ◌+◌}
use mathlib.Core.Path.{◌≡◌, sym, ap}
use mathlib.Core.List.{List}
use native.Mathlib.Omega.{arith}
use lib.ListN.{length}
use Rattle.tables.specs.Bytes.{bytes}
use Rattle.tables.specs.declared.row.NormalForm.{NormalForm}
use Rattle.text.specs.Written.{decimal, written_line, written_body}
use Rattle.text.proofs.Laws.{line_length}
use Rattle.rule_row.specs.Written.{written_row}
use Rattle.row_writer.specs.Normal.{rows_of, written_normal}
use Rattle.writing.proofs.Texts.{decimal_one}

pub normal_size : (g : NormalForm)
    → 24 + length (decimal g.signals) + length (decimal g.rows) + length (written_body 114 written_row 1 (rows_of g)) ≡ length (written_normal g)
unfolding written_normal
normal_size g =
    let body : List ℕ = written_body 114 written_row 1 (rows_of g) in
    let third : List ℕ = written_line (bytes "rows") (decimal g.rows) body in
    let second : List ℕ = written_line (bytes "signals") (decimal g.signals) third in
    let one : length (decimal 1) ≡ 1 = sym (ap length (decimal_one 1 (omega arith))) in
    omega (
      arith,
      line_length (bytes "format") (decimal 1) second,
      line_length (bytes "signals") (decimal g.signals) third,
      line_length (bytes "rows") (decimal g.rows) body,
    )
