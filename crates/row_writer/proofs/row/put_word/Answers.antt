use mathlib.Core.Path.{sym, ap}
use Prim.Native.Nat.{◌≤◌}
use native.Mathlib.Omega.{arith}
use lib.ListN.{length}
use lib.Seq.{length-take-le}
use Rattle.tables.specs.Kind.{word_of}
use Rattle.tables.proofs.KindTable.{word_fits, word_short}
use Rattle.writing.proofs.Texts.{wrote_is}
use Rattle.row_writer.proofs.row.put_word.Goals as goal

pub slice_bounds-bytes-end : goal.slice_bounds-bytes-end
slice_bounds-bytes-end c = rw c.kind_at-kind.ensures.kind (word_fits _ c.requires.0)

pub slice_bounds-put-end : goal.slice_bounds-put-end
slice_bounds-put-end c =
    let h : c.kind_at-kind.result.length ≤ length c.kind_at-kind.result.word = rw c.kind_at-kind.ensures.kind (word_fits _ c.requires.0) in sym (length-take-le _ _ h)

pub put-requires : goal.put-requires
put-requires c =
    let h : length (word_of c.kind_at-kind.result) ≤ 8 = rw c.kind_at-kind.ensures.kind (word_short _ c.requires.0) in omega (arith, c.requires.1)

pub returns : goal.returns
returns c = let h : length (word_of c.kind_at-kind.result) ≤ 8 = rw c.kind_at-kind.ensures.kind (word_short _ c.requires.0) in record { word = wrote_is (ap word_of c.kind_at-kind.ensures.kind) c.put.ensures.text; most = omega (arith, c.put.ensures.text.next) }
