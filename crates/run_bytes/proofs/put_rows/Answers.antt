use Prim.Native.Nat.{ℕ, ◌+◌, ◌*◌, ◌<◌}
use mathlib.Core.Path.{◌≡◌, refl, ap, ◌∙◌}
use native.Mathlib.Omega.{arith}
use mathlib.Core.List.{List}
use lib.ListN.{get_or}
use Rattle.tables.specs.declared.row.RowPlace.{RowPlace}
use borrow.Author.Rules.{rules}
use Rattle.tables.specs.declared.run.Run.{Run}
use Rattle.run_bytes.specs.Bytes.{byte_of, filled, run_length, row_byte, no_place}
use Rattle.run_bytes.proofs.Positions.{byte_row}
use Rattle.run_bytes.proofs.put_rows.Goals as goal

pub loop-k-init : goal.loop-k-init
loop-k-init c = (search rules, λ run q e. e)

pub loop-k-preserved : goal.loop-k-preserved
loop-k-preserved c =
    let h : c.loop-k.k < 64 = search rules in
    let row : (run : Run) → run.formula.places ≡ c.args.run.formula.places → (j : ℕ) → j < 3 → byte_of run (1024 + 3 * c.loop-k.k + j) ≡ row_byte (get_or c.args.run.formula.places c.loop-k.k no_place).row j =
    λ run q j l. byte_row run c.loop-k.k j h l ∙ ap (λ (ps : List RowPlace). row_byte (get_or ps c.loop-k.k no_place).row j) q in
    (search rules, λ run q e. c.put_row.ensures.more (byte_of run) (row run q) (c.loop-k.invariant.1 run q e) ∙ ap (filled run_length 0 (byte_of run)) (omega arith))

pub returns : goal.returns
returns c = record { more = λ e. c.loop-k.invariant.1 c.args.run refl e ∙ ap (filled run_length 0 (byte_of c.args.run)) (search rules) }
