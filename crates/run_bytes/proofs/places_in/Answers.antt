use Prim.Native.Nat.{◌+◌, ◌*◌, ◌<◌}
use mathlib.Core.Path.{◌≡◌, sym, ap, ◌∙◌}
use lib.ListN.{get_or}
use borrow.Author.Rules.{rules}
use Rattle.tables.specs.declared.run.Run.{Run}
use Rattle.run_bytes.specs.Bytes.{run_bytes, no_place, row_of}
use Rattle.run_bytes.proofs.Filled.{fill_start, fill_place, fill_list}
use Rattle.run_bytes.proofs.Decoding.{row_bytes, row_again}
use native.Mathlib.Omega.{arith}
use Rattle.run_bytes.proofs.places_in.Goals as goal

pub loop-k-init : goal.loop-k-init
loop-k-init c = (search rules, λ run fits e. fill_start 64 no_place (λ k. get_or run.formula.places k no_place))

pub loop-k-preserved : goal.loop-k-preserved
loop-k-preserved c =
    let h : c.loop-k.k < 64 = search rules in
    let first : get_or c.args.bytes.now (1024 + 3 * c.loop-k.k + 0) 0 ≡ get_or c.args.bytes.now (1024 + 3 * c.loop-k.k) 0 = ap (λ i. get_or c.args.bytes.now i 0) (omega arith) in
    let row : (run : Run) → c.args.bytes.now ≡ run_bytes run → c.with_numbers.result ≡ row_of run c.loop-k.k =
    λ run e. row_again (row_of run c.loop-k.k) c.table-kinds.ensures.answer (sym first ∙ row_bytes run e c.loop-k.k h 0 (omega arith)) c.kind_place.ensures.place.1
    c.with_numbers.ensures.answer (row_bytes run e c.loop-k.k h 1 (omega arith)) (row_bytes run e c.loop-k.k h 2 (omega arith)) in (
      search rules,
      λ run fits e. fill_place 64 no_place (λ k. get_or run.formula.places k no_place) c.loop-k.k (c.loop-k.invariant.1 run fits e) h (ap (λ r. record { row = r }) (row run e)),
    )

pub returns : goal.returns
returns c = record {
  places = let end : c.loop-k.k ≡ 64 = search rules in
      λ run fits e. c.loop-k.invariant.1 run fits e ∙ fill_list no_place run.formula.places end fits.places;
}
