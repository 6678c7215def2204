use mathlib.Core.Path.{ap, sym, ◌∙◌}
use mathlib.Core.List.{[], ◌∷◌, ◌++◌}
use native.Mathlib.Omega.{arith}
use Prim.Native.Nat.{◌<◌}
use lib.ListN.{length, length-append}
use Rattle.std.proofs.Common.{take_all}
use Rattle.std.proofs.lemmas.List.{get_or_append_left, take_more}
use Rattle.std.proofs.lemmas.List.Elements.{All-get_or}
use Rattle.circuit_file.specs.Written.{written_lines}
use Rattle.writing.proofs.Texts.{wrote_both, wrote_is, wrote_none}
use Rattle.line_writer.proofs.Lines.{parts, parts_end, parts_more}
use Rattle.line_writer.proofs.put_numbers.Goals as goal

pub loop-n-init : goal.loop-n-init
unfolding parts
loop-n-init c = record { text = wrote_none _ _; room = omega arith }

pub put_part-end-requires : goal.put_part-end-requires
put_part-end-requires c =
    let all = rw c.in-Some.ensures.cases.0 at c.requires.2 in
    let at = get_or_append_left c.in-Some.front.now (c.in-Some.last.now ∷ []) 0 c.loop-n.n-index c.loop-n-test.true in
    let l : c.loop-n.n-index < length (c.in-Some.front.now ++ (c.in-Some.last.now ∷ [])) = simp length-append (omega arith) in
    (omega (arith, c.loop-n.invariant.room, c.in-Some.ensures.cases.1), rw at at (All-get_or (λ n. n < 100000) _ c.loop-n.n-index 0 l all))

pub loop-n-preserved : goal.loop-n-preserved
loop-n-preserved c = record {
  text = wrote_is (parts_more _ _ ∙ ap parts (sym (take_more c.in-Some.front.now c.loop-n.n-index 0 c.loop-n-test.true))) (wrote_both c.loop-n.invariant.text c.put_part-end.ensures.text);
  room = omega (arith, c.put_part-end.ensures.room);
}

pub returns-clause-text : goal.returns-clause-text
returns-clause-text c =
    wrote_is (parts_end _ _ ∙ ap (λ l. written_lines (l ∷ [])) (sym c.in-Some.ensures.cases.0))
    (wrote_both (rw (take_all c.loop-n.n-index c.in-Some.front.now c.loop-n-test.false) at c.loop-n.invariant.text) c.put_part.ensures.text)
