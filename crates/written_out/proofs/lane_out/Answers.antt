use Rattle.std.proofs.Common.{◌≡◌, ◌<◌, ◌≤◌, sym, subst, ◌∙◌, arith}
use Rattle.lanes.specs.Truth.{Shows}
use Rattle.written_out.proofs.OneLane.{repeated, own_shows, lane_written, set_room, set_shows, left_shows}
use Rattle.written_out.proofs.lane_out.Goals as goal
use Rattle.written_out.proofs.lane_out.Goals.{then-bit, else-bit}

pub loop-c-init : goal.loop-c-init
loop-c-init c = own_shows _ _ c.requires.0 (omega arith) _ _ (c.both-out.ensures.lane _ c.all.ensures.answer)

pub with_bit-out-requires : goal.with_bit-out-requires
with_bit-out-requires c =
    let h : c.loop-c.c < 256 = omega arith in
    (h, set_room _ _ c.requires.0 (omega arith) _ _ _ c.loop-c.auto.c h c.loop-c.invariant (sym c.bit.ensures.answer ∙ c.if-bit.true))

pub loop-c-preserved : goal.loop-c-preserved
loop-c-preserved c =
    let h : c.loop-c.c < 256 = omega arith in
    let most : c.args.cycles ≤ 256 = omega arith in
    let read = sym c.bit.ensures.answer in
    elim c.if-bit.branch [
      | then-bit w ↦ w.out-is ∙ w.with_bit-out.ensures.answer ∙ set_shows _ _ c.requires.0 most _ _ _ c.loop-c.auto.c h c.loop-c.invariant (read ∙ w.if-bit.true)
      | else-bit w ↦ w.out-is ∙ left_shows _ _ c.requires.0 most _ _ _ c.loop-c.auto.c h c.loop-c.invariant (read ∙ w.if-bit.false)
    ]

pub returns : goal.returns
returns c = record {
  answer = let e : c.loop-c.c ≡ c.args.last = omega arith in
      lane_written _ _ c.requires.0 (omega arith) _ _ (c.both-out.ensures.lane _ c.all.ensures.answer) _ _
      (subst (λ m. Shows m c.loop-c.out (repeated c.args.cycles c.args.start c.both-out.result)) e c.loop-c.invariant);
}
