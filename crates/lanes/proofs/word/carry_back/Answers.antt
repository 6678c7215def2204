use Rattle.std.proofs.Common.{arith, ◌≡◌, ◌^◌, ◌<◌}
use Rattle.std.proofs.lemmas.Nat.{pow_below}
use Rattle.lanes.proofs.Stretches.{of_one, of_doubled}
use Rattle.lanes.proofs.word.carry_back.Goals as goal

pub twice-stretch-requires : goal.twice-stretch-requires
twice-stretch-requires c = let p : 2 ^ c.loop-k.k < 2 ^ 6 = pow_below c.loop-k.k 6 c.loop-k-test.true in omega arith

pub loop-k-init : goal.loop-k-init
loop-k-init c = λ b k g ke ge p q. of_one b k g ke ge _ p q

pub loop-k-preserved : goal.loop-k-preserved
loop-k-preserved c = λ b k g ke ge p q.
    let h : 2 ^ c.loop-k.k < 2 ^ 6 = pow_below c.loop-k.k 6 c.loop-k-test.true in
    of_doubled b k g ke ge c.loop-k.k _ (omega arith) _ _ (c.loop-k.invariant b k g ke ge p q) c.twice-stretch.ensures.answer.0 c.twice-stretch.ensures.answer.1

pub returns : goal.returns
returns c = record { word = λ b k g ke ge p q. let six : c.loop-k.k ≡ 6 = omega arith in (rw six at (c.loop-k.invariant b k g ke ge p q)).goals }
