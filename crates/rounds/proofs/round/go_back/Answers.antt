use Prim.Native.Nat.{ℕ, suc, ◌-◌}
use mathlib.Core.Path.{◌≡◌, refl, subst, subst⁻¹}
use native.Mathlib.Omega.{arith}
use Rattle.cycle_rows.specs.Cells.{row_cell}
use Rattle.rounds.specs.Recorded.{RoundBack, given_from}
use Rattle.rounds.proofs.Back.{back_none, back_more}
use Rattle.rounds.proofs.round.go_back.Goals as goal

pub loop-c-init : goal.loop-c-init
loop-c-init c = (c.requires.1, λ g p n later h f r. back_none g g.rows refl (given_from c.args.digits.now) n c.args.to later (row_cell c.args.cells.now) c.args.words.now f r)

pub loop-c-preserved : goal.loop-c-preserved
loop-c-preserved c = let at : ℕ = c.loop-c.c in
    let d : suc (at - 1) ≡ at = omega arith in (
      omega arith,
      λ g p n later h f r.
          let back : RoundBack g (given_from c.args.digits.now) n (suc (at - 1)) c.args.to later (row_cell c.loop-c.cells) c.loop-c.words =
          subst⁻¹ (λ z. RoundBack g (given_from c.args.digits.now) n z c.args.to later (row_cell c.loop-c.cells) c.loop-c.words) d (c.loop-c.invariant.1 g p n later h f r) in
          back_more g c.args.steps.now.rows p.rows _ n _ later (at - 1) (omega arith) _ _ _ _ back (c.fill_at.ensures.filled g p) (λ x. c.«record».ensures.recorded n x (omega arith)),
    )

pub returns : goal.returns
returns c = record {
  gone = λ g p n later h f r.
      let z : c.loop-c.c ≡ c.args.from = omega arith in
      subst (λ y. RoundBack g (given_from c.args.digits.now) n y c.args.to later (row_cell c.loop-c.cells) c.loop-c.words) z (c.loop-c.invariant.1 g p n later h f r);
}
