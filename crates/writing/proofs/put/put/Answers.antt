use Prim.Native.Nat.{◌+◌}
use mathlib.Core.Path.{◌≡◌, subst}
use lib.ListN.{length}
use native.Mathlib.Omega.{arith}
use lib.Seq.{paste-zero}
use Rattle.writing.specs.Lent.{Wrote}
use Rattle.writing.proofs.Texts.{paste_more, paste_end}
use Rattle.writing.proofs.put.put.Goals as goal

pub loop-i-init : goal.loop-i-init
loop-i-init c = paste-zero c.args.buf.now c.args.at c.args.text.now

pub loop-i-preserved : goal.loop-i-preserved
loop-i-preserved c = paste_more c.args.buf.now c.args.at c.args.text.now c.requires c.loop-i.i c.loop-i.buf c.loop-i.invariant c.loop-i-test.true

pub returns : goal.returns
returns c =
    let all : c.loop-i.i ≡ length c.args.text.now = omega arith in
    record { text = subst (λ n. Wrote c.args.buf.now c.args.at c.args.text.now c.loop-i.buf (c.args.at + n)) all (paste_end c.args.buf.now c.args.at c.args.text.now c.requires c.loop-i.i c.loop-i.buf c.loop-i.invariant all) }
