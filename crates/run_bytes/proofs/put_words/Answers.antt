use Prim.Native.Nat.{◌<◌}
use mathlib.Core.Path.{ap, ◌∙◌}
use native.Mathlib.Omega.{arith}
use borrow.Author.Rules.{rules}
use Rattle.run_bytes.specs.Bytes.{byte_of, filled, run_length}
use Rattle.run_bytes.proofs.Positions.{byte_word}
use Rattle.run_bytes.proofs.put_words.Goals as goal

pub loop-i-init : goal.loop-i-init
loop-i-init c = (search rules, λ e. e)

pub loop-i-preserved : goal.loop-i-preserved
loop-i-preserved c =
    let h : c.loop-i.i < 128 = search rules in
    (search rules, λ e. c.put_word.ensures.more (byte_of c.args.run) (λ j l. byte_word c.args.run c.loop-i.i j h l) (c.loop-i.invariant.1 e) ∙ ap (filled run_length 0 (byte_of c.args.run)) (omega arith))

pub returns : goal.returns
returns c = record { more = λ e. c.loop-i.invariant.1 e ∙ ap (filled run_length 0 (byte_of c.args.run)) (search rules) }
