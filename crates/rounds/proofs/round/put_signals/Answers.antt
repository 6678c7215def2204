use Prim.Native.Nat.{◌+◌, ◌-◌}
use mathlib.Core.Bool.{Bool, false}
use mathlib.Core.Path.{◌≡◌, ap, ◌∙◌}
use mathlib.Core.List.{List}
use native.Mathlib.Omega.{arith}
use lib.ListN.{get_or}
use Rattle.std.proofs.lemmas.List.{get_or-append_right, get_or-drop}
use borrow.Author.Rules.{rules}
use Rattle.rounds.proofs.round.put_signals.Goals as goal

-- the cells behind the first 32 are as they were
pub returns-clause-rows : goal.returns-clause-rows
returns-clause-rows c = λ j h.
    let cells : List Bool = c.args.cells.now in
    let e : 32 + (j - 32) ≡ j = omega arith in
    get_or-append_right c.copy_from_slice.new.self _ 32 j false (search rules) h ∙ (get_or-drop 32 cells (j - 32) false ∙ ap (λ i. get_or cells i false) e)
