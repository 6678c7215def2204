use Rattle.std.proofs.Common.{◌≡◌, Bool, ℕ, ◌+◌, ◌^◌}
use Rattle.tables.specs.Bit.{word_from}
use Rattle.lanes.specs.Word.{Ends}
use Rattle.lanes.proofs.Stretches.{OfLength}
use Rattle.lanes.proofs.word.carry_back.Given as goal

abbrev pub invariant-loop-k : goal.invariant-loop-k
invariant-loop-k l = (b : ℕ) (k g : ℕ → Bool) (ke : Ends (b + 64) k) (ge : Ends (b + 64) g) → l.fn.keep ≡ word_from 64 b k → l.fn.goal ≡ word_from 64 b g
    → OfLength b k g ke ge (2 ^ l.k) l.stretch
