use mathlib.Core.Path.{ap₂, ◌∙◌}
use mathlib.Core.Logic.{inl, inr}
use mathlib.Core.Bool.{not, ◌&&◌, ◌||◌}
use lib.Bits.{bit_and, bit_or}
use Rattle.lanes.proofs.Words.{word_and, word_or}
use Rattle.row_monitor.proofs.WordLaws.{word_none, word_not, moves_check, moves_go}
use Rattle.row_monitor.proofs.word.binary_moves.Goals as goal

pub returns-in-And : goal.returns-in-And
returns-in-And c = record { moves = λ n m k f g p q. rw c.in-And.is (moves_check c.checks.ensures.answer (word_not _ k (λ i. f i && g i) (ap₂ bit_and p q ∙ word_and 64 k f g)) (word_none 64 k) (word_none 64 k) (word_none 64 k)) }

pub returns-in-Or : goal.returns-in-Or
returns-in-Or c = record { moves = λ n m k f g p q. rw c.in-Or.is (moves_check c.checks-in-Or.ensures.answer (word_not _ k (λ i. f i || g i) (ap₂ bit_or p q ∙ word_or 64 k f g)) (word_none 64 k) (word_none 64 k) (word_none 64 k)) }

pub returns-in-Weak : goal.returns-in-Weak
returns-in-Weak c = record {
  moves = λ n m k f g p q.
      let x = word_not c.args.a k f p in
      let y = word_not c.args.b k g q in
      let z = ap₂ bit_and y x ∙ word_and 64 k (λ i. not (g i)) (λ i. not (f i)) in
      elim c.in-Weak.is [
        | inl e ↦ rw e (moves_go c.goes.ensures.answer z y z y)
        | inr e ↦ rw e (moves_go c.goes.ensures.answer z y z y)
      ];
}

pub returns-in-Release : goal.returns-in-Release
returns-in-Release c = record {
  moves = λ n m k f g p q.
      let x = word_not c.args.a k f p in
      let y = word_not c.args.b k g q in
      elim c.in-Release.is [
        | inl e ↦ rw e (moves_go c.goes-in-Release.ensures.answer y x y x)
        | inr e ↦ rw e (moves_go c.goes-in-Release.ensures.answer y x y x)
      ];
}
