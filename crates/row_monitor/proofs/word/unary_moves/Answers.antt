use Rattle.row_monitor.proofs.WordLaws.{word_all, word_none, word_not, moves_check, moves_go}
use Rattle.row_monitor.proofs.word.unary_moves.Goals as goal

pub returns-in-Not : goal.returns-in-Not
returns-in-Not c = record { moves = λ n k f g p. rw c.in-Not.is (moves_check c.checks.ensures.answer (word_none 64 k) (word_none 64 k) (word_none 64 k) (word_none 64 k)) }

pub returns-in-Next : goal.returns-in-Next
returns-in-Next c = record { moves = λ n k f g p. rw c.in-Next.is (record { fails = word_none 64 k; waits = word_all k; drops = word_not c.args.a k f p; holds = word_none 64 k }) }

pub returns-in-Always : goal.returns-in-Always
returns-in-Always c = record { moves = λ n k f g p. let e = word_not c.args.a k f p in rw c.in-Always.is (moves_go c.goes.ensures.answer e (word_all k) e (word_all k)) }

pub returns-in-Ever : goal.returns-in-Ever
returns-in-Ever c = record { moves = λ n k f g p. let e = word_not c.args.a k f p in rw c.in-Ever.is (moves_go c.goes-in-Ever.ensures.answer (word_none 64 k) e (word_none 64 k) e) }
