use Rattle.row_monitor.proofs.WordLaws.{word_all, word_none, word_not, moves_check}
use Rattle.row_monitor.proofs.word.row_moves.Goals as goal

pub returns-in-Constant-True : goal.returns-in-Constant-True
returns-in-Constant-True c = record { moves = λ k f g p q. let kind = rw c.in-Constant-True.is at c.in-Constant-True.field-0-is in rw (c.in-Constant-True.is, kind) (moves_check c.checks.ensures.answer (word_none 64 k) (word_none 64 k) (word_none 64 k) (word_none 64 k)) }

pub returns-in-Constant-False : goal.returns-in-Constant-False
returns-in-Constant-False c = record { moves = λ k f g p q. let kind = rw c.in-Constant-False.is at c.in-Constant-False.field-0-is in rw (c.in-Constant-False.is, kind) (moves_check c.checks-in-Constant-False.ensures.answer (word_all k) (word_none 64 k) (word_none 64 k) (word_none 64 k)) }

pub returns-in-Signal-Sig-default : goal.returns-in-Signal-Sig-default
returns-in-Signal-Sig-default c = record { moves = λ k f g p q. let kind = rw c.in-Signal-Sig-default.is at c.in-Signal-Sig-default.field-0-is in rw (c.in-Signal-Sig-default.is, kind) (moves_check c.checks-in-Signal-Sig-default.ensures.answer (word_not c.args.a k f p) (word_none 64 k) (word_none 64 k) (word_none 64 k)) }

pub returns-in-Signal-Nsig-default : goal.returns-in-Signal-Nsig-default
returns-in-Signal-Nsig-default c = record { moves = λ k f g p q. let kind = rw c.in-Signal-Nsig-default.is at c.in-Signal-Nsig-default.field-0-is in rw (c.in-Signal-Nsig-default.is, kind) (moves_check c.checks-in-Signal-Nsig-default.ensures.answer p (word_none 64 k) (word_none 64 k) (word_none 64 k)) }
