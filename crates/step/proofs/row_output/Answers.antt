use Prim.Native.Nat.{◌≤◌}
use mathlib.Core.Path.{subst}
use lib.ListN.{length}
use Rattle.meaning.specs.Rows.{Each, EachSignal}
use Rattle.step.proofs.row_output.Goals as goal

pub is_on-requires : goal.is_on-requires
is_on-requires c =
    subst (EachSignal (λ s. (1 ≤ s) × (s ≤ length c.args.signals.now))) c.in-Signal.is c.requires.each_signal

pub is_on-requires-in-Unary : goal.is_on-requires-in-Unary
is_on-requires-in-Unary c =
    subst (Each (λ a. (1 ≤ a) × (a ≤ length c.args.activators.now))) c.in-Unary.is c.requires.each

pub is_on-requires-in-Binary : goal.is_on-requires-in-Binary
is_on-requires-in-Binary c =
    (subst (Each (λ a. (1 ≤ a) × (a ≤ length c.args.activators.now))) c.in-Binary.is c.requires.each).0

pub is_on-requires-in-Binary-2 : goal.is_on-requires-in-Binary-2
is_on-requires-in-Binary-2 c =
    (subst (Each (λ a. (1 ≤ a) × (a ≤ length c.args.activators.now))) c.in-Binary.is c.requires.each).1

pub returns-in-Constant : goal.returns-in-Constant
returns-in-Constant c = record { answer = rw c.in-Constant.is c.constant.ensures.answer }

pub returns-in-Signal : goal.returns-in-Signal
returns-in-Signal c = record { answer = rw (c.in-Signal.is, ← c.is_on.ensures.answer) c.signal.ensures.answer }

pub returns-in-Unary : goal.returns-in-Unary
returns-in-Unary c = record { answer = rw (c.in-Unary.is, ← c.is_on-in-Unary.ensures.answer) c.unary.ensures.answer }

pub returns-in-Binary : goal.returns-in-Binary
returns-in-Binary c = record { answer = rw (c.in-Binary.is, ← c.is_on-in-Binary.ensures.answer, ← c.is_on-in-Binary-2.ensures.answer) c.binary.ensures.answer }
