use mathlib.Core.Path.{sym, ap, ◌∙◌}
use mathlib.Core.List.{[], ◌∷◌, ◌++◌, append-nil}
use Prim.Native.Nat.{ℕ}
use native.Mathlib.Omega.{arith}
use Rattle.tables.specs.Kind.{kind_at, word_of}
use Rattle.text.specs.Written.{decimal}
use Rattle.writing.proofs.Texts.{wrote_both, wrote_is}
use Rattle.row_writer.proofs.row.put_row.Goals as goal

pub returns-in-Constant : goal.returns-in-Constant
returns-in-Constant c = record { text = wrote_is (sym (append-nil _) ∙ (ap (λ (k : ℕ). word_of (kind_at k) ++ []) c.place_of.ensures.place.0 ∙ rw c.in-Constant.is)) c.put_word-i.ensures.word; room = omega arith }

pub returns-in-Signal : goal.returns-in-Signal
returns-in-Signal c = record {
  text = wrote_is (ap (λ (k : ℕ). word_of (kind_at k) ++ (32 ∷ decimal c.in-Signal.s)) c.place_of.ensures.place.0 ∙ rw c.in-Signal.is) (wrote_both
      c.put_word-i.ensures.word c.put_operand.ensures.text);
  room = omega arith;
}

pub returns-in-Unary : goal.returns-in-Unary
returns-in-Unary c = record {
  text = wrote_is (ap (λ (k : ℕ). word_of (kind_at k) ++ (32 ∷ decimal c.in-Unary.a)) c.place_of.ensures.place.0 ∙ rw c.in-Unary.is) (wrote_both
      c.put_word-i.ensures.word c.put_operand-in-Unary.ensures.text);
  room = omega arith;
}

pub returns-in-Binary : goal.returns-in-Binary
returns-in-Binary c = record { text = wrote_is (ap (λ (k : ℕ). word_of (kind_at k) ++ (32 ∷ (decimal c.in-Binary.a ++ (32 ∷ decimal c.in-Binary.b)))) c.place_of.ensures.place.0 ∙ rw c.in-Binary.is) (wrote_both c.put_word-i.ensures.word (wrote_both c.put_operand-j.ensures.text c.put_operand-in-Binary.ensures.text)); room = omega arith }
