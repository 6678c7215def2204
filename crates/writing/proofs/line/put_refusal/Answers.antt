use Prim.Native.Nat.{ℕ}
use mathlib.Core.Path.{ap}
use mathlib.Core.List.{[]}
use Rattle.tables.specs.Bytes.{bytes}
use Rattle.text.specs.Written.{decimal, written_line}
use Rattle.writing.specs.Refusal.{refusal_text}
use Rattle.writing.proofs.Texts.{wrote_line, wrote_is}
use borrow.Author.Rules.{rules}
use Rattle.writing.proofs.line.put_refusal.Goals as goal

pub returns : goal.returns
unfolding refusal_text
returns c = record {
  text = wrote_line (bytes "refused") (decimal _) (wrote_is (ap (λ (n : ℕ). written_line (bytes "refused") (decimal n) []) c.reason_number-number.ensures.answer)
      c.put_number_line-a.ensures.text) (wrote_line (bytes "file") (decimal _) c.put_number_line-b.ensures.text c.put_number_line.ensures.text);
  room = search rules;
}
