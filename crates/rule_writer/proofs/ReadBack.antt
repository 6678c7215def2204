-- What is written reads back as the formula, and how long it is. Assumes nothing.
use Prim.Native.Nat.{ℕ, ◌+◌, ◌*◌, ◌≤◌}
use mathlib.Core.Path.{◌≡◌, ap, ◌∙◌}
use mathlib.Core.List.{List}
use native.Mathlib.Omega.{arith}
use lib.ListN.{length, take}
use borrow.Author.Tests.{le-ltb}
use Rattle.tables.specs.declared.row.Formula.{Formula}
use Rattle.tables.specs.declared.refusal.Outcome.TheVariants.{Accepted}
use Rattle.tables.proofs.UsedRows.{used_size}
use Rattle.text.specs.Result.Result.{accepted}
use Rattle.rule_file.specs.Rule.{formula_of, parse_rule}
use Rattle.rule_file.specs.Valid.{InRange}
use Rattle.rule_file.specs.Written.{rows_of, written_rule}
use Rattle.rule_file.proofs.Rules.{text_read, checked}
use Rattle.row_writer.proofs.Lengths.{text_most}
use Rattle.writing.proofs.Answered.{answered_text}
use Rattle.writing.specs.declared.answer.Bytes.TheVariants.{Count}
use Rattle.rule_file.specs.Outcome.{rule_outcome}
use Rattle.rule_writer.specs.Answer.{rule_written, rule_left}

module _ (f : Formula) (full : length f.places ≡ 64) where
  used : InRange f → length (rows_of f) ≡ f.rows
  used ok = used_size f.rows f.places (omega (arith, ok.most_rows))

  -- 29 bytes and 22 for each row are enough
  rule_most : InRange f → length (written_rule f) ≤ 29 + 22 * f.rows
  unfolding written_rule
  rule_most ok =
      let a = text_most f.signals f.rows (rows_of f) ok.most_signals (omega (arith, ok.most_rows)) (omega (arith, used ok, ok.most_rows)) ok.rows_in_range in
      omega (arith, used ok)

  -- A FORMULA THAT PASSES THE CHECK IS READ BACK from what is written of it: the same, but for the places that it does not use, which
  -- then hold `true`
  pub rule_back : rule_outcome f ≡ Accepted → parse_rule (written_rule f) ≡ accepted (formula_of f.signals f.rows (rows_of f))
  unfolding parse_rule written_rule
  rule_back e =
      let ok = checked f e in
      rw (le-ltb 65536 (length (written_rule f)) (omega (arith, rule_most ok, ok.most_rows)))
      (text_read 64 formula_of f.signals f.rows (rows_of f) (omega arith) ok.some_signals ok.most_signals ok.some_rows ok.most_rows (used ok) ok.rows_in_range)

  -- and so from the bytes that an answered call left
  pub left_back : (buf : List ℕ) (n : ℕ) → rule_written f buf ≡ Count n → parse_rule (take n (rule_left f buf)) ≡ accepted (formula_of f.signals f.rows (rows_of f))
  left_back buf n e = let w = answered_text (rule_outcome f) (written_rule f) buf n e in ap parse_rule w.1 ∙ rule_back w.0

  -- IT HAS AT MOST 29 BYTES AND 22 FOR EACH ROW
  pub rule_short : rule_outcome f ≡ Accepted → length (written_rule f) ≤ 29 + 22 * f.rows
  rule_short e = rule_most (checked f e)
