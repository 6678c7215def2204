-- What is written reads back as the trace, and how long it is. Assumes nothing.
use Prim.Native.Nat.{ℕ, ◌≤◌}
use mathlib.Core.Path.{◌≡◌, ap, ◌∙◌}
use mathlib.Core.List.{List}
use lib.ListN.{length, take}
use Rattle.tables.specs.declared.trace.Trace.{Trace}
use Rattle.tables.specs.declared.refusal.Outcome.TheVariants.{Accepted}
use Rattle.text.specs.Result.Result.{accepted}
use Rattle.take_file.specs.Take.{trace_of, parse_take}
use Rattle.take_file.specs.Written.{cycles_of, written_take}
use Rattle.take_file.proofs.Takes.{in_range_lem, checked}
use Rattle.writing.proofs.Answered.{answered_text}
use Rattle.writing.specs.declared.answer.Bytes.TheVariants.{Count}
use Rattle.take_file.specs.Outcome.{take_outcome}
use Rattle.take_writer.specs.Answer.{take_written, take_left}

module _ (t : Trace) (full : length t.lanes ≡ 32) where
  -- A TRACE THAT PASSES THE CHECK IS READ BACK from what is written of it: the same, but for the bits that it does not use, which are
  -- then 0
  pub take_back : take_outcome t ≡ Accepted → parse_take (written_take t) ≡ accepted (trace_of t.signals t.cycles t.ending (cycles_of t))
  take_back e = let ok = checked t e in in_range_lem t full ok.some_signals ok.most_signals ok.some_cycles ok.most_cycles ok.loop

  -- and so from the bytes that an answered call left
  pub left_back : (buf : List ℕ) (n : ℕ) → take_written t buf ≡ Count n → parse_take (take n (take_left t buf)) ≡ accepted (trace_of t.signals t.cycles t.ending (cycles_of t))
  left_back buf n e = let w = answered_text (take_outcome t) (written_take t) buf n e in ap parse_take w.1 ∙ take_back w.0
