-- The take file of a run's cycles is read, as the trace of these cycles. Assumes nothing.
use Prim.Native.Nat.{ℕ, ◌≤◌, ◌<◌}
use mathlib.Core.Bool.{Bool}
use mathlib.Core.List.{List, [], ◌∷◌}
use mathlib.Core.Path.{◌≡◌, refl, sym, ap, ◌∙◌}
use native.Mathlib.Omega.{arith}
use lib.ListN.{length}
use Rattle.tables.specs.declared.row.Formula.{Formula}
use Rattle.tables.specs.declared.trace.Ending.TheVariants.{Open}
use Rattle.tables.specs.declared.trace.Trace.{Trace}
use Rattle.tables.specs.Only.{TheOnly}
use Rattle.text.specs.Result.Result.{accepted}
use Rattle.recording.specs.Recording.{lanes_of}
use Rattle.rule_file.specs.Valid.{InRange}
use Rattle.take_file.specs.Take.{parse_take, trace_of}
use Rattle.take_file.specs.Valid.{Valid, InRange as TraceInRange}
use Rattle.take_file.specs.Written.{cycles_of, written_take}
use Rattle.take_file.proofs.Takes.{cycles_of_lem, take_written_lem}
use Rattle.rule_and_take.proofs.Files.{file_read}
use Rattle.meeting.specs.Meeting.{meeting_outcome}
use Rattle.meeting.specs.declared.Wanted.TheVariants.{Unlooped}
use Rattle.judging.specs.Answer.{Answers}
use Rattle.judging.specs.declared.verdict.Answer.{Answer}
use Rattle.run.specs.Cycles.{Led}
use Rattle.run.specs.Verdict.{VerdictSoFar, take_file}
use Rattle.run.proofs.Led.{Whole, led_valid, led_whole}

-- the trace of a run
abbrev pub trace_so_far : Formula → List (List Bool) → Trace
trace_so_far f cs = trace_of f.signals (length cs) Open cs

-- it holds the run's cycles
pub same_cycles : (f : Formula) (cs : List (List Bool)) → Led f cs → cycles_of (trace_so_far f cs) ≡ cs
same_cycles f cs led =
    let w = led_whole f cs led in
    cycles_of_lem f.signals (length cs) Open cs (led_valid f cs led).in_range_lem.most_signals w.most refl w.widths

module _ (f : Formula) (cs : List (List Bool)) (led : Led f cs) (some : 1 ≤ length cs) where
  fine : InRange f
  fine = (led_valid f cs led).in_range_lem

  pub trace_range : TraceInRange (trace_so_far f cs)
  trace_range =
      record {
        some_signals = fine.some_signals;
        most_signals = fine.most_signals;
        some_cycles = some;
        most_cycles = (led_whole f cs led).most;
        loop = tt;
      }

  trace_valid : Valid (trace_so_far f cs)
  trace_valid = record { range = trace_range; unused = ap lanes_of (sym (same_cycles f cs led)) }

  -- its written form is the take file of the cycles
  file_written : written_take (trace_so_far f cs) ≡ take_file f.signals cs
  unfolding written_take take_file
  file_written = rw (same_cycles f cs led)

  -- THE TAKE FILE OF THE CYCLES SO FAR IS READ, AS THEIR TRACE
  pub file_read_back : parse_take (take_file f.signals cs) ≡ accepted (trace_so_far f cs)
  file_read_back = ap parse_take (sym file_written) ∙ take_written_lem (trace_so_far f cs) trace_valid

-- so a verdict on that trace is the one for the file
pub verdict_so_far : (f : Formula) (cs : List (List Bool)) → Led f cs → 1 ≤ length cs → {a : Answer}
    → TheOnly (Answers (meeting_outcome Unlooped f (trace_so_far f cs)) f (trace_so_far f cs)) a → VerdictSoFar f cs a
verdict_so_far f [] led some x = absurd (omega arith)
verdict_so_far f (c ∷ cs) led some x = file_read 2 (parse_take (take_file f.signals (c ∷ cs))) _ _ (file_read_back f (c ∷ cs) led some) x
