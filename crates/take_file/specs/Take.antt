-- The take file, line by line. Assumes nothing.
use Rattle.std.specs.Prelude.{ℕ, Bool, List, [], ltb, length}
use Rattle.tables.specs.Refusal.{numbered}
use Rattle.tables.specs.Choice.{pick}
use Rattle.tables.specs.Bytes.{bytes}
use Rattle.tables.specs.declared.trace.Ending.{Ending}
use Rattle.tables.specs.declared.trace.Ending.TheVariants.{Open}
use Rattle.tables.specs.declared.trace.Trace.{Trace}
use Rattle.recording.specs.Recording.{lanes_of}
use Rattle.text.specs.Line.{is_key, keyed_line}
use Rattle.text.specs.Count.{count_form}
use Rattle.text.specs.Digits.{digits_form}
use Rattle.text.specs.Body.{body_lines}
use Rattle.text.specs.Result.{Result, on_line, map_result, outcome_of, table_or}
use Rattle.text.specs.Result.Result.{refused}
use Rattle.take_file.specs.Ending.{ending_value}
use Rattle.take_file.specs.declared.take.TakeAnswer.{TakeAnswer}

-- what a take file stands for: its counts, its ending, and its cycles as a recording holds them
abbrev pub trace_of : ℕ → ℕ → Ending → List (List Bool) → Trace
trace_of signals cycles ending cs = record { signals = signals; cycles = cycles; ending = ending; lanes = lanes_of cs }

-- "Take file: `format=1`, `signals=` (1 to 32 as well), `cycles=` (1 to 256), `loop=`, then `c0=` onward, one digit 0 or 1 per
-- signal, signal 1 first"; 99 is the letter c. "The file is longer than 65,536 bytes" is refused at line 0.
unfoldable pub parse_take : List ℕ → Result Trace
parse_take file =
    pick (ltb 65536 (length file)) (refused (numbered 1) 0)
    (on_line 1 (keyed_line (is_key (bytes "format")) (count_form 1 1 (numbered 3))) file λ one after_format.
    on_line 2 (keyed_line (is_key (bytes "signals")) (count_form 1 32 (numbered 4))) after_format λ signals after_signals.
    on_line 3 (keyed_line (is_key (bytes "cycles")) (count_form 1 256 (numbered 4))) after_signals λ cycles after-cycles.
    on_line 4 (keyed_line (is_key (bytes "loop")) (ending_value cycles)) after-cycles λ ending body.
    map_result (trace_of signals cycles ending) (body_lines 99 (λ c. digits_form signals) cycles 0 5 body))

-- the code's answer: the take is file 2
abbrev pub take_answer : Result Trace → TakeAnswer
take_answer r = record { outcome = outcome_of 2 r; trace = table_or (trace_of 0 0 Open []) r }
