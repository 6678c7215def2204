-- The sheet file, line by line. Assumes nothing.
use Rattle.std.specs.Prelude.{ℕ, Bool, false, List, [], ltb, length, get_or}
use Rattle.tables.specs.Refusal.{numbered}
use Rattle.tables.specs.Choice.{pick}
use Rattle.tables.specs.Bytes.{bytes}
use Rattle.tables.specs.Place.{placed}
use Rattle.tables.specs.Bit.{lane_of}
use Rattle.tables.specs.declared.trace.Activation.{Activation}
use Rattle.tables.specs.declared.trace.Lane.{Lane}
use Rattle.text.specs.Line.{is_key, keyed_line}
use Rattle.text.specs.Count.{count_form}
use Rattle.text.specs.Digits.{digits_form}
use Rattle.text.specs.Body.{body_lines}
use Rattle.text.specs.Result.{Result, on_line, map_result, outcome_of, table_or}
use Rattle.text.specs.Result.Result.{refused}
use Rattle.sheet_file.specs.declared.sheet.SheetAnswer.{SheetAnswer}

-- "one digit per cycle: that row's activator"; at cycle c, counted from 0, the lane has digit c, and 0 where there is none
abbrev pub row_lane : List Bool → Lane
row_lane r = lane_of (λ c. get_or r c false)

-- what a sheet file stands for: its counts, and its rows as lanes
abbrev pub activation_of : ℕ → ℕ → List (List Bool) → Activation
activation_of rows cycles rs = record { rows = rows; cycles = cycles; lanes = placed 128 row_lane [] rs }

-- "Sheet file: `format=1`, `rows=` (1 to 128, those of the normal form), `cycles=` (1 to 256), then `z1=` onward, one digit per
-- cycle: that row's activator"; 122 is the letter z. "The file is longer than 65,536 bytes" is refused at line 0.
unfoldable pub parse_sheet : List ℕ → Result Activation
parse_sheet file =
    pick (ltb 65536 (length file)) (refused (numbered 1) 0)
    (on_line 1 (keyed_line (is_key (bytes "format")) (count_form 1 1 (numbered 3))) file λ one after_format.
    on_line 2 (keyed_line (is_key (bytes "rows")) (count_form 1 128 (numbered 4))) after_format λ rows after_rows.
    on_line 3 (keyed_line (is_key (bytes "cycles")) (count_form 1 256 (numbered 4))) after_rows λ cycles body.
    map_result (activation_of rows cycles) (body_lines 122 (λ r. digits_form cycles) rows 1 4 body))

-- the code's answer: the sheet is file 3
abbrev pub sheet_answer : Result Activation → SheetAnswer
sheet_answer r = record { outcome = outcome_of 3 r; activation = table_or (activation_of 0 0 []) r }
