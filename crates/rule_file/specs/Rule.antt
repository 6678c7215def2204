-- The rule file, line by line. Assumes nothing.
use Rattle.std.specs.Prelude.{ℕ, List, [], ltb, length}
use Rattle.tables.specs.Refusal.{numbered}
use Rattle.tables.specs.Choice.{pick}
use Rattle.tables.specs.Bytes.{bytes}
use Rattle.tables.specs.Place.{placed}
use Rattle.tables.specs.declared.row.ConstantKind.TheVariants.{True}
use Rattle.tables.specs.declared.row.Row.{Row}
use Rattle.tables.specs.declared.row.Row.TheVariants.{Constant}
use Rattle.tables.specs.declared.row.RowPlace.{RowPlace}
use Rattle.tables.specs.declared.row.Formula.{Formula}
use Rattle.text.specs.Line.{is_key, keyed_line}
use Rattle.text.specs.Count.{count_form}
use Rattle.text.specs.Body.{body_lines}
use Rattle.text.specs.Result.{Result, on_line, map_result, outcome_of, table_or}
use Rattle.text.specs.Result.Result.{refused}
use Rattle.rule_row.specs.Row.{row_value}
use Rattle.rule_file.specs.declared.rule.RuleAnswer.{RuleAnswer}

-- "A rule in memory is its counts together with its 64 row places, the unused ones holding `true`."
abbrev pub in_place : Row → RowPlace
in_place r = record { row = r }

abbrev pub unused : Row
unused = Constant True

abbrev pub formula_of : ℕ → ℕ → List Row → Formula
formula_of signals rows rs = record { signals = signals; rows = rows; places = placed 64 in_place unused rs }

-- The lines of a rule file, up to `most` rows; 114 is the letter r.
abbrev pub rule_lines : {A : Type 0} → ℕ → (ℕ → ℕ → List Row → A) → List ℕ → Result A
rule_lines most table file =
    on_line 1 (keyed_line (is_key (bytes "format")) (count_form 1 1 (numbered 3))) file λ one after_format.
    on_line 2 (keyed_line (is_key (bytes "signals")) (count_form 1 32 (numbered 4))) after_format λ signals after_signals.
    on_line 3 (keyed_line (is_key (bytes "rows")) (count_form 1 most (numbered 4))) after_signals λ rows body.
    map_result (table signals rows) (body_lines 114 (row_value signals) rows 1 4 body)

-- "Rule file: `format=1`, `signals=` (1 to 32), `rows=` (1 to 64), then `r1=` to the last row."
-- "The file is longer than 65,536 bytes" is refused at line 0.
unfoldable pub parse_rule : List ℕ → Result Formula
parse_rule file = pick (ltb 65536 (length file)) (refused (numbered 1) 0) (rule_lines 64 formula_of file)

-- the code's answer: the rule is file 1
abbrev pub rule_answer : Result Formula → RuleAnswer
rule_answer r = record { outcome = outcome_of 1 r; formula = table_or (formula_of 0 0 []) r }
