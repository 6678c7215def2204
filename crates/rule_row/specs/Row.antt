-- The value of a row's line (01, "The files", rule file). Assumes nothing.
use Rattle.std.specs.Prelude.{ℕ, ◌+◌, Bool, true, false, List, leb, ltb, eqb, take, drop}
use Rattle.tables.specs.Refusal.{numbered}
use Rattle.tables.specs.Choice.{pick}
use Rattle.tables.specs.Bytes.{same_bytes}
use Rattle.tables.specs.Kind.{kinds, kind_at, word_of, with_numbers, numbers_in}
use Rattle.tables.specs.declared.refusal.Reason.{Reason}
use Rattle.tables.specs.declared.row.Row.{Row}
use Rattle.tables.specs.declared.row.Row.TheVariants.{Constant, Signal, Unary, Binary}
use Rattle.text.specs.Search.{first_where, first_of, on_found}
use Rattle.text.specs.Number.{padded_of, on_number}
use Rattle.text.specs.Result.{Parsed, Next, on_parsed}
use Rattle.text.specs.Result.Parsed.{good, bad}
use Rattle.text.specs.declared.search.Found.{Found}
use Rattle.rule_row.specs.declared.RowForm.{RowForm}
use Rattle.rule_row.specs.declared.RowForm.TheVariants.{Form, Formless}
use Rattle.rule_row.specs.declared.RowLine.{RowLine}
use Rattle.rule_row.specs.declared.RowLine.TheVariants.{Row as RowRead, Wrong}

-- the place in the table of the kind that has this word
unfoldable pub kind_named : List ℕ → Found
kind_named word = first_where (λ k. same_bytes word (word_of k)) kinds

-- a word with so many numbers behind it
unfoldable pub form_of : List ℕ → ℕ → ℕ → ℕ → Parsed Row
form_of word count a b =
    on_found (kind_named word) (bad (numbered 2)) λ k.
    pick (eqb (numbers_in (kind_at k).row) count) (good (with_numbers (kind_at k).row a b)) (bad (numbered 2))

-- a word and none, one or two numbers; "Single spaces (byte 32) stand between words and nowhere else"
unfoldable pub row_form : List ℕ → Parsed Row
row_form value =
    on_found (first_of 32 value) (form_of value 0 0 0) λ space.
    on_found (first_of 32 (drop (space + 1) value))
    (on_number (padded_of (drop (space + 1) value)) (bad (numbered 2)) λ a. form_of (take space value) 1 a 0) λ between.
    on_number (padded_of (take between (drop (space + 1) value))) (bad (numbered 2)) λ a.
    on_number (padded_of (drop (between + 1) (drop (space + 1) value))) (bad (numbered 2)) λ b.
    form_of (take space value) 2 a b

-- "A signal number is 0 or above `signals`": then it is none
abbrev pub is_signal : ℕ → ℕ → Bool
is_signal signals s = pick (eqb s 0) false (leb s signals)

-- "or an operand is 0 or not below its row"
abbrev pub is_operand : ℕ → ℕ → Bool
is_operand number a = pick (eqb a 0) false (ltb a number)

-- the numbers of a row in row place `number`
abbrev pub in_range : ℕ → ℕ → Row → Bool
in_range signals number (Constant c) = true
in_range signals number (Signal c s) = is_signal signals s
in_range signals number (Unary c a) = is_operand number a
in_range signals number (Binary c a b) = pick (is_operand number a) (is_operand number b) false

-- the value of row `number`: 2 where it is not of its form, then 5 where a number of it lies outside its range
unfoldable pub row_value : ℕ → ℕ → List ℕ → Parsed Row
row_value signals number value =
    on_parsed (row_form value) bad λ r.
    pick (in_range signals number r) (good r) (bad (numbered 5))

-- what each case of the code's answers says
abbrev pub form_as : RowForm → Parsed Row
form_as (Form r a b) = good (with_numbers r a b)
form_as Formless = bad (numbered 2)

abbrev pub row_line_as : RowLine → Parsed (Next Row)
row_line_as (RowRead r i) = good (record { value = r; next = i })
row_line_as (Wrong e) = bad e

abbrev pub reason_of : RowLine → Reason
reason_of (RowRead r i) = numbered 2
reason_of (Wrong e) = e
