-- Padded files that are none of our own writing: what the theorems on padded files ask for is there. Assumes nothing.
use mathlib.Core.Path.{◌≡◌, refl, sym, ap, ◌∙◌}
use mathlib.Core.List.{List, [], ◌∷◌, ◌++◌}
use Prim.Native.Nat.{ℕ}
use native.Mathlib.Omega.{arith}
use lib.ListN.{length}
use Rattle.tables.specs.Bytes.{bytes, same_bytes}
use Rattle.tables.specs.Kind.{kinds, kind_at}
use Rattle.tables.specs.Place.{tabulate_from}
use Rattle.tables.specs.declared.row.Formula.{Formula}
use Rattle.tables.specs.declared.trace.Trace.{Trace}
use Rattle.tables.specs.declared.trace.Activation.{Activation}
use Rattle.text.specs.Search.{further, first_where}
use Rattle.text.specs.Number.{digits_from, digits_of, number_of, padded_of}
use Rattle.text.specs.Line.{cut_of, is_numbered, keyed_line}
use Rattle.text.specs.Count.{count_form}
use Rattle.text.specs.Digits.{are_digits, digits_form}
use Rattle.text.specs.Body.{body_lines}
use Rattle.text.specs.Result.{Result}
use Rattle.text.specs.Result.Result.{accepted, refused}
use Rattle.rule_row.specs.Row.{kind_named, form_of, row_form, row_value}
use Rattle.rule_file.specs.Rule.{parse_rule}
use Rattle.rule_file.specs.Valid.{Valid as RuleValid}
use Rattle.rule_file.specs.Written.{written_rule}
use Rattle.rule_file.proofs.Rules.{rule_valid}
use Rattle.take_file.specs.Ending.{ending_value}
use Rattle.take_file.specs.Take.{parse_take}
use Rattle.take_file.specs.Valid.{Valid as TakeValid}
use Rattle.take_file.specs.Written.{written_take}
use Rattle.take_file.proofs.Takes.{take_valid}
use Rattle.sheet_file.specs.Sheet.{parse_sheet}
use Rattle.sheet_file.specs.Valid.{Valid as SheetValid}
use Rattle.sheet_file.specs.Written.{written_sheet}
use Rattle.sheet_file.proofs.Sheets.{sheet_valid}
use Rattle.padding.specs.Padding.{unpadded_from, unpadded, Padded}
use Rattle.padding.proofs.Rules.{rule_bytes}
use Rattle.padding.proofs.Takes.{take_bytes}
use Rattle.padding.proofs.Sheets.{sheet_bytes}

pub line : List ℕ → List ℕ → List ℕ
line l rest = l ++ (10 ∷ rest)

pub rule_file : List ℕ
unfolding line
rule_file = line (bytes "format=00001") (line (bytes "signals=01") (line (bytes "rows=00001") (line (bytes "r1=sig 00001") [])))

pub take_file_lem : List ℕ
unfolding line
take_file_lem = line (bytes "format=1") (line (bytes "signals=00001") (line (bytes "cycles=1") (line (bytes "loop=00000") (line (bytes "c0=0") []))))

pub sheet_file : List ℕ
unfolding line
sheet_file = line (bytes "format=00001") (line (bytes "rows=1") (line (bytes "cycles=002") (line (bytes "z1=00") [])))

abbrev IsAccepted : {A : Type 0} → Result A → Type 0
IsAccepted (accepted x) = Unit {0}
IsAccepted (refused e n) = ⊥

yields : {A : Type 0} (r : Result A) → IsAccepted r → (x : A) × (r ≡ accepted x)
yields (accepted x) h = (x, refl)
yields (refused e n) h = absurd h

rule_accepted : IsAccepted (parse_rule rule_file)
unfolding line rule_file parse_rule keyed_line cut_of first_where further same_bytes count_form number_of padded_of digits_of digits_from body_lines is_numbered row_value row_form form_of kind_named kinds kind_at tabulate_from
rule_accepted = tt

take_accepted : IsAccepted (parse_take take_file_lem)
unfolding line take_file_lem parse_take keyed_line cut_of first_where further same_bytes count_form number_of padded_of digits_of digits_from body_lines is_numbered ending_value are_digits digits_form
take_accepted = tt

sheet_accepted : IsAccepted (parse_sheet sheet_file)
unfolding line sheet_file parse_sheet keyed_line cut_of first_where further same_bytes count_form number_of padded_of digits_of digits_from body_lines is_numbered are_digits digits_form
sheet_accepted = tt

-- a file that is shorter without its padding is not what we write
not_written : (file text : List ℕ) → Padded text file → (length (unpadded file) ≡ length file → ⊥) → file ≡ text → ⊥
not_written file text p n e = n (ap length (p.plain ∙ sym e))

pub rule_witness : (f : Formula) × RuleValid f × Padded (written_rule f) rule_file × (rule_file ≡ written_rule f → ⊥)
unfolding line rule_file unpadded_from
rule_witness =
    let y = yields (parse_rule rule_file) rule_accepted in
    let p = rule_bytes rule_file y.0 y.1 in
    (y.0, rule_valid rule_file y.0 y.1, p, not_written rule_file (written_rule y.0) p (λ e. omega arith))

pub take_witness : (t : Trace) × TakeValid t × Padded (written_take t) take_file_lem × (take_file_lem ≡ written_take t → ⊥)
unfolding line take_file_lem unpadded_from
take_witness =
    let y = yields (parse_take take_file_lem) take_accepted in
    let p = take_bytes take_file_lem y.0 y.1 in
    (y.0, take_valid take_file_lem y.0 y.1, p, not_written take_file_lem (written_take y.0) p (λ e. omega arith))

pub sheet_witness : (a : Activation) × SheetValid a × Padded (written_sheet a) sheet_file × (sheet_file ≡ written_sheet a → ⊥)
unfolding line sheet_file unpadded_from
sheet_witness =
    let y = yields (parse_sheet sheet_file) sheet_accepted in
    let p = sheet_bytes sheet_file y.0 y.1 in
    (y.0, sheet_valid sheet_file y.0 y.1, p, not_written sheet_file (written_sheet y.0) p (λ e. omega arith))
