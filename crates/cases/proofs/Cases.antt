-- Every case of the table is so, computed from the definitions. Assumes nothing.
use mathlib.Core.Path.{refl}
use mathlib.Core.List.{List, ◌∷◌}
use Rattle.tables.specs.Bytes.{same_bytes}
use Rattle.tables.specs.Kind.{kinds, kind_at, dual_of}
use Rattle.tables.specs.Place.{tabulate_from}
use Rattle.tables.specs.Bit.{bit_at, word_from, lane_of}
use Rattle.text.specs.Search.{further, first_where}
use Rattle.text.specs.Number.{digits_from, digits_of, number_of, padded_of}
use Rattle.text.specs.Line.{cut_of, is_numbered, keyed_line}
use Rattle.text.specs.Count.{count_form}
use Rattle.text.specs.Digits.{are_digits, digits_form}
use Rattle.text.specs.Body.{body_lines}
use Rattle.text.specs.Written.{decimal_in, decimal, written_body}
use Rattle.rule_row.specs.Row.{kind_named, form_of, row_form, row_value}
use Rattle.rule_file.specs.Rule.{parse_rule}
use Rattle.rule_file.specs.Written.{written_rule}
use Rattle.take_file.specs.Ending.{ending_value}
use Rattle.take_file.specs.Take.{parse_take}
use Rattle.meaning.specs.Trace.{position}
use Rattle.meaning.specs.Approximant.{approximant}
use Rattle.meaning.proofs.Evaluation.{bits_within, bits_of}
use Rattle.normal_form.specs.Reach.{marked_down, reach}
use Rattle.normal_form.specs.Numbering.{listing, normal_listing, normal_form}
use Rattle.row_writer.specs.Normal.{written_normal}
use Rattle.writing.specs.Refusal.{refusal_text}
use Rattle.judge_text.specs.Text.{verdict_text}
use Rattle.sheet_file.specs.Sheet.{parse_sheet}
use Rattle.sheet_file.specs.Written.{written_sheet}
use Rattle.sheet_maker.specs.Length.{rows_length}
use Rattle.checking.proofs.ByReport.{report_from, reported, survey_from, surveyed, computed_finding}
use Rattle.cases.specs.Case.{Case, Each, Each.none, Each.first, Says}
use Rattle.cases.specs.Table.{cases}
use Rattle.cases.proofs.Computed.{Computed, all_say}

infixr 4 ◌also◌
◌also◌ : {x : Case} {xs : List Case} → Computed x → Each Computed xs → Each Computed (x ∷ xs)
a also b = first a b

-- row by row; of a verdict: the signals agree, the ending is what the service needs, and the bits give the verdict
computed : Each Computed cases
unfolding parse_rule keyed_line cut_of first_where further same_bytes count_form number_of padded_of digits_of digits_from body_lines is_numbered row_value row_form form_of kind_named kinds kind_at dual_of tabulate_from written_rule written_body decimal decimal_in marked_down reach listing normal_listing normal_form written_normal refusal_text parse_take are_digits digits_form ending_value bit_at word_from lane_of position approximant bits_within bits_of verdict_text parse_sheet written_sheet report_from reported survey_from surveyed computed_finding rows_length
computed =
    refl
    also (λ buf. (refl, refl))
    also (λ buf. (refl, refl))
    also (λ buf. (refl, refl))
    also (refl, refl, refl)
    also (refl, refl, refl)
    also (refl, refl, refl)
    also (refl, refl, refl)
    also (refl, refl, refl)
    also (refl, refl, refl)
    also (refl, refl, refl)
    also (refl, refl, refl)
    also (refl, refl, refl)
    also (refl, refl, refl)
    also (refl, refl, refl)
    also (refl, refl, refl)
    also (refl, refl, refl)
    also (refl, refl)
    also (refl, refl)
    also (refl, refl)
    also (refl, refl)
    also (refl, refl)
    also refl
    also refl
    also record { signals = refl; rows = refl; cycles = refl; holds = refl; digits = refl; written = refl }
    also record { signals = refl; rows = refl; cycles = refl; found = refl }
    also record { signals = refl; rows = refl; cycles = refl; found = refl }
    also record { signals = refl; rows = refl; cycles = refl; found = refl }
    also (refl, refl, (refl, refl, tt))
    also (refl, refl, (refl, refl, (refl, refl, tt)))
    also (λ buf. (refl, refl))
    also (refl, refl)
    also record { signals = refl; rows = refl; cycles = refl; found = refl }
    also refl
    also refl
    also refl
    also refl
    also refl
    also refl
    also refl
    also (refl, refl)
    also (refl, refl)
    also (refl, refl)
    also (refl, refl)
    also none

pub all_cases : Each Says cases
all_cases = all_say cases computed
