-- The cases that 01 marks P ("Rules and takes to try"), one row each, and some that it does not: two on `next`, that the sheet made for
-- rule A passes, two runs (02, request 1), padded files (02, request 2), lengths (02, request 3), and such as name each word once: what
-- `judge` prints for each verdict and for a refusal in either file, and the normal forms of a rule with all fourteen words.
-- Assumes nothing.
use Prim.Native.String.{String}
use Rattle.std.specs.Prelude.{List, [], ◌∷◌}
use Rattle.normal_form.specs.declared.sign.Sign.TheVariants.{Plain, Negated}
use Rattle.judging.specs.declared.verdict.Verdict.{Verdict}
use Rattle.judging.specs.declared.verdict.Verdict.TheVariants.{Holds, Breaks, Kept, Broken, Open}
use Rattle.checking.specs.declared.finding.Finding.TheVariants.{Failed, Starved, Passes}
use Rattle.cases.specs.Case.{File, Case, Watched}
use Rattle.cases.specs.Case.Case.{normal_form_case, bound, normal_length, looped, opened, prints, makes, sheet_length_case, checks, runs}

abbrev pub rule_a : File
rule_a =
    "format=1" ∷
    "signals=2" ∷
    "rows=6" ∷
    "r1=sig 1" ∷
    "r2=not 1" ∷
    "r3=sig 2" ∷
    "r4=ever 3" ∷
    "r5=or 2 4" ∷
    "r6=always 5" ∷ []

-- "Its normal form, whole"
abbrev pub normal_a : File
normal_a =
    "format=1" ∷
    "signals=2" ∷
    "rows=5" ∷
    "r1=nsig 1" ∷
    "r2=sig 2" ∷
    "r3=ever 2" ∷
    "r4=or 1 3" ∷
    "r5=always 4" ∷ []

-- "always (not signal 1, or next signal 2)"
abbrev pub rule_always_next : File
rule_always_next =
    "format=1" ∷
    "signals=2" ∷
    "rows=6" ∷
    "r1=sig 1" ∷
    "r2=not 1" ∷
    "r3=sig 2" ∷
    "r4=next 3" ∷
    "r5=or 2 4" ∷
    "r6=always 5" ∷ []

-- "until of signals 1, 2", and weak of them
abbrev pub rule_until : File
rule_until = "format=1" ∷ "signals=2" ∷ "rows=3" ∷ "r1=sig 1" ∷ "r2=sig 2" ∷ "r3=until 1 2" ∷ []

abbrev pub rule_weak : File
rule_weak = "format=1" ∷ "signals=2" ∷ "rows=3" ∷ "r1=sig 1" ∷ "r2=sig 2" ∷ "r3=weak 1 2" ∷ []

-- "always true"
abbrev pub rule_always_true : File
rule_always_true = "format=1" ∷ "signals=1" ∷ "rows=2" ∷ "r1=true" ∷ "r2=always 1" ∷ []

-- "next signal 1"
abbrev pub rule_next : File
rule_next = "format=1" ∷ "signals=1" ∷ "rows=2" ∷ "r1=sig 1" ∷ "r2=next 1" ∷ []

-- the takes, by their cycles side by side
abbrev pub loop0_10_01 : File
loop0_10_01 = "format=1" ∷ "signals=2" ∷ "cycles=2" ∷ "loop=0" ∷ "c0=10" ∷ "c1=01" ∷ []

abbrev pub loop1_10_10 : File
loop1_10_10 = "format=1" ∷ "signals=2" ∷ "cycles=2" ∷ "loop=1" ∷ "c0=10" ∷ "c1=10" ∷ []

abbrev pub loop0_10 : File
loop0_10 = "format=1" ∷ "signals=2" ∷ "cycles=1" ∷ "loop=0" ∷ "c0=10" ∷ []

abbrev pub loop0_1 : File
loop0_1 = "format=1" ∷ "signals=1" ∷ "cycles=1" ∷ "loop=0" ∷ "c0=1" ∷ []

abbrev pub open_10 : File
open_10 = "format=1" ∷ "signals=2" ∷ "cycles=1" ∷ "loop=none" ∷ "c0=10" ∷ []

abbrev pub open_10_00 : File
open_10_00 = "format=1" ∷ "signals=2" ∷ "cycles=2" ∷ "loop=none" ∷ "c0=10" ∷ "c1=00" ∷ []

abbrev pub open_10_01 : File
open_10_01 = "format=1" ∷ "signals=2" ∷ "cycles=2" ∷ "loop=none" ∷ "c0=10" ∷ "c1=01" ∷ []

abbrev pub open_10_10 : File
open_10_10 = "format=1" ∷ "signals=2" ∷ "cycles=2" ∷ "loop=none" ∷ "c0=10" ∷ "c1=10" ∷ []

abbrev pub open_0 : File
open_0 = "format=1" ∷ "signals=1" ∷ "cycles=1" ∷ "loop=none" ∷ "c0=0" ∷ []

abbrev pub open_1 : File
open_1 = "format=1" ∷ "signals=1" ∷ "cycles=1" ∷ "loop=none" ∷ "c0=1" ∷ []

-- "For A on 10 01, loop 0, it prints in full"
abbrev pub printed_a : File
printed_a = "signals=2" ∷ "rows=5" ∷ "cycles=2" ∷ "loop=0" ∷ "verdict=holds" ∷ []

-- the other verdicts
abbrev pub printed_breaks : File
printed_breaks = "signals=2" ∷ "rows=5" ∷ "cycles=2" ∷ "loop=1" ∷ "verdict=breaks" ∷ []

abbrev pub printed_kept : File
printed_kept = "signals=2" ∷ "rows=3" ∷ "cycles=2" ∷ "loop=none" ∷ "verdict=kept" ∷ []

abbrev pub printed_broken : File
printed_broken = "signals=2" ∷ "rows=3" ∷ "cycles=2" ∷ "loop=none" ∷ "verdict=broken" ∷ []

abbrev pub printed_open : File
printed_open = "signals=2" ∷ "rows=3" ∷ "cycles=2" ∷ "loop=none" ∷ "verdict=open" ∷ []

-- "A file that cannot be opened counts as empty (2, line 1)"; a loop that is not below `cycles`
abbrev pub empty : File
empty = []

abbrev pub loop2_10_10 : File
loop2_10_10 = "format=1" ∷ "signals=2" ∷ "cycles=2" ∷ "loop=2" ∷ "c0=10" ∷ "c1=10" ∷ []

abbrev pub refused_empty : File
refused_empty = "refused=2" ∷ "file=1" ∷ "line=1" ∷ []

abbrev pub refused_loop : File
refused_loop = "refused=6" ∷ "file=2" ∷ "line=4" ∷ []

-- every word, and every partner in the negated rule's normal form
abbrev pub rule_words : File
rule_words =
    "format=1" ∷
    "signals=2" ∷
    "rows=14" ∷
    "r1=true" ∷
    "r2=false" ∷
    "r3=sig 1" ∷
    "r4=nsig 2" ∷
    "r5=not 3" ∷
    "r6=and 1 4" ∷
    "r7=or 2 5" ∷
    "r8=next 6" ∷
    "r9=always 7" ∷
    "r10=ever 8" ∷
    "r11=weak 9 10" ∷
    "r12=until 3 11" ∷
    "r13=release 4 12" ∷
    "r14=srelease 11 13" ∷ []

abbrev pub normal_words : File
normal_words =
    "format=1" ∷
    "signals=2" ∷
    "rows=14" ∷
    "r1=true" ∷
    "r2=false" ∷
    "r3=sig 1" ∷
    "r4=nsig 1" ∷
    "r5=nsig 2" ∷
    "r6=and 1 5" ∷
    "r7=or 2 4" ∷
    "r8=next 6" ∷
    "r9=always 7" ∷
    "r10=ever 8" ∷
    "r11=weak 9 10" ∷
    "r12=until 3 11" ∷
    "r13=release 5 12" ∷
    "r14=srelease 11 13" ∷ []

abbrev pub negated_words : File
negated_words =
    "format=1" ∷
    "signals=2" ∷
    "rows=14" ∷
    "r1=false" ∷
    "r2=true" ∷
    "r3=sig 1" ∷
    "r4=nsig 1" ∷
    "r5=sig 2" ∷
    "r6=or 1 5" ∷
    "r7=and 2 3" ∷
    "r8=next 6" ∷
    "r9=ever 7" ∷
    "r10=always 8" ∷
    "r11=srelease 9 10" ∷
    "r12=release 4 11" ∷
    "r13=until 5 12" ∷
    "r14=weak 11 13" ∷ []

-- "sheet for A on 10 01, loop 0: z1 to z5 are 01 01 11 11 11"; and with z3=00, with z2=00
abbrev pub sheet_a : File
sheet_a = "format=1" ∷ "rows=5" ∷ "cycles=2" ∷ "z1=01" ∷ "z2=01" ∷ "z3=11" ∷ "z4=11" ∷ "z5=11" ∷ []

abbrev pub sheet_a_z3 : File
sheet_a_z3 = "format=1" ∷ "rows=5" ∷ "cycles=2" ∷ "z1=01" ∷ "z2=01" ∷ "z3=00" ∷ "z4=11" ∷ "z5=11" ∷ []

abbrev pub sheet_a_z2 : File
sheet_a_z2 = "format=1" ∷ "rows=5" ∷ "cycles=2" ∷ "z1=01" ∷ "z2=00" ∷ "z3=11" ∷ "z4=11" ∷ "z5=11" ∷ []

-- 02, 2: rule A, the take 10 01 and its sheet with padded values; "`loop=00000` is the first cycle"
abbrev pub padded_a : File
padded_a =
    "format=00001" ∷
    "signals=00002" ∷
    "rows=00006" ∷
    "r1=sig 00001" ∷
    "r2=not 01" ∷
    "r3=sig 2" ∷
    "r4=ever 0003" ∷
    "r5=or 002 00004" ∷
    "r6=always 00005" ∷ []

abbrev pub padded_10_01 : File
padded_10_01 = "format=01" ∷ "signals=00002" ∷ "cycles=00002" ∷ "loop=00000" ∷ "c0=10" ∷ "c1=01" ∷ []

abbrev pub padded_sheet_a : File
padded_sheet_a = "format=00001" ∷ "rows=005" ∷ "cycles=00002" ∷ "z1=01" ∷ "z2=01" ∷ "z3=11" ∷ "z4=11" ∷ "z5=11" ∷ []

-- "still five digits at most; numbers in keys may not"; and a range is checked behind the form
abbrev pub rule_six : File
rule_six = "format=1" ∷ "signals=1" ∷ "rows=000001" ∷ "r1=true" ∷ []

abbrev pub rule_key : File
rule_key = "format=1" ∷ "signals=1" ∷ "rows=1" ∷ "r01=true" ∷ []

abbrev pub rule_no_rows : File
rule_no_rows = "format=1" ∷ "signals=1" ∷ "rows=00000" ∷ []

abbrev pub rule_no_operand : File
rule_no_operand = "format=1" ∷ "signals=1" ∷ "rows=2" ∷ "r1=true" ∷ "r2=and 00000 1" ∷ []

abbrev pub refused_six : File
refused_six = "refused=2" ∷ "file=1" ∷ "line=3" ∷ []

abbrev pub refused_key : File
refused_key = "refused=2" ∷ "file=1" ∷ "line=4" ∷ []

abbrev pub refused_no_rows : File
refused_no_rows = "refused=4" ∷ "file=1" ∷ "line=3" ∷ []

abbrev pub refused_no_operand : File
refused_no_operand = "refused=5" ∷ "file=1" ∷ "line=5" ∷ []

-- a cycle of a run, and the verdict behind it
abbrev behind : String → Verdict → Watched
behind digits verdict = record { digits = digits; verdict = verdict }

abbrev pub cases : List Case
cases =
    -- "Rule A: ..; bound 293. Its normal form, whole (P)"
    bound rule_a 293 ∷
    normal_form_case rule_a Plain normal_a ∷
    normal_form_case rule_words Plain normal_words ∷
    normal_form_case rule_words Negated negated_words ∷
    -- "P: A on 10 01, loop 0: `holds`. A on 10 10, loop 1: `breaks`. A on open 10: `open`."
    looped rule_a loop0_10_01 Holds ∷
    looped rule_a loop1_10_10 Breaks ∷
    opened rule_a open_10 Open ∷
    -- "P: always (not signal 1, or next signal 2) on open 10 00: `broken`; on 10: `open`."
    opened rule_always_next open_10_00 Broken ∷
    opened rule_always_next open_10 Open ∷
    -- "P: until of signals 1, 2 on open 10 01: `kept`; 10 00: `broken`; 10 10: `open`; on 10, loop 0: `breaks`, where weak `holds`."
    opened rule_until open_10_01 Kept ∷
    opened rule_until open_10_00 Broken ∷
    opened rule_until open_10_10 Open ∷
    looped rule_until loop0_10 Breaks ∷
    looped rule_weak loop0_10 Holds ∷
    -- "P: always true on open 0: `open`."
    opened rule_always_true open_0 Open ∷
    -- "next signal 1 on 1, loop 0: `holds`; on open 1: `open`."
    looped rule_next loop0_1 Holds ∷
    opened rule_next open_1 Open ∷
    -- "`judge` .. For A on 10 01, loop 0, it prints in full"
    prints rule_a loop0_10_01 printed_a ∷
    prints rule_a loop1_10_10 printed_breaks ∷
    prints rule_until open_10_01 printed_kept ∷
    prints rule_until open_10_00 printed_broken ∷
    prints rule_until open_10_10 printed_open ∷
    prints empty loop0_10_01 refused_empty ∷
    prints rule_a loop2_10_10 refused_loop ∷
    -- "P: sheet for A on 10 01, loop 0: z1 to z5 are 01 01 11 11 11. With z3=00: `failed`, row 4, cycle 0. With z2=00: `starved`, row 3."
    makes rule_a loop0_10_01 sheet_a ∷
    checks rule_a loop0_10_01 sheet_a Passes ∷
    checks rule_a loop0_10_01 sheet_a_z3 (Failed 4 0) ∷
    checks rule_a loop0_10_01 sheet_a_z2 (Starved 3) ∷
    -- runs, with the verdicts of the open takes above as they go
    runs rule_always_next (behind "10" Open ∷ behind "00" Broken ∷ []) ∷
    runs rule_until (behind "10" Open ∷ behind "10" Open ∷ behind "01" Kept ∷ []) ∷
    -- padded files: what is written and printed of them is not padded
    normal_form_case padded_a Plain normal_a ∷
    prints padded_a padded_10_01 printed_a ∷
    checks padded_a padded_10_01 padded_sheet_a Passes ∷
    prints rule_six padded_10_01 refused_six ∷
    prints rule_key padded_10_01 refused_key ∷
    prints rule_no_rows padded_10_01 refused_no_rows ∷
    prints rule_no_operand padded_10_01 refused_no_operand ∷
    -- "For rule A the first answer is 77. Where the sheet's answer is `none`, its length is 0."
    normal_length rule_a Plain 77 ∷
    normal_length rule_a Negated 78 ∷
    normal_length rule_words Plain 192 ∷
    sheet_length_case rule_a loop0_10_01 55 ∷
    sheet_length_case rule_a loop1_10_10 0 ∷
    sheet_length_case rule_until open_10_01 43 ∷
    sheet_length_case rule_until open_10_10 0 ∷ []
