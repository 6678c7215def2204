-- The bytes of a sheet file: it is accepted exactly where it is the written form of a valid activation table with its values padded.
-- Assumes nothing.
use mathlib.Core.Path.{◌≡◌, refl, sym, ap, ◌∙◌, subst}
use mathlib.Core.Bool.{Bool}
use mathlib.Core.Logic.{◌↔◌}
use mathlib.Core.List.{List}
use Prim.Native.Nat.{ℕ, ◌≤◌}
use native.Mathlib.Omega.{arith}
use lib.ListN.{length}
use borrow.Author.Tests.{le-ltb}
use Rattle.tables.specs.Bytes.{bytes}
use Rattle.tables.specs.declared.refusal.Reason.TheVariants.{WrongFormat, CountOutOfRange}
use Rattle.tables.specs.declared.trace.Activation.{Activation}
use Rattle.text.specs.Body.{body_lines}
use Rattle.text.specs.Count.{count_form}
use Rattle.text.specs.Digits.{digits_form}
use Rattle.text.specs.Line.{is_key, keyed_line}
use Rattle.text.specs.Number.{padded_of}
use Rattle.text.specs.Result.{Result, on_line, map_result}
use Rattle.text.specs.Result.Result.{accepted}
use Rattle.text.specs.Written.{decimal, written_line, written_body, digits_text}
use Rattle.text.specs.declared.number.Number.TheVariants.{Is}
use Rattle.text.proofs.Headers.{count_padded}
use Rattle.sheet_file.specs.Sheet.{activation_of, parse_sheet}
use Rattle.sheet_file.specs.Valid.{InRange, Valid}
use Rattle.sheet_file.specs.Written.{rows_of, written_sheet}
use Rattle.sheet_file.proofs.Sheets.{FromBody, FromCycles, FromRows, LinesOf, sheet_lines, held_rows, rows_held, valid_full, sheet_valid, sheet_written}
use Rattle.padding.specs.Padding.{Before.other, unpadded, Padded}
use Rattle.padding.proofs.Bytes.{PaddedFrom}
use Rattle.padding.proofs.Lines.{body_on, body_back}
use Rattle.padding.proofs.Headers.{rows_word, cycles_word, headed, header_on, header_back}
use Rattle.padding.proofs.Digits.{digits_on, digits_back}
use Rattle.padding.proofs.Files.{same_table, unpadded_read, written_plain}

abbrev FromFormat : List ℕ → Result Activation
FromFormat file = on_line 1 (keyed_line (is_key (bytes "format")) (count_form 1 1 WrongFormat)) file FromRows

-- ---- what is accepted

as_written : (rows cycles : ℕ) (rs : List (List Bool)) → rows_of (activation_of rows cycles rs) ≡ rs
    → headed (bytes "rows") (bytes "cycles") (decimal 1) (decimal rows) (decimal cycles) (written_body 122 digits_text 1 rs) ≡ written_sheet (activation_of rows cycles rs)
unfolding written_sheet
as_written rows cycles rs held = rw held

lines_on : (file : List ℕ) (a : Activation) → LinesOf file a → PaddedFrom other (written_sheet a) file
lines_on file a l =
    let r : ℕ = l.rows.count in
    let c : ℕ = l.cycles.count in
    let one : l.format.count ≡ 1 = omega (arith, l.format.least, l.format.most) in
    let body : List ℕ = written_body 122 digits_text 1 l.held in
    let whole : file ≡ headed (bytes "rows") (bytes "cycles") l.format.text l.rows.text l.cycles.text l.cycles.rest =
    l.format.whole ∙ ap (written_line (bytes "format") l.format.text) (l.rows.whole ∙ ap (written_line (bytes "rows") l.rows.text) l.cycles.whole) in
    let b = body_on 122 refl (λ r. digits_form c) digits_text (λ k. digits_on c) r 1 4 l.cycles.rest l.held l.body (omega (arith, l.rows.most)) in
    let h = header_on (bytes "rows") (bytes "cycles") rows_word cycles_word l.format.text l.rows.text l.cycles.text r c body l.cycles.rest
    (l.format.number ∙ ap Is one) l.rows.number l.cycles.number b in
    subst (λ t. PaddedFrom other t file) (as_written r c l.held (held_rows file a l) ∙ ap written_sheet l.table) (rw whole h)

-- EVERY ACCEPTED SHEET FILE IS THE WRITTEN FORM OF ITS TABLE, PADDED
pub sheet_bytes : (file : List ℕ) (a : Activation) → parse_sheet file ≡ accepted a → Padded (written_sheet a) file
sheet_bytes file a e = let p = lines_on file a (sheet_lines file a e) in record { plain = p.plain; five = p.five }

-- ---- what is padded

-- lines of the header, padded or not, and of rows that are read
lines_read : (r c : ℕ) (rs : List (List Bool)) (one_text rows-text cycles-text body : List ℕ)
    → padded_of one_text ≡ Is 1 → padded_of rows-text ≡ Is r → padded_of cycles-text ≡ Is c
    → 1 ≤ r → r ≤ 128 → 1 ≤ c → c ≤ 256 → body_lines 122 (λ r. digits_form c) r 1 4 body ≡ accepted rs
    → FromFormat (headed (bytes "rows") (bytes "cycles") one_text rows-text cycles-text body)
    ≡ accepted (activation_of r c rs)
lines_read r c rs one_text rows-text cycles-text body o n m r₁ r₂ c₁ c₂ b =
    let cycles-line : List ℕ = written_line (bytes "cycles") cycles-text body in
    count_padded (bytes "format") 1 1 WrongFormat 1 FromRows refl refl 1 (written_line (bytes "rows") rows-text cycles-line) one_text o (omega arith) (omega arith)
    ∙ (count_padded (bytes "rows") 1 128 CountOutOfRange 2 FromCycles refl refl r cycles-line rows-text n r₁ r₂
    ∙ (count_padded (bytes "cycles") 1 256 CountOutOfRange 3 (FromBody r) refl refl c body cycles-text m c₁ c₂
    ∙ ap (map_result (activation_of r c)) b))

text_back : (a : Activation) (file : List ℕ) → Valid a → PaddedFrom other (written_sheet a) file → parse_sheet file ≡ accepted a
unfolding parse_sheet written_sheet
text_back a file v p =
    let i : InRange a = v.range in
    let r : ℕ = a.rows in
    let c : ℕ = a.cycles in
    let n = rows_held a (valid_full a v) i.most_rows i.most_cycles in
    let body : List ℕ = written_body 122 digits_text 1 (rows_of a) in
    let h = header_back (bytes "rows") (bytes "cycles") rows_word cycles_word r c body file (omega (arith, i.most_rows)) (omega (arith, i.most_cycles)) p in
    let b = body_back 122 refl (λ r. digits_form c) digits_text (omega arith) 256 (λ r ds. length ds ≡ c) (λ k ds t s h e q. digits_back c 256 i.most_cycles k ds t s e q)
    (rows_of a) 1 4 h.rest (omega (arith, n.0, i.most_rows)) n.1 h.goes in
    let short : length file ≤ 65536 = omega (arith, h.short, b.1, n.0, i.most_rows) in
    rw (le-ltb 65536 (length file) short)
    (ap FromFormat h.whole
    ∙ (lines_read r c (rows_of a) h.one_text h.second_text h.third_text h.rest h.one h.second_number_lem h.third_number
    i.some_rows i.most_rows i.some_cycles i.most_cycles (ap (λ k. body_lines 122 (λ r. digits_form c) k 1 4 h.rest) (sym n.0) ∙ b.0)
    ∙ ap (λ ls. accepted (record { rows = r; cycles = c; lanes = ls })) (sym v.unused)))

-- EVERY WRITTEN FORM, PADDED IN ANY WAY, IS ACCEPTED AND YIELDS ITS TABLE
pub sheet_padded : (a : Activation) (file : List ℕ) → Valid a → Padded (written_sheet a) file → parse_sheet file ≡ accepted a
sheet_padded a file v p = text_back a file v (record { plain = p.plain; five = p.five })

-- TWO ACCEPTED SHEET FILES YIELD ONE TABLE EXACTLY WHERE THEY DIFFER IN PADDING ALONE
pub sheet_same : (f g : List ℕ) (a b : Activation) → parse_sheet f ≡ accepted a → parse_sheet g ≡ accepted b
    → (a ≡ b) ↔ (unpadded f ≡ unpadded g)
sheet_same = same_table parse_sheet written_sheet Valid sheet_valid sheet_bytes sheet_padded

-- without its padding an accepted file yields the same, and what we write has none
pub sheet_unpadded : (file : List ℕ) (a : Activation) → parse_sheet file ≡ accepted a → parse_sheet (unpadded file) ≡ accepted a
sheet_unpadded = unpadded_read parse_sheet written_sheet Valid sheet_valid sheet_bytes sheet_padded sheet_written

pub sheet_plain : (a : Activation) → Valid a → unpadded (written_sheet a) ≡ written_sheet a
sheet_plain = written_plain parse_sheet written_sheet Valid sheet_valid sheet_bytes sheet_padded sheet_written
