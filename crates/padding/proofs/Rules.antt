-- The bytes of a rule file: it is accepted exactly where it is the written form of a valid formula with its values padded. Assumes nothing.
use mathlib.Core.Path.{◌≡◌, refl, sym, ap, ◌∙◌, subst}
use mathlib.Core.Logic.{◌↔◌}
use mathlib.Core.List.{List}
use Prim.Native.Nat.{ℕ, ◌≤◌}
use native.Mathlib.Omega.{arith}
use lib.ListN.{length}
use borrow.Author.Tests.{le-ltb}
use Rattle.tables.specs.Bytes.{bytes}
use Rattle.tables.specs.declared.row.Row.{Row}
use Rattle.tables.specs.declared.row.Formula.{Formula}
use Rattle.text.specs.Body.{body_lines, EachAt}
use Rattle.text.specs.Result.Result.{accepted}
use Rattle.text.specs.Written.{decimal, written_line, written_body}
use Rattle.text.specs.declared.number.Number.TheVariants.{Is}
use Rattle.text.proofs.Numbers.{padded_written}
use Rattle.text.proofs.Bodies.{body_written}
use Rattle.rule_row.specs.Row.{row_value}
use Rattle.rule_row.specs.Written.{written_row}
use Rattle.rule_file.specs.Rule.{formula_of, rule_lines, parse_rule}
use Rattle.rule_file.specs.Written.{rows_of, rule_text, written_rule}
use Rattle.rule_file.specs.Valid.{InRange, Valid}
use Rattle.rule_file.proofs.Rules.{RowOk, row_reads, LinesOf, rule_lines_lem, held_rows, lines_read, valid_rows, rule_valid, rule_written_lem}
use Rattle.padding.specs.Padding.{Before.other, unpadded, Padded}
use Rattle.padding.proofs.Bytes.{PaddedFrom}
use Rattle.padding.proofs.Lines.{body_on, body_back}
use Rattle.padding.proofs.Headers.{signals_word, rows_word, headed, header_on, header_back}
use Rattle.padding.proofs.Rows.{row_on, row_back}
use Rattle.padding.proofs.Files.{same_table, unpadded_read, written_plain}

-- ---- what is accepted

as_written : (signals rows : ℕ) (rs : List Row) → rows_of (formula_of signals rows rs) ≡ rs
    → headed (bytes "signals") (bytes "rows") (decimal 1) (decimal signals) (decimal rows) (written_body 114 written_row 1 rs) ≡ written_rule (formula_of signals rows rs)
unfolding written_rule
as_written signals rows rs held = rw held

lines_on : (file : List ℕ) (f : Formula) → LinesOf file f → PaddedFrom other (written_rule f) file
lines_on file f l =
    let s : ℕ = l.signals.count in
    let m : ℕ = l.rows.count in
    let one : l.format.count ≡ 1 = omega (arith, l.format.least, l.format.most) in
    let body : List ℕ = written_body 114 written_row 1 l.held in
    let whole : file ≡ headed (bytes "signals") (bytes "rows") l.format.text l.signals.text l.rows.text l.rows.rest =
    l.format.whole ∙ ap (written_line (bytes "format") l.format.text) (l.signals.whole ∙ ap (written_line (bytes "signals") l.signals.text) l.rows.whole) in
    let b = body_on 114 refl (row_value s) written_row (row_on s) m 1 4 l.rows.rest l.held l.body (omega (arith, l.rows.most)) in
    let h = header_on (bytes "signals") (bytes "rows") signals_word rows_word l.format.text l.signals.text l.rows.text s m body l.rows.rest
    (l.format.number ∙ ap Is one) l.signals.number l.rows.number b in
    subst (λ t. PaddedFrom other t file) (as_written s m l.held (held_rows file f l) ∙ ap written_rule l.table) (rw whole h)

-- EVERY ACCEPTED RULE FILE IS THE WRITTEN FORM OF ITS FORMULA, PADDED
pub rule_bytes : (file : List ℕ) (f : Formula) → parse_rule file ≡ accepted f → Padded (written_rule f) file
rule_bytes file f e = let p = lines_on file f (rule_lines_lem file f e) in record { plain = p.plain; five = p.five }

-- ---- what is padded

text_back : (f : Formula) (file : List ℕ) → Valid f → PaddedFrom other (written_rule f) file → parse_rule file ≡ accepted f
unfolding parse_rule written_rule
text_back f file v p =
    let i : InRange f = v.in_range_lem in
    let s : ℕ = f.signals in
    let m : ℕ = f.rows in
    let n : length (rows_of f) ≡ m = valid_rows f v in
    let body : List ℕ = written_body 114 written_row 1 (rows_of f) in
    let h = header_back (bytes "signals") (bytes "rows") signals_word rows_word s m body file (omega (arith, i.most_signals)) (omega (arith, i.most_rows)) p in
    let b = body_back 114 refl (row_value s) written_row (omega arith) 20 (RowOk s) (row_back s i.most_signals)
    (rows_of f) 1 4 h.rest (omega (arith, n, i.most_rows)) i.rows_in_range h.goes in
    let short : length file ≤ 65536 = omega (arith, h.short, b.1, n, i.most_rows) in
    rw (le-ltb 65536 (length file) short)
    (ap (rule_lines 64 formula_of) h.whole
    ∙ (lines_read 64 formula_of s m (rows_of f) h.one_text h.second_text h.third_text h.rest h.one h.second_number_lem h.third_number
    i.some_signals i.most_signals i.some_rows i.most_rows (ap (λ z. body_lines 114 (row_value s) z 1 4 h.rest) (sym n) ∙ b.0)
    ∙ ap (λ ps. accepted (record { signals = s; rows = m; places = ps })) (sym v.unused_true)))

-- EVERY WRITTEN FORM, PADDED IN ANY WAY, IS ACCEPTED AND YIELDS ITS FORMULA
pub rule_padded : (f : Formula) (file : List ℕ) → Valid f → Padded (written_rule f) file → parse_rule file ≡ accepted f
rule_padded f file v p = text_back f file v (record { plain = p.plain; five = p.five })

-- TWO ACCEPTED RULE FILES YIELD ONE FORMULA EXACTLY WHERE THEY DIFFER IN PADDING ALONE
pub rule_same : (a b : List ℕ) (f g : Formula) → parse_rule a ≡ accepted f → parse_rule b ≡ accepted g
    → (f ≡ g) ↔ (unpadded a ≡ unpadded b)
rule_same = same_table parse_rule written_rule Valid rule_valid rule_bytes rule_padded

-- without its padding an accepted file yields the same, and what we write has none
pub rule_unpadded : (file : List ℕ) (f : Formula) → parse_rule file ≡ accepted f → parse_rule (unpadded file) ≡ accepted f
rule_unpadded = unpadded_read parse_rule written_rule Valid rule_valid rule_bytes rule_padded rule_written_lem

pub rule_plain : (f : Formula) → Valid f → unpadded (written_rule f) ≡ written_rule f
rule_plain = written_plain parse_rule written_rule Valid rule_valid rule_bytes rule_padded rule_written_lem

-- nor has any text of lines and rows in range, as the writer of normal forms writes them
pub text_plain : (signals rows : ℕ) (rs : List Row) → signals ≤ 32 → rows ≤ 1000 → length rs ≤ 1000 → EachAt (RowOk signals) 1 rs
    → unpadded (rule_text signals rows rs) ≡ rule_text signals rows rs
text_plain signals rows rs h l m ok =
    let body : List ℕ = written_body 114 written_row 1 rs in
    let b = body_written 114 (omega arith) (row_value signals) written_row (RowOk signals) (row_reads signals h) rs 1 4 (omega arith) ok in
    let d = body_on 114 refl (row_value signals) written_row (row_on signals) (length rs) 1 4 body rs b (omega arith) in
    (header_on (bytes "signals") (bytes "rows") signals_word rows_word (decimal 1) (decimal signals) (decimal rows) signals rows body body
    (padded_written 1 (omega arith)) (padded_written signals (omega arith)) (padded_written rows (omega arith)) d).plain
