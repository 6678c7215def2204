-- Rule files and the formulas they hold: a formula that is written is read back, and only valid formulas are read. (What their bytes are:
-- crate padding.) Assumes nothing.
use mathlib.Core.Path.{◌≡◌, refl, sym, ap, ◌∙◌, subst}
use mathlib.Core.Bool.{true}
use mathlib.Core.List.{List, [], ◌∷◌, map}
use Prim.Native.Nat.{ℕ, zero, suc, ◌+◌, ◌*◌, ◌≤◌, ◌<◌}
use native.Mathlib.Omega.{arith}
use lib.Dec.{ltb}
use lib.ListN.{length, get_or, take, length-append, length-take, length-map}
use borrow.Author.Tests.{le-ltb}
use Rattle.tables.specs.Bytes.{bytes}
use Rattle.tables.specs.Kind.{place_of}
use Rattle.tables.proofs.KindTable.{word_short, kind_of_row}
use Rattle.tables.proofs.Places.{length_tabulate, take_placed}
use Rattle.tables.specs.declared.refusal.Outcome.{Outcome}
use Rattle.tables.specs.declared.refusal.Outcome.TheVariants.{Accepted, Refused}
use Rattle.tables.specs.declared.refusal.Reason.{Reason}
use Rattle.tables.specs.declared.refusal.Refusal.{Refusal}
use Rattle.tables.specs.declared.refusal.Reason.TheVariants.{TooLong, WrongFormat, CountOutOfRange}
use Rattle.tables.specs.declared.row.Row.{Row}
use Rattle.tables.specs.declared.row.Row.TheVariants.{Constant, Signal, Unary, Binary}
use Rattle.tables.specs.declared.row.RowPlace.{RowPlace}
use Rattle.tables.specs.declared.row.Formula.{Formula}
use Rattle.text.specs.Line.{is_key, keyed_line}
use Rattle.text.specs.Count.{count_form}
use Rattle.text.specs.Number.{padded_of}
use Rattle.text.specs.Body.{body_lines, EachAt}
use Rattle.text.specs.Result.{Result, on_line, map_result, outcome_of}
use Rattle.text.specs.Result.Parsed.{good}
use Rattle.text.specs.Result.Result.{accepted, refused}
use Rattle.text.specs.Written.{decimal, written_line, written_body}
use Rattle.text.specs.declared.number.Number.TheVariants.{Is}
use Rattle.tables.proofs.Choices.{clash}
use Rattle.text.proofs.Numbers.{padded_written}
use Rattle.text.proofs.Lines.{Free}
use Rattle.text.proofs.Bodies.{body_starts, body_surplus, body_line, body_written, body_valid}
use Rattle.text.proofs.Headers.{CountThen, count_then, count_padded, count_in, count_below, count_above, count_range, map_accepted, test_accepted, outcome_accepted, parsed_accepted}
use Rattle.text.proofs.Laws.{decimal_short, count_short, body_short}
use Rattle.text.proofs.Answered.{accepted_table}
use Rattle.text.proofs.RefusedLines.{RefusedBy, map_by, test_by, count_by, body_by, refused_line, outcome_line}
use Rattle.rule_row.specs.Row.{in_range, row_value}
use Rattle.rule_file.specs.Rule.{in_place, unused, formula_of, rule_lines, parse_rule, rule_answer}
use Rattle.rule_file.specs.declared.rule.RuleAnswer.{RuleAnswer}
use Rattle.rule_file.specs.Written.{rows_of, rule_text, written_rule}
use Rattle.rule_row.specs.Written.{numbers_text, written_row}
use Rattle.rule_file.specs.Valid.{InRange, Valid}
use Rattle.rule_row.proofs.WrittenRows.{Small, row_free, range_small, value_written, value_range, any_row_free, any_value_read}

-- ---- a written rule is never too long

numbers_short : (r : Row) → length (numbers_text r) ≤ 12
numbers_short (Constant k) = omega arith
numbers_short (Signal k s) = omega (arith, decimal_short s)
numbers_short (Unary k a) = omega (arith, decimal_short a)
numbers_short (Binary k a b) = rw length-append (omega (arith, decimal_short a, decimal_short b))

row_short : (r : Row) → length (written_row r) ≤ 20
row_short r = rw length-append (omega (arith, word_short (place_of r) (kind_of_row r).0, numbers_short r))

rule_short : (f : Formula) → length (rows_of f) ≤ 64 → length (written_rule f) ≤ 65536
unfolding written_rule
rule_short f h =
    let body : List ℕ = written_body 114 written_row 1 (rows_of f) in
    let a : length body ≤ length (rows_of f) * 28 = body_short 114 written_row unused 20 (rows_of f) 1 (λ i l. row_short (get_or (rows_of f) i unused)) in
    let b = count_short (bytes "rows") f.rows body (omega arith) in
    let c = count_short (bytes "signals") f.signals (written_line (bytes "rows") (decimal f.rows) body) (omega arith) in
    let d = count_short (bytes "format") 1 (written_line (bytes "signals") (decimal f.signals) (written_line (bytes "rows") (decimal f.rows) body)) (omega arith) in
    omega arith

pub used_most : (f : Formula) → length f.places ≡ 64 → length (rows_of f) ≤ 64
used_most f e = rw (length-map, length-take) (omega arith)

-- ---- reading a written rule, line by line: how it goes on behind each line
abbrev pub behind_rows : ℕ → ℕ → List ℕ → Result Formula
behind_rows signals rows body = map_result (formula_of signals rows) (body_lines 114 (row_value signals) rows 1 4 body)

abbrev pub behind_signals : ℕ → List ℕ → Result Formula
behind_signals signals rest = on_line 3 (keyed_line (is_key (bytes "rows")) (count_form 1 64 CountOutOfRange)) rest (behind_rows signals)

abbrev pub behind_format : ℕ → List ℕ → Result Formula
behind_format one rest = on_line 2 (keyed_line (is_key (bytes "signals")) (count_form 1 32 CountOutOfRange)) rest behind_signals

module _ (f : Formula) (short : length (rows_of f) ≤ 64) (hs : f.signals < 100000) (hm : f.rows < 100000) where
  body : List ℕ
  body = written_body 114 written_row 1 (rows_of f)

  rows_line : List ℕ
  rows_line = written_line (bytes "rows") (decimal f.rows) body

  signals_line : List ℕ
  signals_line = written_line (bytes "signals") (decimal f.signals) rows_line

  after_format : parse_rule (written_rule f) ≡ behind_format 1 signals_line
  unfolding parse_rule written_rule signals_line rows_line body
  after_format =
      rw (le-ltb 65536 (length (written_rule f)) (rule_short f short))
      (count_in (bytes "format") 1 1 WrongFormat 1 behind_format refl refl 1 signals_line (omega arith) (omega arith) (omega arith))

  pub signals_few : f.signals < 1 → parse_rule (written_rule f) ≡ refused CountOutOfRange 2
  unfolding signals_line
  signals_few h = after_format ∙ count_below (bytes "signals") 1 32 CountOutOfRange 2 behind_signals refl refl f.signals rows_line h hs

  module _ (s₁ : 1 ≤ f.signals) where
    pub signals_many : 32 < f.signals → parse_rule (written_rule f) ≡ refused CountOutOfRange 2
    unfolding signals_line
    signals_many h = after_format ∙ count_above (bytes "signals") 1 32 CountOutOfRange 2 behind_signals refl refl f.signals rows_line s₁ h hs

    module _ (s₂ : f.signals ≤ 32) where
      after_signals : parse_rule (written_rule f) ≡ behind_signals f.signals rows_line
      unfolding signals_line
      after_signals = after_format ∙ count_in (bytes "signals") 1 32 CountOutOfRange 2 behind_signals refl refl f.signals rows_line s₁ s₂ hs

      pub rows_few : f.rows < 1 → parse_rule (written_rule f) ≡ refused CountOutOfRange 3
      unfolding rows_line
      rows_few h = after_signals ∙ count_below (bytes "rows") 1 64 CountOutOfRange 3 (behind_rows f.signals) refl refl f.rows body h hm

      module _ (m₁ : 1 ≤ f.rows) where
        pub rows_many : 64 < f.rows → parse_rule (written_rule f) ≡ refused CountOutOfRange 3
        unfolding rows_line
        rows_many h = after_signals ∙ count_above (bytes "rows") 1 64 CountOutOfRange 3 (behind_rows f.signals) refl refl f.rows body m₁ h hm

        pub after_rows : f.rows ≤ 64 → parse_rule (written_rule f) ≡ map_result (formula_of f.signals f.rows) (body_lines 114 (row_value f.signals) f.rows 1 4 (written_body 114 written_row 1 (rows_of f)))
        unfolding rows_line body
        after_rows h = after_signals ∙ count_in (bytes "rows") 1 64 CountOutOfRange 3 (behind_rows f.signals) refl refl f.rows body m₁ h hm

-- ---- the theorems

-- a row of a formula, in its place
abbrev pub RowOk : ℕ → ℕ → Row → Type 0
RowOk signals k r = in_range signals k r ≡ true

pub row_reads : (signals : ℕ) → signals ≤ 32 → (k : ℕ) (r : Row) → k < 100000 → RowOk signals k r → (row_value signals k (written_row r) ≡ good r) × Free 10 (written_row r)
row_reads signals hs k r h e =
    let s : Small r = range_small signals k hs (omega arith) r e in
    (value_written signals k r s ∙ rw e, row_free r s)

-- lines of counts, padded or not, and of rows that are read
pub lines_read : {A : Type 0} (most : ℕ) (table : ℕ → ℕ → List Row → A) (signals rows : ℕ) (rs : List Row) (one_text signals-text rows-text body : List ℕ)
    → padded_of one_text ≡ Is 1 → padded_of signals-text ≡ Is signals → padded_of rows-text ≡ Is rows
    → 1 ≤ signals → signals ≤ 32 → 1 ≤ rows → rows ≤ most → body_lines 114 (row_value signals) rows 1 4 body ≡ accepted rs
    → rule_lines most table (written_line (bytes "format") one_text (written_line (bytes "signals") signals-text (written_line (bytes "rows") rows-text body)))
    ≡ accepted (table signals rows rs)
lines_read {A} most table signals rows rs one_text signals-text rows-text body o s m s₁ s₂ m₁ m₂ b =
    let rows_line : List ℕ = written_line (bytes "rows") rows-text body in
    let behind-rows : ℕ → ℕ → List ℕ → Result A = λ signals rows rest. map_result (table signals rows) (body_lines 114 (row_value signals) rows 1 4 rest) in
    let behind-signals : ℕ → List ℕ → Result A = λ signals rest. on_line 3 (keyed_line (is_key (bytes "rows")) (count_form 1 most CountOutOfRange)) rest (behind-rows signals) in
    let behind-format : ℕ → List ℕ → Result A = λ one rest. on_line 2 (keyed_line (is_key (bytes "signals")) (count_form 1 32 CountOutOfRange)) rest behind-signals in
    count_padded (bytes "format") 1 1 WrongFormat 1 behind-format refl refl 1 (written_line (bytes "signals") signals-text rows_line) one_text o (omega arith) (omega arith)
    ∙ (count_padded (bytes "signals") 1 32 CountOutOfRange 2 behind-signals refl refl signals rows_line signals-text s s₁ s₂
    ∙ (count_padded (bytes "rows") 1 most CountOutOfRange 3 (behind-rows signals) refl refl rows body rows-text m m₁ m₂
    ∙ ap (map_result (table signals rows)) b))

-- rows in range, written as a rule file, are read back
pub text_read : {A : Type 0} (most : ℕ) (table : ℕ → ℕ → List Row → A) (signals rows : ℕ) (rs : List Row) → most ≤ 1000
    → 1 ≤ signals → signals ≤ 32 → 1 ≤ rows → rows ≤ most → length rs ≡ rows → EachAt (RowOk signals) 1 rs
    → rule_lines most table (rule_text signals rows rs) ≡ accepted (table signals rows rs)
text_read {A} most table signals rows rs small s₁ s₂ m₁ m₂ n ok =
    let body : List ℕ = written_body 114 written_row 1 rs in
    let b : body_lines 114 (row_value signals) (length rs) 1 4 body ≡ accepted rs =
    body_written 114 (omega arith) (row_value signals) written_row (RowOk signals) (row_reads signals s₂) rs 1 4 (omega arith) ok in
    lines_read most table signals rows rs (decimal 1) (decimal signals) (decimal rows) body
    (padded_written 1 (omega arith)) (padded_written signals (omega arith)) (padded_written rows (omega arith)) s₁ s₂ m₁ m₂ (rw n at b)

-- a valid formula has as many rows as it says
pub valid_full : (f : Formula) → Valid f → length f.places ≡ 64
valid_full f v = ap length v.unused_true ∙ length_tabulate 64 0 _

pub valid_rows : (f : Formula) → Valid f → length (rows_of f) ≡ f.rows
valid_rows f v =
    length-map (take f.rows f.places) _ ∙ (length-take f.rows f.places ∙ rw (valid_full f v) (omega (arith, v.in_range_lem.most_rows)))

-- A FORMULA THAT IS WRITTEN IS READ BACK
pub rule_written_lem : (f : Formula) → Valid f → parse_rule (written_rule f) ≡ accepted f
unfolding parse_rule written_rule
rule_written_lem f v =
    let i : InRange f = v.in_range_lem in
    rw (le-ltb 65536 (length (written_rule f)) (rule_short f (used_most f (valid_full f v))))
    (text_read 64 formula_of f.signals f.rows (rows_of f) (omega arith) i.some_signals i.most_signals i.some_rows i.most_rows (valid_rows f v) i.rows_in_range
    ∙ ap (λ ps. accepted (record { signals = f.signals; rows = f.rows; places = ps })) (sym v.unused_true))

rows_in_places : (rs : List Row) → map (λ (p : RowPlace). p.row) (map in_place rs) ≡ rs
rows_in_places [] = refl
rows_in_places (r ∷ rs) = ap (◌∷◌ r) (rows_in_places rs)

rows_of_lem : (s m : ℕ) (rs : List Row) → length rs ≡ m → m ≤ 64 → rows_of (formula_of s m rs) ≡ rs
rows_of_lem s m rs e h = rw (← e) (rw (take_placed 64 in_place unused rs (omega arith)) (rows_in_places rs))

-- the lines of a file that is read, and what they hold
pub record LinesOf (file : List ℕ) (f : Formula) : Type 0 where
  pub format : CountThen (bytes "format") 1 1 WrongFormat 1 behind_format file f
  pub signals : CountThen (bytes "signals") 1 32 CountOutOfRange 2 behind_signals format.rest f
  pub rows : CountThen (bytes "rows") 1 64 CountOutOfRange 3 (behind_rows signals.count) signals.rest f
  pub held : List Row
  pub body : body_lines 114 (row_value signals.count) rows.count 1 4 rows.rest ≡ accepted held
  pub table : formula_of signals.count rows.count held ≡ f

pub rule_lines_lem : (file : List ℕ) (f : Formula) → parse_rule file ≡ accepted f → LinesOf file f
unfolding parse_rule
rule_lines_lem file f e =
    let whole : Result Formula = on_line 1 (keyed_line (is_key (bytes "format")) (count_form 1 1 WrongFormat)) file behind_format in
    let a = count_then (bytes "format") 1 1 WrongFormat 1 behind_format file f (test_accepted (ltb 65536 (length file)) TooLong 0 whole f e) in
    let b = count_then (bytes "signals") 1 32 CountOutOfRange 2 behind_signals a.rest f a.goes in
    let c = count_then (bytes "rows") 1 64 CountOutOfRange 3 (behind_rows b.count) b.rest f b.goes in
    let d = map_accepted (formula_of b.count c.count) (body_lines 114 (row_value b.count) c.count 1 4 c.rest) f c.goes in
    record { format = a; signals = b; rows = c; held = d.0; body = d.1; table = d.2 }

module _ (file : List ℕ) (f : Formula) (l : LinesOf file f) where
  -- as many rows as the file says, each in range
  held_valid : (length l.held ≡ l.rows.count) × EachAt (RowOk l.signals.count) 1 l.held
  held_valid =
      let s : ℕ = l.signals.count in
      body_valid 114 (row_value s) (RowOk s) (value_range s) l.rows.count 1 4 l.rows.rest l.held l.body

  -- the formula holds the rows of the file
  pub held_rows : rows_of (formula_of l.signals.count l.rows.count l.held) ≡ l.held
  held_rows = rows_of_lem l.signals.count l.rows.count l.held held_valid.0 l.rows.most

  lines_valid : Valid f
  lines_valid =
      let range : EachAt (RowOk l.signals.count) 1 (rows_of (formula_of l.signals.count l.rows.count l.held)) = rw held_rows held_valid.1 in
      subst Valid l.table (record {
        in_range_lem = record { some_signals = l.signals.least; most_signals = l.signals.most; some_rows = l.rows.least; most_rows = l.rows.most; rows_in_range = range };
        unused_true = rw held_rows;
      })

-- ONLY VALID FORMULAS ARE READ
pub rule_valid : (file : List ℕ) (f : Formula) → parse_rule file ≡ accepted f → Valid f
rule_valid file f e = lines_valid file f (rule_lines_lem file f e)

-- ---- a formula that passes the check

rows_checked : (signals : ℕ) (rs : List Row) (left k n : ℕ) (xs : List Row) → k + left ≤ 100000
    → body_lines 114 (row_value signals) left k n (written_body 114 written_row k rs) ≡ accepted xs → EachAt (RowOk signals) k rs
rows_checked signals [] left k n xs h e = tt
rows_checked signals (r ∷ rs) zero k n xs h e =
    let more : length (written_body 114 written_row k (r ∷ rs)) ≡ 0 → ⊥ = λ z. unfold written_body in omega arith in
    let q = body_surplus (body_starts 114 (row_value signals) 0 k n (written_body 114 written_row k (r ∷ rs))) (omega arith) more in
    clash (cc)
rows_checked signals (r ∷ rs) (suc left) k n xs h e =
    let b = body_line 114 (omega arith) (row_value signals) written_row left k n r rs (omega arith) (any_row_free r) in
    let w = parsed_accepted (row_value signals k (written_row r)) n _ xs (sym b ∙ e) in
    let m = map_accepted (◌∷◌ w.0) (body_lines 114 (row_value signals) left (k + 1) (n + 1) (written_body 114 written_row (k + 1) rs)) xs w.2 in
    (any_value_read signals k r w.0 w.1, rows_checked signals rs left (k + 1) (n + 1) m.0 (omega arith) m.1)

accepted_range : (f x : Formula) → parse_rule (written_rule f) ≡ accepted x → InRange f
unfolding parse_rule written_rule
accepted_range f x e =
    let body : List ℕ = written_body 114 written_row 1 (rows_of f) in
    let rows_line : List ℕ = written_line (bytes "rows") (decimal f.rows) body in
    let signals_line : List ℕ = written_line (bytes "signals") (decimal f.signals) rows_line in
    let a = test_accepted (ltb 65536 (length (written_rule f))) TooLong 0 _ x e in
    let o = count_range (bytes "format") 1 1 WrongFormat 1 behind_format refl refl 1 signals_line x a in
    let s = count_range (bytes "signals") 1 32 CountOutOfRange 2 behind_signals refl refl f.signals rows_line x o.2 in
    let m = count_range (bytes "rows") 1 64 CountOutOfRange 3 (behind_rows f.signals) refl refl f.rows body x s.2 in
    let b = map_accepted (formula_of f.signals f.rows) (body_lines 114 (row_value f.signals) f.rows 1 4 body) x m.2 in
    record {
      some_signals = s.0;
      most_signals = s.1;
      some_rows = m.0;
      most_rows = m.1;
      rows_in_range = rows_checked f.signals (rows_of f) f.rows 1 4 b.0 (omega (arith, m.1)) b.1;
    }

-- A FORMULA THAT PASSES THE CHECK IS IN RANGE
pub checked : (f : Formula) → outcome_of 1 (parse_rule (written_rule f)) ≡ Accepted → InRange f
checked f e =
    let x = outcome_accepted 1 (parse_rule (written_rule f)) e in
    accepted_range f x.0 x.1

-- ---- the line of a refusal: three lines of counts, up to 64 rows, and the line behind them
refused_by : (file : List ℕ) → RefusedBy 68 (parse_rule file)
unfolding parse_rule
refused_by file =
    test_by 68 (ltb 65536 (length file)) TooLong 0 (rule_lines 64 formula_of file) (omega arith)
    (count_by 68 1 (bytes "format") 1 1 WrongFormat file behind_format (omega arith) λ one after_format o.
    count_by 68 2 (bytes "signals") 1 32 CountOutOfRange after_format behind_signals (omega arith) λ signals after_signals s.
    count_by 68 3 (bytes "rows") 1 64 CountOutOfRange after_signals (behind_rows signals) (omega arith) λ rows body m.
    map_by 68 (formula_of signals rows) (body_lines 114 (row_value signals) rows 1 4 body) (body_by 68 114 (row_value signals) rows 1 4 body (omega arith)))

-- A REFUSED RULE FILE NAMES A LINE UP TO 68
pub rule_refused_line : (file : List ℕ) (e : Reason) (n : ℕ) → parse_rule file ≡ refused e n → n ≤ 68
rule_refused_line file e n q = refused_line 68 (parse_rule file) (refused_by file) e n q

pub rule_outcome_line : (file : List ℕ) (x : Refusal) → outcome_of 1 (parse_rule file) ≡ Refused x → x.line ≤ 68
rule_outcome_line file x q = outcome_line 68 (parse_rule file) (refused_by file) 1 x q

-- ---- what the reader's answer says of the file
module _ (p : Result Formula) (a : RuleAnswer) (e : a ≡ rule_answer p) where
  pub rule_said : {o : Outcome} → a.outcome ≡ o → outcome_of 1 p ≡ o
  rule_said h = sym (ap (λ (x : RuleAnswer). x.outcome) e) ∙ h

  pub rule_is : a.outcome ≡ Accepted → p ≡ accepted a.formula
  rule_is h = accepted_table 1 (formula_of 0 0 []) p (rule_said h) ∙ ap (λ (x : RuleAnswer). accepted x.formula) (sym e)
