-- Sheet files and the activation tables they hold: a table that is written is read back, and only valid tables are read. (What their
-- bytes are: crate padding.) Assumes nothing.
use mathlib.Core.Path.{◌≡◌, refl, sym, ap, ◌∙◌, subst}
use mathlib.Core.Bool.{Bool, false}
use mathlib.Core.List.{List, [], map}
use Prim.Native.Nat.{ℕ, ◌*◌, ◌≤◌, ◌<◌, min}
use native.Mathlib.Omega.{arith}
use lib.Dec.{ltb}
use lib.ListN.{length, get_or, take, length-map, length-take, get_or-map}
use borrow.Author.Tests.{le-ltb}
use Rattle.tables.specs.Choice.{pick}
use Rattle.tables.specs.Bytes.{bytes}
use Rattle.tables.specs.Place.{tabulate, placed}
use Rattle.tables.specs.Bit.{bit_at}
use Rattle.tables.specs.declared.refusal.Reason.{Reason}
use Rattle.tables.specs.declared.refusal.Reason.TheVariants.{TooLong, WrongFormat, CountOutOfRange}
use Rattle.tables.specs.declared.refusal.Refusal.{Refusal}
use Rattle.tables.specs.declared.refusal.Outcome.{Outcome}
use Rattle.tables.specs.declared.refusal.Outcome.TheVariants.{Accepted, Refused}
use Rattle.tables.specs.declared.trace.Activation.{Activation}
use Rattle.tables.specs.declared.trace.Lane.{Lane}
use Rattle.tables.proofs.Places.{length_tabulate, tabulate_ext, tabulate_get_d, take_tabulate, map_tabulate}
use Rattle.tables.proofs.Bits.{bit_of_lane}
use Rattle.tables.proofs.Choices.{know}
use Rattle.text.specs.Line.{is_key, keyed_line}
use Rattle.text.specs.Count.{count_form}
use Rattle.text.specs.Digits.{digits_form}
use Rattle.text.specs.Body.{body_lines, EachAt}
use Rattle.text.specs.Result.{Result, on_line, map_result, outcome_of}
use Rattle.text.specs.Result.Result.{accepted, refused}
use Rattle.text.specs.Written.{decimal, written_line, written_body, digits_text}
use Rattle.text.proofs.DigitLines.{digits_written, digits_free, digits_read}
use Rattle.text.proofs.Laws.{text_length, all_ok, ok_at, count_short, body_short}
use Rattle.text.proofs.Bodies.{body_written, body_valid}
use Rattle.text.proofs.Answered.{accepted_table}
use Rattle.text.proofs.RefusedLines.{RefusedBy, map_by, test_by, count_by, body_by, refused_line, outcome_line}
use Rattle.text.proofs.Headers.{map_accepted, test_accepted, outcome_accepted, CountThen, count_then, count_in, count_below, count_above, count_range}
use Rattle.sheet_file.specs.Sheet.{row_lane, activation_of, parse_sheet, sheet_answer}
use Rattle.sheet_file.specs.declared.sheet.SheetAnswer.{SheetAnswer}
use Rattle.sheet_file.specs.Written.{rows_of, written_sheet}
use Rattle.sheet_file.specs.Valid.{InRange, Valid}

-- ---- the file from each of its lines on

abbrev pub FromBody : ℕ → ℕ → List ℕ → Result Activation
FromBody rows cycles body = map_result (activation_of rows cycles) (body_lines 122 (λ r. digits_form cycles) rows 1 4 body)

abbrev pub FromCycles : ℕ → List ℕ → Result Activation
FromCycles rows rest = on_line 3 (keyed_line (is_key (bytes "cycles")) (count_form 1 256 CountOutOfRange)) rest (FromBody rows)

abbrev pub FromRows : ℕ → List ℕ → Result Activation
FromRows one rest = on_line 2 (keyed_line (is_key (bytes "rows")) (count_form 1 128 CountOutOfRange)) rest FromCycles

by_lines : (file : List ℕ)
    → parse_sheet file ≡ pick (ltb 65536 (length file)) (refused TooLong 0) (on_line 1 (keyed_line (is_key (bytes "format")) (count_form 1 1 WrongFormat)) file FromRows)
unfolding parse_sheet
by_lines file = refl

-- ---- the rows of a table that was read

-- the digits of a row, out of its lane
row_of : (cycles : ℕ) (r : List Bool) → cycles ≤ 256 → length r ≡ cycles → tabulate cycles (bit_at (row_lane r)) ≡ r
row_of cycles r h e =
    tabulate_ext cycles (bit_at (row_lane r)) (λ c. get_or r c false) (λ c l. bit_of_lane (λ c. get_or r c false) c (omega arith)) ∙ tabulate_get_d r cycles false e

rows_of_lem : (rows cycles : ℕ) (rs : List (List Bool)) → rows ≤ 128 → cycles ≤ 256 → length rs ≡ rows
    → ((k : ℕ) → k < length rs → length (get_or rs k []) ≡ cycles) → rows_of (activation_of rows cycles rs) ≡ rs
rows_of_lem rows cycles rs h l e each =
    let m : min cycles 256 ≡ cycles = omega arith in
    rw m (ap (map (λ (l : Lane). tabulate cycles (bit_at l))) (take_tabulate rows 128 (λ i. row_lane (get_or rs i [])) h)
    ∙ (map_tabulate (λ (l : Lane). tabulate cycles (bit_at l)) rows (λ i. row_lane (get_or rs i []))
    ∙ (tabulate_ext rows (λ i. tabulate cycles (bit_at (row_lane (get_or rs i [])))) (λ i. get_or rs i []) (λ i n. row_of cycles (get_or rs i []) l (each i (omega arith)))
    ∙ tabulate_get_d rs rows [] e)))

-- the lines of a file that is read, and what they hold
pub record LinesOf (file : List ℕ) (a : Activation) : Type 0 where
  pub format : CountThen (bytes "format") 1 1 WrongFormat 1 FromRows file a
  pub rows : CountThen (bytes "rows") 1 128 CountOutOfRange 2 FromCycles format.rest a
  pub cycles : CountThen (bytes "cycles") 1 256 CountOutOfRange 3 (FromBody rows.count) rows.rest a
  pub held : List (List Bool)
  pub body : body_lines 122 (λ r. digits_form cycles.count) rows.count 1 4 cycles.rest ≡ accepted held
  pub table : activation_of rows.count cycles.count held ≡ a

pub sheet_lines : (file : List ℕ) (a : Activation) → parse_sheet file ≡ accepted a → LinesOf file a
sheet_lines file a e =
    let whole : Result Activation = on_line 1 (keyed_line (is_key (bytes "format")) (count_form 1 1 WrongFormat)) file FromRows in
    let f = count_then (bytes "format") 1 1 WrongFormat 1 FromRows file a (test_accepted (ltb 65536 (length file)) TooLong 0 whole a (sym (by_lines file) ∙ e)) in
    let r = count_then (bytes "rows") 1 128 CountOutOfRange 2 FromCycles f.rest a f.goes in
    let c = count_then (bytes "cycles") 1 256 CountOutOfRange 3 (FromBody r.count) r.rest a r.goes in
    let m = map_accepted (activation_of r.count c.count) (body_lines 122 (λ r. digits_form c.count) r.count 1 4 c.rest) a c.goes in
    record { format = f; rows = r; cycles = c; held = m.0; body = m.1; table = m.2 }

module _ (file : List ℕ) (a : Activation) (l : LinesOf file a) where
  -- the table holds the rows of the file
  pub held_rows : rows_of (activation_of l.rows.count l.cycles.count l.held) ≡ l.held
  held_rows =
      let c : ℕ = l.cycles.count in
      let Ok : ℕ → List Bool → Type 0 = λ r ds. length ds ≡ c in
      let b = body_valid 122 (λ r. digits_form c) Ok (λ r v ds q. (digits_read c v ds q).1) l.rows.count 1 4 l.cycles.rest l.held l.body in
      rows_of_lem l.rows.count c l.held l.rows.most l.cycles.most b.0 (ok_at Ok [] l.held 1 b.1)

  lines_valid : Valid a
  lines_valid =
      subst Valid l.table (record {
        range = record { some_rows = l.rows.least; most_rows = l.rows.most; some_cycles = l.cycles.least; most_cycles = l.cycles.most };
        unused = ap (placed 128 row_lane []) (sym held_rows);
      })

-- ONLY VALID ACTIVATION TABLES ARE READ
pub sheet_valid : (file : List ℕ) (a : Activation) → parse_sheet file ≡ accepted a → Valid a
sheet_valid file a e = lines_valid file a (sheet_lines file a e)

-- ---- a table as its file

-- what a written table has behind each line
abbrev AfterCycles : Activation → List ℕ
AfterCycles a = written_body 122 digits_text 1 (rows_of a)

abbrev AfterRows : Activation → List ℕ
AfterRows a = written_line (bytes "cycles") (decimal a.cycles) (AfterCycles a)

abbrev AfterFormat : Activation → List ℕ
AfterFormat a = written_line (bytes "rows") (decimal a.rows) (AfterRows a)

by_line : (a : Activation) → written_sheet a ≡ written_line (bytes "format") (decimal 1) (AfterFormat a)
unfolding written_sheet
by_line a = refl

module _ (a : Activation) (full : length a.lanes ≡ 128) where
  digits : Lane → List Bool
  digits l = tabulate (min a.cycles 256) (bit_at l)

  -- the digits of a lane that is not there
  none : List Bool
  none = digits (record { words = [] })

  digits_length : (k : ℕ) → length (get_or (rows_of a) k none) ≡ min a.cycles 256
  unfolding digits none
  digits_length k =
      let l : Lane = get_or (take a.rows a.lanes) k (record { words = [] }) in
      ap length (get_or-map digits (take a.rows a.lanes) k (record { words = [] })) ∙ length_tabulate (min a.cycles 256) 0 (bit_at l)

  rows_length_lem : length (rows_of a) ≡ min a.rows 128
  unfolding digits
  rows_length_lem = length-map (take a.rows a.lanes) digits ∙ (length-take a.rows a.lanes ∙ rw full)

  -- as many rows as it says, each with as many digits as there are cycles
  pub rows_held : a.rows ≤ 128 → a.cycles ≤ 256 → (length (rows_of a) ≡ a.rows) × EachAt (λ r ds. length ds ≡ a.cycles) 1 (rows_of a)
  rows_held most-r most-c =
      (rows_length_lem ∙ omega arith, all_ok (λ r ds. length ds ≡ a.cycles) none (rows_of a) 1 (λ k h. digits_length k ∙ omega arith))

  short : length (written_sheet a) ≤ 65536
  short =
      let b : length (AfterCycles a) ≤ length (rows_of a) * 264 = body_short 122 digits_text none 256 (rows_of a) 1 (λ k h. rw (text_length, digits_length k) (omega arith)) in
      let c = count_short (bytes "cycles") a.cycles (AfterCycles a) (omega arith) in
      let d = count_short (bytes "rows") a.rows (AfterRows a) (omega arith) in
      let e = count_short (bytes "format") 1 (AfterFormat a) (omega arith) in
      rw by_line (omega (arith, rows_length_lem))

  from_rows : parse_sheet (written_sheet a) ≡ FromRows 1 (AfterFormat a)
  from_rows =
      by_lines (written_sheet a) ∙ rw (le-ltb 65536 (length (written_sheet a)) short, by_line) (count_in (bytes "format") 1 1 WrongFormat 1 FromRows refl refl 1 (AfterFormat a) (omega arith) (omega arith) (omega arith))

  -- THE REFUSALS, in the order of the lines
  module _ (h : a.rows < 100000) where
    pub rows_below : a.rows < 1 → parse_sheet (written_sheet a) ≡ refused CountOutOfRange 2
    rows_below l = from_rows ∙ count_below (bytes "rows") 1 128 CountOutOfRange 2 FromCycles refl refl a.rows (AfterRows a) l h

    pub rows_above : 128 < a.rows → parse_sheet (written_sheet a) ≡ refused CountOutOfRange 2
    rows_above l = from_rows ∙ count_above (bytes "rows") 1 128 CountOutOfRange 2 FromCycles refl refl a.rows (AfterRows a) (omega arith) l h

  module _ (some-r : 1 ≤ a.rows) (most-r : a.rows ≤ 128) where
    from_cycles : parse_sheet (written_sheet a) ≡ FromCycles a.rows (AfterRows a)
    from_cycles = from_rows ∙ count_in (bytes "rows") 1 128 CountOutOfRange 2 FromCycles refl refl a.rows (AfterRows a) some-r most-r (omega arith)

    module _ (h : a.cycles < 100000) where
      pub cycles_below_lem : a.cycles < 1 → parse_sheet (written_sheet a) ≡ refused CountOutOfRange 3
      cycles_below_lem l = from_cycles ∙ count_below (bytes "cycles") 1 256 CountOutOfRange 3 (FromBody a.rows) refl refl a.cycles (AfterCycles a) l h

      pub cycles_above : 256 < a.cycles → parse_sheet (written_sheet a) ≡ refused CountOutOfRange 3
      cycles_above l = from_cycles ∙ count_above (bytes "cycles") 1 256 CountOutOfRange 3 (FromBody a.rows) refl refl a.cycles (AfterCycles a) (omega arith) l h

    in_range_lem : 1 ≤ a.cycles → a.cycles ≤ 256 → parse_sheet (written_sheet a) ≡ accepted (activation_of a.rows a.cycles (rows_of a))
    in_range_lem some-c most-c =
        let w = rows_held most-r most-c in
        let b : body_lines 122 (λ r. digits_form a.cycles) (length (rows_of a)) 1 4 (AfterCycles a) ≡ accepted (rows_of a) =
        body_written 122 (omega arith) (λ r. digits_form a.cycles) digits_text (λ r ds. length ds ≡ a.cycles) (λ r ds h e. (digits_written a.cycles ds e, digits_free ds)) (rows_of a) 1 4 (omega (arith, w.0)) w.1 in
        from_cycles ∙ (count_in (bytes "cycles") 1 256 CountOutOfRange 3 (FromBody a.rows) refl refl a.cycles (AfterCycles a) some-c most-c (omega arith) ∙ rw (rw w.0 at b))

-- WHAT IS READ OF A TABLE IN RANGE THAT IS WRITTEN: the same table, but for the bits that it does not use
pub sheet_in_range : (a : Activation) → length a.lanes ≡ 128 → InRange a → parse_sheet (written_sheet a) ≡ accepted (activation_of a.rows a.cycles (rows_of a))
sheet_in_range a full r = in_range_lem a full r.some_rows r.most_rows r.some_cycles r.most_cycles

pub valid_full : (a : Activation) → Valid a → length a.lanes ≡ 128
valid_full a v = ap length v.unused ∙ length_tabulate 128 0 (λ i. row_lane (get_or (rows_of a) i []))

-- AN ACTIVATION TABLE THAT IS WRITTEN IS READ BACK
pub sheet_written : (a : Activation) → Valid a → parse_sheet (written_sheet a) ≡ accepted a
sheet_written a v =
    sheet_in_range a (valid_full a v) v.range
    ∙ ap (λ ls. accepted (record { rows = a.rows; cycles = a.cycles; lanes = ls })) (sym v.unused)

accepted_range : (a x : Activation) → parse_sheet (written_sheet a) ≡ accepted x → InRange a
unfolding written_sheet
accepted_range a x e =
    let p = test_accepted (ltb 65536 (length (written_sheet a))) TooLong 0 _ x (sym (by_lines (written_sheet a)) ∙ e) in
    let f = count_range (bytes "format") 1 1 WrongFormat 1 FromRows refl refl 1 (AfterFormat a) x p in
    let r = count_range (bytes "rows") 1 128 CountOutOfRange 2 FromCycles refl refl a.rows (AfterRows a) x f.2 in
    let c = count_range (bytes "cycles") 1 256 CountOutOfRange 3 (FromBody a.rows) refl refl a.cycles (AfterCycles a) x r.2 in
    record { some_rows = r.0; most_rows = r.1; some_cycles = c.0; most_cycles = c.1 }

-- AN ACTIVATION TABLE THAT PASSES THE CHECK IS IN RANGE
pub checked : (a : Activation) → outcome_of 3 (parse_sheet (written_sheet a)) ≡ Accepted → InRange a
checked a e =
    let x = outcome_accepted 3 (parse_sheet (written_sheet a)) e in
    accepted_range a x.0 x.1

-- so the check tells both
pub told : (a : Activation) {r : Outcome} → r ≡ outcome_of 3 (parse_sheet (written_sheet a)) → (r ≡ outcome_of 3 (parse_sheet (written_sheet a))) × (r ≡ Accepted → InRange a)
told a e = (e, λ q. checked a (know e q))

-- and one in range passes it
pub checked_all : (a : Activation) → length a.lanes ≡ 128 → InRange a → outcome_of 3 (parse_sheet (written_sheet a)) ≡ Accepted
checked_all a full r = ap (outcome_of 3) (sheet_in_range a full r)

-- ---- the line of a refusal: three lines of the header, up to 128 rows, and the line behind them
refused_by : (file : List ℕ) → RefusedBy 132 (parse_sheet file)
refused_by file =
    rw by_lines
    (test_by 132 (ltb 65536 (length file)) TooLong 0 (on_line 1 (keyed_line (is_key (bytes "format")) (count_form 1 1 WrongFormat)) file FromRows) (omega arith)
    (count_by 132 1 (bytes "format") 1 1 WrongFormat file FromRows (omega arith) λ one after_format o.
    count_by 132 2 (bytes "rows") 1 128 CountOutOfRange after_format FromCycles (omega arith) λ rows after_rows s.
    count_by 132 3 (bytes "cycles") 1 256 CountOutOfRange after_rows (FromBody rows) (omega arith) λ cycles body m.
    map_by 132 (activation_of rows cycles) (body_lines 122 (λ r. digits_form cycles) rows 1 4 body) (body_by 132 122 (λ r. digits_form cycles) rows 1 4 body (omega arith))))

-- A REFUSED SHEET FILE NAMES A LINE UP TO 132
pub sheet_refused_line : (file : List ℕ) (e : Reason) (n : ℕ) → parse_sheet file ≡ refused e n → n ≤ 132
sheet_refused_line file e n q = refused_line 132 (parse_sheet file) (refused_by file) e n q

pub sheet_outcome_line : (file : List ℕ) (x : Refusal) → outcome_of 3 (parse_sheet file) ≡ Refused x → x.line ≤ 132
sheet_outcome_line file x q = outcome_line 132 (parse_sheet file) (refused_by file) 3 x q

-- ---- what the reader's answer says of the file
module _ (p : Result Activation) (a : SheetAnswer) (e : a ≡ sheet_answer p) where
  pub sheet_said : {o : Outcome} → a.outcome ≡ o → outcome_of 3 p ≡ o
  sheet_said h = sym (ap (λ (x : SheetAnswer). x.outcome) e) ∙ h

  pub sheet_is_lem : a.outcome ≡ Accepted → p ≡ accepted a.activation
  sheet_is_lem h = accepted_table 3 (activation_of 0 0 []) p (sheet_said h) ∙ ap (λ (x : SheetAnswer). accepted x.activation) (sym e)
