-- Take files and the traces they hold: a trace that is written is read back, and only valid traces are read. (What their bytes
-- are: crate padding.) Assumes nothing.
use mathlib.Core.Path.{◌≡◌, refl, sym, ap, ◌∙◌, subst}
use mathlib.Core.Bool.{Bool, false}
use mathlib.Core.List.{List, [], map}
use Prim.Native.Nat.{ℕ, ◌*◌, ◌≤◌, ◌<◌, min}
use native.Mathlib.Omega.{arith}
use lib.Dec.{ltb}
use lib.ListN.{length, get_or, take, drop, length-map, length-take}
use borrow.Author.Tests.{le-ltb, ltb-false}
use Rattle.tables.specs.Choice.{pick}
use Rattle.tables.specs.Bytes.{bytes}
use Rattle.tables.specs.Bit.{bit_at, lane_of}
use Rattle.tables.specs.declared.refusal.Reason.{Reason}
use Rattle.tables.specs.declared.refusal.Reason.TheVariants.{TooLong, WrongFormat, CountOutOfRange, BadLoop}
use Rattle.tables.specs.declared.refusal.Refusal.{Refusal}
use Rattle.tables.specs.declared.refusal.Outcome.{Outcome}
use Rattle.tables.specs.declared.refusal.Outcome.TheVariants.{Accepted, Refused}
use Rattle.tables.specs.declared.trace.Ending.{Ending}
use Rattle.tables.specs.declared.trace.Ending.TheVariants.{Open, Loop}
use Rattle.tables.specs.declared.trace.Lane.{Lane}
use Rattle.tables.specs.declared.trace.Trace.{Trace}
use Rattle.tables.proofs.Places.{length_tabulate, get_d_tabulate, tabulate_ext, tabulate_get_d, take_tabulate, map_tabulate}
use Rattle.tables.proofs.Bits.{bit_of_lane}
use Rattle.text.specs.Line.{is_key, keyed_line}
use Rattle.text.specs.Count.{count_form}
use Rattle.text.specs.Digits.{digits_form}
use Rattle.text.specs.Body.{body_lines, EachAt}
use Rattle.text.specs.Result.{Result, on_parsed, on_line, map_result, outcome_of}
use Rattle.text.specs.Result.Parsed.{bad}
use Rattle.text.specs.Result.Result.{accepted, refused}
use Rattle.text.specs.Written.{decimal, written_line, written_body, digits_text}
use Rattle.tables.proofs.Choices.{clash, know}
use Rattle.text.proofs.Searching.{same_refl}
use Rattle.text.proofs.Lines.{line_step}
use Rattle.text.proofs.DigitLines.{digits_written, digits_free, digits_read}
use Rattle.text.proofs.Laws.{text_length, all_ok, ok_at, decimal_short, line_length, count_short, body_short}
use Rattle.text.proofs.Bodies.{body_written, body_valid}
use Rattle.text.proofs.Answered.{accepted_table}
use Rattle.text.proofs.RefusedLines.{RefusedBy, map_by, test_by, line_by, count_by, body_by, refused_line, outcome_line}
use Rattle.text.proofs.Headers.{free, parsed_accepted, map_accepted, test_accepted, outcome_accepted, LineThen, line_then, CountThen, count_then, count_in, count_below, count_above, count_range}
use Rattle.take_file.specs.Ending.{ending_value}
use Rattle.recording.specs.Recording.{digit, lanes_of}
use Rattle.take_file.specs.Take.{trace_of, parse_take, take_answer}
use Rattle.take_file.specs.declared.take.TakeAnswer.{TakeAnswer}
use Rattle.take_file.specs.Written.{ending_text, cycles_of, written_take}
use Rattle.take_file.specs.Valid.{Below, is_below, InRange, Valid}
use Rattle.take_file.proofs.Endings.{ending_free, ending_written, ending_outside, ending_read, ending_valid, ending_range}

-- ---- the file from each of its lines on

abbrev pub FromBody : ℕ → ℕ → Ending → List ℕ → Result Trace
FromBody signals cycles ending body = map_result (trace_of signals cycles ending) (body_lines 99 (λ c. digits_form signals) cycles 0 5 body)

abbrev pub FromLoop : ℕ → ℕ → List ℕ → Result Trace
FromLoop signals cycles rest = on_line 4 (keyed_line (is_key (bytes "loop")) (ending_value cycles)) rest (FromBody signals cycles)

abbrev pub FromCycles : ℕ → List ℕ → Result Trace
FromCycles signals rest = on_line 3 (keyed_line (is_key (bytes "cycles")) (count_form 1 256 CountOutOfRange)) rest (FromLoop signals)

abbrev pub FromSignals : ℕ → List ℕ → Result Trace
FromSignals one rest = on_line 2 (keyed_line (is_key (bytes "signals")) (count_form 1 32 CountOutOfRange)) rest FromCycles

by_lines : (file : List ℕ)
    → parse_take file ≡ pick (ltb 65536 (length file)) (refused TooLong 0) (on_line 1 (keyed_line (is_key (bytes "format")) (count_form 1 1 WrongFormat)) file FromSignals)
unfolding parse_take
by_lines file = refl

-- ---- the cycles of a table that was read

-- the digits of cycle k, out of the lanes of the signals
cycle_of_lem : (signals : ℕ) (cs : List (List Bool)) (k : ℕ) → signals ≤ 32 → k < 256 → length (get_or cs k []) ≡ signals
    → map (λ (l : Lane). bit_at l k) (take signals (lanes_of cs)) ≡ get_or cs k []
cycle_of_lem signals cs k h l e =
    ap (map (λ (l : Lane). bit_at l k)) (take_tabulate signals 32 (λ s. lane_of (λ c. digit cs c s)) h)
    ∙ (map_tabulate (λ (l : Lane). bit_at l k) signals (λ s. lane_of (λ c. digit cs c s))
    ∙ (tabulate_ext signals (λ s. bit_at (lane_of (λ c. digit cs c s)) k) (λ s. digit cs k s) (λ s m. bit_of_lane (λ c. digit cs c s) k l)
    ∙ tabulate_get_d (get_or cs k []) signals false e))

pub cycles_of_lem : (signals cycles : ℕ) (ending : Ending) (cs : List (List Bool)) → signals ≤ 32 → cycles ≤ 256 → length cs ≡ cycles
    → ((k : ℕ) → k < length cs → length (get_or cs k []) ≡ signals) → cycles_of (trace_of signals cycles ending cs) ≡ cs
cycles_of_lem signals cycles ending cs h l e each =
    let m : min cycles 256 ≡ cycles = omega arith in
    rw m (tabulate_ext cycles (λ c. map (λ (l : Lane). bit_at l c) (take signals (lanes_of cs))) (λ c. get_or cs c []) (λ k n. cycle_of_lem signals cs k h (omega arith) (each k (omega arith)))
    ∙ tabulate_get_d cs cycles [] e)

-- the lines of a file that is read, and what they hold
pub record LinesOf (file : List ℕ) (t : Trace) : Type 0 where
  pub format : CountThen (bytes "format") 1 1 WrongFormat 1 FromSignals file t
  pub signals : CountThen (bytes "signals") 1 32 CountOutOfRange 2 FromCycles format.rest t
  pub cycles : CountThen (bytes "cycles") 1 256 CountOutOfRange 3 (FromLoop signals.count) signals.rest t
  pub loop : LineThen (is_key (bytes "loop")) (ending_value cycles.count) (FromBody signals.count cycles.count) cycles.rest t
  pub held : List (List Bool)
  pub body : body_lines 99 (λ c. digits_form signals.count) cycles.count 0 5 loop.rest ≡ accepted held
  pub table : trace_of signals.count cycles.count loop.value held ≡ t

pub take_lines : (file : List ℕ) (t : Trace) → parse_take file ≡ accepted t → LinesOf file t
take_lines file t e =
    let whole : Result Trace = on_line 1 (keyed_line (is_key (bytes "format")) (count_form 1 1 WrongFormat)) file FromSignals in
    let f = count_then (bytes "format") 1 1 WrongFormat 1 FromSignals file t (test_accepted (ltb 65536 (length file)) TooLong 0 whole t (sym (by_lines file) ∙ e)) in
    let s = count_then (bytes "signals") 1 32 CountOutOfRange 2 FromCycles f.rest t f.goes in
    let c = count_then (bytes "cycles") 1 256 CountOutOfRange 3 (FromLoop s.count) s.rest t s.goes in
    let l = line_then (is_key (bytes "loop")) (ending_value c.count) 4 (FromBody s.count c.count) c.rest t c.goes in
    let m = map_accepted (trace_of s.count c.count l.value) (body_lines 99 (λ c. digits_form s.count) c.count 0 5 l.rest) t l.goes in
    record { format = f; signals = s; cycles = c; loop = l; held = m.0; body = m.1; table = m.2 }

module _ (file : List ℕ) (t : Trace) (l : LinesOf file t) where
  -- the trace holds the cycles of the file
  pub held_cycles : cycles_of (trace_of l.signals.count l.cycles.count l.loop.value l.held) ≡ l.held
  held_cycles =
      let s : ℕ = l.signals.count in
      let Ok : ℕ → List Bool → Type 0 = λ c ds. length ds ≡ s in
      let b = body_valid 99 (λ c. digits_form s) Ok (λ c v ds q. (digits_read s v ds q).1) l.cycles.count 0 5 l.loop.rest l.held l.body in
      cycles_of_lem s l.cycles.count l.loop.value l.held l.signals.most l.cycles.most b.0 (ok_at Ok [] l.held 0 b.1)

  lines_valid : Valid t
  lines_valid =
      let below : Below l.cycles.count l.loop.value = ending_valid (ending_read l.cycles.count l.loop.text l.loop.value l.loop.stands) in
      subst Valid l.table (record {
        range = record { some_signals = l.signals.least; most_signals = l.signals.most; some_cycles = l.cycles.least; most_cycles = l.cycles.most; loop = below };
        unused = ap lanes_of (sym held_cycles);
      })

-- ONLY VALID TRACES ARE READ
pub take_valid : (file : List ℕ) (t : Trace) → parse_take file ≡ accepted t → Valid t
take_valid file t e = lines_valid file t (take_lines file t e)

-- ---- a trace as its file

-- what a written trace has behind each line
abbrev AfterLoop : Trace → List ℕ
AfterLoop t = written_body 99 digits_text 0 (cycles_of t)

abbrev AfterCycles : Trace → List ℕ
AfterCycles t = written_line (bytes "loop") (ending_text t.ending) (AfterLoop t)

abbrev AfterSignals : Trace → List ℕ
AfterSignals t = written_line (bytes "cycles") (decimal t.cycles) (AfterCycles t)

abbrev AfterFormat : Trace → List ℕ
AfterFormat t = written_line (bytes "signals") (decimal t.signals) (AfterSignals t)

by_line : (t : Trace) → written_take t ≡ written_line (bytes "format") (decimal 1) (AfterFormat t)
unfolding written_take
by_line t = refl

ending_length : (e : Ending) → length (ending_text e) ≤ 5
ending_length Open = omega arith
ending_length (Loop n) = decimal_short n

ending_step : (signals : ℕ) (cycles : ℕ) (ending : Ending) (body : List ℕ)
    → FromLoop signals cycles (written_line (bytes "loop") (ending_text ending) body) ≡ on_parsed (ending_value cycles (ending_text ending)) (λ e. refused e 4) (λ e. FromBody signals cycles e body)
ending_step signals cycles ending body =
    line_step (bytes "loop") (ending_text ending) body (free 10 (bytes "loop") refl) (free 61 (bytes "loop") refl) (ending_free ending)
    (is_key (bytes "loop")) (ending_value cycles) 4 (FromBody signals cycles) (same_refl (bytes "loop"))

module _ (t : Trace) (full : length t.lanes ≡ 32) where
  digits_length : (k : ℕ) → k < length (cycles_of t) → length (get_or (cycles_of t) k []) ≡ min t.signals 32
  digits_length k h =
      let f : ℕ → List Bool = λ c. map (λ (l : Lane). bit_at l c) (take t.signals t.lanes) in
      let n : k < min t.cycles 256 = rw length_tabulate at h in
      ap length (get_d_tabulate (min t.cycles 256) f k [] n) ∙ (length-map (take t.signals t.lanes) (λ (l : Lane). bit_at l k) ∙ (length-take t.signals t.lanes ∙ rw full))

  cycles_length : length (cycles_of t) ≡ min t.cycles 256
  cycles_length = length_tabulate (min t.cycles 256) 0 (λ c. map (λ (l : Lane). bit_at l c) (take t.signals t.lanes))

  -- as many cycles as it says, each with as many digits as there are signals
  pub cycles_held : t.signals ≤ 32 → t.cycles ≤ 256 → (length (cycles_of t) ≡ t.cycles) × EachAt (λ c ds. length ds ≡ t.signals) 0 (cycles_of t)
  cycles_held most-s most-c =
      (cycles_length ∙ omega arith, all_ok (λ c ds. length ds ≡ t.signals) [] (cycles_of t) 0 (λ k h. digits_length k h ∙ omega arith))

  short : length (written_take t) ≤ 65536
  short =
      let a : length (AfterLoop t) ≤ length (cycles_of t) * 40 =
      body_short 99 digits_text [] 32 (cycles_of t) 0 (λ k h. rw (text_length, digits_length k h) (omega arith)) in
      let b = line_length (bytes "loop") (ending_text t.ending) (AfterLoop t) in
      let c = count_short (bytes "cycles") t.cycles (AfterCycles t) (omega arith) in
      let d = count_short (bytes "signals") t.signals (AfterSignals t) (omega arith) in
      let e = count_short (bytes "format") 1 (AfterFormat t) (omega arith) in
      rw by_line (omega (arith, cycles_length, ending_length t.ending))

  from_signals : parse_take (written_take t) ≡ FromSignals 1 (AfterFormat t)
  from_signals =
      by_lines (written_take t) ∙ rw (le-ltb 65536 (length (written_take t)) short, by_line) (count_in (bytes "format") 1 1 WrongFormat 1 FromSignals refl refl 1 (AfterFormat t) (omega arith) (omega arith) (omega arith))

  -- THE REFUSALS, in the order of the lines
  module _ (h : t.signals < 100000) where
    pub signals_below : t.signals < 1 → parse_take (written_take t) ≡ refused CountOutOfRange 2
    signals_below l = from_signals ∙ count_below (bytes "signals") 1 32 CountOutOfRange 2 FromCycles refl refl t.signals (AfterSignals t) l h

    pub signals_above : 32 < t.signals → parse_take (written_take t) ≡ refused CountOutOfRange 2
    signals_above l = from_signals ∙ count_above (bytes "signals") 1 32 CountOutOfRange 2 FromCycles refl refl t.signals (AfterSignals t) (omega arith) l h

  module _ (some-s : 1 ≤ t.signals) (most-s : t.signals ≤ 32) where
    from_cycles : parse_take (written_take t) ≡ FromCycles t.signals (AfterSignals t)
    from_cycles = from_signals ∙ count_in (bytes "signals") 1 32 CountOutOfRange 2 FromCycles refl refl t.signals (AfterSignals t) some-s most-s (omega arith)

    module _ (h : t.cycles < 100000) where
      pub cycles_below_lem : t.cycles < 1 → parse_take (written_take t) ≡ refused CountOutOfRange 3
      cycles_below_lem l = from_cycles ∙ count_below (bytes "cycles") 1 256 CountOutOfRange 3 (FromLoop t.signals) refl refl t.cycles (AfterCycles t) l h

      pub cycles_above : 256 < t.cycles → parse_take (written_take t) ≡ refused CountOutOfRange 3
      cycles_above l = from_cycles ∙ count_above (bytes "cycles") 1 256 CountOutOfRange 3 (FromLoop t.signals) refl refl t.cycles (AfterCycles t) (omega arith) l h

    module _ (some-c : 1 ≤ t.cycles) (most-c : t.cycles ≤ 256) where
      from_loop : parse_take (written_take t) ≡ on_parsed (ending_value t.cycles (ending_text t.ending)) (λ e. refused e 4) (λ e. FromBody t.signals t.cycles e (AfterLoop t))
      from_loop =
          from_cycles ∙ (count_in (bytes "cycles") 1 256 CountOutOfRange 3 (FromLoop t.signals) refl refl t.cycles (AfterCycles t) some-c most-c (omega arith)
          ∙ ending_step t.signals t.cycles t.ending (AfterLoop t))

      pub loop_beyond : is_below t.cycles t.ending ≡ false → Below 65536 t.ending → parse_take (written_take t) ≡ refused BadLoop 4
      loop_beyond n h = from_loop ∙ rw (beyond t.ending n h)
        where
          beyond : (e : Ending) → is_below t.cycles e ≡ false → Below 65536 e → ending_value t.cycles (ending_text e) ≡ bad BadLoop
          beyond Open n h = clash (cc)
          beyond (Loop m) n h = ending_outside t.cycles m (ltb-false m t.cycles n) (omega arith)

      -- what is read of a trace in range: the same trace, but for the bits that it does not use
      pub in_range_lem : Below t.cycles t.ending → parse_take (written_take t) ≡ accepted (trace_of t.signals t.cycles t.ending (cycles_of t))
      in_range_lem loop =
          let w = cycles_held most-s most-c in
          let b : body_lines 99 (λ c. digits_form t.signals) (length (cycles_of t)) 0 5 (AfterLoop t) ≡ accepted (cycles_of t) =
          body_written 99 (omega arith) (λ c. digits_form t.signals) digits_text (λ c ds. length ds ≡ t.signals) (λ c ds h e. (digits_written t.signals ds e, digits_free ds)) (cycles_of t) 0 5 (omega (arith, w.0)) w.1 in
          from_loop ∙ rw (ending_written t.cycles t.ending most-c loop, rw w.0 at b)

pub valid_full : (t : Trace) → Valid t → length t.lanes ≡ 32
valid_full t v = ap length v.unused ∙ length_tabulate 32 0 (λ s. lane_of (λ c. digit (cycles_of t) c s))

-- A TRACE THAT IS WRITTEN IS READ BACK
pub take_written_lem : (t : Trace) → Valid t → parse_take (written_take t) ≡ accepted t
take_written_lem t v =
    in_range_lem t (valid_full t v) v.range.some_signals v.range.most_signals v.range.some_cycles v.range.most_cycles v.range.loop
    ∙ ap (λ ls. accepted (record { signals = t.signals; cycles = t.cycles; ending = t.ending; lanes = ls })) (sym v.unused)

accepted_range : (t x : Trace) → parse_take (written_take t) ≡ accepted x → InRange t
unfolding written_take
accepted_range t x e =
    let a = test_accepted (ltb 65536 (length (written_take t))) TooLong 0 _ x (sym (by_lines (written_take t)) ∙ e) in
    let f = count_range (bytes "format") 1 1 WrongFormat 1 FromSignals refl refl 1 (AfterFormat t) x a in
    let s = count_range (bytes "signals") 1 32 CountOutOfRange 2 FromCycles refl refl t.signals (AfterSignals t) x f.2 in
    let c = count_range (bytes "cycles") 1 256 CountOutOfRange 3 (FromLoop t.signals) refl refl t.cycles (AfterCycles t) x s.2 in
    let l = parsed_accepted (ending_value t.cycles (ending_text t.ending)) 4 (λ e. FromBody t.signals t.cycles e (AfterLoop t)) x (sym (ending_step t.signals t.cycles t.ending (AfterLoop t)) ∙ c.2) in
    let n = ending_range t.cycles t.ending l.0 l.1 in
    record {
      some_signals = s.0;
      most_signals = s.1;
      some_cycles = c.0;
      most_cycles = c.1;
      loop = subst (Below t.cycles) (sym n.0) n.1;
    }

-- A TRACE THAT PASSES THE CHECK IS IN RANGE
pub checked : (t : Trace) → outcome_of 2 (parse_take (written_take t)) ≡ Accepted → InRange t
checked t e =
    let x = outcome_accepted 2 (parse_take (written_take t)) e in
    accepted_range t x.0 x.1

-- so the check tells both
pub told : (t : Trace) {r : Outcome} → r ≡ outcome_of 2 (parse_take (written_take t)) → (r ≡ outcome_of 2 (parse_take (written_take t))) × (r ≡ Accepted → InRange t)
told t e = (e, λ q. checked t (know e q))

-- and a trace in range passes it
pub checked_all : (t : Trace) → length t.lanes ≡ 32 → InRange t → outcome_of 2 (parse_take (written_take t)) ≡ Accepted
checked_all t full r = ap (outcome_of 2) (in_range_lem t full r.some_signals r.most_signals r.some_cycles r.most_cycles r.loop)

-- ---- the line of a refusal: four lines of the header, up to 256 cycles, and the line behind them
refused_by : (file : List ℕ) → RefusedBy 261 (parse_take file)
refused_by file =
    rw by_lines
    (test_by 261 (ltb 65536 (length file)) TooLong 0 (on_line 1 (keyed_line (is_key (bytes "format")) (count_form 1 1 WrongFormat)) file FromSignals) (omega arith)
    (count_by 261 1 (bytes "format") 1 1 WrongFormat file FromSignals (omega arith) λ one after_format o.
    count_by 261 2 (bytes "signals") 1 32 CountOutOfRange after_format FromCycles (omega arith) λ signals after_signals s.
    count_by 261 3 (bytes "cycles") 1 256 CountOutOfRange after_signals (FromLoop signals) (omega arith) λ cycles after-cycles m.
    line_by 261 4 (keyed_line (is_key (bytes "loop")) (ending_value cycles)) after-cycles (FromBody signals cycles) (omega arith) λ x e.
    map_by 261 (trace_of signals cycles x.value) (body_lines 99 (λ c. digits_form signals) cycles 0 5 (drop x.next after-cycles)) (body_by 261 99 (λ c. digits_form signals) cycles 0 5 (drop x.next after-cycles) (omega arith))))

-- A REFUSED TAKE FILE NAMES A LINE UP TO 261
pub take_refused_line : (file : List ℕ) (e : Reason) (n : ℕ) → parse_take file ≡ refused e n → n ≤ 261
take_refused_line file e n q = refused_line 261 (parse_take file) (refused_by file) e n q

pub take_outcome_line : (file : List ℕ) (x : Refusal) → outcome_of 2 (parse_take file) ≡ Refused x → x.line ≤ 261
take_outcome_line file x q = outcome_line 261 (parse_take file) (refused_by file) 2 x q

-- ---- what the reader's answer says of the file
module _ (p : Result Trace) (a : TakeAnswer) (e : a ≡ take_answer p) where
  pub take_said : {o : Outcome} → a.outcome ≡ o → outcome_of 2 p ≡ o
  take_said h = sym (ap (λ (x : TakeAnswer). x.outcome) e) ∙ h

  pub take_is : a.outcome ≡ Accepted → p ≡ accepted a.trace
  take_is h = accepted_table 2 (trace_of 0 0 Open []) p (take_said h) ∙ ap (λ (x : TakeAnswer). accepted x.trace) (sym e)
