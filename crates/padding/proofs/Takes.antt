-- The bytes of a take file: it is accepted exactly where it is the written form of a valid trace with its values padded. Assumes nothing.
use mathlib.Core.Path.{◌≡◌, refl, sym, ap, ◌∙◌, subst}
use mathlib.Core.Bool.{Bool, true, false}
use mathlib.Core.Logic.{◌↔◌}
use mathlib.Core.List.{List, ◌∷◌, ◌++◌}
use Prim.Native.Nat.{ℕ, ◌+◌, ◌≤◌}
use native.Mathlib.Omega.{arith}
use lib.ListN.{length}
use borrow.Author.Tests.{le-ltb}
use Rattle.tables.specs.Bytes.{bytes, same_bytes}
use Rattle.tables.specs.declared.refusal.Reason.TheVariants.{WrongFormat, CountOutOfRange}
use Rattle.tables.specs.declared.trace.Ending.{Ending}
use Rattle.tables.specs.declared.trace.Ending.TheVariants.{Open, Loop}
use Rattle.tables.specs.declared.trace.Trace.{Trace}
use Rattle.tables.proofs.Choices.{clash}
use Rattle.text.specs.Body.{body_lines}
use Rattle.text.specs.Count.{count_form}
use Rattle.text.specs.Digits.{digits_form}
use Rattle.text.specs.Line.{is_key, keyed_line}
use Rattle.text.specs.Number.{digits_from, digits_of, padded_of}
use Rattle.text.specs.Result.{Result, on_parsed, on_line, map_result}
use Rattle.text.specs.Result.Parsed.{good}
use Rattle.text.specs.Result.Result.{accepted, refused}
use Rattle.text.specs.Written.{decimal, written_line, written_body, digits_text}
use Rattle.text.specs.declared.number.Number.TheVariants.{Is, Not}
use Rattle.text.proofs.Searching.{same_eq, same_refl}
use Rattle.text.proofs.Lines.{Free, padded_free, line_step}
use Rattle.text.proofs.Laws.{line_length}
use Rattle.text.proofs.Headers.{free, count_padded}
use Rattle.take_file.specs.Ending.{ending_value}
use Rattle.take_file.specs.Take.{trace_of, parse_take}
use Rattle.take_file.specs.Valid.{Below, InRange, Valid}
use Rattle.take_file.specs.Written.{ending_text, cycles_of, written_take}
use Rattle.take_file.proofs.Endings.{EndingOf, EndingOf.ended, EndingOf.looped, ending_none, ending_loop, ending_read}
use Rattle.take_file.proofs.Takes.{FromBody, FromLoop, FromCycles, FromSignals, LinesOf, take_lines, held_cycles, cycles_held, valid_full, take_valid, take_written_lem}
use Rattle.padding.specs.Padding.{Before.start, Before.other, unpadded, Padded}
use Rattle.padding.proofs.Bytes.{PaddedFrom, same_on, same_back}
use Rattle.padding.proofs.Numbers.{digits_in_lem}
use Rattle.padding.proofs.Lines.{step_on, step_back, ValueThen, line_on, line_back, value_on, value_back, body_on, body_back}
use Rattle.padding.proofs.Headers.{signals_word, cycles_word, headed, header_on, header_back}
use Rattle.padding.proofs.Digits.{digits_on, digits_back}
use Rattle.padding.proofs.Files.{same_table, unpadded_read, written_plain}

-- ---- the ending: a word, or a number

ending_on : (cycles : ℕ) (v : List ℕ) (e : Ending) (t s : List ℕ) → EndingOf cycles v e → PaddedFrom other t s
    → PaddedFrom start (ending_text e ++ (10 ∷ t)) (v ++ (10 ∷ s))
ending_on cycles v Open t s (ended z) h = rw (same_eq v (bytes "none") z) (same_on start (bytes "none") refl (step_on other 10 refl h))
ending_on cycles v (Loop n) t s (looped m z d l) h = value_on v n d h

none_not : padded_of (bytes "none") ≡ Not
unfolding padded_of digits_of digits_from
none_not = refl

no_word : (v : List ℕ) (n : ℕ) → padded_of v ≡ Is n → same_bytes v (bytes "none") ≡ false
no_word v n e = by (same_bytes v (bytes "none")) refl
  where
    by : (b : Bool) → same_bytes v (bytes "none") ≡ b → b ≡ false
    by true q = let z : Not ≡ Is n = sym none_not ∙ (ap padded_of (sym (same_eq v (bytes "none") q)) ∙ e) in clash (cc)
    by false q = refl

abbrev FromFormat : List ℕ → Result Trace
FromFormat file = on_line 1 (keyed_line (is_key (bytes "format")) (count_form 1 1 WrongFormat)) file FromSignals

-- what is known of an ending in the file
abbrev Ends : ℕ → Ending → List ℕ → Type 0
Ends cycles e v = (ending_value cycles v ≡ good e) × Free 10 v × (length v ≤ 5)

ending_back : (cycles : ℕ) (e : Ending) (t s : List ℕ) → cycles ≤ 256 → Below cycles e → PaddedFrom start (ending_text e ++ (10 ∷ t)) s
    → ValueThen (Ends cycles e) t s
ending_back cycles Open t s h b p =
    let a = same_back start (bytes "none") (10 ∷ t) s refl p in
    let c = step_back other 10 t a.0 refl a.2 in
    record {
      text = bytes "none";
      rest = c.0;
      whole = a.1 ∙ ap (◌++◌ (bytes "none")) c.1;
      stands = (ending_none cycles (bytes "none") (same_refl (bytes "none")), free 10 (bytes "none") refl, omega arith);
      goes = c.2;
    }
ending_back cycles (Loop n) t s h b p =
    let w = value_back n t s (omega arith) p in
    record {
      text = w.text;
      rest = w.rest;
      whole = w.whole;
      stands = (
        ending_loop cycles w.text (no_word w.text n w.stands) w.stands b,
        padded_free 10 (omega arith) w.text n w.stands,
        (digits_in_lem w.text n w.stands).short,
      );
      goes = w.goes;
    }

-- ---- what is accepted

as_written : (signals cycles : ℕ) (ending : Ending) (cs : List (List Bool)) → cycles_of (trace_of signals cycles ending cs) ≡ cs
    → headed (bytes "signals") (bytes "cycles") (decimal 1) (decimal signals) (decimal cycles) (written_line (bytes "loop") (ending_text ending) (written_body 99 digits_text 0 cs))
    ≡ written_take (trace_of signals cycles ending cs)
unfolding written_take
as_written signals cycles ending cs held = rw held

lines_on : (file : List ℕ) (t : Trace) → LinesOf file t → PaddedFrom other (written_take t) file
lines_on file t l =
    let s : ℕ = l.signals.count in
    let c : ℕ = l.cycles.count in
    let e : Ending = l.loop.value in
    let one : l.format.count ≡ 1 = omega (arith, l.format.least, l.format.most) in
    let key : l.loop.key ≡ bytes "loop" = same_eq l.loop.key (bytes "loop") l.loop.named in
    let body : List ℕ = written_body 99 digits_text 0 l.held in
    let loop-line : List ℕ = written_line (bytes "loop") l.loop.text l.loop.rest in
    let whole : file ≡ headed (bytes "signals") (bytes "cycles") l.format.text l.signals.text l.cycles.text loop-line =
    l.format.whole ∙ ap (written_line (bytes "format") l.format.text) (l.signals.whole ∙ ap (written_line (bytes "signals") l.signals.text)
    (l.cycles.whole ∙ ap (written_line (bytes "cycles") l.cycles.text) (l.loop.whole ∙ rw key))) in
    let b = body_on 99 refl (λ c. digits_form s) digits_text (λ k. digits_on s) c 0 5 l.loop.rest l.held l.body (omega (arith, l.cycles.most)) in
    let d = line_on (bytes "loop") start refl refl (ending_text e) l.loop.text body l.loop.rest
    (ending_on c l.loop.text e body l.loop.rest (ending_read c l.loop.text e l.loop.stands) b) in
    let h = header_on (bytes "signals") (bytes "cycles") signals_word cycles_word l.format.text l.signals.text l.cycles.text s c
    (written_line (bytes "loop") (ending_text e) body) loop-line (l.format.number ∙ ap Is one) l.signals.number l.cycles.number d in
    subst (λ w. PaddedFrom other w file) (as_written s c e l.held (held_cycles file t l) ∙ ap written_take l.table) (rw whole h)

-- EVERY ACCEPTED TAKE FILE IS THE WRITTEN FORM OF ITS TRACE, PADDED
pub take_bytes : (file : List ℕ) (t : Trace) → parse_take file ≡ accepted t → Padded (written_take t) file
take_bytes file t e = let p = lines_on file t (take_lines file t e) in record { plain = p.plain; five = p.five }

-- ---- what is padded

-- lines of the header, padded or not, and of cycles that are read
lines_read : (s c : ℕ) (e : Ending) (cs : List (List Bool)) (one_text signals-text cycles-text loop-text body : List ℕ)
    → padded_of one_text ≡ Is 1 → padded_of signals-text ≡ Is s → padded_of cycles-text ≡ Is c → Ends c e loop-text
    → 1 ≤ s → s ≤ 32 → 1 ≤ c → c ≤ 256 → body_lines 99 (λ c. digits_form s) c 0 5 body ≡ accepted cs
    → FromFormat (headed (bytes "signals") (bytes "cycles") one_text signals-text cycles-text (written_line (bytes "loop") loop-text body))
    ≡ accepted (trace_of s c e cs)
lines_read s c e cs one_text signals-text cycles-text loop-text body o n m l s₁ s₂ c₁ c₂ b =
    let loop-line : List ℕ = written_line (bytes "loop") loop-text body in
    let cycles-line : List ℕ = written_line (bytes "cycles") cycles-text loop-line in
    count_padded (bytes "format") 1 1 WrongFormat 1 FromSignals refl refl 1 (written_line (bytes "signals") signals-text cycles-line) one_text o (omega arith) (omega arith)
    ∙ (count_padded (bytes "signals") 1 32 CountOutOfRange 2 FromCycles refl refl s cycles-line signals-text n s₁ s₂
    ∙ (count_padded (bytes "cycles") 1 256 CountOutOfRange 3 (FromLoop s) refl refl c loop-line cycles-text m c₁ c₂
    ∙ (line_step (bytes "loop") loop-text body (free 10 (bytes "loop") refl) (free 61 (bytes "loop") refl) l.1
    (is_key (bytes "loop")) (ending_value c) 4 (FromBody s c) (same_refl (bytes "loop"))
    ∙ (ap (λ p. on_parsed p (λ r. refused r 4) (λ e. FromBody s c e body)) l.0
    ∙ ap (map_result (trace_of s c e)) b))))

text_back : (t : Trace) (file : List ℕ) → Valid t → PaddedFrom other (written_take t) file → parse_take file ≡ accepted t
unfolding parse_take written_take
text_back t file v p =
    let i : InRange t = v.range in
    let s : ℕ = t.signals in
    let c : ℕ = t.cycles in
    let n = cycles_held t (valid_full t v) i.most_signals i.most_cycles in
    let body : List ℕ = written_body 99 digits_text 0 (cycles_of t) in
    let h = header_back (bytes "signals") (bytes "cycles") signals_word cycles_word s c (written_line (bytes "loop") (ending_text t.ending) body) file
    (omega (arith, i.most_signals)) (omega (arith, i.most_cycles)) p in
    let l = line_back (bytes "loop") start refl refl (Ends c t.ending) (ending_text t.ending) body h.rest
    (λ r q. ending_back c t.ending body r i.most_cycles i.loop q) h.goes in
    let b = body_back 99 refl (λ c. digits_form s) digits_text (omega arith) 32 (λ c ds. length ds ≡ s) (λ k ds t r h e q. digits_back s 32 i.most_signals k ds t r e q)
    (cycles_of t) 0 5 l.rest (omega (arith, n.0, i.most_cycles)) n.1 l.goes in
    let short : length file ≤ 65536 =
    omega (arith, h.short, ap length l.whole, line_length (bytes "loop") l.text l.rest, l.stands.2, b.1, n.0, i.most_cycles) in
    rw (le-ltb 65536 (length file) short)
    (ap FromFormat (h.whole ∙ ap (headed (bytes "signals") (bytes "cycles") h.one_text h.second_text h.third_text) l.whole)
    ∙ (lines_read s c t.ending (cycles_of t) h.one_text h.second_text h.third_text l.text l.rest h.one h.second_number_lem h.third_number l.stands
    i.some_signals i.most_signals i.some_cycles i.most_cycles (ap (λ k. body_lines 99 (λ c. digits_form s) k 0 5 l.rest) (sym n.0) ∙ b.0)
    ∙ ap (λ ls. accepted (record { signals = s; cycles = c; ending = t.ending; lanes = ls })) (sym v.unused)))

-- EVERY WRITTEN FORM, PADDED IN ANY WAY, IS ACCEPTED AND YIELDS ITS TRACE
pub take_padded : (t : Trace) (file : List ℕ) → Valid t → Padded (written_take t) file → parse_take file ≡ accepted t
take_padded t file v p = text_back t file v (record { plain = p.plain; five = p.five })

-- TWO ACCEPTED TAKE FILES YIELD ONE TRACE EXACTLY WHERE THEY DIFFER IN PADDING ALONE
pub take_same : (a b : List ℕ) (t u : Trace) → parse_take a ≡ accepted t → parse_take b ≡ accepted u
    → (t ≡ u) ↔ (unpadded a ≡ unpadded b)
take_same = same_table parse_take written_take Valid take_valid take_bytes take_padded

-- without its padding an accepted file yields the same, and what we write has none
pub take_unpadded : (file : List ℕ) (t : Trace) → parse_take file ≡ accepted t → parse_take (unpadded file) ≡ accepted t
take_unpadded = unpadded_read parse_take written_take Valid take_valid take_bytes take_padded take_written_lem

pub take_plain : (t : Trace) → Valid t → unpadded (written_take t) ≡ written_take t
take_plain = written_plain parse_take written_take Valid take_valid take_bytes take_padded take_written_lem
