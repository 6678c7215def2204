-- How long a take file is. Assumes nothing.
use Prim.Native.Nat.{ℕ, zero, suc, ◌+◌, ◌*◌, ◌-◌, ◌/◌, ◌≤◌, ◌<◌}
use mathlib.Core.Path.{◌≡◌, sym, ap, ◌∙◌}
use mathlib.Core.List.{List, [], ◌∷◌}
use native.Mathlib.Decide.{dec_lt}
use native.Mathlib.Nat.{suc-mul}
use native.Mathlib.Numerals.{add-one}
use native.Mathlib.Omega.{arith}
use lib.ListN.{length, take, length-append}
use Rattle.tables.specs.Bytes.{bytes}
use Rattle.tables.specs.declared.trace.Ending.{Ending}
use Rattle.tables.specs.declared.trace.Ending.TheVariants.{Open, Loop}
use Rattle.tables.specs.declared.trace.Trace.{Trace}
use Rattle.text.specs.Written.{decimal, digits_text, written_line, written_body}
use Rattle.text.proofs.Laws.{line_length, decimal_short}
use Rattle.take_file.specs.Valid.{Below, InRange}
use Rattle.take_file.specs.Written.{ending_text, cycle_of, cycles_of, written_take}
use Rattle.writing.proofs.Texts.{decimal_some, decimal_one, decimal_two, decimal_three}
use Rattle.take_writer.proofs.Cycles.{cycle_line, cycle_next, cycle_within, cycles_all}

pub ending_short : (e : Ending) → length (ending_text e) ≤ 5
ending_short Open = omega arith
ending_short (Loop n) = decimal_short n

pub ending_small : (e : Ending) (m n : ℕ) → m ≤ n → Below m e → Below n e
ending_small Open m n h b = tt
ending_small (Loop l) m n h b = omega arith

pub ending_some : (e : Ending) → 1 ≤ length (ending_text e)
ending_some Open = omega arith
ending_some (Loop n) = decimal_some n

-- the digits of the numbers below n + 1, against those below n
number_more : (n : ℕ) → n < 1000 → (suc n - 10) + (suc n - 100) + 1 ≡ (n - 10) + (n - 100) + length (decimal n)
number_more n h = by (dec_lt n 10) (dec_lt (n / 10) 10)
  where
    by : Dec (n < 10) → Dec (n / 10 < 10) → (suc n - 10) + (suc n - 100) + 1 ≡ (n - 10) + (n - 100) + length (decimal n)
    by (yes a) d = rw (← decimal_one n a) (omega arith)
    by (no a) (yes b) = rw (← decimal_two n (omega arith) b) (omega arith)
    by (no a) (no b) = rw (← decimal_three n (omega arith) (omega arith) (omega arith)) (omega arith)

module _ (t : Trace) (full : length t.lanes ≡ 32) (ok : InRange t) where
  lines_length : (k : ℕ) → k ≤ t.cycles → length (written_body 99 digits_text 0 (take k (cycles_of t))) ≡ k * (t.signals + 4) + (k - 10) + (k - 100)
  lines_length zero h = unfold written_body in omega arith
  lines_length (suc k) h =
      let w : List ℕ = written_body 99 digits_text 0 (take k (cycles_of t)) in
      let l : List ℕ = written_line (99 ∷ decimal k) (digits_text (cycle_of t k)) [] in
      let a : length w ≡ k * (t.signals + 4) + (k - 10) + (k - 100) = lines_length k (omega arith) in
      let e : length (written_body 99 digits_text 0 (take (suc k) (cycles_of t))) ≡ length w + length l =
      ap (λ n. length (written_body 99 digits_text 0 (take n (cycles_of t)))) (sym (add-one k)) ∙ sym (ap length (cycle_next t full ok k (omega arith))) ∙ length-append w l in
      let s : suc k * (t.signals + 4) ≡ k * (t.signals + 4) + (t.signals + 4) = suc-mul k (t.signals + 4) in
      let n = number_more k (omega (arith, ok.most_cycles)) in
      e ∙ together (length l) (k * (t.signals + 4)) (suc k * (t.signals + 4)) (length w) a (cycle_line t full ok k) s n
    where
      together : (l p q w : ℕ) → w ≡ p + (k - 10) + (k - 100) → l ≡ length (decimal k) + t.signals + 3 → q ≡ p + (t.signals + 4)
          → (suc k - 10) + (suc k - 100) + 1 ≡ (k - 10) + (k - 100) + length (decimal k) → w + l ≡ q + (suc k - 10) + (suc k - 100)
      together l p q w a b c d = omega arith

  pub body_length : length (written_body 99 digits_text 0 (cycles_of t)) ≡ t.cycles * (t.signals + 4) + (t.cycles - 10) + (t.cycles - 100)
  body_length = ap (λ cs. length (written_body 99 digits_text 0 cs)) (sym (cycles_all t full ok t.cycles (omega arith))) ∙ lines_length t.cycles (omega arith)

  -- the file by its lines
  pub file_length : length (written_take t) ≡ 32 + length (decimal t.signals) + length (decimal t.cycles) + length (ending_text t.ending) + length (written_body 99 digits_text 0 (cycles_of t))
  unfolding written_take
  file_length =
      let body : List ℕ = written_body 99 digits_text 0 (cycles_of t) in
      let d : List ℕ = written_line (bytes "loop") (ending_text t.ending) body in
      let c : List ℕ = written_line (bytes "cycles") (decimal t.cycles) d in
      let b : List ℕ = written_line (bytes "signals") (decimal t.signals) c in
      let one : length (decimal 1) ≡ 1 = sym (ap length (decimal_one 1 (omega arith))) in
      let first = line_length (bytes "format") (decimal 1) b in
      let second = line_length (bytes "signals") (decimal t.signals) c in
      let third = line_length (bytes "cycles") (decimal t.cycles) d in
      let fourth = line_length (bytes "loop") (ending_text t.ending) body in
      omega arith

  -- there is a line of a cycle, of five bytes at least
  pub body_some : 5 ≤ length (written_body 99 digits_text 0 (cycles_of t))
  body_some = omega (arith, cycle_within t full ok 0 (omega (arith, ok.some_cycles)), cycle_line t full ok 0, decimal_some 0, ok.some_signals)

  -- its parts, none of which is empty
  pub record Parts : Type 0 where
    pub whole : length (written_take t) ≡ 32 + length (decimal t.signals) + length (decimal t.cycles) + length (ending_text t.ending) + length (written_body 99 digits_text 0 (cycles_of t))
    pub one : length (decimal 1) ≡ 1
    pub signals : 1 ≤ length (decimal t.signals)
    pub cycles : 1 ≤ length (decimal t.cycles)
    pub ending : 1 ≤ length (ending_text t.ending)
    pub body : 5 ≤ length (written_body 99 digits_text 0 (cycles_of t))

  pub parts : Parts
  parts = record {
    whole = file_length;
    one = sym (ap length (decimal_one 1 (omega arith)));
    signals = decimal_some t.signals;
    cycles = decimal_some t.cycles;
    ending = ending_some t.ending;
    body = body_some;
  }
