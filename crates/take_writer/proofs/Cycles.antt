-- The digits of a cycle and the lines of the cycles, one more at a time. Assumes nothing.
use Prim.Native.Nat.{ℕ, ◌+◌, ◌≤◌, ◌<◌, min}
use mathlib.Core.Path.{◌≡◌, sym, ap, ◌∙◌}
use mathlib.Core.List.{List, [], ◌∷◌, ◌++◌, map, map-append}
use mathlib.Core.Bool.{Bool}
use native.Mathlib.Nat.{zero-add}
use native.Mathlib.Numerals.{add-one}
use native.Mathlib.Omega.{arith}
use lib.ListN.{length, get_or, take, length-append, length-map}
use lib.Seq.{take_all, take-suc, length-take-le}
use Rattle.tables.specs.Choice.{pick}
use Rattle.tables.specs.declared.trace.Lane.{Lane}
use Rattle.tables.specs.declared.trace.Trace.{Trace}
use Rattle.tables.proofs.Places.{length_tabulate, get_d_tabulate}
use Rattle.text.specs.Written.{decimal, digits_text, written_line, written_body}
use Rattle.text.proofs.Laws.{line_length, text_length}
use Rattle.take_file.specs.Valid.{InRange}
use Rattle.take_file.specs.Written.{cycle_of, cycles_of}
use Rattle.writing.proofs.Texts.{body_from, body_prefix}

-- ---- the digits of a cycle: the next lane's stands behind those of the first k
pub digits_next : (on : Lane → Bool) (lanes : List Lane) (k : ℕ) (d : Lane) → k < length lanes
    → digits_text (map on (take k lanes)) ++ (pick (on (get_or lanes k d)) 49 48 ∷ []) ≡ digits_text (map on (take (k + 1) lanes))
digits_next on lanes k d h = sym (
    ap (λ n. digits_text (map on (take n lanes))) (add-one k)
    ∙ ap (λ ls. digits_text (map on ls)) (take-suc lanes k d h)
    ∙ ap digits_text (map-append on (take k lanes) (get_or lanes k d ∷ []))
    ∙ map-append (λ b. pick b 49 48) (map on (take k lanes)) (on (get_or lanes k d) ∷ [])
    )

-- ---- the line of one cycle
module _ (t : Trace) (full : length t.lanes ≡ 32) (ok : InRange t) where
  pub cycle_length : (c : ℕ) → length (digits_text (cycle_of t c)) ≡ t.signals
  cycle_length c = text_length (cycle_of t c) ∙ (length-map (take t.signals t.lanes) _ ∙ length-take-le t.signals t.lanes (omega (arith, ok.most_signals)))

  pub cycle_line : (c : ℕ) → length (written_line (99 ∷ decimal c) (digits_text (cycle_of t c)) []) ≡ length (decimal c) + t.signals + 3
  cycle_line c = omega (arith, line_length (99 ∷ decimal c) (digits_text (cycle_of t c)) [], cycle_length c)

  cycles_many : length (cycles_of t) ≡ t.cycles
  cycles_many = length_tabulate (min t.cycles 256) 0 (cycle_of t) ∙ omega (arith, ok.most_cycles)

  -- the line of cycle k stands behind those of the first k
  pub cycle_next : (k : ℕ) → k < t.cycles
      → written_body 99 digits_text 0 (take k (cycles_of t)) ++ written_line (99 ∷ decimal k) (digits_text (cycle_of t k)) [] ≡ written_body 99 digits_text 0 (take (k + 1) (cycles_of t))
  cycle_next k h =
      let e : get_or (cycles_of t) k [] ≡ cycle_of t k = get_d_tabulate (min t.cycles 256) (cycle_of t) k [] (omega (arith, ok.most_cycles)) in
      let b = body_from 99 digits_text 0 (cycles_of t) k [] (omega (arith, cycles_many)) in
      rw (e, zero-add) at b

  -- and within the lines of all
  pub cycle_within : (k : ℕ) → k < t.cycles
      → length (written_body 99 digits_text 0 (take k (cycles_of t))) + length (written_line (99 ∷ decimal k) (digits_text (cycle_of t k)) []) ≤ length (written_body 99 digits_text 0 (cycles_of t))
  cycle_within k h =
      let w : List ℕ = written_body 99 digits_text 0 (take k (cycles_of t)) in
      let l : List ℕ = written_line (99 ∷ decimal k) (digits_text (cycle_of t k)) [] in
      let e : length w + length l ≡ length (written_body 99 digits_text 0 (take (k + 1) (cycles_of t))) = sym (length-append w l) ∙ ap length (cycle_next k h) in
      omega (arith, body_prefix 99 digits_text (k + 1) 0 (cycles_of t))

  pub cycles_all : (k : ℕ) → t.cycles ≤ k → take k (cycles_of t) ≡ cycles_of t
  cycles_all k h = take_all k (cycles_of t) (omega (arith, cycles_many))
