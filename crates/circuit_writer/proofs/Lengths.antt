-- How long the file of a rule's circuit is at most. Assumes nothing.
use Prim.Native.Nat.{ℕ, zero, suc, ◌+◌, ◌*◌, ◌/◌, ◌≤◌, ◌<◌}
use mathlib.Core.Path.{◌≡◌, ap, ◌∙◌}
use mathlib.Core.List.{List, [], ◌∷◌, ◌++◌}
use native.Mathlib.Nat.{suc-mul}
use native.Mathlib.Decide.{dec_lt}
use native.Mathlib.Omega.{arith}
use lib.ListN.{length, length-append}
use Rattle.tables.specs.Bytes.{bytes}
use Rattle.tables.specs.declared.refusal.Outcome.TheVariants.{Accepted}
use Rattle.tables.specs.declared.row.Formula.{Formula}
use Rattle.tables.specs.declared.row.NormalForm.{NormalForm}
use Rattle.text.specs.Written.{decimal}
use Rattle.rule_file.specs.Outcome.{rule_outcome}
use Rattle.rule_file.specs.Valid.{InRange}
use Rattle.rule_file.proofs.Rules.{checked}
use Rattle.normal_form.specs.declared.sign.Sign.TheVariants.{Plain}
use Rattle.normal_form.specs.Form.{InNormalForm}
use Rattle.normal_form.specs.Numbering.{normal_form}
use Rattle.normal_form.proofs.Ranges.{form_normal}
use Rattle.writing.specs.declared.answer.Bytes.TheVariants.{Count}
use Rattle.writing.proofs.Room.{room_enough}
use Rattle.writing.proofs.Lengths.{decimal_most, decimal_two_most}
use Rattle.writing.proofs.Texts.{decimal_more_length}
use Rattle.circuit_file.specs.Written.{lines_of, spaced, written_circuit, written_lines}
use Rattle.monitor_circuit.specs.Monitors.{circuit_of, latch_count, wiring_of}
use Rattle.monitor_circuit.proofs.GateRows.{first_gate, second_gate, third_gate}
use Rattle.circuit_writer.specs.Answer.{circuit_text, writer_answer}
use Rattle.circuit_writer.specs.Section.{gate_lines, input_lines, latch_lines, output_lines, said_lines}
use Rattle.monitor_circuit.specs.Wiring.{Wiring}
use Rattle.line_writer.proofs.Lines.{Blocks, blocks_to, lines_append}
use Rattle.circuit_writer.proofs.Sections.{gate_blocks, gate_block, gate_line, input_blocks, input_block, latch_blocks, latch_block, outputs_parted, said_blocks, said_block}
use Rattle.circuit_writer.proofs.Small.{FourDigits, gate_small, latch_small, row_small, SmallWiring}
use Rattle.circuit_writer.proofs.Whole.{file_parted, header_numbers}

-- ---- lines of numbers of four digits at most: five bytes for each number

decimal_four_most : (n : ℕ) → FourDigits n → length (decimal n) ≤ 4
decimal_four_most n h = by (dec_lt n 1000)
  where
    by : Dec (n < 1000) → length (decimal n) ≤ 4
    by (yes l) = omega (arith, decimal_most n l)
    by (no l) = omega (arith, decimal_more_length n (omega arith) (omega arith), decimal_two_most (n / 100) (omega arith))

abbrev EachFour : List ℕ → Type 0
EachFour [] = Unit {0}
EachFour (x ∷ xs) = FourDigits x × EachFour xs

spaced_most : (x : ℕ) (xs : List ℕ) → FourDigits x → EachFour xs → length (spaced (x ∷ xs)) + 1 ≤ 5 * suc (length xs)
unfolding spaced
spaced_most x [] h hs = omega (arith, decimal_four_most x h)
spaced_most x (y ∷ ys) h hs = simp length-append (omega (arith, decimal_four_most x h, spaced_most y ys hs.0 hs.1))

line_most : (x : ℕ) (xs : List ℕ) → FourDigits x → EachFour xs → length (written_lines ((x ∷ xs) ∷ [])) ≤ 5 * suc (length xs)
unfolding written_lines
line_most x xs h hs = simp length-append (omega (arith, spaced_most x xs h hs))

-- lines in a row
lines_length : (xss yss : List (List ℕ)) → length (written_lines (xss ++ yss)) ≡ length (written_lines xss) + length (written_lines yss)
lines_length xss yss = ap length (lines_append xss yss) ∙ length-append (written_lines xss) (written_lines yss)

blocks_most : (block : Blocks) (room n : ℕ) → ((i : ℕ) → i < n → length (written_lines (block i)) ≤ room) → length (written_lines (blocks_to block n)) ≤ n * room
unfolding blocks_to written_lines
blocks_most block room zero each = omega arith
blocks_most block room (suc n) each =
    omega (arith, lines_length (blocks_to block n) (block n), blocks_most block room n (λ i h. each i (omega arith)), each n (omega arith), suc-mul n room)

-- the same of a section that is known by its blocks
section_most : {lines : List (List ℕ)} (block : Blocks) (room n : ℕ) → blocks_to block n ≡ lines → ((i : ℕ) → i < n → length (written_lines (block i)) ≤ room)
    → length (written_lines lines) ≤ n * room
section_most block room n e each = rw (← e) (blocks_most block room n each)

-- ---- the sections

module _ (g : NormalForm) (ok : InNormalForm g) where
  inputs_most : length (written_lines (input_lines g)) ≤ (g.signals + g.rows) * 5
  inputs_most =
      section_most input_block 5 (g.signals + g.rows) (input_blocks g)
      (λ i h. line_most (2 * suc i) [] (omega (arith, ok.most_signals, ok.most_rows)) tt)

  latches_most : length (written_lines (latch_lines g)) ≤ g.rows * 10
  latches_most =
      section_most (latch_block g) 10 g.rows (latch_blocks g)
      (λ i h. line_most _ ((wiring_of g (suc i)).pending ∷ []) (latch_small g ok h) ((row_small g ok h).small_pending, tt))

  said_most : (said : Wiring → ℕ) → ((w : Wiring) → SmallWiring w → FourDigits (said w)) → length (written_lines (said_lines said g)) ≤ g.rows * 5
  said_most said small = section_most (said_block g said) 5 g.rows (said_blocks g said) (λ i h. line_most _ [] (small _ (row_small g ok h)) tt)

  outputs_most : length (written_lines (output_lines g)) ≤ g.rows * 15
  outputs_most =
      rw (← outputs_parted g)
      (omega (
        arith,
        lines_length (said_lines (λ w. w.failed) g) (said_lines (λ w. w.accept) g ++ said_lines (λ w. w.pending) g),
        lines_length (said_lines (λ w. w.accept) g) (said_lines (λ w. w.pending) g),
        said_most (λ w. w.failed) (λ w s. s.small_failed),
        said_most (λ w. w.accept) (λ w s. s.small_accept),
        said_most (λ w. w.pending) (λ w s. s.small_pending),
      ))

  gates_most : length (written_lines (gate_lines g)) ≤ g.rows * 45
  gates_most = section_most (gate_block g) 45 g.rows (gate_blocks g) each
    where
      each : (i : ℕ) → i < g.rows → length (written_lines (gate_block g i)) ≤ 45
      each i h =
          let s = row_small g ok h in
          let x = first_gate g (suc i) in
          let y = second_gate g (suc i) in
          let z = third_gate g (suc i) in
          omega (
            arith,
            lines_length (gate_line x ∷ []) (gate_line y ∷ gate_line z ∷ []),
            lines_length (gate_line y ∷ []) (gate_line z ∷ []),
            line_most x.lhs (x.rhs0 ∷ x.rhs1 ∷ []) (gate_small g ok h 1 (omega arith)) (s.small_first.small_rhs0, (s.small_first.small_rhs1, tt)),
            line_most y.lhs (y.rhs0 ∷ y.rhs1 ∷ []) (gate_small g ok h 2 (omega arith)) (s.small_second.small_rhs0, (s.small_second.small_rhs1, tt)),
            line_most z.lhs (z.rhs0 ∷ z.rhs1 ∷ []) (gate_small g ok h 3 (omega arith)) (s.small_third.small_rhs0, (s.small_third.small_rhs1, tt)),
          )

  -- `aag ` and five numbers
  header_most : length (bytes "aag " ++ written_lines (header_numbers g ∷ [])) ≤ 29
  header_most =
      omega (
        arith,
        line_most (g.signals + g.rows + latch_count g + 3 * g.rows) ((g.signals + g.rows) ∷ latch_count g ∷ 3 * g.rows ∷ 3 * g.rows ∷ []) (omega (arith, ok.most_signals, ok.most_rows))
            (omega (arith, ok.most_signals, ok.most_rows), (omega (arith, ok.most_rows), (omega (arith, ok.most_rows), (omega (arith, ok.most_rows), tt)))),
      )

  lines_most : length (written_lines (lines_of (circuit_of g))) ≤ (g.signals + g.rows) * 5 + g.rows * 70
  lines_most =
      omega (
        arith,
        lines_length (input_lines g) (latch_lines g ++ (output_lines g ++ gate_lines g)),
        lines_length (latch_lines g) (output_lines g ++ gate_lines g),
        lines_length (output_lines g) (gate_lines g),
        inputs_most,
        latches_most,
        outputs_most,
        gates_most,
      )

  pub form_most : length (written_circuit (circuit_of g)) ≤ 29 + 5 * g.signals + 75 * g.rows
  form_most =
      rw (← file_parted g)
      (omega (arith, length-append (bytes "aag " ++ written_lines (header_numbers g ∷ [])) (written_lines (lines_of (circuit_of g))), header_most, lines_most))

-- THE FILE OF A RULE'S CIRCUIT HAS AT MOST 9,789 BYTES: 32 signals and 128 rows
pub circuit_most : (f : Formula) → InRange f → length (circuit_text f) ≤ 9789
circuit_most f ok =
    let n = form_normal f Plain ok in
    omega (arith, form_most (normal_form f Plain) n, n.most_signals, n.most_rows)

-- SO MANY BYTES LENT, AND THE WRITER ANSWERS, for every rule that passes its own check
pub circuit_enough : (f : Formula) (buf : List ℕ) → rule_outcome f ≡ Accepted → 9789 ≤ length buf → writer_answer f buf ≡ Count (length (circuit_text f))
circuit_enough f buf own room = rw own (room_enough (circuit_text f) buf (omega (arith, circuit_most f (checked f own))))
