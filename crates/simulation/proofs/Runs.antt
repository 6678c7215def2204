-- A FILE SIMULATED FROM LATCHES AT 0 IS THE RUN OF ITS CIRCUIT. Assumes nothing.
use Prim.Native.Nat.{ℕ, zero, suc, ◌+◌, ◌-◌, ◌≤◌, ◌<◌}
use mathlib.Core.Path.{◌≡◌, refl, sym, ap, subst, subst⁻¹, ◌∙◌}
use mathlib.Core.Bool.{Bool, false}
use mathlib.Core.List.{List, ◌++◌, map, map-append, append_assoc}
use native.Mathlib.Omega.{arith}
use lib.ListN.{length, take, drop, replicate, length-append, length-map}
use lib.Seq.{take_at, drop_at}
use borrow.Author.Tests.{le-leb}
use Rattle.tables.specs.Choice.{pick}
use Rattle.tables.proofs.Places.{tabulate_get_d, map_tabulate, replicate_tabulate}
use Rattle.text.specs.Result.Result.{accepted}
use Rattle.text.specs.Search.{part}
use Rattle.text.specs.Written.{digits_text}
use Rattle.text.proofs.Laws.{text_length}
use Rattle.writing.specs.declared.answer.Bytes.{Bytes}
use Rattle.writing.specs.declared.answer.Bytes.TheVariants.{Count}
use Rattle.writing.specs.Answer.{Delivers, Printed, written_answer}
use Rattle.writing.specs.Lent.{overlaid}
use Rattle.writing.proofs.Answers.{delivers_is}
use Rattle.writing.proofs.Room.{room_enough}
use Rattle.circuit.specs.Circuit.{Circuit, Latch, latch_at, WellFormed}
use Rattle.circuit.specs.Valuation.{Valuation, output_values, next_latches, latch_in, IsRun}
use Rattle.circuit.proofs.Exists.{run_exists}
use Rattle.circuit_file.specs.File.{parse_circuit}
use Rattle.circuit_file.proofs.Circuits.{circuit_read}
use Rattle.simulator.specs.Simulation.{IsCycle, CyclesOn, OnCircuit, Simulates}
use Rattle.simulator.proofs.Once.{cycle_once}
use Rattle.simulation.specs.FromZero.{Simulated, FromZero, digits_up_to}
use Rattle.simulation.proofs.Digits.{digit_there, digits_taken}

module _ (c : Circuit) (file : List ℕ) (read : parse_circuit file ≡ accepted c) (inputs : ℕ → ℕ → Bool) (buffers : ℕ → List ℕ) where
  abbrev ins : ℕ
  ins = length c.inputs

  abbrev outs : ℕ
  outs = length c.outputs

  abbrev kept : ℕ
  kept = length c.latches

  abbrev pub given : ℕ → List ℕ
  given i = digits_up_to ins (inputs i)

  formed : WellFormed c
  formed = (circuit_read file c read).1

  module _ (values : ℕ → Valuation) where
    -- the latches' digits of cycle i, and what is written in it
    abbrev latches : ℕ → List ℕ
    latches i = digits_up_to kept (latch_in c values i)

    abbrev text : ℕ → List ℕ
    text i = digits_text (output_values c (values i) ++ next_latches c (values i))

    -- the calls that get the run's latches
    abbrev calls : Simulated
    calls = record { latches = latches; lefts = λ i. overlaid (text i) (buffers i); answers = λ i. written_answer (text i) (buffers i) }

    text_size : (i : ℕ) → length (text i) ≡ outs + kept
    text_size i = text_length (output_values c (values i) ++ next_latches c (values i)) ∙ (simp (length-append, length-map) refl)

    -- a call with these digits, by what the simulator's contract says of it
    simulates_is : (i : ℕ) (before after : List ℕ) (answer : Bytes)
        → Simulates file (given i) (latches i) before after answer ≡ Printed (IsCycle c (given i) (latches i)) before after answer
    simulates_is i before after answer =
        ap (λ p. OnCircuit p (given i) (latches i) before after answer) read
        ∙ ap (λ o. CyclesOn o c (given i) (latches i) before after answer) (digits_taken ins kept (inputs i) (latch_in c values i))

    -- where there is room, the outputs stand in front of what is left, and the next cycle's latches behind them
    module _ (i : ℕ) (room : outs + kept ≤ length (buffers i)) where
      abbrev first : List ℕ
      first = digits_text (output_values c (values i))

      abbrev second : List ℕ
      second = digits_text (next_latches c (values i))

      first_size : length first ≡ outs
      first_size = text_length (output_values c (values i)) ∙ length-map c.outputs (values i)

      second_size : length second ≡ kept
      second_size = text_length (next_latches c (values i)) ∙ length-map c.latches (λ (q : Latch). values i q.next)

      left_is : overlaid (text i) (buffers i) ≡ first ++ (second ++ drop (length (text i)) (buffers i))
      unfolding overlaid
      left_is =
          rw (le-leb (length (text i)) (length (buffers i)) (omega (arith, text_size i)))
          (ap (λ t. t ++ drop (length (text i)) (buffers i)) (map-append (λ b. pick {A = ℕ} b 49 48) (output_values c (values i)) (next_latches c (values i)))
          ∙ append_assoc first second (drop (length (text i)) (buffers i)))

      outputs_there : take outs (overlaid (text i) (buffers i)) ≡ first
      outputs_there = ap (take outs) left_is ∙ take_at first (second ++ drop (length (text i)) (buffers i)) outs first_size

      nexts_there : part outs (outs + kept) (overlaid (text i) (buffers i)) ≡ second
      nexts_there =
          let size : outs + kept - outs ≡ kept = omega arith in
          ap (part outs (outs + kept)) left_is
          ∙ (ap (take (outs + kept - outs)) (drop_at first (second ++ drop (length (text i)) (buffers i)) outs first_size)
          ∙ take_at second (drop (length (text i)) (buffers i)) (outs + kept - outs) (second_size ∙ sym size))

      second_is : second ≡ latches (suc i)
      unfolding latch_in
      second_is =
          ap digits_text
          (ap (map (λ (q : Latch). values i q.next)) (sym (tabulate_get_d c.latches kept (record { current = 0; next = 0 }) refl))
          ∙ map_tabulate (λ (q : Latch). values i q.next) kept (latch_at c))

      answer_is : written_answer (text i) (buffers i) ≡ Count (outs + kept)
      answer_is = room_enough (text i) (buffers i) (omega (arith, text_size i)) ∙ ap Count (text_size i)

    zeros_are : latches 0 ≡ replicate kept 48
    unfolding latch_in
    zeros_are = map_tabulate (λ b. pick {A = ℕ} b 49 48) kept (λ k. false) ∙ sym (replicate_tabulate {A = ℕ} kept 0 48)

    module _ (n : ℕ) (run : IsRun c n inputs values) where
      cycle_is : (i : ℕ) → i < n → IsCycle c (given i) (latches i) (text i)
      cycle_is i h =
          let v = run i h in
          record {
            values = values i;
            valuation =
                record {
                  constant = v.constant;
                  negated = v.negated;
                  inputs_given = λ k l. v.inputs_given k l ∙ sym (digit_there ins (inputs i) k l);
                  latches_given = λ k l. v.latches_given k l ∙ sym (digit_there kept (latch_in c values i) k l);
                  gates_and = v.gates_and;
                };
            written = refl;
          }

      module _ (rooms : (i : ℕ) → outs + kept ≤ length (buffers i)) where
        -- THERE ARE SUCH CALLS
        calls_are : FromZero c file n given buffers calls
        calls_are =
            record {
              starts = zeros_are;
              goes_on = λ i h. sym (nexts_there i (rooms i) ∙ second_is i (rooms i));
              simulates = λ i h. subst⁻¹ (λ (T : Type 0). T) (simulates_is i (buffers i) (overlaid (text i) (buffers i)) (written_answer (text i) (buffers i)))
                  (record { text = text i; is_text = cycle_is i h; delivered = record { answered = refl; left = refl } });
            }

        -- AND NO OTHERS
        module _ (s : Simulated) (is : FromZero c file n given buffers s) where
          -- a call that gets the run's latches
          alike : (i : ℕ) → i < n → s.latches i ≡ latches i → (s.lefts i ≡ overlaid (text i) (buffers i)) × (s.answers i ≡ written_answer (text i) (buffers i))
          alike i h e =
              let told : Simulates file (given i) (latches i) (buffers i) (s.lefts i) (s.answers i) =
              subst (λ l. Simulates file (given i) l (buffers i) (s.lefts i) (s.answers i)) e (is.simulates i h) in
              let x : Printed (IsCycle c (given i) (latches i)) (buffers i) (s.lefts i) (s.answers i) =
              subst (λ (T : Type 0). T) (simulates_is i (buffers i) (s.lefts i) (s.answers i)) told in
              let d : Delivers (text i) (buffers i) (s.lefts i) (s.answers i) =
              delivers_is (cycle_once c formed (given i) (latches i) x.text (text i) x.is_text (cycle_is i h)) x.delivered in
              (d.left, d.answered)

          pub latches_run : (i : ℕ) → i < n → s.latches i ≡ latches i
          latches_run zero h = is.starts ∙ sym zeros_are
          latches_run (suc i) h =
              is.goes_on i h
              ∙ (ap (part outs (outs + kept)) (alike i (omega arith) (latches_run i (omega arith))).0
              ∙ (nexts_there i (rooms i) ∙ second_is i (rooms i)))

          -- THE ANSWER, THE OUTPUTS AND THE NEXT LATCHES OF EACH CYCLE
          pub answers_run : (i : ℕ) → i < n → s.answers i ≡ Count (outs + kept)
          answers_run i h = (alike i h (latches_run i h)).1 ∙ answer_is i (rooms i)

          pub outputs_run : (i : ℕ) → i < n → take outs (s.lefts i) ≡ digits_text (output_values c (values i))
          outputs_run i h = ap (take outs) (alike i h (latches_run i h)).0 ∙ outputs_there i (rooms i)

          pub nexts_run : (i : ℕ) → i < n → part outs (outs + kept) (s.lefts i) ≡ digits_text (next_latches c (values i))
          nexts_run i h = ap (part outs (outs + kept)) (alike i h (latches_run i h)).0 ∙ nexts_there i (rooms i)

  -- FOR EVERY SEQUENCE OF INPUTS there are calls, as many as one likes
  pub simulated_exists : ((i : ℕ) → outs + kept ≤ length (buffers i)) → (s : Simulated) × ((n : ℕ) → FromZero c file n given buffers s)
  simulated_exists rooms =
      let run = run_exists c formed inputs in
      (calls run.0, λ n. calls_are run.0 n (run.1 n) rooms)
