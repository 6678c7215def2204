use Prim.Native.Nat.{ℕ}
use mathlib.Core.Path.{◌∙◌}
use native.Mathlib.Omega.{arith}
use lib.ListN.{length-replicate}
use Rattle.tables.proofs.Places.{replicate_at}
use Rattle.circuit_values.proofs.Valuations.{inputs_spread, latches_spread, gates_spread, most_small, inputs_distinct, latches_distinct, gates_distinct, gates_ready, is_valuation}
use Rattle.circuit_values.proofs.evaluate.Goals as goal

-- The table of places starts as `replicate 32770 0`, of which only its length and that it holds 0 are used. Assumes nothing.

pub put_places-requires : goal.put_places-requires
put_places-requires c = let small = most_small c.requires.of_file in record { spread = (gates_spread c.requires.of_file, omega (arith, c.requires.of_file.size)); distinct = gates_distinct c.requires.of_file (omega (arith, length-replicate {A = ℕ} 32770 0)) }

pub put_given-requires : goal.put_given-requires
put_given-requires c = let small = most_small c.requires.of_file in record { spread = inputs_spread c.requires.of_file c.requires.digits.0; distinct = inputs_distinct c.requires.of_file c.requires.digits.0 (omega (arith, c.requires.none_on.0)) }

pub put_given-requires-2 : goal.put_given-requires-2
put_given-requires-2 c = let small = most_small c.requires.of_file in record { spread = latches_spread c.requires.of_file c.requires.digits.1; distinct = latches_distinct c.requires.of_file c.requires.digits.1 (omega (arith, c.requires.none_on.0, c.put_given.ensures.given.size)) }

pub put_gates-requires : goal.put_gates-requires
put_gates-requires c =
    let small = most_small c.requires.of_file in (
      omega (arith, c.requires.none_on.0, c.put_given.ensures.given.size, c.put_given-2.ensures.given.size),
      omega (arith, c.put_places.ensures.places.size, length-replicate {A = ℕ} 32770 0),
      gates_ready c.requires.of_file (λ x. replicate_at {A = ℕ} 32770 x 0) c.put_places.ensures.places,
    )

pub returns : goal.returns
returns c = record {
  values = is_valuation c.requires.of_file (λ x. replicate_at {A = ℕ} 32770 x 0) c.put_places.ensures.places c.args.inputs.now c.args.latches.now
      c.requires.digits.0 c.requires.digits.1 c.requires.none_on.1 c.put_given.ensures.given c.put_given-2.ensures.given c.put_gates.ensures.evaluated;
  size = c.put_gates.ensures.evaluated.size ∙ c.put_given-2.ensures.given.size ∙ c.put_given.ensures.given.size ∙ c.requires.none_on.0;
}
