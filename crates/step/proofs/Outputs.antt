-- What the loop over the rows writes. Assumes nothing.
use Prim.Native.Nat.{ℕ, suc, ◌+◌, ◌*◌, ◌≤◌, ◌<◌}
use mathlib.Core.Path.{◌≡◌, sym, subst, ◌∙◌}
use mathlib.Core.Bool.{Bool}
use mathlib.Core.List.{List, [], ◌∷◌, ◌++◌, append_assoc}
use native.Mathlib.Numerals.{add-one}
use native.Mathlib.Omega.{arith}
use lib.ListN.{length, set, drop}
use Rattle.tables.specs.declared.row.NormalForm.{NormalForm}
use Rattle.meaning.specs.Satisfaction.{table_of}
use Rattle.meaning.specs.Rows.{Each, EachSignal}
use Rattle.meaning.proofs.Rows.{each_map, each_signal_map}
use Rattle.normal_form.specs.Form.{InNormalForm}
use Rattle.normal_form.proofs.FormTables.{form_operands, form_signals}
use Rattle.monitors.specs.declared.Output.{Output}
use Rattle.monitors.specs.Monitor.{monitor}
use Rattle.monitors.proofs.States.{map_order}
use Rattle.step.specs.Fitting.{Fitting}
use Rattle.step.specs.Step.{digit_at, digit_of, output_size, state_left, row_output, form_output}
use Rattle.step.proofs.Stripes.{StripesTo, behind, stored, stripes_more, stripes_end}

module _ (g : NormalForm) (p a s : List ℕ) where
  -- the digits of row i + 1
  abbrev pub failed_digit : ℕ → ℕ
  failed_digit i = digit_of (row_output g p a s (suc i)).failed

  abbrev pub accept_digit : ℕ → ℕ
  accept_digit i = digit_of (row_output g p a s (suc i)).accept

  abbrev pub pending_digit : ℕ → ℕ
  pending_digit i = digit_of (row_output g p a s (suc i)).pending

  -- the stripes that are written: failed, accept, and those of the state
  abbrev stripes : List (ℕ → ℕ)
  stripes = failed_digit ∷ accept_digit ∷ pending_digit ∷ []

  -- the digits of the first k rows are in their places
  abbrev pub WrittenTo : List ℕ → ℕ → List ℕ → Type 0
  WrittenTo b k m = StripesTo g.rows stripes b k m

  module _ {room : ℕ} (fits : Fitting g p a s room) (ok : InNormalForm g) {k : ℕ} (h : k < g.rows) where
    -- operands and signals have their digits
    pub row_within : Each (λ x. (1 ≤ x) × (x ≤ length a)) (table_of g.places (suc k)) × EachSignal (λ x. (1 ≤ x) × (x ≤ length s)) (table_of g.places (suc k))
    row_within = (
      each_map _ _ (λ x e. (e.0, omega (arith, e.1, fits.activators_agree))) (table_of g.places (suc k)) (form_operands g ok (suc k) (omega arith)),
      each_signal_map _ _ (table_of g.places (suc k)) (λ x e. (e.0, omega (arith, e.1, fits.signals_agree))) (form_signals g ok (suc k) (omega arith)),
    )

  -- the stripes end where the output does
  output_end : behind g.rows 0 stripes ≡ output_size g.rows
  output_end = omega arith

  module _ {b : List ℕ} (fits : output_size g.rows ≤ length b) {k : ℕ} {m : List ℕ} (inv : WrittenTo b k m) where
    -- one row more
    pub written_more :
        {x y : Bool} {o : Output} {u v w : ℕ} → k < g.rows → x ≡ digit_at a (k + 1) → y ≡ digit_at p (k + 1)
        → o ≡ monitor (digit_at a) (digit_at s) (table_of g.places (suc k)) (record { active = x; pending = y })
        → u ≡ digit_of o.failed → v ≡ digit_of o.accept → w ≡ digit_of o.pending
        → WrittenTo b (k + 1) (set (set (set m k u) (g.rows + k) v) (2 * g.rows + k) w)
    written_more {x} {y} {o} {u} {v} {w} h ex ey eo eu ev ew =
        let one : k + 1 ≡ suc k = add-one k in
        let said : o ≡ row_output g p a s (suc k) = eo ∙ rw (ex, ey, one) in
        let first : 0 + k ≡ k = omega arith in
        let second : g.rows + k ≡ (0 + g.rows) + k = omega arith in
        let third : 2 * g.rows + k ≡ ((0 + g.rows) + g.rows) + k = omega arith in
        let turn : set (set (set m k u) (g.rows + k) v) (2 * g.rows + k) w ≡ stored g.rows k 0 stripes m =
        rw (third, second, eu, ev, ew, said, first) in
        subst (WrittenTo b (k + 1)) (sym turn) (stripes_more g.rows stripes b (omega arith) inv h)

    pub written_all : g.rows ≤ k → m ≡ form_output g p a s ++ drop (output_size g.rows) b
    unfolding form_output
    written_all h =
        stripes_end g.rows stripes b (omega arith) inv h
        ∙ rw (output_end, append_assoc, append_assoc, map_order digit_of g.rows (state_left g p a s))
