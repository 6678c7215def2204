-- What the sheet maker writes is read as a sheet with the same digits. Assumes nothing.
use Prim.Native.Nat.{ℕ, ◌-◌, ◌<◌, min}
use mathlib.Core.Path.{◌≡◌, sym, ap, ◌∙◌}
use mathlib.Core.Bool.{Bool, true, false}
use mathlib.Core.List.{List, []}
use native.Mathlib.Omega.{arith}
use lib.ListN.{length, get_or}
use Rattle.tables.specs.Bit.{bit_at}
use Rattle.tables.specs.Place.{tabulate}
use Rattle.tables.proofs.Places.{length_tabulate, get_d_tabulate}
use Rattle.tables.proofs.Bits.{bit_of_lane}
use Rattle.tables.specs.declared.row.NormalForm.{NormalForm}
use Rattle.tables.specs.declared.trace.Activation.{Activation}
use Rattle.tables.specs.declared.trace.Lane.{Lane}
use Rattle.tables.specs.declared.trace.Trace.{Trace}
use Rattle.text.specs.Result.Result.{accepted}
use Rattle.take_file.specs.Valid.{InRange as TraceInRange}
use Rattle.sheet_file.specs.Sheet.{row_lane, activation_of, parse_sheet}
use Rattle.sheet_file.specs.Written.{rows_of, written_sheet}
use Rattle.sheet_file.proofs.Sheets.{sheet_in_range}
use Rattle.normal_form.specs.Form.{InNormalForm}
use Rattle.lanes.specs.Truth.{lane_in}
use Rattle.sheet_maker.specs.Made.{IsMade}
use Rattle.sheet_maker.proofs.Sheets.{rows_by_place}

module _ (g : NormalForm) (t : Trace) (a : Activation) (ok : InNormalForm g) (range : TraceInRange t) (made : IsMade g t a) where
  -- the sheet that is read
  back : Activation
  back = activation_of a.rows a.cycles (rows_of a)

  digits : ℕ → List Bool
  digits k = tabulate (min a.cycles 256) (bit_at (lane_in a.lanes k))

  same_digit : (k c : ℕ) → k < a.rows → c < a.cycles → bit_at (lane_in back.lanes k) c ≡ bit_at (lane_in a.lanes k) c
  unfolding back digits
  same_digit k c h b =
      let row : get_or (rows_of a) k [] ≡ digits k = ap (λ rs. get_or rs k []) (rows_by_place a (omega (arith, made.places, made.rows, ok.most_rows))) ∙ get_d_tabulate a.rows digits k [] h in
      ap (λ (l : Lane). bit_at l c) (get_d_tabulate 128 (λ i. row_lane (get_or (rows_of a) i [])) k (record { words = [] }) (omega (arith, made.rows, ok.most_rows)))
      ∙ bit_of_lane (λ i. get_or (get_or (rows_of a) k []) i false) c (omega (arith, made.cycles, range.most_cycles))
      ∙ ap (λ ds. get_or ds c false) row
      ∙ get_d_tabulate (min a.cycles 256) (bit_at (lane_in a.lanes k)) c false (omega (arith, made.cycles, range.most_cycles))

  back_made : IsMade g t back
  unfolding back digits
  back_made = record {
    places = length_tabulate 128 0 (λ i. row_lane (get_or (rows_of a) i []));
    rows = made.rows;
    cycles = made.cycles;
    digits = λ k c h b.
        let e = same_digit (k - 1) c (omega (arith, h.0, h.1, made.rows)) (omega (arith, made.cycles)) in
        let y = made.digits k c h b in
        (λ on. y.0 (sym e ∙ on), λ x. e ∙ y.1 x);
  }

  -- THE TEXT OF THE SHEET MADE READS BACK AS A SHEET WITH THE SAME DIGITS
  pub made_read : (b : Activation) × (parse_sheet (written_sheet a) ≡ accepted b) × IsMade g t b
  unfolding back digits
  made_read = (
    back,
    sheet_in_range a made.places
        (record {
          some_rows = omega (arith, made.rows, ok.some_rows);
          most_rows = omega (arith, made.rows, ok.most_rows);
          some_cycles = omega (arith, made.cycles, range.some_cycles);
          most_cycles = omega (arith, made.cycles, range.most_cycles);
        }),
    back_made,
  )
