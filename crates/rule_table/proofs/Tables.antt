-- Formulas whose unused places hold `true`. Assumes nothing.
use mathlib.Core.Path.{◌≡◌, sym, ap, ◌∙◌}
use mathlib.Core.Logic.{◌↔◌}
use mathlib.Core.Bool.{Bool, true, false}
use mathlib.Core.List.{List, map}
use Prim.Native.Nat.{ℕ, ◌+◌, ◌-◌, ◌≤◌, ◌<◌}
use native.Mathlib.Omega.{arith}
use native.Mathlib.Decide.{dec_lt}
use lib.ListN.{length, get_or, replicate, length-replicate, get_or-eq_default}
use borrow.Rule.Slice.PartMut.{put_mid}
use Rattle.std.specs.List.{All, slice_range}
use Rattle.std.proofs.lemmas.List.Edits.{get_or-between, length-between}
use Rattle.std.proofs.lemmas.List.{get_or_default, places as list_places}
use Rattle.std.proofs.lemmas.Slice.{take-put_mid_below}
use Rattle.tables.specs.Place.{placed}
use Rattle.tables.specs.Used.{used_rows}
use Rattle.tables.proofs.Choices.{clash}
use Rattle.tables.proofs.Places.{get_d_tabulate, tabulate_ext, tabulate_get_d, replicate_at}
use Rattle.tables.proofs.UsedRows.{used_size, used_at}
use Rattle.tables.proofs.Outcomes.{refused_only}
use Rattle.tables.specs.declared.refusal.Outcome.{Outcome}
use Rattle.tables.specs.declared.refusal.Outcome.TheVariants.{Refused}
use Rattle.tables.specs.declared.refusal.Refusal.{Refusal}
use Rattle.tables.specs.declared.row.Row.{Row}
use Rattle.tables.specs.declared.row.RowPlace.{RowPlace}
use Rattle.tables.specs.declared.row.Formula.{Formula}
use Rattle.text.specs.Result.{outcome_of}
use Rattle.text.specs.Result.Result.{accepted}
use Rattle.rule_file.specs.Rule.{in_place, unused, parse_rule}
use Rattle.rule_file.specs.Written.{rows_of, rule_text, written_rule}
use Rattle.rule_file.specs.Outcome.{rule_outcome}
use Rattle.rule_file.specs.Valid.{InRange, Valid}
use Rattle.rule_file.proofs.Rules.{rule_written_lem}

-- the row in place k
abbrev pub row_at : List RowPlace → ℕ → Row
row_at places k = (get_or places k (in_place unused)).row

-- the places behind the used rows hold `true`
pub record RestTrue (rows : ℕ) (places : List RowPlace) : Type 0 where
  pub few : rows ≤ 64
  pub size : length places ≡ 64
  pub holds : (i : ℕ) → rows ≤ i → i < 64 → row_at places i ≡ unused

module _ (rows : ℕ) (places : List RowPlace) (few : rows ≤ 64) (size : length places ≡ 64) where
  -- no used row stands there
  unused_at : (i : ℕ) → rows ≤ i → get_or (used_rows rows places) i unused ≡ unused
  unused_at i h =
      let n : length (used_rows rows places) ≡ rows = used_size rows places (omega arith) in
      get_or-eq_default (used_rows rows places) unused (omega arith)

  -- they do where reading left the places
  rest_holds : (i : ℕ) → rows ≤ i → i < 64 → places ≡ placed 64 in_place unused (used_rows rows places) → row_at places i ≡ unused
  rest_holds i a h e =
      ap (λ ps. row_at ps i) e ∙ (ap (λ (p : RowPlace). p.row) (get_d_tabulate 64 (λ i. in_place (get_or (used_rows rows places) i unused)) i (in_place unused) h)
      ∙ unused_at i a)

  -- and only there
  all_true : RestTrue rows places → places ≡ placed 64 in_place unused (used_rows rows places)
  all_true rest =
      sym (tabulate_get_d places 64 (in_place unused) size)
      ∙ tabulate_ext 64 (λ i. get_or places i (in_place unused)) (λ i. in_place (get_or (used_rows rows places) i unused)) (λ i l. by i l (dec_lt i rows))
    where
      by : (i : ℕ) → i < 64 → Dec (i < rows) → get_or places i (in_place unused) ≡ in_place (get_or (used_rows rows places) i unused)
      by i l (yes u) = ap in_place (sym (used_at rows places i (in_place unused) u))
      by i l (no n) = ap in_place (rest.holds i (omega arith) (omega arith) ∙ sym (unused_at i (omega arith)))

  -- what the code asks of each of them
  pub each_true : {r : Bool} → (r ≡ true) ↔ All (λ (p : RowPlace). p.row ≡ unused) (slice_range places rows 64)
      → (r ≡ true) ↔ (places ≡ placed 64 in_place unused (used_rows rows places))
  each_true told = (λ t. all_true (seen (told.0 t)), λ e. told.1 (kept e))
    where
      long : length (slice_range places rows 64) ≡ 64 - rows
      long = length-between places rows 64 (omega (arith, size))

      seen : All (λ (p : RowPlace). p.row ≡ unused) (slice_range places rows 64) → RestTrue rows places
      seen each = record {
        few = few;
        size = size;
        holds = λ i a b.
            let place : rows + (i - rows) ≡ i = omega arith in
            rw place at (ap (λ (p : RowPlace). p.row) (sym (get_or-between places rows 64 (i - rows) (in_place unused) (omega arith))) ∙ each (i - rows) (in_place unused) (omega (arith, long)));
      }

      kept : places ≡ placed 64 in_place unused (used_rows rows places) → All (λ (p : RowPlace). p.row ≡ unused) (slice_range places rows 64)
      kept e k d l =
          ap (λ (p : RowPlace). p.row) (get_or-between places rows 64 k d (omega (arith, long)) ∙ get_or_default places (rows + k) d (in_place unused) (omega (arith, long, size)))
          ∙ rest_holds (rows + k) (omega arith) (omega (arith, long)) e

-- ---- filling the unused places

-- places of which the last are written at once
part_size : {A : Type 0} (m k : ℕ) (xs ys : List A) → length ys ≡ k → m + k ≤ length xs → length (put_mid m k xs ys) ≡ length xs
part_size m k xs ys l h = grind (arith, list_places)

part_within : {A : Type 0} (m k : ℕ) (xs ys : List A) (d : A) (i : ℕ) → length ys ≡ k → m + k ≤ length xs → m ≤ i → i < m + k → get_or (put_mid m k xs ys) i d ≡ get_or ys (i - m) d
part_within m k xs ys d i l h a b = grind (arith, list_places)

-- the places were filled, and the used rows are as before
pub record Filled (rows : ℕ) (before places : List RowPlace) : Type 0 where
  pub rest : RestTrue rows places
  pub used : used_rows rows places ≡ used_rows rows before

pub filled_rest : (rows : ℕ) (places : List RowPlace) {rest : List RowPlace} → rows ≤ 64 → length places ≡ 64 → rest ≡ replicate (64 - rows) (in_place unused)
    → Filled rows places (put_mid rows (64 - rows) places rest)
filled_rest rows places {rest} h e r =
    let long : length rest ≡ 64 - rows = ap length r ∙ length-replicate (64 - rows) (in_place unused) in
    record {
      rest = record {
        few = h;
        size = part_size rows (64 - rows) places rest long (omega (arith, e)) ∙ e;
        holds = λ i a b.
            ap (λ (p : RowPlace). p.row) (part_within rows (64 - rows) places rest (in_place unused) i long (omega (arith, e)) a (omega arith)
            ∙ (ap (λ xs. get_or xs (i - rows) (in_place unused)) r ∙ replicate_at (64 - rows) (i - rows) (in_place unused)));
      };
      used = ap (map (λ (p : RowPlace). p.row)) (take-put_mid_below rows (64 - rows) places rest rows (omega arith) (omega (arith, e)));
    }

-- a formula in range whose unused places were filled is what reading its file gives
module _ (f : Formula) (places : List RowPlace) where
  filled_form : Formula
  filled_form = record { signals = f.signals; rows = f.rows; places = places }

  same_text : used_rows f.rows places ≡ rows_of f → written_rule filled_form ≡ written_rule f
  unfolding written_rule filled_form
  same_text e = ap (λ rs. rule_text f.signals f.rows rs) e

  pub read_filled : InRange f → Filled f.rows f.places places
      → parse_rule (written_rule f) ≡ accepted (record { signals = f.signals; rows = f.rows; places = places })
  unfolding filled_form
  read_filled v inv =
      ap parse_rule (sym (same_text inv.used)) ∙ rule_written_lem filled_form (record {
        in_range_lem = record {
          some_signals = v.some_signals;
          most_signals = v.most_signals;
          some_rows = v.some_rows;
          most_rows = v.most_rows;
          rows_in_range = rw inv.used v.rows_in_range;
        };
        unused_true = all_true f.rows places inv.rest.few inv.rest.size inv.rest;
      })

-- ---- whether a formula is as reading leaves it

-- one that is refused is not
pub refused_read : (f : Formula) {a : Outcome} {x : Refusal} → a ≡ rule_outcome f → a ≡ Refused x → (false ≡ true) ↔ Valid f
refused_read f e r = (λ q. clash (cc), λ v. refused_only r (e ∙ ap (outcome_of 1) (rule_written_lem f v)))

-- one in range is, where its unused places say so
pub accepted_read : (f : Formula) {r : Bool} → InRange f → (r ≡ true) ↔ (f.places ≡ placed 64 in_place unused (rows_of f)) → (r ≡ true) ↔ Valid f
accepted_read f i told = (λ q. record { in_range_lem = i; unused_true = told.0 q }, λ v. told.1 v.unused_true)
