-- Calls lead to a rule and cycles exactly where the rule can be read and the cycles are at most 256, each with a digit for each signal.
-- Assumes nothing.
use Prim.Native.Nat.{ℕ, suc, ◌+◌, ◌≤◌, ◌<◌}
use mathlib.Core.Bool.{Bool, true, false}
use mathlib.Core.List.{List, [], ◌∷◌, ◌++◌, map, append_assoc, append-nil}
use mathlib.Core.Path.{◌≡◌, refl, sym, ap, ◌∙◌, subst}
use native.Mathlib.Omega.{arith}
use native.Mathlib.Decide.{ℕ_discrete}
use lib.Dec.{eqb, ltb}
use lib.ListN.{length, get_or, length-append, length-map}
use lib.Seq.{get_or-append_seam}
use borrow.Author.Tests.{eq-eqb, lt-ltb, eqb-true, ltb-true}
use Rattle.tables.specs.Choice.{pick}
use Rattle.tables.specs.Refusal.{and_then, call_refused, numbered, on_outcome}
use Rattle.tables.specs.declared.refusal.Outcome.{Outcome}
use Rattle.tables.specs.declared.refusal.Outcome.TheVariants.{Accepted, Refused}
use Rattle.tables.specs.declared.row.Formula.{Formula}
use Rattle.tables.proofs.Outcomes.{both_accept, test_accepts}
use Rattle.tables.proofs.Places.{snoc_other}
use Rattle.text.specs.Digits.{are_digits, digits_in}
use Rattle.text.specs.Written.{digits_text}
use Rattle.text.proofs.Laws.{are_written, in_written, text_length}
use Rattle.rule_file.specs.Valid.{Valid}
use Rattle.rule_file.specs.Written.{written_rule}
use Rattle.rule_file.proofs.Rules.{rule_valid, rule_written_lem}
use Rattle.run.specs.Cycles.{Led, cycle_outcome, cycles_after, cycles_after_all}

-- what an accepted cycle is
pub record Fine (signals taken : ℕ) (digits : List ℕ) : Type 0 where
  pub digits_only : are_digits digits ≡ true
  pub width : length digits ≡ signals
  pub room : taken < 256

module _ (signals taken : ℕ) (digits : List ℕ) where
  pub accepted_fine : cycle_outcome signals taken digits ≡ Accepted → Fine signals taken digits
  accepted_fine e =
      let a = both_accept _ _ e in
      let b = both_accept _ _ a.1 in
      record {
        digits_only = test_accepts (numbered 2) (are_digits digits) a.0;
        width = eqb-true (length digits) signals (test_accepts (numbered 7) (eqb (length digits) signals) b.0);
        room = ltb-true taken 256 (test_accepts (numbered 11) (ltb taken 256) b.1);
      }

  pub fine_accepted : Fine signals taken digits → cycle_outcome signals taken digits ≡ Accepted
  fine_accepted x = rw (x.digits_only, eq-eqb (length digits) signals x.width, lt-ltb taken 256 x.room)

-- so many cycles, each with a digit for each signal
pub record Whole (signals : ℕ) (cs : List (List Bool)) : Type 0 where
  pub most : length cs ≤ 256
  pub widths : (c : ℕ) → c < length cs → length (get_or cs c []) ≡ signals

module _ (signals : ℕ) where
  -- ---- what calls lead to is whole

  whole_more : (cs : List (List Bool)) (ds : List Bool) → Whole signals cs → length cs < 256 → length ds ≡ signals → Whole signals (cs ++ (ds ∷ []))
  whole_more cs ds w h e =
      let size : length (cs ++ (ds ∷ [])) ≡ length cs + 1 = length-append cs (ds ∷ []) in
      record { most = omega (arith, size); widths = λ c l. by c (omega (arith, size)) (ℕ_discrete c (length cs)) }
    where
      by : (c : ℕ) → c < length cs + 1 → Dec (c ≡ length cs) → length (get_or (cs ++ (ds ∷ [])) c []) ≡ signals
      by c l (yes q) = rw (q, get_or-append_seam cs ds [] []) e
      by c l (no n) = rw (snoc_other cs ds [] c n) (w.widths c (omega arith))

  whole_after : (cs : List (List Bool)) (digits : List ℕ) → Whole signals cs → Whole signals (cycles_after signals cs digits)
  unfolding cycles_after
  whole_after cs digits w = by (cycle_outcome signals (length cs) digits) refl
    where
      by : (o : Outcome) → cycle_outcome signals (length cs) digits ≡ o → Whole signals (on_outcome o (λ why. cs) (cs ++ (digits_in digits ∷ [])))
      by (Refused why) e = w
      by Accepted e =
          let x = accepted_fine signals (length cs) digits e in
          whole_more cs (digits_in digits) w x.room (length-map digits (λ d. eqb d 49) ∙ x.width)

  whole_all : (cs : List (List Bool)) (calls : List (List ℕ)) → Whole signals cs → Whole signals (cycles_after_all signals cs calls)
  unfolding cycles_after_all
  whole_all cs [] w = w
  whole_all cs (digits ∷ rest) w = whole_all (cycles_after signals cs digits) rest (whole_after cs digits w)

  whole_none : Whole signals []
  whole_none = record { most = omega arith; widths = λ c h. absurd (omega arith) }

  -- ---- and what is whole, calls lead to: each cycle is taken from its own digits

  taken : (cs : List (List Bool)) (ds : List Bool) → length cs < 256 → length ds ≡ signals → cycles_after signals cs (digits_text ds) ≡ cs ++ (ds ∷ [])
  unfolding cycles_after
  taken cs ds h e =
      let fine : Fine signals (length cs) (digits_text ds) = record { digits_only = are_written ds; width = text_length ds ∙ e; room = h } in
      rw (fine_accepted signals (length cs) (digits_text ds) fine) (ap (λ x. cs ++ (x ∷ [])) (in_written ds))

  taken_all : (done rest : List (List Bool)) → length done + length rest ≤ 256 → ((c : ℕ) → c < length rest → length (get_or rest c []) ≡ signals)
      → cycles_after_all signals done (map digits_text rest) ≡ done ++ rest
  unfolding cycles_after_all
  taken_all done [] h w = sym (append-nil done)
  taken_all done (ds ∷ rest) h w =
      let size : length (done ++ (ds ∷ [])) ≡ length done + 1 = length-append done (ds ∷ []) in
      ap (λ x. cycles_after_all signals x (map digits_text rest)) (taken done ds (omega arith) (w 0 (omega arith)))
      ∙ (taken_all (done ++ (ds ∷ [])) rest (omega (arith, size)) (λ c l. w (suc c) (omega arith)) ∙ append_assoc done (ds ∷ []) rest)

-- CALLS LEAD TO A RULE AND CYCLES EXACTLY WHERE THE RULE CAN BE READ AND THE CYCLES ARE WHOLE
module _ (f : Formula) (cs : List (List Bool)) where
  pub led_valid : Led f cs → Valid f
  led_valid l = rule_valid l.rule f l.read

  pub led_whole : Led f cs → Whole f.signals cs
  led_whole l = subst (Whole f.signals) (sym l.are) (whole_all f.signals [] l.calls (whole_none f.signals))

  pub led_of : Valid f → Whole f.signals cs → Led f cs
  led_of v w =
      record {
        rule = written_rule f;
        read = rule_written_lem f v;
        calls = map digits_text cs;
        are = sym (taken_all f.signals [] cs (omega (arith, w.most)) w.widths);
      }
