-- Lists of calls to a run: each verdict is the one for the take file of the cycles accepted so far, and a call for it changes nothing.
-- Assumes nothing.
use Prim.Native.Nat.{ℕ}
use mathlib.Core.Bool.{Bool, true, false}
use mathlib.Core.List.{List, [], ◌∷◌, ◌++◌}
use mathlib.Core.Logic.{◌↔◌}
use mathlib.Core.Path.{◌≡◌, refl, sym, ap, ◌∙◌, subst}
use native.Mathlib.Omega.{arith}
use lib.Dec.{eqb, ltb}
use lib.ListN.{length}
use Rattle.tables.specs.Choice.{pick}
use Rattle.tables.specs.Refusal.{and_then, call_refused, number, numbered, on_outcome}
use Rattle.tables.specs.declared.refusal.Outcome.{Outcome}
use Rattle.tables.specs.declared.refusal.Outcome.TheVariants.{Accepted}
use Rattle.tables.specs.declared.row.Formula.{Formula}
use Rattle.tables.specs.declared.refusal.Refusal.{Refusal}
use Rattle.text.specs.Digits.{are_digits}
use Rattle.text.specs.Result.Result.{accepted}
use Rattle.rule_file.specs.Rule.{parse_rule}
use Rattle.judging.specs.declared.verdict.Answer.{Answer}
use Rattle.run.specs.Calls.{Answered, Call, Call.cycle, Call.verdict, Called, Called.none, Called.call, accepted_cycles, handed_over, without_verdicts}
use Rattle.run.specs.Cycles.{Led, cycle_outcome, cycles_after, cycles_after_all}
use Rattle.run.specs.Run.{LedTo}
use Rattle.run.specs.Verdict.{VerdictSoFar}

-- ---- what calls lead to, and one cycle's call more

after_more : (signals : ℕ) (cs : List (List Bool)) (calls : List (List ℕ)) (digits : List ℕ)
    → cycles_after_all signals cs (calls ++ (digits ∷ [])) ≡ cycles_after signals (cycles_after_all signals cs calls) digits
unfolding cycles_after_all
after_more signals cs [] digits = refl
after_more signals cs (d ∷ calls) digits = after_more signals (cycles_after signals cs d) calls digits

pub led_more : (f : Formula) (cs : List (List Bool)) → Led f cs → (digits : List ℕ) → Led f (cycles_after f.signals cs digits)
led_more f cs l digits =
    record {
      rule = l.rule;
      read = l.read;
      calls = l.calls ++ (digits ∷ []);
      are = ap (λ x. cycles_after f.signals x digits) l.are ∙ sym (after_more f.signals [] l.calls digits);
    }

pub led_begun : (rule : List ℕ) (f : Formula) → parse_rule rule ≡ accepted f → Led f []
unfolding cycles_after_all
led_begun rule f e = record { rule = rule; read = e; calls = []; are = refl }

-- ---- no cycle of a run is refused with 4

abbrev told : Outcome → ℕ
told o = on_outcome o (λ (why : Refusal). number why.reason) 0

none_is_four : (a b c : Bool)
    → told (and_then (pick a Accepted (call_refused (numbered 2))) (and_then (pick b Accepted (call_refused (numbered 7))) (pick c Accepted (call_refused (numbered 11))))) ≡ 4 → ⊥
none_is_four false b c e = omega (arith, e)
none_is_four true false c e = omega (arith, e)
none_is_four true true false e = omega (arith, e)
none_is_four true true true e = omega (arith, e)

no_four : (signals taken : ℕ) (digits : List ℕ) → cycle_outcome signals taken digits ≡ call_refused (numbered 4) → ⊥
no_four signals taken digits e = none_is_four (are_digits digits) (eqb (length digits) signals) (ltb taken 256) (ap told e)

module _ {S : Type 0} (state_of : Formula → List (List Bool) → S) where
  -- ---- behind any list of calls stands the state of the cycles accepted

  pub record At (f : Formula) (cs : List (List Bool)) (s : S) : Type 0 where
    pub led : Led f cs
    pub is : s ≡ state_of f cs

  at_behind : (f : Formula) (cs : List (List Bool)) {s t : S} (calls : List Call) → At f cs s → Called state_of s calls t
      → At f (cycles_after_all f.signals cs (handed_over calls)) t
  unfolding cycles_after_all
  at_behind f cs [] a none = a
  at_behind f cs (cycle digits o ∷ calls) a (call x rest) =
      at_behind f (cycles_after f.signals cs digits) calls (record { led = led_more f cs a.led digits; is = (x.told.by_calls f cs a.led a.is).1 }) rest
  at_behind f cs (verdict v ∷ calls) a (call x rest) = at_behind f cs calls (record { led = a.led; is = x.unaltered ∙ a.is }) rest

  -- a list of calls goes through a state between any two parts
  pub record Parted (s : S) (before behind : List Call) (t : S) : Type 0 where
    pub between : S
    pub first : Called state_of s before between
    pub then : Called state_of between behind t

  part : {s t : S} (before behind : List Call) → Called state_of s (before ++ behind) t → Parted s before behind t
  part [] behind x = record { between = _; first = none; then = x }
  part {s = s} {t = t} (c ∷ before) behind (call {between = between} x rest) =
      let p = part {s = between} before behind rest in
      record { between = p.between; first = call x p.first; then = p.then }

  -- ---- a run begins with a rule
  module _ (rule : List ℕ) (f : Formula) (read : parse_rule rule ≡ accepted f) where
    begun_at : At f [] (state_of f [])
    begun_at = record { led = led_begun rule f read; is = refl }

    -- THE RUN BEHIND ANY LIST OF CALLS IS THAT OF THE CYCLES ACCEPTED
    pub run_behind : {t : S} (calls : List Call) → Called state_of (state_of f []) calls t → t ≡ state_of f (accepted_cycles f calls)
    run_behind calls x = (at_behind f [] calls begun_at x).is

    pub behind_led : {t : S} (calls : List Call) → Called state_of (state_of f []) calls t → Led f (accepted_cycles f calls)
    behind_led calls x = (at_behind f [] calls begun_at x).led

    -- EACH VERDICT IS THE ONE FOR THE TAKE FILE OF THE CYCLES ACCEPTED SO FAR, whatever calls come before and behind
    pub every_verdict : {t : S} (before behind : List Call) (a : Answer) → Called state_of (state_of f []) (before ++ (verdict a ∷ behind)) t → VerdictSoFar f (accepted_cycles f before) a
    every_verdict before behind a x =
        let p = part before (verdict a ∷ behind) x in
        let s = at_behind f [] before begun_at p.first in
        first_verdict p.then (accepted_cycles f before) s
      where
        first_verdict : {s t : S} → Called state_of s (verdict a ∷ behind) t → (cs : List (List Bool)) → At f cs s → VerdictSoFar f cs a
        first_verdict (call x rest) cs s = x.told.by_calls f cs s.led s.is

    -- EACH CYCLE IS TOLD WHAT ITS DIGITS AND THE CYCLES SO FAR SAY
    pub every_cycle_lem : {t : S} (before behind : List Call) (digits : List ℕ) (o : Outcome) → Called state_of (state_of f []) (before ++ (cycle digits o ∷ behind)) t
        → o ≡ cycle_outcome f.signals (length (accepted_cycles f before)) digits
    every_cycle_lem before behind digits o x =
        let p = part before (cycle digits o ∷ behind) x in
        let s = at_behind f [] before begun_at p.first in
        first_cycle p.then (accepted_cycles f before) s
      where
        first_cycle : {s t : S} → Called state_of s (cycle digits o ∷ behind) t → (cs : List (List Bool)) → At f cs s → o ≡ cycle_outcome f.signals (length cs) digits
        first_cycle (call x rest) cs s = (x.told.by_calls f cs s.led s.is).0

  -- A CALL FOR THE VERDICT CHANGES NOTHING: the same list without these calls, with the same answers, leads from any state to the same
  pub as_if_nobody_called : {s t : S} (calls : List Call) → Called state_of s calls t → Called state_of s (without_verdicts calls) t
  as_if_nobody_called [] none = none
  as_if_nobody_called {s = s} {t = t} (cycle digits o ∷ calls) (call {between = between} x rest) =
      call x (as_if_nobody_called {s = between} calls rest)
  as_if_nobody_called {s = s} {t = t} (verdict a ∷ calls) (call {between = between} x rest) =
      subst (λ y. Called state_of y (without_verdicts calls) t) x.unaltered (as_if_nobody_called {s = between} calls rest)

  -- 4 EXACTLY WHERE NO CALLS LEAD TO THE STATE: no cycle of a run is refused so
  pub four_exactly : (s t : S) (digits : List ℕ) (o : Outcome) → Answered state_of s (cycle digits o) t
      → (o ≡ call_refused (numbered 4)) ↔ (¬ LedTo (λ f cs. s ≡ state_of f cs))
  four_exactly s t digits o x =
      (λ e l. no_four l.formula.signals (length l.cycles) digits (sym (x.told.by_calls l.formula l.cycles l.led l.is).0 ∙ e), x.told.no_calls)
