-- How a service on files goes on from what the readers say. Assumes nothing.
use Prim.Native.Nat.{ℕ, ◌≤◌}
use mathlib.Core.Path.{◌≡◌, refl, sym, ap, subst⁻¹, ◌∙◌}
use mathlib.Core.List.{List}
use native.Mathlib.Omega.{arith}
use Rattle.tables.specs.Refusal.{and_then}
use Rattle.tables.specs.declared.refusal.Refusal.{Refusal}
use Rattle.tables.specs.declared.refusal.Outcome.{Outcome}
use Rattle.tables.specs.declared.refusal.Outcome.TheVariants.{Accepted, Refused}
use Rattle.tables.specs.declared.row.Formula.{Formula}
use Rattle.tables.specs.declared.trace.Trace.{Trace}
use Rattle.tables.proofs.Outcomes.{refused_only}
use Rattle.text.specs.Result.{Result, outcome_of}
use Rattle.text.specs.Result.Result.{accepted, refused}
use Rattle.text.proofs.Answered.{refused_table}
use Rattle.rule_file.specs.Rule.{parse_rule, rule_answer}
use Rattle.rule_file.specs.declared.rule.RuleAnswer.{RuleAnswer}
use Rattle.rule_file.specs.Valid.{InRange as FormulaInRange}
use Rattle.rule_file.proofs.Rules.{rule_outcome_line, rule_valid}
use Rattle.take_file.specs.Take.{parse_take, take_answer}
use Rattle.take_file.specs.declared.take.TakeAnswer.{TakeAnswer}
use Rattle.take_file.specs.Valid.{InRange as TraceInRange}
use Rattle.take_file.proofs.Takes.{take_outcome_line, take_valid}
use Rattle.rule_and_take.specs.declared.Pair.{Pair}
use Rattle.rule_and_take.specs.File.{OnFile, OnPair, pair_read, joined, WasRead}

-- ---- one file
module _ {A : Type 0} (file : ℕ) (p : Result A) (turns : Refusal → Type 0) (goes : A → Type 0) where
  pub file_refused : {x : Refusal} → outcome_of file p ≡ Refused x → turns x → OnFile file p turns goes
  file_refused h = refused_table file p h (λ p x. turns x → OnFile file p turns goes) (λ e n z. z)

  pub file_read : {x : A} → p ≡ accepted x → goes x → OnFile file p turns goes
  file_read g y = subst⁻¹ (λ p. OnFile file p turns goes) g y

-- ---- a rule file and a take file

refused_first : (turns : Refusal → Type 0) (goes : Formula → Trace → Type 0) (p : Result Formula) (q : Result Trace) {x : Refusal}
    → and_then (outcome_of 1 p) (outcome_of 2 q) ≡ Refused x → turns x → OnPair p q turns goes
refused_first turns goes (accepted f) q h z = file_refused 2 q turns (goes f) h z
refused_first turns goes (refused e n) q h z = file_refused 1 (refused e n) turns (λ f. OnFile 2 q turns (goes f)) h z

both_read : (p : Result Formula) (q : Result Trace) → and_then (outcome_of 1 p) (outcome_of 2 q) ≡ Accepted
    → (p ≡ accepted (pair_read p q).formula) × (q ≡ accepted (pair_read p q).trace)
both_read (accepted f) (accepted t) h = (refl, refl)
both_read (accepted f) (refused e n) h = refused_only refl h
both_read (refused e n) q h = refused_only refl h

pub pair_is : (p : Result Formula) (q : Result Trace) (a : RuleAnswer) (b : TakeAnswer) (pair : Pair) → a ≡ rule_answer p → b ≡ take_answer q
    → pair ≡ joined a b → pair ≡ pair_read p q
pair_is p q a b pair e g h = rw (h, e, g) refl

-- by the answer of the code
module _ (p : Result Formula) (q : Result Trace) (a : Pair) (e : a ≡ pair_read p q) where
  said : {o : Outcome} → a.outcome ≡ o → and_then (outcome_of 1 p) (outcome_of 2 q) ≡ o
  said h = sym (ap (λ (b : Pair). b.outcome) e) ∙ h

  pub rule_is_read : a.outcome ≡ Accepted → p ≡ accepted a.formula
  rule_is_read h = (both_read p q (said h)).0 ∙ ap (λ (b : Pair). accepted b.formula) (sym e)

  pub take_is_read : a.outcome ≡ Accepted → q ≡ accepted a.trace
  take_is_read h = (both_read p q (said h)).1 ∙ ap (λ (b : Pair). accepted b.trace) (sym e)

  module _ (turns : Refusal → Type 0) (goes : Formula → Trace → Type 0) where
    pub pair_refused : {x : Refusal} → a.outcome ≡ Refused x → turns x → OnPair p q turns goes
    pair_refused h = refused_first turns goes p q (said h)

    pub pair_read_lem : a.outcome ≡ Accepted → goes a.formula a.trace → OnPair p q turns goes
    pair_read_lem h y = file_read 1 p turns _ (rule_is_read h) (file_read 2 q turns _ (take_is_read h) y)

-- by the bytes
module _ (rule take : List ℕ) (a : Pair) (e : a ≡ pair_read (parse_rule rule) (parse_take take)) where
  read_range : a.outcome ≡ Accepted → FormulaInRange a.formula × TraceInRange a.trace
  read_range h =
      let p = parse_rule rule in
      let q = parse_take take in
      ((rule_valid rule _ (rule_is_read p q a e h)).in_range_lem, (take_valid take _ (take_is_read p q a e h)).range)

  read_line : (x : Refusal) → a.outcome ≡ Refused x → x.line ≤ 261
  read_line x h = by (outcome_of 1 (parse_rule rule)) refl (said (parse_rule rule) (parse_take take) a e h)
    where
      by : (o : Outcome) → outcome_of 1 (parse_rule rule) ≡ o → and_then o (outcome_of 2 (parse_take take)) ≡ Refused x → x.line ≤ 261
      by Accepted r g = take_outcome_line take x g
      by (Refused y) r g = omega (arith, rule_outcome_line rule x (r ∙ g))

module _ (a : Pair) (was : WasRead a) where
  -- tables that were read are in range
  pub pair_range : a.outcome ≡ Accepted → FormulaInRange a.formula × TraceInRange a.trace
  pair_range = read_range was.rule was.take a was.is_read

  -- a refusal's line has three digits at most
  pub pair_line : (x : Refusal) → a.outcome ≡ Refused x → x.line ≤ 261
  pair_line = read_line was.rule was.take a was.is_read
