-- The contracts that name an answer of the service on tables leave one number, and one output. Assumes nothing.
use Prim.Native.Nat.{ℕ}
use mathlib.Core.Path.{◌≡◌, sym, ap, ◌∙◌}
use mathlib.Core.List.{List}
use Rattle.tables.specs.declared.refusal.Outcome.{Outcome}
use Rattle.tables.specs.declared.row.Formula.{Formula}
use Rattle.tables.specs.declared.trace.Activation.{Activation}
use Rattle.tables.specs.declared.trace.Trace.{Trace}
use Rattle.answer_code.specs.Code.{bytes_code, check_code, judge_code, maker_code}
use Rattle.citronhelm.specs.Service.{CheckedAs, JudgedAs, MadeAs, MeasuredAs, PrintedAs, SimulatedAs}

pub judged_once : {o : Outcome} {f : Formula} {t : Trace} {r s : ℕ} → JudgedAs o f t r → JudgedAs o f t s → r ≡ s
judged_once x y = x.coded ∙ ap judge_code (y.answers.only x.answer x.answers.so) ∙ sym y.coded

pub made_once : {f : Formula} {t : Trace} {before after other : List ℕ} {r s : ℕ} → MadeAs f t before after r → MadeAs f t before other s → (r ≡ s) × (after ≡ other)
made_once {after = after} x y =
    let e = y.makes.only after x.answer x.makes.so in
    (x.coded ∙ ap maker_code e.1 ∙ sym y.coded, e.0)

pub measured_once : {f : Formula} {t : Trace} {r s : ℕ} → MeasuredAs f t r → MeasuredAs f t s → r ≡ s
measured_once x y = x.coded ∙ ap bytes_code (y.measures.only x.answer x.measures.so) ∙ sym y.coded

pub checked_once : {f : Formula} {t : Trace} {a : Activation} {r s : ℕ} → CheckedAs f t a r → CheckedAs f t a s → r ≡ s
checked_once x y = x.coded ∙ ap check_code (y.answers.only x.answer x.answers.so) ∙ sym y.coded

pub printed_once : {rule take before after other : List ℕ} {r s : ℕ} → PrintedAs rule take before after r → PrintedAs rule take before other s → (r ≡ s) × (after ≡ other)
printed_once {after = after} x y =
    let e = y.prints.only after x.answer x.prints.so in
    (x.coded ∙ ap bytes_code e.1 ∙ sym y.coded, e.0)

pub simulated_once : {circuit inputs latches before after other : List ℕ} {r s : ℕ} → SimulatedAs circuit inputs latches before after r
    → SimulatedAs circuit inputs latches before other s → (r ≡ s) × (after ≡ other)
simulated_once {after = after} x y =
    let e = y.simulates.only after x.answer x.simulates.so in
    (x.coded ∙ ap bytes_code e.1 ∙ sym y.coded, e.0)
