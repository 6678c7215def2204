-- An answer is read off its code, as the header's inline functions do it. Assumes nothing.
use Prim.Native.Nat.{ℕ, ◌/◌, ◌%◌, ◌≤◌, ◌<◌}
use mathlib.Core.Path.{◌≡◌, refl, sym, ap, ◌∙◌}
use native.Mathlib.Nat.{mod-eq_of_lt}
use native.Mathlib.Omega.{arith}
use lib.Dec.{eqb}
use borrow.Author.Tests.{ne_eqb}
use Rattle.tables.specs.Choice.{pick}
use Rattle.tables.specs.Refusal.{number}
use Rattle.tables.specs.declared.refusal.Reason.{Reason}
use Rattle.tables.specs.declared.refusal.Refusal.{Refusal}
use Rattle.tables.proofs.Numbers.{number_listed, number_once}
use Rattle.normal_form.specs.declared.sign.Sign.TheVariants.{Plain, Negated}
use Rattle.judging.specs.declared.verdict.Verdict.{Verdict}
use Rattle.judging.specs.declared.verdict.Verdict.TheVariants.{Holds, Breaks, Kept, Broken, Open}
use Rattle.checking.specs.declared.finding.Finding.{Finding}
use Rattle.checking.specs.declared.finding.Finding.TheVariants.{Root, Failed, Starved, Pending, Passes}
use Rattle.answer_code.specs.Code.{finding_code, refusal_code, sign_of, verdict_code}

number_below : (reason : Reason) → number reason < 256
number_below reason = omega (arith, (number_listed reason).1)

-- the highest bit: a refusal is told apart from each other answer
pub code_refused : (why : Refusal) → 9223372036854775808 ≤ refusal_code why
code_refused why = omega arith

-- the number of 01's list, the file and the line, each by its own inline function
module _ (why : Refusal) (file : why.file < 256) (line : why.line < 4294967296) where
  pub code_reason : refusal_code why % 256 ≡ number why.reason
  code_reason = omega (arith, number_below why.reason)

  pub code_file : refusal_code why / 256 % 256 ≡ why.file
  code_file = omega (arith, number_below why.reason)

  pub code_line : refusal_code why / 65536 % 4294967296 ≡ why.line
  code_line = omega (arith, number_below why.reason)

-- NO TWO REFUSALS HAVE ONE NUMBER
pub refusal_once :
    (a b : Refusal) → a.file < 256 → b.file < 256 → a.line < 4294967296 → b.line < 4294967296 → refusal_code a ≡ refusal_code b → a ≡ b
refusal_once a b f g l m e =
    let reasons : a.reason ≡ b.reason = number_once a.reason b.reason (sym (code_reason a f l) ∙ (ap (λ n. n % 256) e ∙ code_reason b g m)) in
    let files : a.file ≡ b.file = sym (code_file a f l) ∙ (ap (λ n. n / 256 % 256) e ∙ code_file b g m) in
    let lines : a.line ≡ b.line = sym (code_line a f l) ∙ (ap (λ n. n / 65536 % 4294967296) e ∙ code_line b g m) in
    same reasons files lines
  where
    same : {r s : Reason} {f g l m : ℕ} → r ≡ s → f ≡ g → l ≡ m → ◌≡◌ {A = Refusal} (record { reason = r; file = f; line = l }) (record { reason = s; file = g; line = m })
    same p q w = rw (p, q, w) refl

-- ---- verdicts

-- a verdict is not taken for a refusal
pub verdict_below : (v : Verdict) → verdict_code v < 9223372036854775808
verdict_below Holds = omega arith
verdict_below Breaks = omega arith
verdict_below Kept = omega arith
verdict_below Broken = omega arith
verdict_below Open = omega arith

-- the verdict of a number
verdict_at : ℕ → Verdict
verdict_at n =
    pick (eqb n 1) Holds
    (pick (eqb n 2) Breaks
    (pick (eqb n 3) Kept
    (pick (eqb n 4) Broken Open)))

verdict_at_lem : (v : Verdict) → verdict_at (verdict_code v) ≡ v
unfolding verdict_at
verdict_at_lem Holds = refl
verdict_at_lem Breaks = refl
verdict_at_lem Kept = refl
verdict_at_lem Broken = refl
verdict_at_lem Open = refl

-- NO TWO VERDICTS HAVE ONE NUMBER
pub verdict_once : (u v : Verdict) → verdict_code u ≡ verdict_code v → u ≡ v
verdict_once u v e = sym (verdict_at_lem u) ∙ (ap verdict_at e ∙ verdict_at_lem v)

-- ---- findings

-- a finding's row and cycle fit the bytes that they have in memory
abbrev pub Small : Finding → Type 0
Small Root = Unit {0}
Small (Failed row cycle) = (row < 256) × (cycle < 65536)
Small (Starved row) = row < 256
Small (Pending row) = row < 256
Small Passes = Unit {0}

-- no finding is taken for a refusal
pub finding_below : (x : Finding) → Small x → finding_code x < 9223372036854775808
finding_below Root h = omega arith
finding_below (Failed row cycle) h = omega arith
finding_below (Starved row) h = omega arith
finding_below (Pending row) h = omega arith
finding_below Passes h = omega arith

module _ (row cycle : ℕ) (r : row < 256) (c : cycle < 65536) where
  pub failed_number : finding_code (Failed row cycle) % 256 ≡ 2
  failed_number = omega arith

  pub failed_row : finding_code (Failed row cycle) / 256 % 256 ≡ row
  failed_row = omega arith

  pub failed_cycle : finding_code (Failed row cycle) / 65536 ≡ cycle
  failed_cycle = omega arith

module _ (row : ℕ) (r : row < 256) where
  pub starved_number : finding_code (Starved row) % 256 ≡ 3
  starved_number = omega arith

  pub starved_row : finding_code (Starved row) / 256 ≡ row
  starved_row = omega arith

  pub pending_number : finding_code (Pending row) % 256 ≡ 4
  pending_number = omega arith

  pub pending_row : finding_code (Pending row) / 256 ≡ row
  pending_row = omega arith

small_row : (row : ℕ) → row < 256 → {n : ℕ} → n ≡ row → n % 256 ≡ row
small_row row h e = rw e (mod-eq_of_lt h)

-- the finding of its number, row and cycle
finding_at : ℕ → ℕ → ℕ → Finding
finding_at n row cycle =
    pick (eqb n 1) Root
    (pick (eqb n 2) (Failed row cycle)
    (pick (eqb n 3) (Starved row)
    (pick (eqb n 4) (Pending row) Passes)))

-- the finding of a code: citronhelm_finding, citronhelm_row and citronhelm_cycle of the header take these three from it
finding_in : ℕ → Finding
finding_in n = finding_at (n % 256) (n / 256 % 256) (n / 65536)

finding_at_lem : {n m row r cycle c : ℕ} → n ≡ m → row ≡ r → cycle ≡ c → finding_at n row cycle ≡ finding_at m r c
finding_at_lem p q s = rw (p, q, s) refl

finding_in_lem : (x : Finding) → Small x → finding_in (finding_code x) ≡ x
unfolding finding_in finding_at
finding_in_lem Root h = refl
finding_in_lem (Failed row cycle) h = finding_at_lem (failed_number row cycle h.0 h.1) (failed_row row cycle h.0 h.1) (failed_cycle row cycle h.0 h.1)
finding_in_lem (Starved row) h = finding_at_lem {c = 0} (starved_number row h) (small_row row h (starved_row row h)) (omega arith)
finding_in_lem (Pending row) h = finding_at_lem {c = 0} (pending_number row h) (small_row row h (pending_row row h)) (omega arith)
finding_in_lem Passes h = refl

-- NO TWO FINDINGS HAVE ONE NUMBER, row and cycle included
pub finding_once : (x y : Finding) → Small x → Small y → finding_code x ≡ finding_code y → x ≡ y
finding_once x y h l e = sym (finding_in_lem x h) ∙ (ap finding_in e ∙ finding_in_lem y l)

-- ---- which normal form is asked for

pub sign_plain : sign_of 0 ≡ Plain
sign_plain = refl

pub sign_negated : (n : ℕ) → 0 < n → sign_of n ≡ Negated
sign_negated n h = let differs : (n ≡ 0 → ⊥) = λ e. omega arith in rw (ne_eqb n 0 differs) refl
