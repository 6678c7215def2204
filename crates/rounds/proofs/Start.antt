-- What stands before the first round: no row is sure, every row is at its start, and nothing is recorded. Assumes nothing.
use Prim.Native.Nat.{ℕ, zero, suc, ◌+◌, ◌-◌, ◌*◌, ◌≤◌, ◌<◌}
use mathlib.Core.Path.{◌≡◌, refl, sym, ap, ap₂, ◌∙◌, fun_ext}
use mathlib.Core.Bool.{Bool, false, ◌&&◌}
use native.Mathlib.Omega.{arith}
use lib.Dec.{ltb}
use lib.ListN.{replicate}
use borrow.Author.Tests.{le-ltb}
use Rattle.tables.specs.Bit.{word_from}
use Rattle.tables.specs.Choice.{pick}
use Rattle.tables.specs.declared.row.Row.{Row}
use Rattle.tables.specs.declared.row.Row.TheVariants.{Constant, Signal, Unary, Binary}
use Rattle.tables.proofs.Places.{replicate_at}
use Rattle.meaning.specs.Satisfaction.{Table}
use Rattle.meaning.specs.Pattern.{Pattern, Pattern.now, Pattern.next, Pattern.connective, Pattern.temporal, pattern_of}
use Rattle.between_rounds.specs.Between.{every_operand, handed, Handed}
use Rattle.rounds.specs.Rounds.{Columns, start_for, start_of}
use Rattle.rounds.specs.Recorded.{RecordedFrom}

-- a row starts anew where nothing is sure
pattern_start : (p : Pattern) → handed p false false ≡ start_for p
pattern_start now = refl
pattern_start next = refl
pattern_start (connective f) = refl
pattern_start (temporal f w) = refl

row_start : (r : Row) → handed (pattern_of r) (every_operand (λ k. false) r) false ≡ start_of r
row_start (Constant c) = refl
row_start (Signal c s) = refl
row_start (Unary c a) = pattern_start (pattern_of (Unary c a))
row_start (Binary c a b) = pattern_start (pattern_of (Binary c a b))

pub all_start :
    (t : Table) (rows : ℕ) (sure left behind : ℕ → Bool) → ((k : ℕ) → sure k ≡ false) → ((k : ℕ) → left k ≡ false) → Handed t rows sure left behind
    → (k : ℕ) → k < rows → behind (suc k) ≡ start_of (t (suc k))
all_start t rows sure left behind none off handing k h =
    handing k h ∙ ap₂ (λ (f : ℕ → Bool) x. handed (pattern_of (t (suc k))) (every_operand f (t (suc k))) x) (fun_ext none) (off (suc k)) ∙ row_start (t (suc k))

-- ---- no cycle is recorded

word_none : (d i : ℕ) (f : ℕ → Bool) → ((c : ℕ) → i ≤ c → f c ≡ false) → word_from d i f ≡ 0
unfolding word_from
word_none zero i f off = refl
word_none (suc d) i f off = ap₂ (λ b x. pick b 1 0 + 2 * x) (off i (omega arith)) (word_none d (suc i) f (λ c h. off c (omega arith)))

pub nothing_recorded : (rows n m : ℕ) (columns : Columns) → RecordedFrom rows n n (replicate m 0) columns
nothing_recorded rows n m columns k w h l = replicate_at {A = ℕ} m (128 * w + k) 0 ∙ sym (word_none (64 - (n - 64 * w)) (64 * w + (n - 64 * w)) (λ c. ltb c n && columns c (suc k)) (λ c b. ap (λ x. x && columns c (suc k)) (le-ltb c n (omega arith))))
