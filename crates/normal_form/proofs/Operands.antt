-- Laws of rows by their operands. Assumes nothing.
use mathlib.Core.Path.{◌≡◌, refl, sym, ap, ap₂, ◌∙◌}
use mathlib.Core.Bool.{true, not, true≢false}
use mathlib.Core.Logic.{inl, inr}
use Prim.Native.Nat.{ℕ, ◌+◌, ◌*◌, ◌-◌, ◌/◌, ◌≤◌, ◌<◌}
use native.Mathlib.Omega.{arith}
use native.Mathlib.Decide.{dec_lt, ℕ_discrete}
use lib.ListN.{length, get_or, take, get_or-map, get_or-eq_default}
use lib.Seq.{get_or-take}
use borrow.Author.Tests.{eq-eqb, ne_eqb, lt-ltb, ltb-true}
use Rattle.tables.specs.Kind.{dual_of, first_number}
use Rattle.tables.specs.declared.row.ConstantKind.{ConstantKind}
use Rattle.tables.specs.declared.row.SignalKind.{SignalKind}
use Rattle.tables.specs.declared.row.UnaryKind.{UnaryKind}
use Rattle.tables.specs.declared.row.UnaryKind.TheVariants.{Not, Next, Always, Ever}
use Rattle.tables.specs.declared.row.BinaryKind.{BinaryKind}
use Rattle.tables.specs.declared.row.Row.{Row}
use Rattle.tables.specs.declared.row.Row.TheVariants.{Constant, Signal, Unary, Binary}
use Rattle.tables.specs.declared.row.RowPlace.{RowPlace}
use Rattle.tables.specs.declared.row.Formula.{Formula}
use Rattle.text.proofs.Laws.{ok_at}
use Rattle.tables.proofs.Choices.{pick_both}
use Rattle.tables.proofs.Duals.{dual_constant, dual_signal, dual_unary, dual_binary}
use Rattle.meaning.specs.Rows.{positive}
use Rattle.meaning.proofs.RowDuality.{positive_dual}
use Rattle.rule_row.specs.Row.{is_operand, in_range}
use Rattle.rule_file.specs.Rule.{in_place, unused}
use Rattle.rule_file.specs.Valid.{InRange}
use Rattle.rule_file.specs.Written.{rows_of}
use Rattle.normal_form.specs.declared.sign.Sign.{Sign}
use Rattle.normal_form.specs.declared.sign.Sign.TheVariants.{Plain, Negated}
use Rattle.normal_form.specs.Operand.{row_in, row_of, is_not, OperandOf, Below, with_operands}
use Rattle.normal_form.specs.Sign.{signed}

-- ---- `not` rows

not_kind : (c : UnaryKind) → not (positive c) ≡ true → c ≡ Not
not_kind Not e = refl
not_kind Next e = absurd (true≢false (sym e))
not_kind Always e = absurd (true≢false (sym e))
not_kind Ever e = absurd (true≢false (sym e))

pub not_row : (r : Row) → is_not r ≡ true → r ≡ Unary Not (first_number r)
not_row (Constant c) e = absurd (true≢false (sym e))
not_row (Signal c s) e = absurd (true≢false (sym e))
not_row (Unary c a) e = ap (λ k. Unary k a) (not_kind c e)
not_row (Binary c a b) e = absurd (true≢false (sym e))

pub not_operand : (r : Row) → is_not r ≡ true → OperandOf r (first_number r)
not_operand r e = rw (not_row r e) refl

pub not_only : (r : Row) → is_not r ≡ true → (x : ℕ) → OperandOf r x → x ≡ first_number r
not_only r e x o = rw (not_row r e) at o

-- ---- operands with other numbers

pub operand_mapped : (g : ℕ → ℕ) (r : Row) (x : ℕ) → OperandOf (with_operands g r) x → (a : ℕ) × OperandOf r a × (x ≡ g a)
operand_mapped g (Constant c) x h = absurd h
operand_mapped g (Signal c s) x h = absurd h
operand_mapped g (Unary c a) x h = (a, refl, h)
operand_mapped g (Binary c a b) x (inl h) = (a, inl refl, h)
operand_mapped g (Binary c a b) x (inr h) = (b, inr refl, h)

pub same_mapped : (g h : ℕ → ℕ) (r : Row) → ((a : ℕ) → OperandOf r a → g a ≡ h a) → with_operands g r ≡ with_operands h r
same_mapped g h (Constant c) e = refl
same_mapped g h (Signal c s) e = refl
same_mapped g h (Unary c a) e = ap (Unary c) (e a refl)
same_mapped g h (Binary c a b) e = ap₂ (Binary c) (e a (inl refl)) (e b (inr refl))

pub not_mapped : (g : ℕ → ℕ) (r : Row) → is_not (with_operands g r) ≡ is_not r
not_mapped g (Constant c) = refl
not_mapped g (Signal c s) = refl
not_mapped g (Unary c a) = refl
not_mapped g (Binary c a b) = refl

-- ---- a row and its dual

-- two rows with the same numbers, and both or neither `not`
pub data Alike : Row → Row → Type 0 where
  two_constants : {c d : ConstantKind} → Alike (Constant c) (Constant d)
  two_signals : {c d : SignalKind} {s : ℕ} → Alike (Signal c s) (Signal d s)
  two_unaries : {c d : UnaryKind} {a : ℕ} → is_not (Unary d a) ≡ is_not (Unary c a) → Alike (Unary c a) (Unary d a)
  two_binaries : {c d : BinaryKind} {a b : ℕ} → Alike (Binary c a b) (Binary d a b)

alike_self : (r : Row) → Alike r r
alike_self (Constant c) = two_constants
alike_self (Signal c s) = two_signals
alike_self (Unary c a) = two_unaries refl
alike_self (Binary c a b) = two_binaries

alike_dual : (r : Row) → Alike r (dual_of r)
alike_dual (Constant c) = rw (dual_constant c) two_constants
alike_dual (Signal c s) = rw (dual_signal c s) two_signals
alike_dual (Unary c a) = rw (dual_unary c a) (two_unaries (ap not (positive_dual c)))
alike_dual (Binary c a b) = rw (dual_binary c a b) two_binaries

pub alike_signed : (s : Sign) (r : Row) → Alike r (signed s r)
alike_signed Plain r = alike_self r
alike_signed Negated r = alike_dual r

pub alike_operand : {r t : Row} → Alike r t → (x : ℕ) → OperandOf t x → OperandOf r x
alike_operand two_constants x h = h
alike_operand two_signals x h = h
alike_operand (two_unaries e) x h = h
alike_operand two_binaries x h = h

pub alike_not : {r t : Row} → Alike r t → is_not t ≡ is_not r
alike_not two_constants = refl
alike_not two_signals = refl
alike_not (two_unaries e) = e
alike_not two_binaries = refl

-- ---- ranges

is_operand_lem : (n a : ℕ) → is_operand n a ≡ true → (1 ≤ a) × (a < n)
is_operand_lem n a e = by (ℕ_discrete a 0)
  where
    by : Dec (a ≡ 0) → (1 ≤ a) × (a < n)
    by (yes z) = absurd (true≢false (sym (rw (eq-eqb a 0 z) at e)))
    by (no z) = (omega arith, ltb-true a n (rw (ne_eqb a 0 z) at e))

operand_is : (n a : ℕ) → 1 ≤ a → a < n → is_operand n a ≡ true
operand_is n a p h = rw (ne_eqb a 0 (λ z. omega arith)) (lt-ltb a n h)

pub range_below : (signals n : ℕ) (r : Row) → in_range signals n r ≡ true → Below n r
range_below signals n (Constant c) e x h = absurd h
range_below signals n (Signal c s) e x h = absurd h
range_below signals n (Unary c a) e x h = rw h (is_operand_lem n a e)
range_below signals n (Binary c a b) e x (inl h) = rw h (is_operand_lem n a (pick_both (is_operand n a) (is_operand n b) e).0)
range_below signals n (Binary c a b) e x (inr h) = rw h (is_operand_lem n b (pick_both (is_operand n a) (is_operand n b) e).1)

-- signals as in a row that is in range, and operands below
pub range_mapped : {r t : Row} (signals k n : ℕ) (g : ℕ → ℕ) → Alike r t → in_range signals k r ≡ true → Below n (with_operands g t) → in_range signals n (with_operands g t) ≡ true
range_mapped signals k n g two_constants e b = refl
range_mapped signals k n g two_signals e b = e
range_mapped signals k n g (two_unaries {d = d} {a} q) e b = let w = b (g a) refl in operand_is n (g a) w.0 w.1
range_mapped signals k n g (two_binaries {a = a} {b = d}) e b =
    let w = b (g a) (inl refl) in let v = b (g d) (inr refl) in
    rw (operand_is n (g a) w.0 w.1) (operand_is n (g d) v.0 v.1)

-- what a formula in range says of its rows (a place behind the table would hold `true`)
pub row_in_range : (f : Formula) → InRange f → (k : ℕ) → 1 ≤ k → k ≤ f.rows → in_range f.signals k (row_of f k) ≡ true
row_in_range f ok k p q = rw (sym here) (by (dec_lt (k - 1) (length (rows_of f))))
  where
    here : get_or (rows_of f) (k - 1) unused ≡ row_of f k
    here = get_or-map (λ (p : RowPlace). p.row) (take f.rows f.places) (k - 1) (in_place unused) ∙ ap (λ (p : RowPlace). p.row) (get_or-take f.rows f.places (k - 1) (in_place unused) (omega arith))

    by : Dec (k - 1 < length (rows_of f)) → in_range f.signals k (get_or (rows_of f) (k - 1) unused) ≡ true
    by (yes h) = let e : 1 + (k - 1) ≡ k = omega arith in rw e at (ok_at (λ i r. in_range f.signals i r ≡ true) unused (rows_of f) 1 ok.rows_in_range (k - 1) h)
    by (no h) = let l : length (rows_of f) ≤ k - 1 = omega arith in rw (get_or-eq_default (rows_of f) unused l)

pub row_below : (f : Formula) → InRange f → (k : ℕ) → 1 ≤ k → k ≤ f.rows → Below k (row_of f k)
row_below f ok k p q = range_below f.signals k (row_of f k) (row_in_range f ok k p q)

-- operands below n are below more
pub below_more : {n m : ℕ} (r : Row) → n ≤ m → Below n r → Below m r
below_more r h b x o = let w = b x o in (w.0, omega (arith, w.1))

-- so do the operands that a pattern binds
pub unary_below : {n : ℕ} {r : Row} {c : UnaryKind} {a : ℕ} → Below n r → r ≡ Unary c a → (1 ≤ a) × (a < n)
unary_below {n} {a = a} below e = (rw e at below) a refl

pub binary_below : {n : ℕ} {r : Row} {c : BinaryKind} {a b : ℕ} → Below n r → r ≡ Binary c a b → (1 ≤ a) × (a < n) × (1 ≤ b) × (b < n)
binary_below {n} {a = a} {b} below e =
    let all = rw e at below in
    let first = all a (inl refl) in
    let second = all b (inr refl) in
    (first.0, first.1, second.0, second.1)

-- the row of a slot
pub slot_row_below : (f : Formula) → InRange f → (j : ℕ) → j < 2 * f.rows → Below (j / 2 + 1) (row_in f.places (j / 2))
slot_row_below f ok j h = let e : j / 2 + 1 - 1 ≡ j / 2 = omega arith in rw e at (row_below f ok (j / 2 + 1) (omega arith) (omega arith))

pub slot_row_fits : (f : Formula) → InRange f → (j : ℕ) → j < 2 * f.rows → Below 65 (row_in f.places (j / 2))
slot_row_fits f ok j h = let m = ok.most_rows in below_more (row_in f.places (j / 2)) (omega arith) (slot_row_below f ok j h)
