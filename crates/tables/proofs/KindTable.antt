-- Laws of the table of kinds: each is one test, computed over the whole table. Assumes nothing.
use mathlib.Core.Path.{◌≡◌, refl}
use mathlib.Core.Bool.{Bool, true, false, ◌&&◌}
use Prim.Native.Nat.{ℕ, zero, suc, ◌≤◌, ◌<◌}
use native.Mathlib.Omega.{arith}
use native.Mathlib.Decide.{dec_lt}
use lib.ListN.{length}
use lib.Dec.{eqb, leb}
use borrow.Author.Tests.{eqb-true, leb-true}
use Rattle.tables.specs.Kind.{kinds, kind_count, kind_at, word_of, place_of, with_numbers, numbers_in, first_number, second_number, constant_place, signal_place, unary_place, binary_place}
use Rattle.tables.specs.declared.row.ConstantKind.{ConstantKind}
use Rattle.tables.specs.declared.row.ConstantKind.TheVariants.{True, False}
use Rattle.tables.specs.declared.row.SignalKind.{SignalKind}
use Rattle.tables.specs.declared.row.SignalKind.TheVariants.{Sig, Nsig}
use Rattle.tables.specs.declared.row.UnaryKind.{UnaryKind}
use Rattle.tables.specs.declared.row.UnaryKind.TheVariants.{Not, Next, Always, Ever}
use Rattle.tables.specs.declared.row.BinaryKind.{BinaryKind}
use Rattle.tables.specs.declared.row.BinaryKind.TheVariants.{And, Or, Weak, Until, Release, Srelease}
use Rattle.tables.specs.declared.row.Row.{Row}
use Rattle.tables.specs.declared.row.Row.TheVariants.{Constant, Signal, Unary, Binary}

-- a test passes at each number below n
abbrev pub all_below : (ℕ → Bool) → ℕ → Bool
all_below f zero = true
all_below f (suc n) = f n && all_below f n

both : (a b : Bool) → (a && b) ≡ true → (a ≡ true) × (b ≡ true)
both true b e = (refl, e)
both false b e = let z : ◌≡◌ {A = ℕ} 0 1 = cc in absurd (omega arith)

pub below : (f : ℕ → Bool) (n : ℕ) → all_below f n ≡ true → (k : ℕ) → k < n → f k ≡ true
below f zero t k h = absurd (omega arith)
below f (suc n) t k h = let w = both (f n) (all_below f n) t in by (dec_lt k n) w.0 (below f n w.1 k)
  where
    by : Dec (k < n) → f n ≡ true → (k < n → f k ≡ true) → f k ≡ true
    by (yes l) e r = r l
    by (no g) e r = let q : n ≡ k = omega arith in rw q at e

-- the table has a place for each kind
pub kind_count_lem : length kinds ≡ kind_count
unfolding kinds
kind_count_lem = refl

-- THE TABLE OF PARTNERS IS ITS OWN INVERSE
pub partner_twice : (k : ℕ) → k < kind_count → (kind_at (kind_at k).partner).partner ≡ k
unfolding kind_at kinds
partner_twice k h = eqb-true _ _ (below (λ k. eqb (kind_at (kind_at k).partner).partner k) kind_count refl k h)

-- and stays within the table
pub partner_below : (k : ℕ) → k < kind_count → (kind_at k).partner < kind_count
unfolding kind_at kinds
partner_below k h = leb-true _ _ (below (λ k. leb (suc (kind_at k).partner) kind_count) kind_count refl k h)

-- a word lies within its bytes
pub word_fits : (k : ℕ) → k < kind_count → (kind_at k).length ≤ length (kind_at k).word
unfolding kind_at kinds
word_fits k h = leb-true _ _ (below (λ k. leb (kind_at k).length (length (kind_at k).word)) kind_count refl k h)

-- and has at most eight letters
pub word_short : (k : ℕ) → k < kind_count → length (word_of (kind_at k)) ≤ 8
unfolding kind_at kinds
word_short k h = leb-true _ _ (below (λ k. leb (length (word_of (kind_at k))) 8) kind_count refl k h)

-- a place of the table is that of its own row
pub place_of_kind : (k : ℕ) → k < kind_count → place_of (kind_at k).row ≡ k
unfolding kind_at kinds
place_of_kind k h = eqb-true _ _ (below (λ k. eqb (place_of (kind_at k).row) k) kind_count refl k h)

-- and the row at a row's place is of its kind
constant_row : (k : ConstantKind) → (constant_place k < kind_count) × ((kind_at (constant_place k)).row ≡ Constant k)
unfolding kind_at kinds
constant_row True = (omega arith, refl)
constant_row False = (omega arith, refl)

signal_row : (k : SignalKind) → (signal_place k < kind_count) × ((kind_at (signal_place k)).row ≡ Signal k 0)
unfolding kind_at kinds
signal_row Sig = (omega arith, refl)
signal_row Nsig = (omega arith, refl)

unary_row : (k : UnaryKind) → (unary_place k < kind_count) × ((kind_at (unary_place k)).row ≡ Unary k 0)
unfolding kind_at kinds
unary_row Not = (omega arith, refl)
unary_row Next = (omega arith, refl)
unary_row Always = (omega arith, refl)
unary_row Ever = (omega arith, refl)

binary_row : (k : BinaryKind) → (binary_place k < kind_count) × ((kind_at (binary_place k)).row ≡ Binary k 0 0)
unfolding kind_at kinds
binary_row And = (omega arith, refl)
binary_row Or = (omega arith, refl)
binary_row Weak = (omega arith, refl)
binary_row Until = (omega arith, refl)
binary_row Release = (omega arith, refl)
binary_row Srelease = (omega arith, refl)

pub kind_of_row : (r : Row) → (place_of r < kind_count) × ((kind_at (place_of r)).row ≡ with_numbers r 0 0)
kind_of_row (Constant k) = constant_row k
kind_of_row (Signal k s) = signal_row k
kind_of_row (Unary k a) = unary_row k
kind_of_row (Binary k a b) = binary_row k

-- numbers put in place of others
pub numbers_again : (r : Row) (a b x y : ℕ) → with_numbers (with_numbers r x y) a b ≡ with_numbers r a b
numbers_again (Constant k) a b x y = refl
numbers_again (Signal k s) a b x y = refl
numbers_again (Unary k s) a b x y = refl
numbers_again (Binary k s t) a b x y = refl

pub numbers_own : (r : Row) → with_numbers r (first_number r) (second_number r) ≡ r
numbers_own (Constant k) = refl
numbers_own (Signal k s) = refl
numbers_own (Unary k a) = refl
numbers_own (Binary k a b) = refl

pub numbers_count : (r : Row) (a b : ℕ) → numbers_in (with_numbers r a b) ≡ numbers_in r
numbers_count (Constant k) a b = refl
numbers_count (Signal k s) a b = refl
numbers_count (Unary k s) a b = refl
numbers_count (Binary k s t) a b = refl

pub numbers_place : (r : Row) (a b : ℕ) → place_of (with_numbers r a b) ≡ place_of r
numbers_place (Constant k) a b = refl
numbers_place (Signal k s) a b = refl
numbers_place (Unary k s) a b = refl
numbers_place (Binary k s t) a b = refl
