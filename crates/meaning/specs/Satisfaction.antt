-- Satisfaction of a formula on an infinite trace (01, "Meaning"). Assumes nothing.
use Rattle.std.specs.Prelude.{ℕ, zero, suc, ◌≡◌, Bool, true, false, List, get_or}
use Rattle.tables.specs.declared.row.ConstantKind.{ConstantKind}
use Rattle.tables.specs.declared.row.ConstantKind.TheVariants.{True, False}
use Rattle.tables.specs.declared.row.SignalKind.{SignalKind}
use Rattle.tables.specs.declared.row.SignalKind.TheVariants.{Sig, Nsig}
use Rattle.tables.specs.declared.row.UnaryKind.{UnaryKind}
use Rattle.tables.specs.declared.row.UnaryKind.TheVariants.{Not, Next, Always, Ever}
use Rattle.tables.specs.declared.row.BinaryKind.{BinaryKind}
use Rattle.tables.specs.declared.row.BinaryKind.TheVariants.{And, Or, Weak, Until, Release, Srelease}
use Rattle.tables.specs.declared.row.Row.{Row}
use Rattle.tables.specs.declared.row.Row.TheVariants.{Constant, Signal, Unary, Binary}
use Rattle.tables.specs.declared.row.RowPlace.{RowPlace}
use Rattle.tables.specs.declared.row.Formula.{Formula}
use Rattle.tables.specs.declared.row.NormalForm.{NormalForm}
use Rattle.meaning.specs.Reading.{Reading, Either}
use Rattle.meaning.specs.Operator as operator
use Rattle.meaning.specs.Trace.{InfiniteTrace}

-- a table of rows by their numbers, which count from 1 (number 0 is no row of a file)
abbrev pub Table : Type 0
Table = ℕ → Row

abbrev pub table_of : List RowPlace → Table
table_of ps zero = Constant True
table_of ps (suc k) = (get_or ps k (record { row = Constant True })).row

-- "signals and logic as usual": what each kind of row says. `on` is the signal; an operand is given by the cycles at which it is true.
abbrev pub ConstantMeans : ConstantKind → Type 0
ConstantMeans True = Unit {0}
ConstantMeans False = ⊥

abbrev pub SignalMeans : SignalKind → Bool → Type 0
SignalMeans Sig on = on ≡ true
SignalMeans Nsig on = on ≡ false

module _ (R : Reading) where
  abbrev pub UnaryMeans : UnaryKind → (ℕ → Type 0) → ℕ → Type 0
  UnaryMeans Not a i = ¬ a i
  UnaryMeans Next a i = operator.Next a i
  UnaryMeans Always a i = operator.Always a i
  UnaryMeans Ever a i = operator.Ever R a i

  abbrev pub BinaryMeans : BinaryKind → (ℕ → Type 0) → (ℕ → Type 0) → ℕ → Type 0
  BinaryMeans And a b i = a i × b i
  BinaryMeans Or a b i = Either R (a i) (b i)
  BinaryMeans Weak a b i = operator.Weak R a b i
  BinaryMeans Until a b i = operator.Until R a b i
  BinaryMeans Release a b i = operator.Release R a b i
  BinaryMeans Srelease a b i = operator.Srelease R a b i

module _ (R : Reading) (w : InfiniteTrace) where
  -- what a row says at cycle i of w, where v says at which cycles each earlier row is true
  abbrev pub Means : (ℕ → ℕ → Type 0) → Row → ℕ → Type 0
  Means v (Constant c) i = ConstantMeans c
  Means v (Signal c s) i = SignalMeans c (w i s)
  Means v (Unary c a) i = UnaryMeans R c (v a) i
  Means v (Binary c a b) i = BinaryMeans R c (v a) (v b) i

  -- row k is true at cycle i, read to a depth of d rows
  unfoldable pub TrueWithin : Table → ℕ → ℕ → ℕ → Type 0
  TrueWithin t zero k i = ⊥
  TrueWithin t (suc d) k i = Means (TrueWithin t d) (t k) i

  -- row k is true at cycle i: operands are earlier rows, so its own number bounds the depth (law `true_means`)
  unfoldable pub RowTrue : Table → ℕ → ℕ → Type 0
  RowTrue t k i = TrueWithin t (suc k) k i

-- "An endless take satisfies a rule when the rule's own root, as written, is true at cycle 0"
abbrev pub Satisfies : Reading → InfiniteTrace → Formula → Type 0
Satisfies R w f = RowTrue R w (table_of f.places) f.rows 0

-- and so for a normal form
abbrev pub SatisfiesNormal : Reading → InfiniteTrace → NormalForm → Type 0
SatisfiesNormal R w f = RowTrue R w (table_of f.places) f.rows 0
