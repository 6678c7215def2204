-- The dual of a row has the row's shape and numbers, and a kind that depends on the row's alone (dual-constant, dual-signal, dual-unary,
-- dual-binary). So proofs about duals go by shape, and by kind where the kind matters. Assumes nothing.
use Prim.Native.Nat.{ℕ}
use mathlib.Core.Path.{◌≡◌, refl}
use Rattle.tables.specs.Kind.{kinds, kind_at, dual_of}
use Rattle.tables.specs.declared.row.ConstantKind.{ConstantKind}
use Rattle.tables.specs.declared.row.ConstantKind.TheVariants.{True, False}
use Rattle.tables.specs.declared.row.SignalKind.{SignalKind}
use Rattle.tables.specs.declared.row.SignalKind.TheVariants.{Sig, Nsig}
use Rattle.tables.specs.declared.row.UnaryKind.{UnaryKind}
use Rattle.tables.specs.declared.row.UnaryKind.TheVariants.{Not, Next, Always, Ever}
use Rattle.tables.specs.declared.row.BinaryKind.{BinaryKind}
use Rattle.tables.specs.declared.row.BinaryKind.TheVariants.{And, Or, Weak, Until, Release, Srelease}
use Rattle.tables.specs.declared.row.Row.TheVariants.{Constant, Signal, Unary, Binary}

-- the partner of each kind: the table's, by the laws below
abbrev pub constant_dual : ConstantKind → ConstantKind
constant_dual True = False
constant_dual False = True

abbrev pub signal_dual : SignalKind → SignalKind
signal_dual Sig = Nsig
signal_dual Nsig = Sig

abbrev pub unary_dual : UnaryKind → UnaryKind
unary_dual Not = Not
unary_dual Next = Next
unary_dual Always = Ever
unary_dual Ever = Always

abbrev pub binary_dual : BinaryKind → BinaryKind
binary_dual And = Or
binary_dual Or = And
binary_dual Weak = Srelease
binary_dual Until = Release
binary_dual Release = Until
binary_dual Srelease = Weak

pub dual_constant : (c : ConstantKind) → dual_of (Constant c) ≡ Constant (constant_dual c)
unfolding dual_of kind_at kinds
dual_constant True = refl
dual_constant False = refl

pub dual_signal : (c : SignalKind) (s : ℕ) → dual_of (Signal c s) ≡ Signal (signal_dual c) s
unfolding dual_of kind_at kinds
dual_signal Sig s = refl
dual_signal Nsig s = refl

pub dual_unary : (c : UnaryKind) (a : ℕ) → dual_of (Unary c a) ≡ Unary (unary_dual c) a
unfolding dual_of kind_at kinds
dual_unary Not a = refl
dual_unary Next a = refl
dual_unary Always a = refl
dual_unary Ever a = refl

pub dual_binary : (c : BinaryKind) (a b : ℕ) → dual_of (Binary c a b) ≡ Binary (binary_dual c) a b
unfolding dual_of kind_at kinds
dual_binary And a b = refl
dual_binary Or a b = refl
dual_binary Weak a b = refl
dual_binary Until a b = refl
dual_binary Release a b = refl
dual_binary Srelease a b = refl
