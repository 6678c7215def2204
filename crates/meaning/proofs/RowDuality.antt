-- The dual of a positive row, where its operands are the negations, is the row's negation: it excludes the row in any reading
-- (dual-excludes), and in a full one holds where the row does not (dual-else). Assumes nothing.
use Prim.Native.Nat.{ℕ, suc}
use mathlib.Core.Path.{◌≡◌, refl, ◌∙◌}
use mathlib.Core.Bool.{Bool}
use Rattle.tables.specs.Kind.{dual_of}
use Rattle.tables.specs.declared.row.ConstantKind.{ConstantKind}
use Rattle.tables.specs.declared.row.ConstantKind.TheVariants.{True, False}
use Rattle.tables.specs.declared.row.SignalKind.{SignalKind}
use Rattle.tables.specs.declared.row.SignalKind.TheVariants.{Sig, Nsig}
use Rattle.tables.specs.declared.row.UnaryKind.{UnaryKind}
use Rattle.tables.specs.declared.row.UnaryKind.TheVariants.{Not, Next, Always, Ever}
use Rattle.tables.specs.declared.row.BinaryKind.{BinaryKind}
use Rattle.tables.specs.declared.row.BinaryKind.TheVariants.{And, Or, Weak, Until, Release, Srelease}
use Rattle.tables.specs.declared.row.Row.{Row}
use Rattle.tables.specs.declared.row.Row.TheVariants.{Constant, Signal, Unary, Binary}
use Rattle.tables.proofs.Duals.{constant_dual, signal_dual, unary_dual, binary_dual, dual_constant, dual_signal, dual_unary, dual_binary}
use Rattle.meaning.specs.Reading.{Reading}
use Rattle.meaning.specs.Trace.{InfiniteTrace}
use Rattle.meaning.specs.Satisfaction.{ConstantMeans, SignalMeans, UnaryMeans, BinaryMeans, Means}
use Rattle.meaning.specs.Rows.{Each, positive, Positive}
use Rattle.meaning.proofs.Readings.{Full, On, on_and_off, not-true, not-false}
use Rattle.meaning.proofs.Duality as duality

pub positive_dual : (c : UnaryKind) → positive (unary_dual c) ≡ positive c
positive_dual Not = refl
positive_dual Next = refl
positive_dual Always = refl
positive_dual Ever = refl

pub dual_positive : (r : Row) → Positive r → Positive (dual_of r)
dual_positive (Constant c) p = rw (dual_constant c) tt
dual_positive (Signal c s) p = rw (dual_signal c s) tt
dual_positive (Unary c a) p = rw (dual_unary c a) (positive_dual c ∙ p)
dual_positive (Binary c a b) p = rw (dual_binary c a b) tt

-- ---- each kind

constant_excludes : (c : ConstantKind) → ConstantMeans (constant_dual c) → ¬ ConstantMeans c
constant_excludes True x y = x
constant_excludes False x y = y

constant_else : (c : ConstantKind) → ¬ ConstantMeans c → ConstantMeans (constant_dual c)
constant_else True n = n tt
constant_else False n = tt

signal_excludes : (on : Bool) (c : SignalKind) → SignalMeans (signal_dual c) on → ¬ SignalMeans c on
signal_excludes on Sig x y = on_and_off y x
signal_excludes on Nsig x y = on_and_off x y

signal_else : (on : Bool) (c : SignalKind) → ¬ SignalMeans c on → SignalMeans (signal_dual c) on
signal_else on Sig = not-true on
signal_else on Nsig = not-false on

module _ (R : Reading) (a a' : ℕ → Type 0) (i : ℕ) where
  unary_excludes : (c : UnaryKind) → On (positive c) → duality.Exclude a a' → UnaryMeans R (unary_dual c) a' i → ¬ UnaryMeans R c a i
  unary_excludes Not o e = on_and_off o refl
  unary_excludes Next o e = e (suc i)
  unary_excludes Always o e = duality.always_excludes R a a' e i
  unary_excludes Ever o e = duality.ever_excludes R a a' e i

  unary_else : Full R → (c : UnaryKind) → On (positive c) → duality.Cover a a' → ¬ UnaryMeans R c a i → UnaryMeans R (unary_dual c) a' i
  unary_else full Not o e = on_and_off o refl
  unary_else full Next o e = (e (suc i)).0
  unary_else full Always o e = duality.always_else R full a a' e i
  unary_else full Ever o e = duality.ever_else R full a a' e i

module _ (R : Reading) (a b a' b' : ℕ → Type 0) (i : ℕ) where
  binary_excludes : (c : BinaryKind) → duality.Exclude a a' → duality.Exclude b b' → BinaryMeans R (binary_dual c) a' b' i → ¬ BinaryMeans R c a b i
  binary_excludes And p q = duality.and_excludes R a b a' b' p q i
  binary_excludes Or p q = duality.or_excludes R a b a' b' p q i
  binary_excludes Weak p q = duality.weak_excludes R a b a' b' p q i
  binary_excludes Until p q = duality.until_excludes R a b a' b' p q i
  binary_excludes Release p q = duality.release_excludes R a b a' b' p q i
  binary_excludes Srelease p q = duality.srelease_excludes R a b a' b' p q i

  binary_else : Full R → (c : BinaryKind) → duality.Cover a a' → duality.Cover b b' → ¬ BinaryMeans R c a b i → BinaryMeans R (binary_dual c) a' b' i
  binary_else full And p q = duality.and_else R full a b a' b' p q i
  binary_else full Or p q = duality.or_else R full a b a' b' p q i
  binary_else full Weak p q = duality.weak_else R full a b a' b' p q i
  binary_else full Until p q = duality.until_else R full a b a' b' p q i
  binary_else full Release p q = duality.release_else R full a b a' b' p q i
  binary_else full Srelease p q = duality.srelease_else R full a b a' b' p q i

-- ---- rows: u at the dual's operands, v at the row's

module _ (R : Reading) (w : InfiniteTrace) (u v : ℕ → ℕ → Type 0) (i : ℕ) where
  pub dual_excludes : (r : Row) → Positive r → Each (λ a. duality.Exclude (v a) (u a)) r → Means R w u (dual_of r) i → ¬ Means R w v r i
  dual_excludes (Constant c) p e = rw (dual_constant c) (constant_excludes c)
  dual_excludes (Signal c s) p e = rw (dual_signal c s) (signal_excludes (w i s) c)
  dual_excludes (Unary c a) p e = rw (dual_unary c a) (unary_excludes R (v a) (u a) i c p e)
  dual_excludes (Binary c a b) p e = rw (dual_binary c a b) (binary_excludes R (v a) (v b) (u a) (u b) i c e.0 e.1)

  pub dual_else : Full R → (r : Row) → Positive r → Each (λ a. duality.Cover (v a) (u a)) r → ¬ Means R w v r i → Means R w u (dual_of r) i
  dual_else full (Constant c) p e = rw (dual_constant c) (constant_else c)
  dual_else full (Signal c s) p e = rw (dual_signal c s) (signal_else (w i s) c)
  dual_else full (Unary c a) p e = rw (dual_unary c a) (unary_else R (v a) (u a) i full c p e)
  dual_else full (Binary c a b) p e = rw (dual_binary c a b) (binary_else R (v a) (v b) (u a) (u b) i full c e.0 e.1)
