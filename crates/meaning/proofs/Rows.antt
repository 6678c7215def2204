-- What is said of a row's operands, or of its signal, and what follows from it, or from two of them. Assumes nothing.
use Prim.Native.Nat.{ℕ}
use Rattle.tables.specs.declared.row.Row.{Row}
use Rattle.tables.specs.declared.row.Row.TheVariants.{Constant, Signal, Unary, Binary}
use Rattle.meaning.specs.Rows.{Each, EachSignal}

pub each_zip {ℓ κ μ} :
    (P : ℕ → Type ℓ) (Q : ℕ → Type κ) (S : ℕ → Type μ) → ((a : ℕ) → P a → Q a → S a) → (r : Row) → Each P r → Each Q r → Each S r
each_zip P Q S f (Constant c) e g = tt
each_zip P Q S f (Signal c s) e g = tt
each_zip P Q S f (Unary c a) e g = f a e g
each_zip P Q S f (Binary c a b) e g = (f a e.0 g.0, f b e.1 g.1)

pub each_map {ℓ κ} : (P : ℕ → Type ℓ) (Q : ℕ → Type κ) → ((a : ℕ) → P a → Q a) → (r : Row) → Each P r → Each Q r
each_map P Q f r e = each_zip P P Q (λ a x y. f a x) r e e

pub each_signal : (P : ℕ → Type 0) → ((s : ℕ) → P s) → (r : Row) → EachSignal P r
each_signal P f (Constant c) = tt
each_signal P f (Signal c s) = f s
each_signal P f (Unary c a) = tt
each_signal P f (Binary c a b) = tt

pub each_signal_map : (P Q : ℕ → Type 0) (r : Row) → ((s : ℕ) → P s → Q s) → EachSignal P r → EachSignal Q r
each_signal_map P Q (Constant c) f e = tt
each_signal_map P Q (Signal c s) f e = f s e
each_signal_map P Q (Unary c a) f e = tt
each_signal_map P Q (Binary c a b) f e = tt
