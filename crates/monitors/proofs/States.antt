-- States of the monitors: that two hold the same for some rows (SameState), and that a state is read from its order again (state-size, state-read,
-- order_alike); laws on states that hold the same (same-sym to same-places). Whoever hands a state on goes by these, however much it holds. Assumes nothing.
use Prim.Native.Nat.{ℕ, zero, suc, ◌-◌, ◌≤◌}
use mathlib.Core.Path.{◌≡◌, sym, ap, ◌∙◌}
use mathlib.Core.List.{map}
use native.Mathlib.Omega.{arith}
use lib.ListN.{length, get_or}
use Rattle.tables.proofs.Places.{length_tabulate, get_d_tabulate, tabulate_ext, map_tabulate}
use Rattle.monitors.specs.State.{State, in_order, state_size, state_at}

-- two states hold the same for the rows of a set
pub record SameState {A : Type 0} (P : ℕ → Type 0) (s s' : State A) : Type 0 where
  pub same_pending : (k : ℕ) → P k → s.pending k ≡ s'.pending k

-- the rows of a table of so many; number 0 is no row
abbrev pub RowTo : ℕ → ℕ → Type 0
RowTo rows k = (1 ≤ k) × (k ≤ rows)

-- how many things are in order
pub state_size_lem : {A : Type 0} (rows : ℕ) (s : State A) → length (in_order rows s) ≡ state_size rows
state_size_lem rows s = length_tabulate rows 0 (λ i. s.pending (suc i))

-- what is read at its places is the state
pub state_read : {A : Type 0} (rows : ℕ) (s : State A) (none : A) → SameState (RowTo rows) (state_at rows (λ j. get_or (in_order rows s) (j - 1) none)) s
state_read {A} rows s none = record { same_pending = λ k h. at k h.0 h.1 }
  where
    at : (k : ℕ) → 1 ≤ k → k ≤ rows → get_or (in_order rows s) (k - 1) none ≡ s.pending k
    at zero l h = absurd (omega arith)
    at (suc k) l h =
        let e : suc k - 1 ≡ k = omega arith in
        ap (λ j. get_or (in_order rows s) j none) e ∙ get_d_tabulate rows (λ i. s.pending (suc i)) k none (omega arith)

-- and states that hold the same are in order the same
pub order_alike : {A : Type 0} (rows : ℕ) (s s' : State A) → SameState (RowTo rows) s s' → in_order rows s ≡ in_order rows s'
order_alike rows s s' same =
    tabulate_ext rows (λ i. s.pending (suc i)) (λ i. s'.pending (suc i)) (λ i h. same.same_pending (suc i) (omega arith, omega arith))

-- something of each
abbrev pub map_state : {A B : Type 0} → (A → B) → State A → State B
map_state f s = record { pending = λ k. f (s.pending k) }

pub map_order : {A B : Type 0} (f : A → B) (rows : ℕ) (s : State A) → map f (in_order rows s) ≡ in_order rows (map_state f s)
map_order f rows s = map_tabulate f rows (λ i. s.pending (suc i))

-- ---- states that hold the same

module _ {A : Type 0} {P : ℕ → Type 0} {s s' : State A} where
  pub same_sym : SameState P s s' → SameState P s' s
  same_sym x = record { same_pending = λ k h. sym (x.same_pending k h) }

  pub same_trans : {s'' : State A} → SameState P s s' → SameState P s' s'' → SameState P s s''
  same_trans x y = record { same_pending = λ k h. x.same_pending k h ∙ y.same_pending k h }

  pub same_map : {B : Type 0} (f : A → B) → SameState P s s' → SameState P (map_state f s) (map_state f s')
  same_map f x = record { same_pending = λ k h. ap f (x.same_pending k h) }

-- the same stands in each place
pub same_places : {A : Type 0} (rows : ℕ) (x y : ℕ → A) → ((j : ℕ) → 1 ≤ j → j ≤ state_size rows → x j ≡ y j)
    → SameState (RowTo rows) (state_at rows x) (state_at rows y)
same_places rows x y each = record { same_pending = λ k h. each k h.0 (omega (arith, h.1)) }
