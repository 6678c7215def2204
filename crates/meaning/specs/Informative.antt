-- Informative prefixes (source document 000, section X, definition 1, of Kupferman and Vardi), extended to all operators of 01.
-- The document counts cycles from 1; here they count from 0, so its L(1) and L(n+1) are L at 0 and at n. Assumes nothing.
use Rattle.std.specs.Prelude.{ℕ, suc, ◌≤◌, ◌<◌, ◌≡◌, ◌⊎◌, Bool, true, false}
use Rattle.tables.specs.declared.row.UnaryKind.{UnaryKind}
use Rattle.tables.specs.declared.row.UnaryKind.TheVariants.{Not, Next, Always, Ever}
use Rattle.tables.specs.declared.row.BinaryKind.{BinaryKind}
use Rattle.tables.specs.declared.row.BinaryKind.TheVariants.{And, Or, Weak, Until, Release, Srelease}
use Rattle.tables.specs.declared.row.Row.{Row}
use Rattle.tables.specs.declared.row.Row.TheVariants.{Constant, Signal, Unary, Binary}
use Rattle.meaning.specs.Trace.{InfiniteTrace}
use Rattle.meaning.specs.Satisfaction.{Table, ConstantMeans, SignalMeans}

-- "a map L from {1, …, n+1} to the set of subformulas": which rows are in L(i), for each cycle i
abbrev pub Labels : Type 0
Labels = ℕ → ℕ → Bool

-- row k is in L(i)
abbrev pub Member : Labels → ℕ → ℕ → Type 0
Member L i k = L i k ≡ true

-- what a row with operands asks of L where its number k is in L(i), by its kind
module _ (L : Labels) where
  abbrev pub UnaryCondition : UnaryKind → ℕ → ℕ → ℕ → Type 0
  -- no normal form has a `not` row
  UnaryCondition Not a k i = ⊥
  -- "6) If X a ∈ L(i) then a ∈ L(i+1)"
  UnaryCondition Next a k i = Member L (suc i) a
  UnaryCondition Always a k i = Member L i a × Member L (suc i) k
  UnaryCondition Ever a k i = Member L i a ⊎ Member L (suc i) k

  abbrev pub BinaryCondition : BinaryKind → ℕ → ℕ → ℕ → ℕ → Type 0
  -- "5) If a ∧ b ∈ L(i) then a ∈ L(i) and b ∈ L(i)"
  BinaryCondition And a b k i = Member L i a × Member L i b
  -- "4) If a ∨ b ∈ L(i) then a ∈ L(i) or b ∈ L(i)"
  BinaryCondition Or a b k i = Member L i a ⊎ Member L i b
  -- "7) if [a U b] ∈ L(i) then either b ∈ L(i) or a ∈ L(i) and [a U b] ∈ L(i+1)"
  BinaryCondition Until a b k i = Member L i b ⊎ (Member L i a × Member L (suc i) k)
  BinaryCondition Weak a b k i = Member L i b ⊎ (Member L i a × Member L (suc i) k)
  BinaryCondition Release a b k i = Member L i b × (Member L i a ⊎ Member L (suc i) k)
  BinaryCondition Srelease a b k i = Member L i b × (Member L i a ⊎ Member L (suc i) k)

module _ (w : InfiniteTrace) (L : Labels) where
  abbrev pub Condition : Row → ℕ → ℕ → Type 0
  Condition (Constant c) k i = ConstantMeans c
  -- "3) If an atomic proposition p ∈ L(i) then s_i ⊨ p"
  Condition (Signal c s) k i = SignalMeans c (w i s)
  Condition (Unary c a) k i = UnaryCondition L c a k i
  Condition (Binary c a b) k i = BinaryCondition L c a b k i

-- L shows that the first n cycles of w are informative for the formula of row `root`; its subformulas are among the rows up to it
pub record Labelling (n : ℕ) (w : InfiniteTrace) (t : Table) (root : ℕ) (L : Labels) : Type 0 where
  -- "1) ϕ ∈ L(1)"
  pub starts : Member L 0 root
  -- "2) L(n+1) = ∅"
  pub ends : (k : ℕ) → k ≤ root → L n k ≡ false
  -- "3)" to "7)"
  pub meets : (k : ℕ) → k ≤ root → (i : ℕ) → i < n → Member L i k → Condition w L (t k) k i

-- "The prefix s_1, …, s_n is informative for a formula ϕ if there exists a map L … such that"
abbrev pub Informative : ℕ → InfiniteTrace → Table → ℕ → Type 0
Informative n w t root = (L : Labels) × Labelling n w t root L
