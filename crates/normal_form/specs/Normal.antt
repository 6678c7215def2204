-- What makes a table of rows the normal form of a formula (plain) or of its negation (negated): the words of 01, "Normal form".
-- Assumes nothing.
use Rattle.std.specs.Prelude.{ℕ, ◌-◌, ◌≤◌, ◌<◌, ◌≡◌, false, List, ◌⊎◌, length, get_or}
use Rattle.tables.specs.declared.row.UnaryKind.TheVariants.{Not}
use Rattle.tables.specs.declared.row.Row.{Row}
use Rattle.tables.specs.declared.row.Row.TheVariants.{Unary}
use Rattle.tables.specs.declared.row.Formula.{Formula}
use Rattle.rule_file.specs.Rule.{unused}
use Rattle.normal_form.specs.declared.sign.Sign.{Sign}
use Rattle.normal_form.specs.declared.sign.Sign.TheVariants.{Plain, Negated}
use Rattle.normal_form.specs.Operand.{row_of, is_not, Below, with_operands}
use Rattle.normal_form.specs.Sign.{turned, signed}
use Rattle.normal_form.specs.Reached.{Reached}

-- row k gets a row under sign s: it is reached so, and is not `not`
abbrev pub Listed : Formula → Sign → ℕ → Sign → Type 0
Listed f sign k s = Reached f sign k s × (is_not (row_of f k) ≡ false)

-- the order: first by the old number, then plain before negated
abbrev pub Before : ℕ → Sign → ℕ → Sign → Type 0
Before k s k' s' = (k < k') ⊎ ((k ≡ k') × (s ≡ Plain) × (s' ≡ Negated))

-- the row of number x
abbrev pub row_at : List Row → ℕ → Row
row_at rows x = get_or rows (x - 1) unused

-- `number k s` is the number of the row that stands for row k under sign s
pub record Normal (f : Formula) (sign : Sign) (number : ℕ → Sign → ℕ) (rows : List Row) : Type 0 where
  -- "A `not` row stands for its operand with the sign turned and gets no row."
  pub not_stands : (k : ℕ) (s : Sign) (a : ℕ) → Reached f sign k s → row_of f k ≡ Unary Not a → number k s ≡ number a (turned s)
  -- "The other rows that the root reaches appear"
  pub appears : (k : ℕ) (s : Sign) → Listed f sign k s → (1 ≤ number k s) × (number k s ≤ length rows)
  -- themselves or their partners: "Taking a row negated takes its operands negated."
  pub says : (k : ℕ) (s : Sign) → Listed f sign k s → row_at rows (number k s) ≡ with_operands (λ a. number a s) (signed s (row_of f k))
  -- "once for each sign reached, in rising order of the old number, plain before negated"
  pub order : (k : ℕ) (s : Sign) (k' : ℕ) (s' : Sign) → Listed f sign k s → Listed f sign k' s' → Before k s k' s'
      → number k s < number k' s'
  -- nothing else appears
  pub only : (x : ℕ) → 1 ≤ x → x ≤ length rows → (k : ℕ) × (s : Sign) × Listed f sign k s × (number k s ≡ x)
  -- "The result is a rule file": "An operand is the number of an earlier row",
  pub earlier : (x : ℕ) → 1 ≤ x → x ≤ length rows → Below x (row_at rows x)
  -- and "the last row, which is the root"
  pub root_last : number f.rows sign ≡ length rows
