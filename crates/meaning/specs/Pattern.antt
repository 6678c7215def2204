-- The patterns by which proofs go instead of fourteen kinds: each row is one of four patterns over a left and a right operand. All
-- temporal operators are until or weak until, of the operands or, for the releases, of the right one and both. What a pattern says, and
-- that it is what the row means: proofs/Pattern and proofs/MeaningByPattern. Contracts cite the patterns over bits. Assumes nothing.
use Rattle.std.specs.Prelude.{ℕ, Bool, true, false, not, ◌&&◌, ◌||◌}
use Rattle.tables.specs.declared.row.ConstantKind.{ConstantKind}
use Rattle.tables.specs.declared.row.ConstantKind.TheVariants.{True, False}
use Rattle.tables.specs.declared.row.SignalKind.{SignalKind}
use Rattle.tables.specs.declared.row.SignalKind.TheVariants.{Sig, Nsig}
use Rattle.tables.specs.declared.row.UnaryKind.{UnaryKind}
use Rattle.tables.specs.declared.row.UnaryKind.TheVariants.{Not, Next, Always, Ever}
use Rattle.tables.specs.declared.row.BinaryKind.{BinaryKind}
use Rattle.tables.specs.declared.row.BinaryKind.TheVariants.{And, Or, Weak, Until, Release, Srelease}
use Rattle.tables.specs.declared.row.Row.{Row}
use Rattle.tables.specs.declared.row.Row.TheVariants.{Constant, Signal, Unary, Binary}
use Rattle.meaning.specs.Trace.{InfiniteTrace}
use Rattle.meaning.specs.Rows.{positive}

-- `now` is the right operand, `next` the same one cycle later. The first Bool of the others tells `or`, until and weak (true) from
-- `and` and the releases (false); the second says what holds where the goal is never met: weak (true) or strong (false).
pub data Pattern : Type 0 where
  now next : Pattern
  connective : Bool → Pattern
  temporal : Bool → Bool → Pattern

-- ---- the patterns and operands of rows

abbrev pub unary_pattern : UnaryKind → Pattern
unary_pattern Not = Pattern.now
unary_pattern Next = Pattern.next
unary_pattern Always = Pattern.temporal false true
unary_pattern Ever = Pattern.temporal true false

abbrev pub binary_pattern : BinaryKind → Pattern
binary_pattern And = Pattern.connective false
binary_pattern Or = Pattern.connective true
binary_pattern Weak = Pattern.temporal true true
binary_pattern Until = Pattern.temporal true false
binary_pattern Release = Pattern.temporal false true
binary_pattern Srelease = Pattern.temporal false false

abbrev pub pattern_of : Row → Pattern
pattern_of (Constant c) = Pattern.now
pattern_of (Signal c s) = Pattern.now
pattern_of (Unary c a) = unary_pattern c
pattern_of (Binary c a b) = binary_pattern c

-- a constant, a signal or a row; the Bool of the last two is false where the operand is negated
pub data Operand : Type 0 where
  constant : Bool → Operand
  signal row : Bool → ℕ → Operand

abbrev pub constant_bit : ConstantKind → Bool
constant_bit True = true
constant_bit False = false

abbrev pub signal_sign : SignalKind → Bool
signal_sign Sig = true
signal_sign Nsig = false

-- ever b is until of true and b, always b is release of false and b
abbrev pub unary_left : UnaryKind → Bool
unary_left Not = true
unary_left Next = true
unary_left Always = false
unary_left Ever = true

abbrev pub left : Row → Operand
left (Constant c) = Operand.constant true
left (Signal c s) = Operand.constant true
left (Unary c a) = Operand.constant (unary_left c)
left (Binary c a b) = Operand.row true a

abbrev pub right : Row → Operand
right (Constant c) = Operand.constant (constant_bit c)
right (Signal c s) = Operand.signal (signal_sign c) s
right (Unary c a) = Operand.row (positive c) a
right (Binary c a b) = Operand.row true b

-- ---- over bits

abbrev pub keep_bit : Bool → Bool → Bool → Bool
keep_bit true a b = a
keep_bit false a b = b

abbrev pub goal_bit : Bool → Bool → Bool → Bool
goal_bit true a b = b
goal_bit false a b = a && b

abbrev pub connective_bit : Bool → Bool → Bool → Bool
connective_bit true a b = a || b
connective_bit false a b = a && b

abbrev pub keep_bits : Bool → (ℕ → Bool) → (ℕ → Bool) → ℕ → Bool
keep_bits f p q = λ j. keep_bit f (p j) (q j)

abbrev pub goal_bits : Bool → (ℕ → Bool) → (ℕ → Bool) → ℕ → Bool
goal_bits f p q = λ j. goal_bit f (p j) (q j)

abbrev pub signed_bit : Bool → Bool → Bool
signed_bit true x = x
signed_bit false x = not x

-- over the signals and the rows' bits of one cycle
abbrev pub operand_bit : (ℕ → Bool) → (ℕ → Bool) → Operand → Bool
operand_bit signals rows (Operand.constant b) = b
operand_bit signals rows (Operand.signal b s) = signed_bit b (signals s)
operand_bit signals rows (Operand.row b a) = signed_bit b (rows a)

abbrev pub operand_bits : InfiniteTrace → (ℕ → ℕ → Bool) → Operand → ℕ → Bool
operand_bits w bits x i = operand_bit (w i) (λ a. bits a i) x
