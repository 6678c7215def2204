-- The normal form, computed: its rows are listed in one pass over the slots. (Normal.antt says it in words.) Assumes nothing.
use Rattle.std.specs.Prelude.{ℕ, zero, suc, ◌+◌, ◌*◌, ◌/◌, Bool, true, false, List, [], ◌∷◌, ◌++◌, length, get_or}
use Rattle.tables.specs.Choice.{pick}
use Rattle.tables.specs.Kind.{first_number}
use Rattle.tables.specs.Place.{placed}
use Rattle.tables.specs.declared.row.Row.{Row}
use Rattle.tables.specs.declared.row.RowPlace.{RowPlace}
use Rattle.tables.specs.declared.row.Formula.{Formula}
use Rattle.tables.specs.declared.row.NormalForm.{NormalForm}
use Rattle.rule_file.specs.Rule.{in_place, unused}
use Rattle.normal_form.specs.declared.sign.Sign.{Sign}
use Rattle.normal_form.specs.Operand.{row_in, is_not, with_operands}
use Rattle.normal_form.specs.Sign.{turned, signed, slot_of, sign_of}
use Rattle.normal_form.specs.Reach.{reach}

-- the rows so far, and for each slot so far the number of the row that stands for it (0: none)
pub record Listing : Type 0 where
  pub numbers : List ℕ
  pub rows : List Row

-- the number of the row that stands for row k under sign s
abbrev pub number_in : List ℕ → ℕ → Sign → ℕ
number_in ns k s = get_or ns (slot_of k s) 0

-- a row with its operands' new numbers, each taken under sign s
abbrev pub renumbered : List ℕ → Sign → Row → Row
renumbered ns s r = with_operands (λ a. number_in ns a s) r

abbrev pub snoc : {A : Type 0} → List A → A → List A
snoc xs x = xs ++ (x ∷ [])

-- a slot that is not reached: no row stands for it
abbrev pub skipped : Listing → Listing
skipped l = record { numbers = snoc l.numbers 0; rows = l.rows }

-- a `not` row: what stands for its operand, the sign turned, stands for it too
abbrev pub shared : Row → Sign → Listing → Listing
shared r s l = record { numbers = snoc l.numbers (number_in l.numbers (first_number r) (turned s)); rows = l.rows }

-- any other row is the next row: itself or its dual, with its operands' numbers
abbrev pub next_row : Row → Sign → Listing → Listing
next_row r s l = record {
  numbers = snoc l.numbers (length l.rows + 1);
  rows = snoc l.rows (renumbered l.numbers s (signed s r));
}

abbrev pub list_row : Row → Sign → Listing → Listing
list_row r s l = pick (is_not r) (shared r s l) (next_row r s l)

abbrev pub list_slot : Bool → Row → Sign → Listing → Listing
list_slot false r s l = skipped l
list_slot true r s l = list_row r s l

-- the slots below j, in rising order
unfoldable pub listing : List Bool → List RowPlace → ℕ → Listing
listing marks ps zero = record { numbers = []; rows = [] }
listing marks ps (suc j) = list_slot (get_or marks j false) (row_in ps (j / 2)) (sign_of j) (listing marks ps j)

-- the whole listing of the formula (plain), or of its negation (negated)
unfoldable pub normal_listing : Formula → Sign → Listing
normal_listing f s = listing (reach f s) f.places (2 * f.rows)

abbrev pub normal_rows : Formula → Sign → List Row
normal_rows f s = (normal_listing f s).rows

-- the number there of the row that stands for row k under sign s
abbrev pub new_number : Formula → Sign → ℕ → Sign → ℕ
new_number f sign k s = number_in (normal_listing f sign).numbers k s

unfoldable pub normal_form : Formula → Sign → NormalForm
normal_form f s = record { signals = f.signals; rows = length (normal_rows f s); places = placed 128 in_place unused (normal_rows f s) }

-- a listing as a table
unfoldable pub listed_form : ℕ → Listing → NormalForm
listed_form signals l = record { signals = signals; rows = length l.rows; places = placed 128 in_place unused l.rows }
