-- Lines of numbers, put one behind the other. Assumes nothing.
use Prim.Native.Nat.{ℕ, zero, suc, ◌+◌, ◌*◌, ◌≤◌}
use mathlib.Core.Path.{◌≡◌, refl, sym, ap, ◌∙◌}
use mathlib.Core.List.{List, [], ◌∷◌, ◌++◌, append_assoc, append-nil}
use native.Mathlib.Nat.{suc-mul}
use native.Mathlib.Numerals.{add-one}
use native.Mathlib.Omega.{arith}
use Rattle.tables.specs.Place.{tabulate_from, tabulate}
use Rattle.text.specs.Written.{decimal}
use Rattle.writing.specs.Lent.{Wrote}
use Rattle.writing.proofs.Texts.{wrote_both, wrote_is, wrote_none}
use Rattle.circuit_file.specs.Written.{spaced, written_lines}

-- ---- one line

-- numbers, each with a space behind it
unfoldable pub parts : List ℕ → List ℕ
parts [] = []
parts (x ∷ xs) = (decimal x ++ (32 ∷ [])) ++ parts xs

pub parts_more : (xs : List ℕ) (x : ℕ) → parts xs ++ (decimal x ++ (32 ∷ [])) ≡ parts (xs ++ (x ∷ []))
unfolding parts
parts_more [] x = sym (append-nil _)
parts_more (y ∷ ys) x = append_assoc (decimal y ++ (32 ∷ [])) (parts ys) (decimal x ++ (32 ∷ [])) ∙ ap (λ t. (decimal y ++ (32 ∷ [])) ++ t) (parts_more ys x)

part_line : (x y : ℕ) (ys : List ℕ) → (decimal x ++ (32 ∷ [])) ++ written_lines ((y ∷ ys) ∷ []) ≡ written_lines ((x ∷ y ∷ ys) ∷ [])
unfolding written_lines spaced
part_line x y ys =
    append_assoc (decimal x) (32 ∷ []) (spaced (y ∷ ys) ++ (10 ∷ [])) ∙ sym (append_assoc (decimal x) (32 ∷ spaced (y ∷ ys)) (10 ∷ []))

-- behind the last of them the line ends
pub parts_end : (xs : List ℕ) (x : ℕ) → parts xs ++ (decimal x ++ (10 ∷ [])) ≡ written_lines ((xs ++ (x ∷ [])) ∷ [])
unfolding parts written_lines spaced
parts_end [] x = refl
parts_end (y ∷ []) x = append_assoc (decimal y ++ (32 ∷ [])) [] (decimal x ++ (10 ∷ [])) ∙ part_line y x []
parts_end (y ∷ z ∷ zs) x =
    append_assoc (decimal y ++ (32 ∷ [])) (parts (z ∷ zs)) (decimal x ++ (10 ∷ []))
    ∙ (ap (λ t. (decimal y ++ (32 ∷ [])) ++ t) (parts_end (z ∷ zs) x) ∙ part_line y z (zs ++ (x ∷ [])))

-- ---- lines

pub lines_append : (xss yss : List (List ℕ)) → written_lines (xss ++ yss) ≡ written_lines xss ++ written_lines yss
unfolding written_lines
lines_append [] yss = refl
lines_append (xs ∷ xss) yss =
    ap (λ t. spaced xs ++ (10 ∷ t)) (lines_append xss yss) ∙ sym (append_assoc (spaced xs) (10 ∷ written_lines xss) (written_lines yss))

pub more_lines : {b m a : List ℕ} {at e f : ℕ} (xss yss : List (List ℕ)) → Wrote b at (written_lines xss) m e
    → Wrote m e (written_lines yss) a f → Wrote b at (written_lines (xss ++ yss)) a f
more_lines xss yss v w = wrote_is (sym (lines_append xss yss)) (wrote_both v w)

-- ---- blocks of lines, one for each pass of a loop

abbrev pub Blocks : Type 0
Blocks = ℕ → List (List ℕ)

-- the first so many
unfoldable pub blocks_to : Blocks → ℕ → List (List ℕ)
blocks_to block zero = []
blocks_to block (suc k) = blocks_to block k ++ block k

-- they stand behind `at`, and each takes at most so much room
pub record PutTo (block : Blocks) (room : ℕ) (before : List ℕ) (at k : ℕ) (now : List ℕ) (end : ℕ) : Type 0 where
  pub text : Wrote before at (written_lines (blocks_to block k)) now end
  pub within : end ≤ at + k * room

module _ {block : Blocks} {room : ℕ} {before : List ℕ} {at : ℕ} where
  pub put_none : PutTo block room before at 0 before at
  unfolding written_lines blocks_to
  put_none = record { text = wrote_none before at; within = omega arith }

  pub put_more : {k e f : ℕ} {now next : List ℕ} → PutTo block room before at k now e → Wrote now e (written_lines (block k)) next f → f ≤ e + room
      → PutTo block room before at (k + 1) next f
  unfolding blocks_to
  put_more {k} {e} {f} {now} {next} p w h =
      rw (add-one k)
      (record { text = more_lines (blocks_to block k) (block k) p.text w; within = omega (arith, p.within, suc-mul k room) })

  pub put_all : {k n e : ℕ} {now : List ℕ} {lines : List (List ℕ)} → PutTo block room before at k now e → k ≤ n → n ≤ k → blocks_to block n ≡ lines
      → Wrote before at (written_lines lines) now e
  put_all {k} {n} p a b q = let e : k ≡ n = omega arith in wrote_is (ap (λ i. written_lines (blocks_to block i)) e ∙ ap written_lines q) p.text

-- ---- blocks by their count

-- a table's last element
table_snoc : {A : Type 0} (n k : ℕ) (f : ℕ → A) → tabulate_from n k f ++ (f (k + n) ∷ []) ≡ tabulate_from (suc n) k f
unfolding tabulate_from
table_snoc zero k f = let e : k + 0 ≡ k = omega arith in rw e
table_snoc (suc n) k f = let e : k + suc n ≡ suc k + n = omega arith in rw e (ap (◌∷◌ (f k)) (table_snoc n (suc k) f))

-- blocks of one line are a table of lines
pub single_blocks : (line : ℕ → List ℕ) (n : ℕ) → blocks_to (λ i. line i ∷ []) n ≡ tabulate n line
unfolding blocks_to tabulate_from
single_blocks line zero = refl
single_blocks line (suc n) =
    let e : 0 + n ≡ n = omega arith in
    ap (λ t. t ++ (line n ∷ [])) (single_blocks line n) ∙ (rw e at (table_snoc n 0 line))
