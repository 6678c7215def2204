-- Which line is possible, as the code that keeps the defined variables by their index finds it, and the forms of the lines behind the
-- header. Assumes nothing.
use mathlib.Core.Path.{◌≡◌, refl, ap, subst, ◌∙◌}
use mathlib.Core.Bool.{Bool, true, false, not, ◌&&◌}
use mathlib.Core.List.{List, [], ◌∷◌}
use Prim.Native.Nat.{ℕ, ◌+◌, ◌*◌, ◌/◌, ◌%◌}
use native.Mathlib.Omega.{arith}
use native.Mathlib.Decide.{ℕ_discrete}
use lib.Dec.{eqb, leb}
use lib.ListN.{get_or, take}
use borrow.Author.Tests.{ne_eqb, eqb-true}
use Rattle.tables.specs.Choice.{pick}
use Rattle.tables.specs.declared.refusal.Reason.TheVariants.{WrongForm}
use Rattle.tables.proofs.Choices.{clash}
use Rattle.text.specs.Search.{first_of, on_found}
use Rattle.text.specs.Result.{Parsed, Next, on_parsed}
use Rattle.text.specs.Result.Parsed.{good, bad}
use Rattle.text.specs.declared.search.Found.{Found}
use Rattle.text.specs.declared.search.Found.TheVariants.{At, Nothing}
use Rattle.circuit_line.specs.Numbers.{LineWithin, Within, line_as, number_list, plain_line}
use Rattle.circuit_line.specs.Section.{defines, is_defined, is_possible, is_variable, line_form, width}
use Rattle.circuit_line.specs.declared.numbers.LineRead.{LineRead}
use Rattle.circuit_line.specs.declared.numbers.LineRead.TheVariants.{Line, Wrong}
use Rattle.circuit_line.specs.declared.section.Section.{Section}
use Rattle.circuit_line.specs.declared.section.Section.TheVariants.{Inputs, Latches, Outputs, Gates}

both_left : (x y : Bool) → x && y ≡ true → x ≡ true
both_left true y e = refl
both_left false y e = clash (cc)

-- ---- what a line defines is even

variable_even : (m l : ℕ) → is_variable m l ≡ true → l % 2 ≡ 0
variable_even m l e =
    eqb-true (l % 2) 0 (both_left (eqb (l % 2) 0) (leb 2 l) (both_left (eqb (l % 2) 0 && leb 2 l) (leb l (2 * m)) e))

pub possible_even : (m : ℕ) (taken : Bool) (s : Section) (a b c : ℕ) → is_possible m taken s a b c ≡ true → defines s ≡ true → a % 2 ≡ 0
possible_even m taken Inputs a b c e d = variable_even m a (both_left (is_variable m a) (not taken) e)
possible_even m taken Latches a b c e d = variable_even m a (both_left (is_variable m a) (not taken) (both_left (is_variable m a && not taken) _ e))
possible_even m taken Outputs a b c e d = clash (cc)
possible_even m taken Gates a b c e d = variable_even m a (both_left (is_variable m a) (not taken) (both_left (is_variable m a && not taken) _ e))

-- ---- so it is enough to know which even literals are defined

module _ (m : ℕ) (b₁ b₂ : Bool) where
  possible_odd : (s : Section) (a b c : ℕ) → (a % 2 ≡ 0 → ⊥) → is_possible m b₁ s a b c ≡ is_possible m b₂ s a b c
  possible_odd Inputs a b c n = rw (ne_eqb (a % 2) 0 n)
  possible_odd Latches a b c n = rw (ne_eqb (a % 2) 0 n)
  possible_odd Outputs a b c n = refl
  possible_odd Gates a b c n = rw (ne_eqb (a % 2) 0 n)

pub possible_marked : (m : ℕ) (defined : List ℕ) (s : Section) (a b c : ℕ)
    → is_possible m (is_defined defined (2 * (a / 2))) s a b c ≡ is_possible m (is_defined defined a) s a b c
possible_marked m defined s a b c = by (ℕ_discrete (a % 2) 0)
  where
    by : Dec (a % 2 ≡ 0) → is_possible m (is_defined defined (2 * (a / 2))) s a b c ≡ is_possible m (is_defined defined a) s a b c
    by (yes e) = let q : 2 * (a / 2) ≡ a = omega arith in ap (λ l. is_possible m (is_defined defined l) s a b c) q
    by (no n) = possible_odd m _ _ s a b c n

-- ---- the form of a line is that of its numbers, where the line is possible

abbrev pub possible_line : ℕ → List ℕ → Section → List ℕ → Bool
possible_line m defined s xs = is_possible m (is_defined defined (get_or xs 0 0)) s (get_or xs 0 0) (get_or xs 1 0) (get_or xs 2 0)

abbrev pub only_possible : ℕ → List ℕ → Section → Parsed (Next (List ℕ)) → Parsed (Next (List ℕ))
only_possible m defined s p = on_parsed p bad (λ x. pick (possible_line m defined s x.value) (good x) (bad WrongForm))

-- what a line stands for, with where the next line begins
abbrev line_at : ℕ → List ℕ → Next (List ℕ)
line_at end xs = record { value = xs; next = end + 1 }

abbrev line_ends : ℕ → Parsed (List ℕ) → Parsed (Next (List ℕ))
line_ends end p = on_parsed p bad (λ xs. good (line_at end xs))

module _ (m : ℕ) (defined : List ℕ) (s : Section) where
  abbrev tested : Parsed (List ℕ) → Parsed (List ℕ)
  tested p = on_parsed p bad (λ xs. pick (possible_line m defined s xs) (good xs) (bad WrongForm))

  test_end : (end : ℕ) (xs : List ℕ) (t : Bool) → line_ends end (pick t (good xs) (bad WrongForm)) ≡ pick t (good (line_at end xs)) (bad WrongForm)
  test_end end xs true = refl
  test_end end xs false = refl

  form_end : (end : ℕ) (p : Parsed (List ℕ)) → line_ends end (tested p) ≡ only_possible m defined s (line_ends end p)
  form_end end (good xs) = test_end end xs (possible_line m defined s xs)
  form_end end (bad e) = refl

  pub line_form_lem : (rest : List ℕ) → plain_line (line_form m defined s) rest ≡ only_possible m defined s (plain_line (number_list (width s)) rest)
  unfolding plain_line line_form
  line_form_lem rest = by (first_of 10 rest)
    where
      by : (f : Found) → on_found f (bad WrongForm) (λ end. line_ends end (tested (number_list (width s) (take end rest))))
          ≡ only_possible m defined s (on_found f (bad WrongForm) (λ end. line_ends end (number_list (width s) (take end rest))))
      by (At end) = form_end end (number_list (width s) (take end rest))
      by Nothing = refl

-- ---- what the answer of `read_line` says

pub line_known : {count : ℕ} {rest : List ℕ} {r : LineRead} {a b c next : ℕ} → LineWithin count rest r → r ≡ Line a b c next → Within count rest a b c next
line_known {count} {rest} w e = subst (LineWithin count rest) e w

module _ (m : ℕ) (defined : List ℕ) (s : Section) (rest : List ℕ) {r : LineRead} (e : line_as (width s) r ≡ plain_line (number_list (width s)) rest) where
  pub form_wrong : r ≡ Wrong → plain_line (line_form m defined s) rest ≡ bad WrongForm
  form_wrong q = line_form_lem m defined s rest ∙ rw (← e, q)

  module _ {a b c next : ℕ} (q : r ≡ Line a b c next) (w : LineWithin (width s) rest r) where
    pub form_not : is_possible m (is_defined defined (2 * (a / 2))) s a b c ≡ false → plain_line (line_form m defined s) rest ≡ bad WrongForm
    form_not n =
        let k : Within (width s) rest a b c next = line_known w q in
        line_form_lem m defined s rest ∙ rw (← e, q, k.literal, k.first, k.second, ← possible_marked m defined s a b c, n)

    pub form_good : is_possible m (is_defined defined (2 * (a / 2))) s a b c ≡ true → plain_line (line_form m defined s) rest ≡ good (record { value = take (width s) (a ∷ b ∷ c ∷ []); next = next })
    form_good n =
        let k : Within (width s) rest a b c next = line_known w q in
        line_form_lem m defined s rest ∙ rw (← e, q, k.literal, k.first, k.second, ← possible_marked m defined s a b c, n)
