-- The counts that every file begins with: the format and two more, padded. Assumes nothing.
use mathlib.Core.Path.{◌≡◌, refl, ap, ◌∙◌}
use mathlib.Core.List.{List}
use Prim.Native.Nat.{ℕ, ◌+◌, ◌≤◌, ◌<◌}
use native.Mathlib.Omega.{arith}
use lib.ListN.{length}
use Rattle.tables.specs.Bytes.{bytes}
use Rattle.text.specs.Number.{padded_of}
use Rattle.text.specs.Written.{decimal, written_line}
use Rattle.text.specs.declared.number.Number.TheVariants.{Is}
use Rattle.padding.specs.Padding.{Before.other}
use Rattle.padding.proofs.Bytes.{PaddedFrom}
use Rattle.padding.proofs.Lines.{Word, count_on, count_back, count_most}

-- ---- the keys that are words

pub format_word : Word (bytes "format")
format_word = record { none = refl; starts = refl; short = omega arith }

pub signals_word : Word (bytes "signals")
signals_word = record { none = refl; starts = refl; short = omega arith }

pub rows_word : Word (bytes "rows")
rows_word = record { none = refl; starts = refl; short = omega arith }

pub cycles_word : Word (bytes "cycles")
cycles_word = record { none = refl; starts = refl; short = omega arith }

-- ---- the lines of the format and of two counts, by the keys of these

abbrev pub headed : List ℕ → List ℕ → List ℕ → List ℕ → List ℕ → List ℕ → List ℕ
headed second third a b c rest = written_line (bytes "format") a (written_line second b (written_line third c rest))

module _ (second third : List ℕ) (w₂ : Word second) (w₃ : Word third) where
  pub header_on : (a b c : List ℕ) (m n : ℕ) (t s : List ℕ) → padded_of a ≡ Is 1 → padded_of b ≡ Is m → padded_of c ≡ Is n
      → PaddedFrom other t s → PaddedFrom other (headed second third (decimal 1) (decimal m) (decimal n) t) (headed second third a b c s)
  header_on a b c m n t s e₁ e₂ e₃ h =
      let z = count_on third w₃ c n t s e₃ h in
      let y = count_on second w₂ b m (written_line third (decimal n) t) (written_line third c s) e₂ z in
      count_on (bytes "format") format_word a 1 (written_line second (decimal m) (written_line third (decimal n) t)) (written_line second b (written_line third c s)) e₁ y

  -- what gives them when its padding is taken off
  pub record HeaderThen (m n : ℕ) (t s : List ℕ) : Type 0 where
    pub one_text : List ℕ
    pub second_text : List ℕ
    pub third_text : List ℕ
    pub rest : List ℕ
    pub one : padded_of one_text ≡ Is 1
    pub second_number_lem : padded_of second_text ≡ Is m
    pub third_number : padded_of third_text ≡ Is n
    pub whole : s ≡ headed second third one_text second_text third_text rest
    pub short : length s ≤ 42 + length rest
    pub goes : PaddedFrom other t rest

  pub header_back : (m n : ℕ) (t s : List ℕ) → m < 100000 → n < 100000 → PaddedFrom other (headed second third (decimal 1) (decimal m) (decimal n) t) s → HeaderThen m n t s
  header_back m n t s h k p =
      let x = count_back (bytes "format") format_word 1 (written_line second (decimal m) (written_line third (decimal n) t)) s (omega arith) p in
      let y = count_back second w₂ m (written_line third (decimal n) t) x.rest h x.goes in
      let z = count_back third w₃ n t y.rest k y.goes in
      record {
        one_text = x.text;
        second_text = y.text;
        third_text = z.text;
        rest = z.rest;
        one = x.stands;
        second_number_lem = y.stands;
        third_number = z.stands;
        whole = x.whole ∙ ap (written_line (bytes "format") x.text) (y.whole ∙ ap (written_line second y.text) z.whole);
        short = omega (arith, count_most (bytes "format") format_word x, count_most second w₂ y, count_most third w₃ z);
        goes = z.goes;
      }
