-- The lines of a section against what they stand for: inputs, latches, outputs and gates. Assumes nothing.
use mathlib.Core.Path.{◌≡◌, refl, sym, ap, ap₂, ◌∙◌, subst}
use mathlib.Core.Bool.{true, ◌&&◌}
use mathlib.Core.List.{List, [], ◌∷◌, map}
use Prim.Native.Nat.{ℕ, ◌+◌, ◌*◌, ◌<◌}
use native.Mathlib.Omega.{arith}
use lib.Dec.{leb, ltb}
use lib.ListN.{length, get_or}
use borrow.Author.Tests.{ltb-true, lt-ltb, leb-true, le-leb}
use Rattle.text.specs.Body.{EachAt}
use Rattle.circuit.specs.Circuit.{Latch, Gate, IsLiteral}
use Rattle.circuit_line.specs.declared.section.Section.{Section}
use Rattle.circuit_line.specs.declared.section.Section.TheVariants.{Inputs, Latches, Outputs, Gates}
use Rattle.circuit_line.specs.Section.{width, is_defined, is_new, now_defined}
use Rattle.circuit_file.specs.File.{latch_from, gate_from}
use Rattle.circuit_file.proofs.Possible.{LineOk}
use Rattle.circuit_file.proofs.News.{both_on, both_true, New, pushed}
use Rattle.circuit_file.proofs.Blocks.{Block, behind}

-- what a line's numbers are
abbrev pub one_line : ℕ → List ℕ
one_line l = l ∷ []

abbrev pub latch_line : Latch → List ℕ
latch_line q = q.current ∷ q.next ∷ []

abbrev pub gate_line : Gate → List ℕ
gate_line g = g.lhs ∷ g.rhs0 ∷ g.rhs1 ∷ []

-- and what is asked of them beside that their literal is new
abbrev pub Lower : Gate → Type 0
Lower g = (g.rhs0 < g.lhs) × (g.rhs1 < g.lhs)

-- ---- sections that define: a line is possible where its literal is new and something more holds of it
module _ {A : Type 0} (m : ℕ) (s : Section) (f : A → List ℕ) (key : A → ℕ) (Side : A → Type 0)
    (pushes : (x : A) (defined : List ℕ) → now_defined s (f x) defined ≡ key x ∷ defined)
    (into : (defined : List ℕ) (x : A) → LineOk m defined s (f x) → (is_new m (is_defined defined (key x)) (key x) ≡ true) × Side x)
    (from : (defined : List ℕ) (x : A) → is_new m (is_defined defined (key x)) (key x) ≡ true → Side x → LineOk m defined s (f x)) where
  keyed_behind : (xs : List A) (defined : List ℕ) → behind s (map f xs) defined ≡ pushed (map key xs) defined
  keyed_behind [] defined = refl
  keyed_behind (x ∷ xs) defined = ap (behind s (map f xs)) (pushes x defined) ∙ keyed_behind xs (key x ∷ defined)

  keyed_new : (xs : List A) (defined : List ℕ) (k : ℕ) → Block m s defined (map f xs) → New m defined (map key xs) × EachAt (λ _. Side) k xs
  keyed_new [] defined k b = (tt, tt)
  keyed_new (x ∷ xs) defined k b =
      let w = into defined x b.0 in
      let v = keyed_new xs (key x ∷ defined) (k + 1) (subst (λ d. Block m s d (map f xs)) (pushes x defined) b.1) in
      ((w.0, v.0), (w.1, v.1))

  keyed_block : (xs : List A) (defined : List ℕ) (k : ℕ) → New m defined (map key xs) → EachAt (λ _. Side) k xs → Block m s defined (map f xs)
  keyed_block [] defined k n e = tt
  keyed_block (x ∷ xs) defined k n e =
      (from defined x n.0 e.0, subst (λ d. Block m s d (map f xs)) (sym (pushes x defined)) (keyed_block xs (key x ∷ defined) (k + 1) n.1 e.1))

-- inputs
pub inputs_behind : (xs : List ℕ) (defined : List ℕ) → behind Inputs (map one_line xs) defined ≡ pushed xs defined
inputs_behind [] defined = refl
inputs_behind (x ∷ xs) defined = inputs_behind xs (x ∷ defined)

module _ (m : ℕ) where
  pub inputs_new : (xs : List ℕ) (defined : List ℕ) → Block m Inputs defined (map one_line xs) → New m defined xs
  inputs_new [] defined b = tt
  inputs_new (x ∷ xs) defined b = (b.0.can, inputs_new xs (x ∷ defined) b.1)

  pub inputs_block : (xs : List ℕ) (defined : List ℕ) → New m defined xs → Block m Inputs defined (map one_line xs)
  inputs_block [] defined n = tt
  inputs_block (x ∷ xs) defined n = (record { wide = refl; can = n.0 }, inputs_block xs (x ∷ defined) n.1)

  -- latches
  latch_into : (defined : List ℕ) (q : Latch) → LineOk m defined Latches (latch_line q) → (is_new m (is_defined defined q.current) q.current ≡ true) × IsLiteral m q.next
  latch_into defined q ok =
      let w = both_on (is_new m (is_defined defined q.current) q.current) (leb q.next (2 * m + 1)) ok.can in
      (w.0, leb-true q.next (2 * m + 1) w.1)

  latch_from_lem : (defined : List ℕ) (q : Latch) → is_new m (is_defined defined q.current) q.current ≡ true → IsLiteral m q.next → LineOk m defined Latches (latch_line q)
  latch_from_lem defined q n l =
      record { wide = refl; can = both_true (is_new m (is_defined defined q.current) q.current) (leb q.next (2 * m + 1)) n (le-leb q.next (2 * m + 1) l) }

  pub latches_behind : (qs : List Latch) (defined : List ℕ) → behind Latches (map latch_line qs) defined ≡ pushed (map (λ (q : Latch). q.current) qs) defined
  latches_behind = keyed_behind m Latches latch_line (λ (q : Latch). q.current) (λ (q : Latch). IsLiteral m q.next) (λ q d. refl) latch_into latch_from_lem

  pub latches_new : (qs : List Latch) (defined : List ℕ) (k : ℕ) → Block m Latches defined (map latch_line qs)
      → New m defined (map (λ (q : Latch). q.current) qs) × EachAt (λ _ (q : Latch). IsLiteral m q.next) k qs
  latches_new = keyed_new m Latches latch_line (λ (q : Latch). q.current) (λ (q : Latch). IsLiteral m q.next) (λ q d. refl) latch_into latch_from_lem

  pub latches_block : (qs : List Latch) (defined : List ℕ) (k : ℕ) → New m defined (map (λ (q : Latch). q.current) qs) → EachAt (λ _ (q : Latch). IsLiteral m q.next) k qs
      → Block m Latches defined (map latch_line qs)
  latches_block = keyed_block m Latches latch_line (λ (q : Latch). q.current) (λ (q : Latch). IsLiteral m q.next) (λ q d. refl) latch_into latch_from_lem

  -- gates
  gate_into : (defined : List ℕ) (g : Gate) → LineOk m defined Gates (gate_line g) → (is_new m (is_defined defined g.lhs) g.lhs ≡ true) × Lower g
  gate_into defined g ok =
      let w = both_on (is_new m (is_defined defined g.lhs) g.lhs) (ltb g.rhs0 g.lhs && ltb g.rhs1 g.lhs) ok.can in
      let v = both_on (ltb g.rhs0 g.lhs) (ltb g.rhs1 g.lhs) w.1 in
      (w.0, (ltb-true g.rhs0 g.lhs v.0, ltb-true g.rhs1 g.lhs v.1))

  gate_from_lem : (defined : List ℕ) (g : Gate) → is_new m (is_defined defined g.lhs) g.lhs ≡ true → Lower g → LineOk m defined Gates (gate_line g)
  gate_from_lem defined g n l =
      let v = both_true (ltb g.rhs0 g.lhs) (ltb g.rhs1 g.lhs) (lt-ltb g.rhs0 g.lhs l.0) (lt-ltb g.rhs1 g.lhs l.1) in
      record { wide = refl; can = both_true (is_new m (is_defined defined g.lhs) g.lhs) (ltb g.rhs0 g.lhs && ltb g.rhs1 g.lhs) n v }

  pub gates_new : (gs : List Gate) (defined : List ℕ) (k : ℕ) → Block m Gates defined (map gate_line gs)
      → New m defined (map (λ (g : Gate). g.lhs) gs) × EachAt (λ _. Lower) k gs
  gates_new = keyed_new m Gates gate_line (λ (g : Gate). g.lhs) Lower (λ g d. refl) gate_into gate_from_lem

  pub gates_block : (gs : List Gate) (defined : List ℕ) (k : ℕ) → New m defined (map (λ (g : Gate). g.lhs) gs) → EachAt (λ _. Lower) k gs → Block m Gates defined (map gate_line gs)
  gates_block = keyed_block m Gates gate_line (λ (g : Gate). g.lhs) Lower (λ g d. refl) gate_into gate_from_lem

  -- outputs define nothing
  pub outputs_each : (xs : List ℕ) (defined : List ℕ) (k : ℕ) → Block m Outputs defined (map one_line xs) → EachAt (λ _. IsLiteral m) k xs
  outputs_each [] defined k b = tt
  outputs_each (x ∷ xs) defined k b = (leb-true x (2 * m + 1) b.0.can, outputs_each xs defined (k + 1) b.1)

  pub outputs_block : (xs : List ℕ) (defined : List ℕ) (k : ℕ) → EachAt (λ _. IsLiteral m) k xs → Block m Outputs defined (map one_line xs)
  outputs_block [] defined k e = tt
  outputs_block (x ∷ xs) defined k e = (record { wide = refl; can = le-leb x (2 * m + 1) e.0 }, outputs_block xs defined (k + 1) e.1)

pub outputs_behind : (xss : List (List ℕ)) (defined : List ℕ) → behind Outputs xss defined ≡ defined
outputs_behind [] defined = refl
outputs_behind (xs ∷ xss) defined = outputs_behind xss defined

-- ---- lines of the right width are those of what they stand for

module _ {A : Type 0} (s : Section) (f : A → List ℕ) (g : List ℕ → A) (own : (xs : List ℕ) → length xs ≡ width s → f (g xs) ≡ xs) where
  shaped : (m : ℕ) (defined : List ℕ) (xss : List (List ℕ)) → Block m s defined xss → map f (map g xss) ≡ xss
  shaped m defined [] b = refl
  shaped m defined (xs ∷ xss) b = ap₂ ◌∷◌ (own xs b.0.wide) (shaped m (now_defined s xs defined) xss b.1)

one_own : (xs : List ℕ) → length xs ≡ 1 → get_or xs 0 0 ∷ [] ≡ xs
one_own [] e = absurd (omega arith)
one_own (x ∷ []) e = refl
one_own (x ∷ y ∷ ys) e = absurd (omega arith)

two_own : (xs : List ℕ) → length xs ≡ 2 → get_or xs 0 0 ∷ get_or xs 1 0 ∷ [] ≡ xs
two_own [] e = absurd (omega arith)
two_own (x ∷ xs) e = ap (◌∷◌ x) (one_own xs (omega arith))

pub three_own : (xs : List ℕ) → length xs ≡ 3 → get_or xs 0 0 ∷ get_or xs 1 0 ∷ get_or xs 2 0 ∷ [] ≡ xs
three_own [] e = absurd (omega arith)
three_own (x ∷ xs) e = ap (◌∷◌ x) (two_own xs (omega arith))

module _ (m : ℕ) (defined : List ℕ) (xss : List (List ℕ)) where
  pub inputs_shaped : Block m Inputs defined xss → map one_line (map (λ xs. get_or xs 0 0) xss) ≡ xss
  inputs_shaped = shaped Inputs one_line (λ xs. get_or xs 0 0) one_own m defined xss

  pub latches_shaped : Block m Latches defined xss → map latch_line (map latch_from xss) ≡ xss
  latches_shaped = shaped Latches latch_line latch_from two_own m defined xss

  pub outputs_shaped : Block m Outputs defined xss → map one_line (map (λ xs. get_or xs 0 0) xss) ≡ xss
  outputs_shaped = shaped Outputs one_line (λ xs. get_or xs 0 0) one_own m defined xss

  pub gates_shaped : Block m Gates defined xss → map gate_line (map gate_from xss) ≡ xss
  gates_shaped = shaped Gates gate_line gate_from three_own m defined xss
