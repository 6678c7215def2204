-- The lines of each section by themselves, each behind the lines before it. Assumes nothing.
use mathlib.Core.Path.{◌≡◌, sym, subst}
use mathlib.Core.List.{List, [], ◌∷◌, ◌++◌, append-nil}
use Prim.Native.Nat.{ℕ, suc, ◌+◌, ◌≤◌, ◌<◌}
use native.Mathlib.Nat.{add-zero}
use native.Mathlib.Omega.{arith}
use lib.ListN.{length}
use borrow.Author.Tests.{lt-ltb, le-ltb}
use Rattle.circuit_line.specs.declared.section.Header.{Header}
use Rattle.circuit_line.specs.declared.section.Section.{Section}
use Rattle.circuit_line.specs.declared.section.Section.TheVariants.{Inputs, Latches, Outputs, Gates}
use Rattle.circuit_line.specs.Section.{section_of, now_defined}
use Rattle.circuit_file.proofs.Possible.{LineOk, Possible}

-- lines of one section, each possible behind those before it
abbrev pub Block : ℕ → Section → List ℕ → List (List ℕ) → Type 0
Block m s defined [] = Unit {0}
Block m s defined (xs ∷ xss) = LineOk m defined s xs × Block m s (now_defined s xs defined) xss

-- what is defined behind them
abbrev pub behind : Section → List (List ℕ) → List ℕ → List ℕ
behind s [] defined = defined
behind s (xs ∷ xss) defined = behind s xss (now_defined s xs defined)

-- ---- the lines from one place on that are of one section, and the others
module _ (m : ℕ) (section : ℕ → Section) (s : Section) where
  pub block_split : (k : ℕ) (defined : List ℕ) (xss yss : List (List ℕ)) → ((j : ℕ) → k ≤ j → j < k + length xss → section j ≡ s)
      → Possible m section k defined (xss ++ yss) → Block m s defined xss × Possible m section (k + length xss) (behind s xss defined) yss
  block_split k defined [] yss e p = (tt, rw add-zero p)
  block_split k defined (xs ∷ xss) yss e p =
      let q : section k ≡ s = e k (omega arith) (omega arith) in
      let n : k + suc (length xss) ≡ k + 1 + length xss = omega arith in
      let w = block_split (k + 1) (now_defined s xs defined) xss yss (λ j a b. e j (omega arith) (omega arith))
      (subst (λ t. Possible m section (k + 1) (now_defined t xs defined) (xss ++ yss)) q p.1) in
      ((subst (λ t. LineOk m defined t xs) q p.0, w.0), rw n w.1)

  pub block_join : (k : ℕ) (defined : List ℕ) (xss yss : List (List ℕ)) → ((j : ℕ) → k ≤ j → j < k + length xss → section j ≡ s)
      → Block m s defined xss → Possible m section (k + length xss) (behind s xss defined) yss → Possible m section k defined (xss ++ yss)
  block_join k defined [] yss e b p = rw add-zero at p
  block_join k defined (xs ∷ xss) yss e b p =
      let q : s ≡ section k = sym (e k (omega arith) (omega arith)) in
      let n : k + suc (length xss) ≡ k + 1 + length xss = omega arith in
      let w = block_join (k + 1) (now_defined s xs defined) xss yss (λ j a b. e j (omega arith) (omega arith)) b.1 (rw n at p) in
      (subst (λ t. LineOk m defined t xs) q b.0, subst (λ t. Possible m section (k + 1) (now_defined t xs defined) (xss ++ yss)) q w)

-- ---- the sections of a file
module _ (h : Header) (j : ℕ) where
  pub in_inputs : j < h.inputs → section_of h j ≡ Inputs
  in_inputs a = rw (lt-ltb j h.inputs a)

  pub in_latches : h.inputs ≤ j → j < h.inputs + h.latches → section_of h j ≡ Latches
  in_latches a b = rw (le-ltb j h.inputs a, lt-ltb j (h.inputs + h.latches) b)

  pub in_outputs : h.inputs + h.latches ≤ j → j < h.inputs + h.latches + h.outputs → section_of h j ≡ Outputs
  in_outputs a b =
      let c : h.inputs ≤ j = omega arith in
      rw (le-ltb j h.inputs c, le-ltb j (h.inputs + h.latches) a, lt-ltb j (h.inputs + h.latches + h.outputs) b)

  pub in_gates : h.inputs + h.latches + h.outputs ≤ j → section_of h j ≡ Gates
  in_gates a =
      let b : h.inputs + h.latches ≤ j = omega arith in
      let c : h.inputs ≤ j = omega arith in
      rw (le-ltb j h.inputs c, le-ltb j (h.inputs + h.latches) b, le-ltb j (h.inputs + h.latches + h.outputs) a)

-- the four of them
pub record Blocks (m : ℕ) (a b o g : List (List ℕ)) : Type 0 where
  pub inputs : Block m Inputs [] a
  pub latches : Block m Latches (behind Inputs a []) b
  pub outputs : Block m Outputs (behind Latches b (behind Inputs a [])) o
  pub gates : Block m Gates (behind Outputs o (behind Latches b (behind Inputs a []))) g

module _ (m : ℕ) (h : Header) (a b o g : List (List ℕ)) (i : length a ≡ h.inputs) (l : length b ≡ h.latches) (n : length o ≡ h.outputs) where
  pub to_blocks : Possible m (section_of h) 0 [] (a ++ (b ++ (o ++ g))) → Blocks m a b o g
  to_blocks p =
      let u = block_split m (section_of h) Inputs 0 [] a (b ++ (o ++ g)) (λ j x y. in_inputs h j (omega arith)) p in
      let v = block_split m (section_of h) Latches (0 + length a) _ b (o ++ g) (λ j x y. in_latches h j (omega arith) (omega arith)) u.1 in
      let w = block_split m (section_of h) Outputs (0 + length a + length b) _ o g (λ j x y. in_outputs h j (omega arith) (omega arith)) v.1 in
      let z = block_split m (section_of h) Gates (0 + length a + length b + length o) (behind Outputs o (behind Latches b (behind Inputs a []))) g [] (λ j x y. in_gates h j (omega arith)) (rw append-nil w.1) in
      record { inputs = u.0; latches = v.0; outputs = w.0; gates = z.0 }

  pub from_blocks : Blocks m a b o g → Possible m (section_of h) 0 [] (a ++ (b ++ (o ++ g)))
  from_blocks p =
      block_join m (section_of h) Inputs 0 [] a (b ++ (o ++ g)) (λ j x y. in_inputs h j (omega arith)) p.inputs
      (block_join m (section_of h) Latches (0 + length a) _ b (o ++ g) (λ j x y. in_latches h j (omega arith) (omega arith)) p.latches
      (block_join m (section_of h) Outputs (0 + length a + length b) _ o g (λ j x y. in_outputs h j (omega arith) (omega arith)) p.outputs
      (rw append-nil at (block_join m (section_of h) Gates (0 + length a + length b + length o) _ g [] (λ j x y. in_gates h j (omega arith)) p.gates tt))))
