-- Literals at equal distances that are defined one after the other. Assumes nothing.
use Prim.Native.Nat.{ℕ, ◌+◌, ◌*◌, ◌/◌, ◌≤◌, ◌<◌}
use mathlib.Core.Path.{◌≡◌, sym, ap, ◌∙◌}
use mathlib.Core.List.{List}
use native.Mathlib.Decide.{dec_lt}
use native.Mathlib.Omega.{arith}
use Rattle.circuit.specs.Circuit.{IsVariable}
use Rattle.circuit_values.specs.Values.{Distinct, literal_at, variable_at}

-- so many of them, from a place of the definitions on
pub record Stands (m : ℕ) (defined : ℕ → ℕ) (numbers : List ℕ) (from width count start : ℕ) : Type 0 where
  pub inside : start + count ≤ m
  pub same : (i : ℕ) → i < count → literal_at numbers from width i ≡ defined (start + i)

module _ (m : ℕ) (defined : ℕ → ℕ) (own : (k : ℕ) → k < m → IsVariable m (defined k))
    (once : (j k : ℕ) → j < k → k < m → ¬ (defined j ≡ defined k)) where
  -- each place has a variable of its own
  halves_apart : (j k : ℕ) → j < m → k < m → ¬ (j ≡ k) → ¬ (defined j / 2 ≡ defined k / 2)
  halves_apart j k a b n q = by (dec_lt j k)
    where
      alike : defined j ≡ defined k
      alike = let v = own j a in let w = own k b in omega (arith, v.even, w.even)

      by : Dec (j < k) → ⊥
      by (yes l) = once j k l b alike
      by (no l) = once k j (omega arith) a (sym alike)

  pub sections_apart : {numbers : List ℕ} {from width count start from' width' count' start' : ℕ}
      → Stands m defined numbers from width count start → Stands m defined numbers from' width' count' start'
      → (i j : ℕ) → i < count → j < count' → ¬ (start + i ≡ start' + j) → ¬ (variable_at numbers from width i ≡ variable_at numbers from' width' j)
  sections_apart {numbers} {from} {width} {count} {start} {from'} {width'} {count'} {start'} s t i j a b n q =
      halves_apart (start + i) (start' + j) (let z = s.inside in omega arith) (let z = t.inside in omega arith) n
      (ap (λ l. l / 2) (sym (s.same i a)) ∙ (q ∙ ap (λ l. l / 2) (t.same j b)))

  module _ {numbers : List ℕ} {from width count start : ℕ} (s : Stands m defined numbers from width count start) where
    pub section_variable : (i : ℕ) → i < count
        → (1 ≤ variable_at numbers from width i) × (variable_at numbers from width i ≤ m) × (literal_at numbers from width i ≡ 2 * variable_at numbers from width i)
    section_variable i h =
        let v = own (start + i) (let z = s.inside in omega arith) in
        let e = s.same i h in
        (omega (arith, v.even, v.least), omega (arith, v.even, v.most), omega (arith, v.even))

    pub section_distinct : (size : ℕ) → m < size → Distinct count (variable_at numbers from width) size
    section_distinct size h = record {
      within = λ i l. let z = section_variable i l in omega (arith, z.1);
      differ = λ i j l k. sections_apart s s i j (omega arith) k (λ q. omega arith);
    }
