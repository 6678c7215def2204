-- The gates' values, variable by variable. Assumes nothing.
use Prim.Native.Nat.{ℕ, ◌+◌, ◌*◌, ◌/◌, ◌%◌, ◌≤◌, ◌<◌}
use mathlib.Core.Path.{◌≡◌, refl, sym, ap, ap₂, subst, ◌∙◌}
use mathlib.Core.Bool.{Bool, false, not, ◌&&◌}
use mathlib.Core.List.{List}
use native.Mathlib.Decide.{ℕ_discrete}
use native.Mathlib.Omega.{arith}
use borrow.Author.Tests.{eq-eqb, ne_eqb}
use lib.Dec.{eqb}
use lib.ListN.{length, get_or, set, length-set}
use lib.Seq.{get_or-set_same, get_or-set_other}
use Rattle.tables.specs.Choice.{pick}
use Rattle.circuit_values.specs.Values.{GatePlaces, value_of}

-- a literal's value changes only with its variable's
pub value_kept : (values : List Bool) (x l : ℕ) (b : Bool) → ¬ (l / 2 ≡ x) → value_of (set values x b) l ≡ value_of values l
value_kept values x l b n = ap (λ v. pick (eqb (l % 2) 0) v (not v)) (get_or-set_other values x (l / 2) b false n)

-- a variable's own literal, and the negated one
pub value_even : (values : List Bool) (x l : ℕ) → l ≡ 2 * x → value_of values l ≡ get_or values x false
value_even values x l e =
    let a : l % 2 ≡ 0 = omega arith in
    let b : l / 2 ≡ x = omega arith in
    rw (eq-eqb (l % 2) 0 a, b)

pub value_odd : (values : List Bool) (x : ℕ) → value_of values (2 * x + 1) ≡ not (value_of values (2 * x))
value_odd values x =
    let a : ¬ ((2 * x + 1) % 2 ≡ 0) = λ q. omega arith in
    let b : (2 * x + 1) / 2 ≡ x = omega arith in
    rw (ne_eqb ((2 * x + 1) % 2) 0 a, b) (sym (ap not (value_even values x (2 * x) refl)))

-- the operands of variable x's gate, and its value
module _ (places numbers : List ℕ) where
  abbrev pub first : ℕ → ℕ
  first x = get_or numbers (get_or places x 0) 0

  abbrev pub second : ℕ → ℕ
  second x = get_or numbers (get_or places x 0 + 1) 0

  abbrev pub both_of : List Bool → ℕ → Bool
  both_of values x = value_of values (first x) && value_of values (second x)

  -- what holds once the variables below x are done
  pub record Done (x : ℕ) (before now : List Bool) : Type 0 where
    pub size : length now ≡ length before
    pub given : (y : ℕ) → get_or places y 0 ≡ 0 → get_or now y false ≡ get_or before y false
    pub ands : (y : ℕ) → y < x → ¬ (get_or places y 0 ≡ 0) → get_or now y false ≡ both_of now y

module _ {places numbers : List ℕ} where
  -- a variable that has no gate
  pub done_skip : {x : ℕ} {before now : List Bool} → get_or places x 0 ≡ 0 → Done places numbers x before now → Done places numbers (x + 1) before now
  done_skip {x} {before} {now} e d = record { size = d.size; given = d.given; ands = λ y h n. by y h n (ℕ_discrete y x) }
    where
      by : (y : ℕ) → y < x + 1 → ¬ (get_or places y 0 ≡ 0) → Dec (y ≡ x) → get_or now y false ≡ both_of places numbers now y
      by y h n (yes q) = absurd (n (ap (λ z. get_or places z 0) q ∙ e))
      by y h n (no q) = d.ands y (omega arith) n

  -- one that has: operands are lower, so that what was put before stays right
  module _ {most x : ℕ} (gates : GatePlaces most places numbers) (below : x ≤ most) where
    done_put : {before now : List Bool} → most < length before → ¬ (get_or places x 0 ≡ 0) → Done places numbers x before now → Done places numbers (x + 1) before (set now x (both_of places numbers now x))
    done_put {before} {now} long some d = record {
      size = length-set now x (both_of places numbers now x) ∙ d.size;
      given = λ y e. get_or-set_other now x y (both_of places numbers now x) false (λ q. some (ap (λ z. get_or places z 0) (sym q) ∙ e)) ∙ d.given y e;
      ands = λ y h n. by y h n (ℕ_discrete y x);
    }
      where
        -- neither operand of a variable up to x is x
        same : (y : ℕ) → y ≤ x → ¬ (get_or places y 0 ≡ 0) → both_of places numbers (set now x (both_of places numbers now x)) y ≡ both_of places numbers now y
        same y h n =
            let a : first places numbers y < 2 * y = gates.first_lower y (omega arith) n in
            let b : second places numbers y < 2 * y = gates.second_lower y (omega arith) n in
            ap₂ ◌&&◌ (value_kept now x (first places numbers y) (both_of places numbers now x) (λ q. omega arith)) (value_kept now x (second places numbers y) (both_of places numbers now x) (λ q. omega arith))

        by : (y : ℕ) → y < x + 1 → ¬ (get_or places y 0 ≡ 0) → Dec (y ≡ x) → get_or (set now x (both_of places numbers now x)) y false ≡ both_of places numbers (set now x (both_of places numbers now x)) y
        by y h n (yes q) =
            ap (λ z. get_or (set now x (both_of places numbers now x)) z false) q
            ∙ (get_or-set_same now x (both_of places numbers now x) false (let s = d.size in omega arith)
            ∙ (ap (both_of places numbers now) (sym q) ∙ sym (same y (omega arith) n)))
        by y h n (no q) =
            get_or-set_other now x y (both_of places numbers now x) false q ∙ (d.ands y (omega arith) n ∙ sym (same y (omega arith) n))

    -- as the code has it
    pub done_more : {before now after : List Bool} {a b : Bool} → most < length before → ¬ (get_or places x 0 ≡ 0) → Done places numbers x before now
        → a ≡ value_of now (first places numbers x) → b ≡ value_of now (second places numbers x) → after ≡ set now x (a && b) → Done places numbers (x + 1) before after
    done_more {before} {now} {after} {a} {b} long some d p q e =
        subst (Done places numbers (x + 1) before) (sym (e ∙ ap (set now x) (ap₂ ◌&&◌ p q))) (done_put long some d)
