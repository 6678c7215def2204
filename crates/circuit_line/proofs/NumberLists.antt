-- The loop that reads the numbers of a line, and what is known of numbers that were read. Assumes nothing.
use mathlib.Core.Path.{◌≡◌, refl, sym, ap, ◌∙◌}
use mathlib.Core.Bool.{true, false}
use mathlib.Core.List.{List, [], ◌∷◌, ◌++◌, append_assoc}
use Prim.Native.Nat.{ℕ, zero, suc, ◌+◌, ◌-◌, ◌≤◌, ◌<◌}
use native.Mathlib.Nat.{sub-zero}
use native.Mathlib.Numerals.{add-one}
use native.Mathlib.Omega.{arith}
use native.Mathlib.Decide.{ℕ_discrete}
use lib.ListN.{length, get_or, take, drop, set, replicate, length-drop, length-set, length-replicate}
use lib.Seq.{get_or-set_same, get_or-set_other, take-suc-set}
use Rattle.tables.specs.declared.refusal.Reason.TheVariants.{WrongForm}
use Rattle.tables.proofs.Places.{replicate_at}
use Rattle.text.specs.Search.{first_of}
use Rattle.text.specs.Number.{number_of}
use Rattle.text.specs.Result.{Parsed, on_parsed}
use Rattle.text.specs.Result.Parsed.{good, bad}
use Rattle.text.specs.declared.number.Number.TheVariants.{Is, Not}
use Rattle.text.specs.declared.search.Found.TheVariants.{At, Nothing}
use Rattle.text.proofs.Numbers.{number_small}
use Rattle.circuit_line.specs.Numbers.{number_list, numbers_as}
use Rattle.circuit_line.specs.declared.numbers.Numbers.{Numbers}

-- numbers that stand before those of a reading
abbrev pub behind : List ℕ → Parsed (List ℕ) → Parsed (List ℕ)
behind done p = on_parsed p bad (λ xs. good (done ++ xs))

behind_none : (p : Parsed (List ℕ)) → p ≡ behind [] p
behind_none (good xs) = refl
behind_none (bad e) = refl

behind_more : (done : List ℕ) (x : ℕ) (p : Parsed (List ℕ)) → behind done (on_parsed p bad (λ xs. good (x ∷ xs))) ≡ behind (done ++ (x ∷ [])) p
behind_more done x (good xs) = ap good (sym (append_assoc done (x ∷ []) xs))
behind_more done x (bad e) = refl

-- the reading goes on behind k numbers, and the others are 0
pub record NumbersAt (count : ℕ) (text : List ℕ) (k : ℕ) (values rest : List ℕ) : Type 0 where
  pub within : k < count
  pub short : count ≤ 5
  pub sized : length values ≡ 5
  pub left : length rest ≤ length text
  pub small : (i : ℕ) → get_or values i 0 < 100000
  pub unused : (i : ℕ) → k ≤ i → get_or values i 0 ≡ 0
  pub goes : number_list count text ≡ behind (take k values) (number_list (count - k) rest)

pub numbers_start : (count : ℕ) (text : List ℕ) → 1 ≤ count → count ≤ 5 → NumbersAt count text 0 (replicate 5 0) text
numbers_start count text l u =
    record {
      within = omega arith;
      short = u;
      sized = length-replicate {A = ℕ} 5 0;
      left = omega arith;
      small = λ i. rw (replicate_at {A = ℕ} 5 i 0) (omega arith);
      unused = λ i _. replicate_at {A = ℕ} 5 i 0;
      goes = rw sub-zero (behind_none (number_list count text));
    }

module _ {count : ℕ} {text : List ℕ} {k : ℕ} {values rest : List ℕ} (inv : NumbersAt count text k values rest) where
  -- a number more
  room : k < length values
  room = omega (arith, inv.within, inv.short, inv.sized)

  pub small_more : (n : ℕ) → n < 100000 → (i : ℕ) → get_or (set values k n) i 0 < 100000
  small_more n l i = by (ℕ_discrete i k)
    where
      by : Dec (i ≡ k) → get_or (set values k n) i 0 < 100000
      by (yes e) = rw (e, get_or-set_same values k n 0 room) l
      by (no e) = rw (get_or-set_other values k i n 0 e) (inv.small i)

  pub unused_more : (n : ℕ) (i : ℕ) → k + 1 ≤ i → get_or (set values k n) i 0 ≡ 0
  unused_more n i l = get_or-set_other values k i n 0 (λ e. omega arith) ∙ inv.unused i (omega arith)

  taken_more : (n : ℕ) → take (k + 1) (set values k n) ≡ take k values ++ (n ∷ [])
  taken_more n = rw add-one (take-suc-set values k n room)

  module _ (h : k + 1 < count) where
    two_left : count - k ≡ suc (suc (count - (k + 2)))
    two_left = omega arith

    pub no_space : first_of 32 rest ≡ Nothing → number_list count text ≡ bad WrongForm
    unfolding number_list
    no_space q = rw (inv.goes, two_left, q)

    module _ {space : ℕ} (q : first_of 32 rest ≡ At space) where
      pub no_number_lem : number_of (take space rest) ≡ Not → number_list count text ≡ bad WrongForm
      unfolding number_list
      no_number_lem d = rw (inv.goes, two_left, q, d)

      pub numbers_more : {n : ℕ} → number_of (take space rest) ≡ Is n → NumbersAt count text (k + 1) (set values k n) (drop (space + 1) rest)
      unfolding number_list
      numbers_more {n} d =
          let m : count - (k + 1) ≡ suc (count - (k + 2)) = omega arith in
          record {
            within = h;
            short = inv.short;
            sized = length-set values k n ∙ inv.sized;
            left = rw length-drop (omega (arith, inv.left));
            small = small_more n (number_small (take space rest) n d);
            unused = unused_more n;
            goes =
                rw (inv.goes, two_left, q, d, m, taken_more n)
                (behind_more (take k values) n (number_list (suc (count - (k + 2))) (drop (space + 1) rest)));
          }

  module _ (h : count ≤ k + 1) where
    last : count - k ≡ 1
    last = omega (arith, inv.within)

    pub no_last : number_of rest ≡ Not → number_list count text ≡ bad WrongForm
    unfolding number_list
    no_last d = rw (inv.goes, last, d)

    pub numbers_end : {n : ℕ} → number_of rest ≡ Is n → number_list count text ≡ good (take count (set values k n))
    unfolding number_list
    numbers_end {n} d =
        let e : count ≡ k + 1 = omega (arith, inv.within) in
        rw (inv.goes, last, d) (ap good (sym (taken_more n))) ∙ ap (λ m. good (take m (set values k n))) (sym e)

-- ---- the code's answers

-- what the code promises of them
abbrev pub Promised : ℕ → List ℕ → Numbers → Type 0
Promised count text r =
    (numbers_as count r ≡ number_list count text) × (((i : ℕ) → get_or r.values i 0 < 100000) × ((i : ℕ) → count ≤ i → get_or r.values i 0 ≡ 0))

pub numbers_wrong : (count : ℕ) (text : List ℕ) {r : Numbers} → r ≡ record { right = false; values = replicate 5 0 } → number_list count text ≡ bad WrongForm → Promised count text r
numbers_wrong count text e q = rw (e, q) (refl, (λ i. rw (replicate_at {A = ℕ} 5 i 0) (omega arith), λ i _. replicate_at {A = ℕ} 5 i 0))

pub numbers_right : {count : ℕ} {text : List ℕ} {k : ℕ} {values rest : List ℕ} → NumbersAt count text k values rest → count ≤ k + 1 → {n : ℕ} → number_of rest ≡ Is n
    → Promised count text (record { right = true; values = set values k n })
numbers_right {k = k} {rest = rest} inv h {n} d =
    (sym (numbers_end inv h d), (small_more inv n (number_small rest n d), λ i l. unused_more inv n i (omega (arith, inv.within))))
