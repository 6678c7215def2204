-- Lanes word by word. Assumes nothing.
use Prim.Native.Nat.{ℕ, zero, suc, ◌+◌, ◌*◌, ◌-◌, ◌≤◌, ◌<◌, ◌%◌, ◌^◌}
use mathlib.Core.Path.{◌≡◌, refl, sym, ap, ap₂, ◌∙◌}
use mathlib.Core.Bool.{Bool, true, false}
use mathlib.Core.List.{List, [], ◌∷◌}
use native.Mathlib.Decide.{ℕ_discrete, dec_lt}
use native.Mathlib.Omega.{arith}
use lib.Dec.{ltb, eqb}
use lib.ListN.{length, get_or, set}
use lib.Seq.{get_or-set_same, get_or-set_other}
use borrow.Author.Tests.{eq-eqb, ne_eqb, lt-ltb, le-ltb}
use Rattle.tables.specs.Choice.{pick}
use Rattle.tables.specs.Place.{tabulate_from}
use Rattle.tables.specs.Bit.{word_from, lane_of}
use Rattle.tables.specs.declared.trace.Lane.{Lane}
use Rattle.tables.proofs.Places.{get_d_tabulate, tabulate_get_d, tabulate_ext}
use Rattle.tables.proofs.Bits.{word_ext, lane_ext, OneMore}
use Rattle.meaning.specs.Approximant.{expand, approximant}
use Rattle.meaning.proofs.Streams.{approximant_split}
use Rattle.lanes.specs.Word.{WordByWord}
use Rattle.lanes.proofs.Words.{word_odd, word_every}

-- the words of a lane by their places
pub word_at : (l : Lane) (f : ℕ → Bool) → l ≡ lane_of f → (i : ℕ) → i < 4 → get_or l.words i 0 ≡ word_from 64 (i * 64) f
unfolding lane_of
word_at l f e i h = ap (λ (x : Lane). get_or x.words i 0) e ∙ get_d_tabulate 4 (λ j. word_from 64 (j * 64) f) i 0 h

pub lane_by_words : (l : Lane) (f : ℕ → Bool) → length l.words ≡ 4 → ((i : ℕ) → i < 4 → get_or l.words i 0 ≡ word_from 64 (i * 64) f) → l ≡ lane_of f
unfolding lane_of
lane_by_words l f long is =
    ap (λ ws. record { words = ws }) (sym (tabulate_get_d l.words 4 0 long) ∙ tabulate_ext 4 (λ i. get_or l.words i 0) (λ i. word_from 64 (i * 64) f) is)

-- what holds of the four words one by one
pub each_word : (P : ℕ → Type 0) → P 0 → P 1 → P 2 → P 3 → (i : ℕ) → i < 4 → P i
each_word P p q r s zero h = p
each_word P p q r s (suc zero) h = q
each_word P p q r s (suc (suc zero)) h = r
each_word P p q r s (suc (suc (suc zero))) h = s
each_word P p q r s (suc (suc (suc (suc i)))) h = absurd (omega arith)

-- an operation on words, bit by bit, is one on lanes
module _ (op : ℕ → ℕ → ℕ) (on : Bool → Bool → Bool) (law : (b : ℕ) (f g : ℕ → Bool) → op (word_from 64 b f) (word_from 64 b g) ≡ word_from 64 b (λ i. on (f i) (g i))) where
  pub lane_pointwise : (l m r : Lane) → WordByWord (λ x y z. z ≡ op x y) l m r → (f g : ℕ → Bool) → l ≡ lane_of f → m ≡ lane_of g → r ≡ lane_of (λ i. on (f i) (g i))
  lane_pointwise l m r w f g p q =
      lane_by_words r (λ i. on (f i) (g i)) w.0 (λ i h. w.1 i h ∙ ap₂ op (word_at l f p i h) (word_at m g q i h) ∙ law (i * 64) f g)

-- a lane that is made from its last word back: the words from the i-th on are those of f, and the bit at cycle i * 64 goes over to the word before
pub record MadeFrom (f bit : ℕ → Bool) (i : ℕ) (words : List ℕ) (later : ℕ) : Type 0 where
  pub made : (j : ℕ) → i ≤ j → j < 4 → get_or words j 0 ≡ word_from 64 (j * 64) f
  pub over : later % 2 ≡ pick (bit (i * 64)) 1 0

module _ (f bit : ℕ → Bool) (words : List ℕ) where
  pub made_none : bit 256 ≡ false → MadeFrom f bit 4 words 0
  made_none e = record { made = λ j l h. absurd (omega arith); over = rw e }

  pub made_more : (i later : ℕ) → length words ≡ 4 → 0 < i → i ≤ 4 → MadeFrom f bit i words later → (word next : ℕ) → word ≡ word_from 64 ((i - 1) * 64) f
      → next % 2 ≡ pick (bit ((i - 1) * 64)) 1 0 → MadeFrom f bit (i - 1) (set words (i - 1) word) next
  made_more i later long some most m word next e o = record { made = λ j l h. by j l h (ℕ_discrete j (i - 1)); over = o }
    where
      within : i - 1 < length words
      within = omega arith

      by : (j : ℕ) → i - 1 ≤ j → j < 4 → Dec (j ≡ i - 1) → get_or (set words (i - 1) word) j 0 ≡ word_from 64 (j * 64) f
      by j l h (yes same) = rw (same, get_or-set_same words (i - 1) word 0 within) e
      by j l h (no n) = get_or-set_other words (i - 1) j word 0 n ∙ m.made j (omega arith) h

  pub made_all : (i later : ℕ) → i ≤ 0 → length words ≡ 4 → MadeFrom f bit i words later → ◌≡◌ {A = Lane} (record { words = words }) (lane_of f)
  made_all i later whole long m = lane_by_words (record { words = words }) f long (λ j h. m.made j (omega arith) h)

-- ---- an expansion of until over the whole lane

-- what carry_from promises
abbrev Carried : ℕ → ℕ → ℕ → ℕ → Type 0
Carried keep goal later r =
    (b : ℕ) (k g : ℕ → Bool) (x : Bool) → keep ≡ word_from 64 b k → goal ≡ word_from 64 b g → later % 2 ≡ pick x 1 0 → r ≡ word_from 64 b (λ i. approximant k g x (b + 64 - i) i)

module _ (k g : ℕ → Bool) where
  abbrev pub to_end : ℕ → Bool
  to_end i = approximant k g false (256 - i) i

  pub word_whole : (b : ℕ) → b + 64 ≤ 256 → word_from 64 b (λ i. approximant k g (to_end (b + 64)) (b + 64 - i) i) ≡ word_from 64 b to_end
  word_whole b h = word_ext 64 b _ _ (λ i p q.
      let n : b + 64 - i + (256 - (b + 64)) ≡ 256 - i = omega arith in
      let j : i + (b + 64 - i) ≡ b + 64 = omega arith in
      ap (λ x. approximant k g (approximant k g false (256 - (b + 64)) x) (b + 64 - i) i) (sym j)
      ∙ sym (approximant_split k g false (b + 64 - i) (256 - (b + 64)) i)
      ∙ ap (λ d. approximant k g false d i) n)

  module _ (keep goal : Lane) (p : keep ≡ lane_of k) (q : goal ≡ lane_of g) where
    -- a word, from what the word behind it is
    carry_word : (i later r : ℕ) → i < 4 → Carried (get_or keep.words i 0) (get_or goal.words i 0) later r → later % 2 ≡ pick (to_end (i * 64 + 64)) 1 0
        → r ≡ word_from 64 (i * 64) to_end
    carry_word i later r h c o = c (i * 64) k g (to_end (i * 64 + 64)) (word_at keep k p i h) (word_at goal g q i h) o ∙ word_whole (i * 64) (omega arith)

    bit_of : (i r : ℕ) → r ≡ word_from 64 (i * 64) to_end → r % 2 ≡ pick (to_end (i * 64)) 1 0
    bit_of i r w = ap (λ x. x % 2) w ∙ word_odd 63 (i * 64) to_end

    pub lane_carry :
        (r₀ r₁ r₂ r₃ : ℕ)
        → Carried (get_or keep.words 3 0) (get_or goal.words 3 0) 0 r₃
        → Carried (get_or keep.words 2 0) (get_or goal.words 2 0) r₃ r₂
        → Carried (get_or keep.words 1 0) (get_or goal.words 1 0) r₂ r₁
        → Carried (get_or keep.words 0 0) (get_or goal.words 0 0) r₁ r₀
        → ◌≡◌ {A = Lane} (record { words = r₀ ∷ r₁ ∷ r₂ ∷ r₃ ∷ [] }) (lane_of to_end)
    unfolding approximant lane_of tabulate_from
    lane_carry r₀ r₁ r₂ r₃ c₃ c₂ c₁ c₀ =
        let w₃ : r₃ ≡ word_from 64 192 to_end = carry_word 3 0 r₃ (omega arith) c₃ refl in
        let w₂ : r₂ ≡ word_from 64 128 to_end = carry_word 2 r₃ r₂ (omega arith) c₂ (bit_of 3 r₃ w₃) in
        let w₁ : r₁ ≡ word_from 64 64 to_end = carry_word 1 r₂ r₁ (omega arith) c₁ (bit_of 2 r₂ w₂) in
        let w₀ : r₀ ≡ word_from 64 0 to_end = carry_word 0 r₁ r₀ (omega arith) c₀ (bit_of 1 r₁ w₁) in
        rw (w₀, w₁, w₂, w₃) refl

-- ---- one cycle later

-- what next_from promises
abbrev NextOf : ℕ → ℕ → ℕ → Type 0
NextOf word later r = (b : ℕ) (f : ℕ → Bool) → word ≡ word_from 64 b f → later % 2 ≡ pick (f (b + 64)) 1 0 → r ≡ word_from 64 b (λ i. f (suc i))

module _ (f : ℕ → Bool) (lane : Lane) (p : lane ≡ lane_of f) (words : List ℕ) where
  pub next_more : (i later r : ℕ) → length words ≡ 4 → 0 < i → i ≤ 4 → NextOf (get_or lane.words (i - 1) 0) later r
      → MadeFrom (λ c. f (suc c)) f i words later → MadeFrom (λ c. f (suc c)) f (i - 1) (set words (i - 1) r) (get_or lane.words (i - 1) 0)
  next_more i later r long some most n m =
      let b : i * 64 ≡ (i - 1) * 64 + 64 = omega arith in
      let here = word_at lane f p (i - 1) (omega arith) in
      made_more (λ c. f (suc c)) f words i later long some most m r (get_or lane.words (i - 1) 0) (n ((i - 1) * 64) f here (rw b at m.over))
      (ap (λ x. x % 2) here ∙ word_odd 63 ((i - 1) * 64) f)

-- ---- one cycle alone

word_none : (n b : ℕ) → word_from n b (λ i. false) ≡ 0
unfolding word_from
word_none zero b = refl
word_none (suc n) b = rw (word_none n (suc b))

-- four times the same word
lane_alike : (f : ℕ → Bool) (w : ℕ) → ((b : ℕ) → w ≡ word_from 64 b f) → ◌≡◌ {A = Lane} (record { words = w ∷ w ∷ w ∷ w ∷ [] }) (lane_of f)
unfolding lane_of tabulate_from
lane_alike f w is = rw (← is 0, ← is 64, ← is 128, ← is 192) refl

pub lane_none : ◌≡◌ {A = Lane} (record { words = 0 ∷ 0 ∷ 0 ∷ 0 ∷ [] }) (lane_of (λ i. false))
lane_none = lane_alike (λ i. false) 0 (λ b. sym (word_none 64 b))

pub one_more : (c : ℕ) → OneMore (λ i. false) (λ i. eqb i c) c
one_more c = record { was = refl; is = eq-eqb c c refl; other = λ i n. ne_eqb i c n }

pub last_cycle : (n : ℕ) → 1 ≤ n → (i : ℕ) → eqb i (n - 1) ≡ eqb (suc i) n
last_cycle n h i = by (ℕ_discrete i (n - 1))
  where
    by : Dec (i ≡ n - 1) → eqb i (n - 1) ≡ eqb (suc i) n
    by (yes e) = eq-eqb i (n - 1) e ∙ sym (eq-eqb (suc i) n (omega arith))
    by (no e) = ne_eqb i (n - 1) e ∙ sym (ne_eqb (suc i) n (λ q. e (omega arith)))

-- ---- every cycle, and those up to the last

pub lane_every : (w : ℕ) → w + 1 ≡ 2 ^ 64 → ◌≡◌ {A = Lane} (record { words = w ∷ w ∷ w ∷ w ∷ [] }) (lane_of (λ i. true))
lane_every w e = lane_alike (λ i. true) w (λ b. omega (arith, word_every 64 b))

up_to : (n d i : ℕ) → n ≤ i + d → approximant (λ j. true) (λ j. eqb (suc j) n) false d i ≡ ltb i n
unfolding approximant
up_to n zero i h = sym (le-ltb i n (omega arith))
up_to n (suc d) i h = by (ℕ_discrete (suc i) n) (up_to n d (suc i) (omega arith))
  where
    other : (suc i ≡ n → ⊥) → Dec (i < n) → ltb (suc i) n ≡ ltb i n
    other e (yes q) = lt-ltb (suc i) n (by_le (dec_lt (suc i) n)) ∙ sym (lt-ltb i n q)
      where
        by_le : Dec (suc i < n) → suc i < n
        by_le (yes r) = r
        by_le (no r) = absurd (e (omega arith))
    other e (no q) = le-ltb (suc i) n (omega arith) ∙ sym (le-ltb i n (omega arith))

    by : Dec (suc i ≡ n) → approximant (λ j. true) (λ j. eqb (suc j) n) false d (suc i) ≡ ltb (suc i) n → expand true (eqb (suc i) n) (approximant (λ j. true) (λ j. eqb (suc j) n) false d (suc i)) ≡ ltb i n
    by (yes e) rec = rw (eq-eqb (suc i) n e) (sym (lt-ltb i n (omega arith)))
    by (no e) rec = rw (ne_eqb (suc i) n e) (rec ∙ other e (dec_lt i n))

pub lane_up_to : (n : ℕ) → n ≤ 256 → lane_of (to_end (λ j. true) (λ j. eqb (suc j) n)) ≡ lane_of (λ i. ltb i n)
lane_up_to n h = lane_ext _ _ (λ i l. up_to n (256 - i) i (omega arith))
