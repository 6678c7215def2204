-- The words of the signals, digit by digit and cycle by cycle, and the lanes from them. Assumes nothing.
use mathlib.Core.Path.{◌≡◌, refl, sym, ap, ap₂, ◌∙◌}
use mathlib.Core.Bool.{Bool, true, false}
use mathlib.Core.List.{List, [], ◌∷◌, ◌++◌}
use Prim.Native.Nat.{ℕ, zero, suc, ◌+◌, ◌*◌, ◌/◌, ◌%◌, ◌^◌, ◌≤◌, ◌<◌}
use native.Mathlib.Nat.{add-zero, le_refl}
use native.Mathlib.Numerals.{add-one}
use native.Mathlib.Omega.{arith}
use native.Mathlib.Decide.{ℕ_discrete}
use lib.Dec.{eqb}
use lib.ListN.{length, get_or, take, set, replicate, length-set, length-replicate, get_or-eq_default, get_or-map}
use lib.Seq.{take-suc, take_all, length-take-le, get_or-append_seam, get_or-set_same, get_or-set_other, ext_get_or}
use borrow.Author.Tests.{eq-eqb, ne_eqb}
use Rattle.tables.specs.Choice.{pick}
use Rattle.tables.specs.Place.{tabulate_from, tabulate}
use Rattle.tables.specs.Bit.{word_from, lane_of, marked}
use Rattle.tables.specs.declared.trace.Lane.{Lane}
use Rattle.tables.proofs.Places.{length_tabulate, tabulate_get_d, get_d_tabulate, tabulate_ext, set_tabulate, replicate_tabulate, snoc_other}
use Rattle.tables.proofs.Bits.{word_ext, word_of}
use Rattle.tables.proofs.Marks.{lane_none, bit_room, lane_digit}
use Rattle.text.specs.Digits.{digits_in}
use Rattle.recording.specs.Recording.{digit, lanes_of, words_of, Recorded, lane_from, lanes_from}

-- what a cycle adds to word i: its bit, where the word has its cycle and the digit of the word's signal is 1 (byte 49)
abbrev added : List ℕ → ℕ → ℕ → ℕ
added value cycle i = pick (eqb (i / 32) (cycle / 64)) (pick (eqb (get_or value (i % 32) 0) 49) (2 ^ (cycle % 64)) 0) 0

-- the words with one cycle more
unfoldable pub cycle_put : List ℕ → List ℕ → ℕ → List ℕ
cycle_put words value cycle = tabulate 128 (λ i. get_or words i 0 + added value cycle i)

-- there are 128 words, so many digits and so many cycles have their places, and no word has the bit of this cycle yet
pub record RoomAt (words : List ℕ) (value : List ℕ) (cycle : ℕ) : Type 0 where
  pub places : length words ≡ 128
  pub signals : length value ≤ 32
  pub cycles : cycle < 256
  pub unset : (i : ℕ) → i < 128 → i / 32 ≡ cycle / 64 → get_or words i 0 + 2 ^ (cycle % 64) < 2 ^ 64

-- ---- the digits of one cycle, one after the other: the first s are put
pub record PutAt (before value : List ℕ) (cycle s : ℕ) (words : List ℕ) : Type 0 where
  pub within : s ≤ length value
  pub goes : words ≡ cycle_put before (take s value) cycle

pick_same : (t : Bool) → ◌≡◌ {A = ℕ} (pick t 0 0) 0
pick_same true = refl
pick_same false = refl

pub put_start : {before value : List ℕ} {cycle : ℕ} → length before ≡ 128 → PutAt before value cycle 0 before
unfolding cycle_put
put_start {before} {value} {cycle} e =
    record {
      within = omega arith;
      goes = sym (tabulate_ext 128 (λ i. get_or before i 0 + added [] cycle i) (λ i. get_or before i 0) (λ i h. rw (pick_same (eqb (i / 32) (cycle / 64)), add-zero)) ∙ tabulate_get_d before 128 0 e);
    }

module _ {before value : List ℕ} {cycle s : ℕ} {words : List ℕ} (inv : PutAt before value cycle s words) where
  pub put_end : length value ≤ s → words ≡ cycle_put before value cycle
  put_end h = inv.goes ∙ ap (λ v. cycle_put before v cycle) (take_all s value h)

  module _ (room : RoomAt before value cycle) (h : s < length value) where
    -- what word i is by the first digits
    by_digits : List ℕ → ℕ → ℕ
    by_digits v i = get_or before i 0 + added v cycle i

    size : length (take s value) ≡ s
    size = length-take-le s value inv.within

    none_yet : get_or (take s value) s 0 ≡ 0
    none_yet = get_or-eq_default (take s value) 0 (omega (arith, size))

    more : take (s + 1) value ≡ take s value ++ (get_or value s 0 ∷ [])
    more = rw add-one (take-suc value s 0 h)

    at_s : get_or (take (s + 1) value) s 0 ≡ get_or value s 0
    at_s =
        let e : get_or (take s value ++ (get_or value s 0 ∷ [])) (length (take s value)) 0 ≡ get_or value s 0 = get_or-append_seam (take s value) (get_or value s 0) [] 0 in
        rw more (rw size at e)

    other : (i : ℕ) → (i ≡ s → ⊥) → get_or (take (s + 1) value) i 0 ≡ get_or (take s value) i 0
    other i n = rw more (snoc_other (take s value) (get_or value s 0) 0 i (λ e. n (e ∙ size)))

    -- the word that has the digit
    put_place : cycle / 64 * 32 + s < 128
    put_place = omega (arith, room.cycles, room.signals)

    block : (cycle / 64 * 32 + s) / 32 ≡ cycle / 64
    block = omega (arith, room.signals)

    signal : (cycle / 64 * 32 + s) % 32 ≡ s
    signal = omega (arith, room.signals)

    here : (v : List ℕ) → by_digits v (cycle / 64 * 32 + s) ≡ get_or before (cycle / 64 * 32 + s) 0 + pick (eqb (get_or v s 0) 49) (2 ^ (cycle % 64)) 0
    unfolding by_digits
    here v = rw (block, signal, eq-eqb (cycle / 64) (cycle / 64) refl)

    elsewhere : (j : ℕ) → (j ≡ cycle / 64 * 32 + s → ⊥) → by_digits (take (s + 1) value) j ≡ by_digits (take s value) j
    unfolding by_digits
    elsewhere j n = by (ℕ_discrete (j / 32) (cycle / 64))
      where
        by : Dec (j / 32 ≡ cycle / 64) → get_or before j 0 + added (take (s + 1) value) cycle j ≡ get_or before j 0 + added (take s value) cycle j
        by (yes e) = rw (other (j % 32) (λ q. n (omega arith)))
        by (no e) = rw (ne_eqb (j / 32) (cycle / 64) e)

    -- it is still what it was
    put_word : get_or words (cycle / 64 * 32 + s) 0 ≡ get_or before (cycle / 64 * 32 + s) 0
    unfolding cycle_put by_digits
    put_word = rw inv.goes (get_d_tabulate 128 (by_digits (take s value)) (cycle / 64 * 32 + s) 0 put_place ∙ (here (take s value) ∙ rw (none_yet, add-zero)))

    pub put_room : {bit add : ℕ} → bit ≡ 2 ^ (cycle % 64) → add ≡ pick (eqb (get_or value s 0) 49) bit 0 → get_or words (cycle / 64 * 32 + s) 0 + add < 2 ^ 64
    put_room {bit} {add} b e = by (eqb (get_or value s 0) 49) e
      where
        by : (t : Bool) → add ≡ pick t bit 0 → get_or words (cycle / 64 * 32 + s) 0 + add < 2 ^ 64
        by true q = omega (arith, put_word, room.unset (cycle / 64 * 32 + s) put_place block)
        by false q = omega (arith, put_word, room.unset (cycle / 64 * 32 + s) put_place block)

    pub put_more : {bit add : ℕ} {after : List ℕ} → bit ≡ 2 ^ (cycle % 64) → add ≡ pick (eqb (get_or value s 0) 49) bit 0
        → after ≡ set words (cycle / 64 * 32 + s) (get_or words (cycle / 64 * 32 + s) 0 + add) → PutAt before value cycle (s + 1) after
    unfolding cycle_put by_digits
    put_more {bit} {add} b e a =
        let is : by_digits (take (s + 1) value) (cycle / 64 * 32 + s) ≡ get_or words (cycle / 64 * 32 + s) 0 + add = here (take (s + 1) value) ∙ rw (at_s, put_word, e, b) in
        let t : set (tabulate 128 (by_digits (take s value))) (cycle / 64 * 32 + s) (by_digits (take (s + 1) value) (cycle / 64 * 32 + s)) ≡ tabulate 128 (by_digits (take (s + 1) value)) =
        set_tabulate 128 (by_digits (take s value)) (by_digits (take (s + 1) value)) (cycle / 64 * 32 + s) 0 put_place elsewhere in
        record {
          within = omega arith;
          goes = a ∙ (ap₂ (λ w x. set w (cycle / 64 * 32 + s) x) inv.goes (sym is) ∙ t);
        }

-- ---- the cycles, one after the other
word_none : (n k : ℕ) → word_from n k (λ c. false) ≡ 0
unfolding word_from
word_none zero k = refl
word_none (suc n) k = rw (word_none n (suc k))

-- the words that the code begins with are those of no cycle
pub words_none : words_of [] ≡ replicate 128 0
unfolding words_of
words_none = tabulate_ext 128 (λ i. word_from 64 (i / 32 * 64) (λ c. false)) (λ i. 0) (λ i h. word_none 64 (i / 32 * 64)) ∙ sym (replicate_tabulate 128 0 0)

-- the word of a cycle gets its bit
word_digit : (f : ℕ → Bool) (c : ℕ) (h : c < 256) (unset : f c ≡ false) (g : ℕ → Bool) → ((i : ℕ) → (i ≡ c → ⊥) → g i ≡ f i)
    → word_from 64 (c / 64 * 64) f + pick (g c) (2 ^ (c % 64)) 0 ≡ word_from 64 (c / 64 * 64) g
unfolding marked lane_of
word_digit f c h unset g other = by (g c) (ap (λ (l : Lane). get_or l.words (c / 64) 0) (lane_digit f c h unset g other) ∙ word_of g c h)
  where
    long : c / 64 < length (lane_of f).words
    long = rw length_tabulate (omega arith)

    by : (t : Bool) → get_or (pick t (marked (lane_of f) c) (lane_of f)).words (c / 64) 0 ≡ word_from 64 (c / 64 * 64) g
        → word_from 64 (c / 64 * 64) f + pick t (2 ^ (c % 64)) 0 ≡ word_from 64 (c / 64 * 64) g
    by true e = rw (← word_of f c h) (sym (get_or-set_same (lane_of f).words (c / 64) (get_or (lane_of f).words (c / 64) 0 + 2 ^ (c % 64)) 0 long) ∙ e)
    by false e = rw add-zero (sym (word_of f c h) ∙ e)

module _ (done : List (List Bool)) (h : length done < 256) where
  at : (i : ℕ) → i < 128 → get_or (words_of done) i 0 ≡ word_from 64 (i / 32 * 64) (λ c. digit done c (i % 32))
  unfolding words_of
  at i l = get_d_tabulate 128 (λ i. word_from 64 (i / 32 * 64) (λ c. digit done c (i % 32))) i 0 l

  unset : (s : ℕ) → digit done (length done) s ≡ false
  unset s = rw (get_or-eq_default done [] (le_refl (length done)))

  words_length : length (words_of done) ≡ 128
  unfolding words_of
  words_length = length_tabulate 128 0 _

  words_room : (value : List ℕ) → length value ≤ 32 → RoomAt (words_of done) value (length done)
  words_room value l =
      record {
        places = words_length;
        signals = l;
        cycles = h;
        unset = λ i m e. rw (at i m, e, ← word_of (λ c. digit done c (i % 32)) (length done) h) (bit_room (λ c. digit done c (i % 32)) (length done) h (unset (i % 32)));
      }

  words_more : (value : List ℕ) → cycle_put (words_of done) value (length done) ≡ words_of (done ++ (digits_in value ∷ []))
  unfolding cycle_put words_of
  words_more value = tabulate_ext 128 _ _ (λ i l. rw (at i l) (one i (ℕ_discrete (i / 32) (length done / 64))))
    where
      is : (s : ℕ) → digit (done ++ (digits_in value ∷ [])) (length done) s ≡ eqb (get_or value s 0) 49
      is s = rw (get_or-append_seam done (digits_in value) [] []) (get_or-map (λ d. eqb d 49) value s 0)

      old : (s i : ℕ) → (i ≡ length done → ⊥) → digit (done ++ (digits_in value ∷ [])) i s ≡ digit done i s
      old s i n = rw (snoc_other done (digits_in value) [] i n)

      one : (i : ℕ) → Dec (i / 32 ≡ length done / 64)
          → word_from 64 (i / 32 * 64) (λ c. digit done c (i % 32)) + added value (length done) i ≡ word_from 64 (i / 32 * 64) (λ c. digit (done ++ (digits_in value ∷ [])) c (i % 32))
      one i (yes e) =
          rw (e, eq-eqb (length done / 64) (length done / 64) refl, ← is (i % 32))
          (word_digit (λ c. digit done c (i % 32)) (length done) h (unset (i % 32)) (λ c. digit (done ++ (digits_in value ∷ [])) c (i % 32)) (old (i % 32)))
      one i (no n) =
          rw (ne_eqb (i / 32) (length done / 64) n, add-zero)
          (word_ext 64 (i / 32 * 64) (λ c. digit done c (i % 32)) (λ c. digit (done ++ (digits_in value ∷ [])) c (i % 32)) (λ j a b. sym (old (i % 32) j (λ q. n (omega arith)))))

-- of words that hold so many cycles
pub recorded_room : {words : List ℕ} (value : List ℕ) {cycle : ℕ} → Recorded words cycle → cycle < 256 → length value ≤ 32 → RoomAt words value cycle
recorded_room value r h l =
    rw (r.held, ← r.number) (words_room r.cycles (rw r.number h) value l)

pub recorded_more : (words value : List ℕ) {after : List ℕ} (cycle : ℕ) → cycle < 256 → after ≡ cycle_put words value cycle
    → (cs : List (List Bool)) → length cs ≡ cycle → words ≡ words_of cs → after ≡ words_of (cs ++ (digits_in value ∷ []))
recorded_more words value cycle h e cs n held =
    e ∙ rw (held, ← n) (words_more cs (rw n h) value)

-- ---- the lanes
four : (f : ℕ → ℕ) → f 0 ∷ f 1 ∷ f 2 ∷ f 3 ∷ [] ≡ tabulate 4 f
unfolding tabulate_from
four f = refl

pub lanes_of_words : (done : List (List Bool)) → lanes_from (words_of done) ≡ lanes_of done
unfolding lanes_from lane_of words_of
lanes_of_words done = tabulate_ext 32 (lane_from (words_of done)) (λ s. lane_of (λ c. digit done c s)) one
  where
    word : (s b p : ℕ) → p < 128 → p / 32 ≡ b → p % 32 ≡ s → get_or (words_of done) p 0 ≡ word_from 64 (b * 64) (λ c. digit done c s)
    word s b p h x y = get_d_tabulate 128 (λ i. word_from 64 (i / 32 * 64) (λ c. digit done c (i % 32))) p 0 h ∙ ap₂ (λ k t. word_from 64 (k * 64) (λ c. digit done c t)) x y

    one : (s : ℕ) → s < 32 → lane_from (words_of done) s ≡ lane_of (λ c. digit done c s)
    one s h =
        let a = word s 0 s (omega arith) (omega arith) (omega arith) in
        let b = word s 1 (32 + s) (omega arith) (omega arith) (omega arith) in
        let c = word s 2 (64 + s) (omega arith) (omega arith) (omega arith) in
        let d = word s 3 (96 + s) (omega arith) (omega arith) (omega arith) in
        ap (λ ws. record { words = ws }) (cc (four (λ i. word_from 64 (i * 64) (λ c. digit done c s))))

-- those of no cycle, as a refusal has them
pub lanes_none : lanes_of [] ≡ replicate 32 (record { words = replicate 4 0 })
lanes_none = tabulate_ext 32 (λ s. lane_of (λ c. false)) (λ s. record { words = replicate 4 0 }) (λ s h. lane_none) ∙ sym (replicate_tabulate 32 0 (record { words = replicate 4 0 }))

-- the loop that makes them: the first s are made
pub record LanesAt (words : List ℕ) (s : ℕ) (lanes : List Lane) : Type 0 where
  pub long : length lanes ≡ 32
  pub made : (i : ℕ) → i < s → get_or lanes i (record { words = [] }) ≡ lane_from words i

pub lanes_start : {words : List ℕ} → LanesAt words 0 (replicate 32 (record { words = replicate 4 0 }))
lanes_start = record { long = length-replicate {A = Lane} 32 (record { words = replicate 4 0 }); made = λ i h. absurd (omega arith) }

module _ {words : List ℕ} {s : ℕ} {lanes : List Lane} (inv : LanesAt words s lanes) where
  pub lanes_more : {after : List Lane} → s < 32 → after ≡ set lanes s (lane_from words s) → LanesAt words (s + 1) after
  lanes_more {after} h a =
      record {
        long = ap length a ∙ (length-set lanes s (lane_from words s) ∙ inv.long);
        made = λ i l. rw a (at i l (ℕ_discrete i s));
      }
    where
      at : (i : ℕ) → i < s + 1 → Dec (i ≡ s) → get_or (set lanes s (lane_from words s)) i (record { words = [] }) ≡ lane_from words i
      at i l (yes e) = rw e (get_or-set_same lanes s (lane_from words s) (record { words = [] }) (omega (arith, inv.long)))
      at i l (no n) = get_or-set_other lanes s i (lane_from words s) (record { words = [] }) n ∙ inv.made i (omega arith)

  pub lanes_end : 32 ≤ s → lanes ≡ lanes_from words
  unfolding lanes_from
  lanes_end h =
      ext_get_or (record { words = [] }) lanes (tabulate 32 (lane_from words)) (inv.long ∙ sym (length_tabulate 32 0 (lane_from words)))
      (λ i l. inv.made i (omega (arith, inv.long)) ∙ sym (get_d_tabulate 32 (lane_from words) i (record { words = [] }) (omega (arith, inv.long))))
