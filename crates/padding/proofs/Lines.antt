-- Lines whose values are padded: those of counts, and the numbered ones. Assumes nothing.
use mathlib.Core.Path.{◌≡◌, refl, sym, ap, ◌∙◌, subst}
use mathlib.Core.Bool.{true, false}
use mathlib.Core.List.{List, [], ◌∷◌, ◌++◌}
use Prim.Native.Nat.{ℕ, suc, ◌+◌, ◌*◌, ◌≤◌, ◌<◌}
use native.Mathlib.Nat.{suc-mul}
use native.Mathlib.Omega.{arith}
use lib.ListN.{length, drop}
use Rattle.tables.proofs.Choices.{clash, pick_both}
use Rattle.text.specs.Body.{body_lines, EachAt}
use Rattle.text.specs.Number.{padded_of}
use Rattle.text.specs.Result.{Parsed}
use Rattle.text.specs.Result.Parsed.{good}
use Rattle.text.specs.Result.Result.{accepted}
use Rattle.text.specs.Written.{decimal, written_line, written_body}
use Rattle.text.specs.declared.number.Number.TheVariants.{Is}
use Rattle.text.proofs.Numbers.{padded_written}
use Rattle.text.proofs.Laws.{decimal_short, decimal_length, line_length}
use Rattle.text.proofs.Lines.{Free, numbered_read}
use Rattle.text.proofs.Bodies.{body_each, body_step}
use Rattle.padding.specs.Padding.{is_digit, Before, Before.start, Before.digit, Before.other, behind, unpadded_from, FiveFrom}
use Rattle.padding.proofs.Bytes.{PaddedFrom, no_number, after, same_on, same_back}
use Rattle.padding.proofs.Numbers.{all_digits, digits_in_lem, digits_begin_none, number_on, number_back}

-- one byte that is no digit
step_none : (p : Before) (x : ℕ) → is_digit x ≡ false → no_number p (x ∷ []) ≡ true
step_none start x e = rw e
step_none digit x e = refl
step_none other x e = refl

pub step_on : (p : Before) (x : ℕ) {t s : List ℕ} → is_digit x ≡ false → PaddedFrom (behind p x) t s → PaddedFrom p (x ∷ t) (x ∷ s)
step_on p x e h = same_on p (x ∷ []) (step_none p x e) h

pub step_back : (p : Before) (x : ℕ) (t s : List ℕ) → is_digit x ≡ false → PaddedFrom p (x ∷ t) s → (r : List ℕ) × (s ≡ x ∷ r) × PaddedFrom (behind p x) t r
step_back p x t s e h = same_back p (x ∷ []) t s (step_none p x e) h

-- ---- a line, by what its value is in the file

-- a value and its line feed, and what follows
pub record ValueThen (Stands : List ℕ → Type 0) (t s : List ℕ) : Type 0 where
  pub text : List ℕ
  pub rest : List ℕ
  pub whole : s ≡ text ++ (10 ∷ rest)
  pub stands : Stands text
  pub goes : PaddedFrom other t rest

pub record LineThen (key : List ℕ) (Stands : List ℕ → Type 0) (t s : List ℕ) : Type 0 where
  pub text : List ℕ
  pub rest : List ℕ
  pub whole : s ≡ written_line key text rest
  pub stands : Stands text
  pub goes : PaddedFrom other t rest

-- its key has no padding, and q stands before its value
module _ (key : List ℕ) (q : Before) (none : no_number other key ≡ true) (behind-key : behind (after other key) 61 ≡ q) where
  pub line_on : (value text t s : List ℕ) → PaddedFrom q (value ++ (10 ∷ t)) (text ++ (10 ∷ s)) → PaddedFrom other (written_line key value t) (written_line key text s)
  line_on value text t s h =
      same_on other key none (step_on (after other key) 61 refl (subst (λ p. PaddedFrom p (value ++ (10 ∷ t)) (text ++ (10 ∷ s))) (sym behind-key) h))

  pub line_back : (Stands : List ℕ → Type 0) (value t s : List ℕ) → ((r : List ℕ) → PaddedFrom q (value ++ (10 ∷ t)) r → ValueThen Stands t r)
      → PaddedFrom other (written_line key value t) s → LineThen key Stands t s
  line_back Stands value t s f h =
      let a = same_back other key (61 ∷ (value ++ (10 ∷ t))) s none h in
      let b = step_back (after other key) 61 (value ++ (10 ∷ t)) a.0 refl a.2 in
      let v = f b.0 (subst (λ p. PaddedFrom p (value ++ (10 ∷ t)) b.0) behind-key b.2) in
      record {
        text = v.text;
        rest = v.rest;
        whole = a.1 ∙ ap (◌++◌ key) (b.1 ∙ ap (◌∷◌ 61) v.whole);
        stands = v.stands;
        goes = v.goes;
      }

-- a key that is a word: a number, or a word, stands behind its equals sign
pub record Word (key : List ℕ) : Type 0 where
  pub none : no_number other key ≡ true
  pub starts : behind (after other key) 61 ≡ start
  pub short : length key ≤ 7

-- the value of a count
pub value_on : (v : List ℕ) (n : ℕ) {t s : List ℕ} → padded_of v ≡ Is n → PaddedFrom other t s → PaddedFrom start (decimal n ++ (10 ∷ t)) (v ++ (10 ∷ s))
value_on v n e h = number_on v n 10 e refl h

pub value_back : (n : ℕ) (t s : List ℕ) → n < 100000 → PaddedFrom start (decimal n ++ (10 ∷ t)) s → ValueThen (λ v. padded_of v ≡ Is n) t s
value_back n t s h p =
    let w = number_back n 10 t s h refl p in
    record { text = w.text; rest = w.rest; whole = w.whole; stands = w.number; goes = w.goes }

-- the line of a count
module _ (key : List ℕ) (w : Word key) where
  pub count_on : (v : List ℕ) (n : ℕ) (t s : List ℕ) → padded_of v ≡ Is n → PaddedFrom other t s → PaddedFrom other (written_line key (decimal n) t) (written_line key v s)
  count_on v n t s e h = line_on key start w.none w.starts (decimal n) v t s (value_on v n e h)

  pub count_back : (n : ℕ) (t s : List ℕ) → n < 100000 → PaddedFrom other (written_line key (decimal n) t) s → LineThen key (λ v. padded_of v ≡ Is n) t s
  count_back n t s h p = line_back key start w.none w.starts (λ v. padded_of v ≡ Is n) (decimal n) t s (λ r q. value_back n t r h q) p

  pub count_most : {n : ℕ} {t s : List ℕ} (l : LineThen key (λ v. padded_of v ≡ Is n) t s) → length s ≤ 14 + length l.rest
  count_most {n} l = rw l.whole (omega (arith, w.short, line_length key l.text l.rest, (digits_in_lem l.text n l.stands).short))

-- ---- the end of a file

end_on : PaddedFrom other [] []
end_on = record { plain = unfold unpadded_from in refl; five = unfold FiveFrom in tt }

end_back : (s : List ℕ) → PaddedFrom other [] s → s ≡ []
unfolding unpadded_from
end_back [] h = refl
end_back (x ∷ s) h = clash (cc h.plain)

-- ---- numbered lines

digits_begin_none_first : (v : List ℕ) → all_digits v ≡ true → 1 ≤ length v → (no_number other v ≡ true) × (after other v ≡ digit)
digits_begin_none_first [] a o = absurd (omega arith)
digits_begin_none_first (b ∷ v) a o =
    let w = pick_both (is_digit b) (all_digits v) a in
    rw w.0 (digits_begin_none v w.1)

-- keys of a letter and a number; behind the letter stands what stands behind any letter
module _ (letter : ℕ) (plain : behind other letter ≡ other) (k : ℕ) (h : k < 100000) where
  key_none : no_number other (letter ∷ decimal k) ≡ true
  key_none = rw plain (digits_begin_none_first (decimal k) (digits_in_lem (decimal k) k (padded_written k h)).all (unfold decimal in (decimal_length 4 k).0)).0

  key_behind : behind (after other (letter ∷ decimal k)) 61 ≡ other
  key_behind =
      ap (λ p. behind (after p (decimal k)) 61) plain
      ∙ ap (λ p. behind p 61) (digits_begin_none_first (decimal k) (digits_in_lem (decimal k) k (padded_written k h)).all (unfold decimal in (decimal_length 4 k).0)).1

-- what is known of a value in the file: it is read, and lies within one line
abbrev pub Reads : {A : Type 0} → (ℕ → List ℕ → Parsed A) → ℕ → ℕ → A → List ℕ → Type 0
Reads form most k x v = (form k v ≡ good x) × Free 10 v × (length v ≤ most)

module _ {A : Type 0} (letter : ℕ) (plain : behind other letter ≡ other) (form : ℕ → List ℕ → Parsed A) (text : A → List ℕ) where
  -- WHAT IS READ IS THE WRITTEN BODY, PADDED
  pub body_on : ((k : ℕ) (v : List ℕ) (x : A) (t s : List ℕ) → form k v ≡ good x → PaddedFrom other t s → PaddedFrom other (text x ++ (10 ∷ t)) (v ++ (10 ∷ s)))
      → (left k n : ℕ) (rest : List ℕ) (xs : List A) → body_lines letter form left k n rest ≡ accepted xs → k + left ≤ 100000
      → PaddedFrom other (written_body letter text k xs) rest
  unfolding written_body
  body_on on =
      body_each letter form (λ left k rest xs. k + left ≤ 100000 → PaddedFrom other (written_body letter text k xs) rest)
      (λ k rest e h. rw e end_on)
      (λ left k rest x ys l ih h.
      let key : l.key ≡ letter ∷ decimal k = numbered_read letter k l.key l.named in
      let w = on k l.text x.value (written_body letter text (k + 1) ys) (drop x.next rest) l.stands (ih (omega arith)) in
      let r : rest ≡ written_line (letter ∷ decimal k) l.text (drop x.next rest) = l.whole ∙ rw key in
      subst (PaddedFrom other (written_body letter text k (x.value ∷ ys))) (sym r)
      (line_on (letter ∷ decimal k) other (key_none letter plain k (omega arith)) (key_behind letter plain k (omega arith))
      (text x.value) l.text (written_body letter text (k + 1) ys) (drop x.next rest) w))

  -- THE WRITTEN BODY, PADDED, IS READ, and is not too long
  pub body_back : (big : 61 < letter) (most : ℕ) (Ok : ℕ → A → Type 0)
      → ((k : ℕ) (x : A) (t s : List ℕ) → k < 100000 → Ok k x → PaddedFrom other (text x ++ (10 ∷ t)) s → ValueThen (Reads form most k x) t s)
      → (xs : List A) (k n : ℕ) (s : List ℕ) → k + length xs ≤ 100000 → EachAt Ok k xs → PaddedFrom other (written_body letter text k xs) s
      → (body_lines letter form (length xs) k n s ≡ accepted xs) × (length s ≤ length xs * (most + 8))
  unfolding written_body
  body_back big most Ok each [] k n s h ok p = rw (end_back s p) (unfold body_lines in (refl, omega arith))
  body_back big most Ok each (x ∷ xs) k n s h ok p =
      let after_line : List ℕ = written_body letter text (k + 1) xs in
      let l = line_back (letter ∷ decimal k) other (key_none letter plain k (omega arith)) (key_behind letter plain k (omega arith))
      (Reads form most k x) (text x) after_line s
      (λ r q. each k x after_line r (omega arith) ok.0 q) p in
      let i = body_back big most Ok each xs (k + 1) (n + 1) l.rest (omega arith) ok.1 l.goes in
      let c : suc (length xs) * (most + 8) ≡ length xs * (most + 8) + (most + 8) = suc-mul (length xs) (most + 8) in
      rw l.whole (
        body_step letter big form (length xs) k n l.text l.rest (omega arith) l.stands.1 ∙ rw (l.stands.0, i.0),
        omega (arith, line_length (letter ∷ decimal k) l.text l.rest, decimal_short k, l.stands.2, i.1),
      )
