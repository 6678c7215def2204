-- The numbered lines of a file: how their reading goes on from line to line, and their written form. Assumes nothing.
use mathlib.Core.Path.{◌≡◌, refl, sym, ap, ◌∙◌, subst}
use mathlib.Core.List.{List, [], ◌∷◌, ◌++◌, append_assoc, append-nil}
use Prim.Native.Nat.{ℕ, zero, suc, ◌+◌, ◌-◌, ◌≤◌, ◌<◌}
use native.Mathlib.Nat.{sub-zero, zero-add}
use native.Mathlib.Omega.{arith}
use lib.Dec.{eqb}
use lib.ListN.{length, drop, length-append}
use borrow.Author.Tests.{eq-eqb, ne_eqb, eqb-true}
use Rattle.tables.specs.declared.refusal.Reason.{Reason}
use Rattle.tables.specs.declared.refusal.Reason.TheVariants.{WrongForm}
use Rattle.text.specs.Line.{is_numbered, keyed_line}
use Rattle.text.specs.Result.{Parsed, Next, Result, on_parsed, map_result, outcome_of}
use Rattle.text.specs.Result.Parsed.{good, bad}
use Rattle.text.specs.Result.Result.{accepted, refused}
use Rattle.text.specs.Body.{body_lines, EachAt}
use Rattle.text.specs.Written.{decimal, written_line, written_body}
use Rattle.tables.proofs.Choices.{clash, each_pick}
use Rattle.text.proofs.Lines.{Free, free_decimal, no_digit_below, no_digit_above, line_step, LineOf, line_read, numbered_written}

pub map-map : {A B C : Type 0} (f : B → C) (g : A → B) (r : Result A) → map_result f (map_result g r) ≡ map_result (λ x. f (g x)) r
map-map f g (accepted x) = refl
map-map f g (refused e n) = refl

pub map_same : {A B : Type 0} (f g : A → B) (r : Result A) → ((x : A) → f x ≡ g x) → map_result f r ≡ map_result g r
map_same f g (accepted x) e = ap accepted (e x)
map_same f g (refused r n) e = refl

map_none : {A : Type 0} (r : Result (List A)) → r ≡ map_result (◌++◌ []) r
map_none (accepted x) = refl
map_none (refused e n) = refl

-- a refusal does not ask what was read
pub outcome_map : {A B : Type 0} (file : ℕ) (f : A → B) (r : Result A) → outcome_of file (map_result f r) ≡ outcome_of file r
outcome_map file f (accepted x) = refl
outcome_map file f (refused e n) = refl

-- ---- a loop over the lines: the reading goes on at line k, counted from 0, and so far has given `done`
pub record BodyAt {A : Type 0} (letter : ℕ) (form : ℕ → List ℕ → Parsed A) (total first line : ℕ) (body : List ℕ) (k : ℕ) (done : List A) (rest : List ℕ) : Type 0 where
  pub within : k ≤ total
  pub count : length done ≡ k
  pub goes : body_lines letter form total first line body ≡ map_result (◌++◌ done) (body_lines letter form (total - k) (k + first) (k + line) rest)

pub body_starts : {A : Type 0} (letter : ℕ) (form : ℕ → List ℕ → Parsed A) (total first line : ℕ) (body : List ℕ) → BodyAt letter form total first line body 0 [] body
body_starts letter form total first line body =
    record {
      within = omega arith;
      count = refl;
      goes = rw (sub-zero, zero-add, zero-add) (map_none (body_lines letter form total first line body));
    }

module _ {A : Type 0} {letter : ℕ} {form : ℕ → List ℕ → Parsed A} {total first line : ℕ} {body : List ℕ} {k : ℕ} {done : List A} {rest : List ℕ}
    (inv : BodyAt letter form total first line body k done rest) where
  module _ (h : k < total) where
    left : total - k ≡ suc (total - (k + 1))
    left = omega arith

    pub body_refused : {e : Reason} → keyed_line (is_numbered letter (k + first)) (form (k + first)) rest ≡ bad e → body_lines letter form total first line body ≡ refused e (k + line)
    unfolding body_lines
    body_refused q = rw (inv.goes, left, q)

    pub body_more : {x : A} {i : ℕ} → keyed_line (is_numbered letter (k + first)) (form (k + first)) rest ≡ good (record { value = x; next = i })
        → BodyAt letter form total first line body (k + 1) (done ++ (x ∷ [])) (drop i rest)
    unfolding body_lines
    body_more {x} {i} q =
        let a : k + first + 1 ≡ k + 1 + first = omega arith in
        let b : k + line + 1 ≡ k + 1 + line = omega arith in
        let r : Result (List A) = body_lines letter form (total - (k + 1)) (k + 1 + first) (k + 1 + line) (drop i rest) in
        record {
          within = omega arith;
          count = rw length-append (omega (arith, inv.count));
          goes = rw (inv.goes, left, q, a, b) (map-map (◌++◌ done) (◌∷◌ x) r ∙ map_same _ _ r (λ xs. sym (append_assoc done (x ∷ []) xs)));
        }

  module _ (h : total ≤ k) where
    none_left : total - k ≡ 0
    none_left = omega arith

    pub body_end : length rest ≡ 0 → body_lines letter form total first line body ≡ accepted done
    unfolding body_lines
    body_end e = rw (inv.goes, none_left, eq-eqb (length rest) 0 e, append-nil)

    pub body_surplus : (length rest ≡ 0 → ⊥) → body_lines letter form total first line body ≡ refused WrongForm (k + line)
    unfolding body_lines
    body_surplus n = rw (inv.goes, none_left, ne_eqb (length rest) 0 n)

-- ---- written bodies

empty : (s : List ℕ) → length s ≡ 0 → s ≡ []
empty [] e = refl
empty (x ∷ xs) e = absurd (omega arith)

module _ {A : Type 0} (letter : ℕ) (big : 61 < letter) (form : ℕ → List ℕ → Parsed A) where
  -- the first line of a body, whatever its value
  pub body_step : (left k n : ℕ) (v rest : List ℕ) → k < 100000 → Free 10 v
      → body_lines letter form (suc left) k n (written_line (letter ∷ decimal k) v rest)
      ≡ on_parsed (form k v) (λ e. refused e n) (λ y. map_result (◌∷◌ y) (body_lines letter form left (k + 1) (n + 1) rest))
  unfolding body_lines
  body_step left k n v rest h f =
      line_step (letter ∷ decimal k) v rest
      (λ q. omega arith, free_decimal 10 k (no_digit_below 10 (omega arith)) h)
      (λ q. omega arith, free_decimal 61 k (no_digit_above 61 (omega arith)) h)
      f (is_numbered letter k) (form k) n (λ y after. map_result (◌∷◌ y) (body_lines letter form left (k + 1) (n + 1) after)) (numbered_written letter k h)

module _ {A : Type 0} (letter : ℕ) (big : 61 < letter) (form : ℕ → List ℕ → Parsed A) (text : A → List ℕ) where
  -- and of a written one
  pub body_line : (left k n : ℕ) (x : A) (xs : List A) → k < 100000 → Free 10 (text x)
      → body_lines letter form (suc left) k n (written_body letter text k (x ∷ xs))
      ≡ on_parsed (form k (text x)) (λ e. refused e n) (λ y. map_result (◌∷◌ y) (body_lines letter form left (k + 1) (n + 1) (written_body letter text (k + 1) xs)))
  unfolding written_body
  body_line left k n x xs h f = body_step letter big form left k n (text x) (written_body letter text (k + 1) xs) h f

  module _ (Ok : ℕ → A → Type 0) where
    -- WHAT IS WRITTEN IS READ
    pub body_written : ((k : ℕ) (x : A) → k < 100000 → Ok k x → (form k (text x) ≡ good x) × Free 10 (text x))
        → (xs : List A) (k n : ℕ) → k + length xs ≤ 100000 → EachAt Ok k xs → body_lines letter form (length xs) k n (written_body letter text k xs) ≡ accepted xs
    body_written reads [] k n h ok = unfold body_lines written_body in refl
    body_written reads (x ∷ xs) k n h ok =
        let w = reads k x (omega arith) ok.0 in
        body_line (length xs) k n x xs (omega arith) w.1 ∙ rw (w.0, body_written reads xs (k + 1) (n + 1) (omega arith) ok.1)

-- ---- bodies that are read

-- WHAT HOLDS OF EVERY BODY THAT IS READ: it holds of one without lines, and with each line more
module _ {A : Type 0} (letter : ℕ) (form : ℕ → List ℕ → Parsed A) (Q : ℕ → ℕ → List ℕ → List A → Type 0)
    (none : (k : ℕ) (rest : List ℕ) → rest ≡ [] → Q zero k rest [])
    (more : (left k : ℕ) (rest : List ℕ) (x : Next A) (ys : List A) → LineOf (is_numbered letter k) (form k) rest x
    → Q left (k + 1) (drop x.next rest) ys → Q (suc left) k rest (x.value ∷ ys)) where
  extend : (left k : ℕ) (rest : List ℕ) (x : Next A) (xs : List A) → LineOf (is_numbered letter k) (form k) rest x
      → (r : Result (List A)) → ((ys : List A) → r ≡ accepted ys → Q left (k + 1) (drop x.next rest) ys)
      → map_result (◌∷◌ x.value) r ≡ accepted xs → Q (suc left) k rest xs
  extend left k rest x xs l (accepted ys) ih e =
      let z : x.value ∷ ys ≡ xs = cc in
      subst (Q (suc left) k rest) z (more left k rest x ys l (ih ys refl))
  extend left k rest x xs l (refused r n) ih e = clash (cc)

  pub body_each : (left k n : ℕ) (rest : List ℕ) (xs : List A) → body_lines letter form left k n rest ≡ accepted xs → Q left k rest xs
  unfolding body_lines
  body_each zero k n rest xs =
      each_pick (λ r. r ≡ accepted xs → Q zero k rest xs) (eqb (length rest) 0)
      (λ e q. let z : [] ≡ xs = cc in subst (Q zero k rest) z (none k rest (empty rest (eqb-true (length rest) 0 e))))
      (λ _ q. clash (cc))
  body_each (suc left) k n rest xs = by (keyed_line (is_numbered letter k) (form k) rest) refl (λ x ys. body_each left (k + 1) (n + 1) (drop x.next rest) ys)
    where
      by : (p : Parsed (Next A)) → keyed_line (is_numbered letter k) (form k) rest ≡ p
          → ((x : Next A) (ys : List A) → body_lines letter form left (k + 1) (n + 1) (drop x.next rest) ≡ accepted ys → Q left (k + 1) (drop x.next rest) ys)
          → on_parsed p (λ e. refused e n) (λ x. map_result (◌∷◌ x.value) (body_lines letter form left (k + 1) (n + 1) (drop x.next rest))) ≡ accepted xs
          → Q (suc left) k rest xs
      by (good x) e ih q =
          extend left k rest x xs (line_read (is_numbered letter k) (form k) rest x e)
          (body_lines letter form left (k + 1) (n + 1) (drop x.next rest)) (ih x) q
      by (bad r) e ih q = clash (cc)

-- AS MANY AS THERE ARE LINES, and each is as what its line holds says
pub body_valid : {A : Type 0} (letter : ℕ) (form : ℕ → List ℕ → Parsed A) (Ok : ℕ → A → Type 0)
    → ((k : ℕ) (v : List ℕ) (x : A) → form k v ≡ good x → Ok k x)
    → (left k n : ℕ) (rest : List ℕ) (xs : List A) → body_lines letter form left k n rest ≡ accepted xs → (length xs ≡ left) × EachAt Ok k xs
body_valid letter form Ok each =
    body_each letter form (λ left k rest xs. (length xs ≡ left) × EachAt Ok k xs) (λ k rest e. (refl, tt))
    (λ left k rest x ys l ih. (ap suc ih.0, (each k l.text x.value l.stands, ih.1)))
