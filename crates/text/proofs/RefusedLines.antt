-- A bound on the line that a refusal names. Assumes nothing.
use mathlib.Core.Path.{◌≡◌, refl, subst}
use mathlib.Core.Bool.{Bool, true, false}
use mathlib.Core.List.{List, [], ◌∷◌}
use Prim.Native.Nat.{ℕ, zero, suc, ◌+◌, ◌≤◌}
use native.Mathlib.Omega.{arith}
use lib.Dec.{eqb}
use lib.ListN.{length, drop}
use Rattle.tables.specs.Choice.{pick}
use Rattle.tables.specs.declared.refusal.Reason.{Reason}
use Rattle.tables.specs.declared.refusal.Reason.TheVariants.{WrongForm}
use Rattle.tables.specs.declared.refusal.Refusal.{Refusal}
use Rattle.tables.specs.declared.refusal.Outcome.TheVariants.{Refused}
use Rattle.text.specs.Line.{is_key, is_numbered, keyed_line}
use Rattle.text.specs.Count.{count_form}
use Rattle.text.specs.Result.{Parsed, Next, Result, on_parsed, on_line, map_result, outcome_of}
use Rattle.text.specs.Result.Parsed.{good, bad}
use Rattle.text.specs.Result.Result.{accepted, refused}
use Rattle.text.specs.Body.{body_lines}
use Rattle.tables.proofs.Choices.{clash}
use Rattle.text.proofs.Lines.{line_read}
use Rattle.text.proofs.Counts.{count_read}

-- where a file is refused, the line is `most` or an earlier one
abbrev pub RefusedBy : {A : Type 0} → ℕ → Result A → Type 0
RefusedBy most (accepted x) = Unit {0}
RefusedBy most (refused e n) = n ≤ most

module _ (most : ℕ) where
  pub map_by : {A B : Type 0} (f : A → B) (r : Result A) → RefusedBy most r → RefusedBy most (map_result f r)
  map_by f (accepted x) h = tt
  map_by f (refused e n) h = h

  pub test_by : {A : Type 0} (t : Bool) (e : Reason) (n : ℕ) (r : Result A) → n ≤ most → RefusedBy most r → RefusedBy most (pick t (refused e n) r)
  test_by true e n r h k = h
  test_by false e n r h k = k

  -- a line, and how the reading goes on behind it
  pub line_by : {A B : Type 0} (n : ℕ) (read : List ℕ → Parsed (Next A)) (rest : List ℕ) (go : A → List ℕ → Result B) → n ≤ most
      → ((x : Next A) → read rest ≡ good x → RefusedBy most (go x.value (drop x.next rest))) → RefusedBy most (on_line n read rest go)
  line_by {A} n read rest go h k = by (read rest) refl
    where
      by : (p : Parsed (Next A)) → read rest ≡ p → RefusedBy most (on_parsed p (λ e. refused e n) (λ x. go x.value (drop x.next rest)))
      by (good x) e = k x e
      by (bad r) e = h

  -- the line of a count: the reading goes on with a count in range
  pub count_by : {B : Type 0} (n : ℕ) (key : List ℕ) (low high : ℕ) (outside : Reason) (rest : List ℕ) (go : ℕ → List ℕ → Result B) → n ≤ most
      → ((count : ℕ) (after : List ℕ) → count ≤ high → RefusedBy most (go count after)) → RefusedBy most (on_line n (keyed_line (is_key key) (count_form low high outside)) rest go)
  count_by n key low high outside rest go h k =
      line_by n (keyed_line (is_key key) (count_form low high outside)) rest go h
      (λ x e. let l = line_read (is_key key) (count_form low high outside) rest x e in
      k x.value (drop x.next rest) (count_read low high outside l.text x.value l.stands).most)

  -- THE NUMBERED LINES: a refusal names one of them, or the line behind the last
  pub body_by : {A : Type 0} (letter : ℕ) (form : ℕ → List ℕ → Parsed A) (left k n : ℕ) (rest : List ℕ) → n + left ≤ most → RefusedBy most (body_lines letter form left k n rest)
  unfolding body_lines
  body_by {A} letter form zero k n rest h = last (eqb (length rest) 0)
    where
      last : (t : Bool) → RefusedBy {A = List A} most (pick t (accepted []) (refused WrongForm n))
      last true = tt
      last false = omega arith
  body_by letter form (suc left) k n rest h =
      line_by n (keyed_line (is_numbered letter k) (form k)) rest (λ x after. map_result (◌∷◌ x) (body_lines letter form left (k + 1) (n + 1) after)) (omega arith)
      (λ x e. map_by (◌∷◌ x.value) (body_lines letter form left (k + 1) (n + 1) (drop x.next rest)) (body_by letter form left (k + 1) (n + 1) (drop x.next rest) (omega arith)))

  -- what that says of a refusal, and of the outcome that holds it
  module _ {A : Type 0} (r : Result A) (h : RefusedBy most r) where
    pub refused_line : (e : Reason) (n : ℕ) → r ≡ refused e n → n ≤ most
    refused_line e n q = subst (RefusedBy most) q h

    pub outcome_line : (file : ℕ) (x : Refusal) → outcome_of file r ≡ Refused x → x.line ≤ most
    outcome_line file x q = by r h q
      where
        by : (r : Result A) → RefusedBy most r → outcome_of file r ≡ Refused x → x.line ≤ most
        by (accepted y) h q = clash (cc)
        by (refused e n) h q = let z : n ≡ x.line = cc in rw (← z) h
