-- Lines that are possible behind the lines before them: they are read, and only they are. Assumes nothing.
use mathlib.Core.Path.{◌≡◌, refl, sym, ap, ◌∙◌, subst}
use mathlib.Core.Bool.{true}
use mathlib.Core.List.{List, [], ◌∷◌, ◌++◌, append_assoc, append-nil}
use Prim.Native.Nat.{ℕ, zero, suc, ◌+◌, ◌*◌, ◌≤◌}
use native.Mathlib.Omega.{arith}
use lib.Dec.{eqb}
use lib.ListN.{length, get_or, drop, length-append}
use borrow.Author.Tests.{eqb-true}
use Rattle.tables.specs.Choice.{pick}
use Rattle.tables.specs.declared.refusal.Reason.TheVariants.{WrongForm}
use Rattle.tables.proofs.Choices.{clash, each_pick}
use Rattle.text.specs.Result.{Parsed, Next, on_parsed}
use Rattle.text.specs.Result.Parsed.{good, bad}
use Rattle.text.specs.Result.Result.{accepted}
use Rattle.text.proofs.Headers.{parsed_accepted}
use Rattle.circuit_line.specs.declared.section.Header.{Header}
use Rattle.circuit_line.specs.declared.section.Section.{Section}
use Rattle.circuit_line.specs.declared.section.Section.TheVariants.{Inputs, Latches, Outputs, Gates}
use Rattle.circuit_line.specs.Numbers.{number_list, plain_line}
use Rattle.circuit_line.specs.Section.{section_of, width, is_defined, is_possible, line_form, now_defined}
use Rattle.circuit_line.proofs.WrittenNumbers.{plain_step, PlainOf, plain_read}
use Rattle.circuit_file.specs.File.{circuit_lines}
use Rattle.circuit_file.specs.Written.{spaced, written_lines}
use Rattle.circuit_file.proofs.Spaced.{EachSmall, spaced_good, spaced_free, spaced_length, numbers_spaced}

-- the numbers of a line of a section, behind lines that define these literals
pub record LineOk (m : ℕ) (defined : List ℕ) (s : Section) (xs : List ℕ) : Type 0 where
  pub wide : length xs ≡ width s
  pub can : is_possible m (is_defined defined (get_or xs 0 0)) s (get_or xs 0 0) (get_or xs 1 0) (get_or xs 2 0) ≡ true

-- each line behind those before it: the first is line k, counted from 0 behind the header
abbrev pub Possible : ℕ → (ℕ → Section) → ℕ → List ℕ → List (List ℕ) → Type 0
Possible m section k defined [] = Unit {0}
Possible m section k defined (xs ∷ xss) = LineOk m defined (section k) xs × Possible m section (k + 1) (now_defined (section k) xs defined) xss

-- lines of numbers that can be written in five digits
abbrev pub AllSmall : List (List ℕ) → Type 0
AllSmall [] = Unit {0}
AllSmall (xs ∷ xss) = EachSmall xs × AllSmall xss

some_width : (s : Section) → 1 ≤ width s
some_width Inputs = omega arith
some_width Latches = omega arith
some_width Outputs = omega arith
some_width Gates = omega arith

-- ---- one line

pub line_written : (m : ℕ) (defined : List ℕ) (s : Section) (xs : List ℕ) → LineOk m defined s xs → EachSmall xs → line_form m defined s (spaced xs) ≡ good xs
unfolding line_form
line_written m defined s xs ok h = rw (spaced_good (width s) xs (some_width s) ok.wide h, ok.can)

pub line_numbers : (m : ℕ) (defined : List ℕ) (s : Section) (text xs : List ℕ) → line_form m defined s text ≡ good xs → (text ≡ spaced xs) × LineOk m defined s xs
unfolding line_form
line_numbers m defined s text xs = by (number_list (width s) text) refl
  where
    P : Parsed (List ℕ) → Type 0
    P p = p ≡ good xs → (text ≡ spaced xs) × LineOk m defined s xs

    same : (ys : List ℕ) → (text ≡ spaced ys) × LineOk m defined s ys → ys ≡ xs → (text ≡ spaced xs) × LineOk m defined s xs
    same ys h e = subst (λ ys. (text ≡ spaced ys) × LineOk m defined s ys) e h

    by : (p : Parsed (List ℕ)) → number_list (width s) text ≡ p
        → P (on_parsed p bad λ ys. pick (is_possible m (is_defined defined (get_or ys 0 0)) s (get_or ys 0 0) (get_or ys 1 0) (get_or ys 2 0)) (good ys) (bad WrongForm))
    by (good ys) e =
        let w = numbers_spaced (width s) text ys e in
        each_pick P (is_possible m (is_defined defined (get_or ys 0 0)) s (get_or ys 0 0) (get_or ys 1 0) (get_or ys 2 0))
        (λ can q. same ys (w.0, record { wide = w.1; can = can }) (cc)) (λ _ q. clash (cc))
    by (bad r) e = λ q. clash (cc)

-- two bytes at least, with its line feed
pub line_two : (m : ℕ) (defined : List ℕ) (s : Section) (xs : List ℕ) → LineOk m defined s xs → 1 ≤ length (spaced xs)
line_two m defined s [] ok = absurd (omega (arith, ok.wide, some_width s))
line_two m defined s (x ∷ xs) ok = omega (arith, spaced_length x xs)

-- ---- the lines

-- WHAT IS WRITTEN IS READ BACK
pub lines_written : (h : Header) (xss done : List (List ℕ)) (defined : List ℕ) → Possible h.maximum (section_of h) (length done) defined xss → AllSmall xss
    → circuit_lines h (length xss) done defined (written_lines xss) ≡ accepted (done ++ xss)
unfolding circuit_lines written_lines
lines_written h [] done defined ok small = rw append-nil
lines_written h (xs ∷ xss) done defined ok small =
    let k : length (done ++ (xs ∷ [])) ≡ length done + 1 = length-append done (xs ∷ []) in
    let ih = lines_written h xss (done ++ (xs ∷ [])) (now_defined (section_of h (length done)) xs defined) (rw k ok.1) small.1 in
    plain_step (line_form h.maximum defined (section_of h (length done))) (length done + 2)
    (λ xs after. circuit_lines h (length xss) (done ++ (xs ∷ [])) (now_defined (section_of h (length done)) xs defined) after)
    (spaced xs) (written_lines xss) (spaced_free xs)
    ∙ (rw (line_written h.maximum defined (section_of h (length done)) xs ok.0 small.0) (ih ∙ ap accepted (append_assoc done (xs ∷ []) xss)))

-- what an accepted reading says of the lines behind those that were done
pub record LinesOf (h : Header) (left : ℕ) (done : List (List ℕ)) (defined rest : List ℕ) (ls : List (List ℕ)) : Type 0 where
  pub new : List (List ℕ)
  pub all : ls ≡ done ++ new
  pub whole : rest ≡ written_lines new
  pub count : length new ≡ left
  pub possible : Possible h.maximum (section_of h) (length done) defined new

empty : (s : List ℕ) → length s ≡ 0 → s ≡ []
empty [] e = refl
empty (x ∷ xs) e = absurd (omega arith)

-- one line more in front
next_line : (h : Header) (left : ℕ) (done : List (List ℕ)) (defined rest : List ℕ) (ls : List (List ℕ)) (x : Next (List ℕ))
    → PlainOf (line_form h.maximum defined (section_of h (length done))) rest x
    → LinesOf h left (done ++ (x.value ∷ [])) (now_defined (section_of h (length done)) x.value defined) (drop x.next rest) ls
    → LinesOf h (suc left) done defined rest ls
unfolding written_lines
next_line h left done defined rest ls x l r =
    let n = line_numbers h.maximum defined (section_of h (length done)) l.text x.value l.stands in
    let k : length (done ++ (x.value ∷ [])) ≡ length done + 1 = length-append done (x.value ∷ []) in
    record {
      new = x.value ∷ r.new;
      all = r.all ∙ append_assoc done (x.value ∷ []) r.new;
      whole = l.whole ∙ (ap (λ s. s ++ (10 ∷ drop x.next rest)) n.0 ∙ ap (λ t. spaced x.value ++ (10 ∷ t)) r.whole);
      count = ap suc r.count;
      possible = (n.1, subst (λ k. Possible h.maximum (section_of h) k (now_defined (section_of h (length done)) x.value defined) r.new) k r.possible);
    }

-- ONLY WHAT IS WRITTEN IS READ
pub lines_read : (h : Header) (left : ℕ) (done : List (List ℕ)) (defined rest : List ℕ) (ls : List (List ℕ))
    → circuit_lines h left done defined rest ≡ accepted ls → LinesOf h left done defined rest ls
unfolding circuit_lines written_lines
lines_read h zero done defined rest ls e =
    each_pick (λ r. r ≡ accepted ls → LinesOf h zero done defined rest ls) (eqb (length rest) 0)
    (λ t q. record { new = []; all = let z : done ≡ ls = cc in sym z ∙ sym (append-nil done); whole = empty rest (eqb-true (length rest) 0 t); count = refl; possible = tt })
    (λ _ q. clash (cc)) e
lines_read h (suc left) done defined rest ls e =
    let w = parsed_accepted (plain_line (line_form h.maximum defined (section_of h (length done))) rest) (length done + 2)
    (λ x. circuit_lines h left (done ++ (x.value ∷ [])) (now_defined (section_of h (length done)) x.value defined) (drop x.next rest)) ls e in
    next_line h left done defined rest ls w.0 (plain_read (line_form h.maximum defined (section_of h (length done))) rest w.0 w.1)
    (lines_read h left (done ++ (w.0.value ∷ [])) (now_defined (section_of h (length done)) w.0.value defined) (drop w.0.next rest) ls w.2)

-- each line has two bytes at least
pub lines_two : (m : ℕ) (section : ℕ → Section) (k : ℕ) (defined : List ℕ) (xss : List (List ℕ)) → Possible m section k defined xss
    → 2 * length xss ≤ length (written_lines xss)
unfolding written_lines
lines_two m section k defined [] ok = omega arith
lines_two m section k defined (xs ∷ xss) ok =
    simp length-append (omega (arith, line_two m defined (section k) xs ok.0, lines_two m section (k + 1) (now_defined (section k) xs defined) xss ok.1))
