-- Why a circuit file is refused, and at which line. Assumes nothing.
use mathlib.Core.Path.{◌≡◌, refl, ap, ◌∙◌, subst}
use mathlib.Core.Logic.{◌⊎◌, inl, inr}
use mathlib.Core.List.{List, [], ◌∷◌, ◌++◌}
use Prim.Native.Nat.{ℕ, zero, suc, ◌+◌, ◌*◌, ◌≤◌, ◌<◌}
use native.Mathlib.Omega.{arith}
use lib.Dec.{eqb, ltb}
use lib.ListN.{length, get_or, drop, length-append, length-drop}
use borrow.Author.Tests.{ltb-true, ltb-false}
use Rattle.tables.specs.Choice.{pick}
use Rattle.tables.specs.declared.refusal.Reason.{Reason}
use Rattle.tables.specs.declared.refusal.Reason.TheVariants.{TooLong, WrongForm}
use Rattle.tables.specs.declared.refusal.Refusal.{Refusal}
use Rattle.tables.specs.declared.refusal.Outcome.TheVariants.{Refused}
use Rattle.tables.proofs.Choices.{clash, each_pick}
use Rattle.text.specs.Result.{Parsed, Next, Result, on_parsed, on_line, map_result, outcome_of}
use Rattle.text.specs.Result.Parsed.{good, bad}
use Rattle.text.specs.Result.Result.{accepted, refused}
use Rattle.circuit_line.specs.declared.section.Header.{Header}
use Rattle.circuit_line.specs.declared.section.Section.{Section}
use Rattle.circuit_line.specs.Numbers.{number_list, plain_line}
use Rattle.circuit_line.specs.Section.{section_of, width, is_defined, is_possible, line_form, now_defined}
use Rattle.circuit_line.proofs.WrittenNumbers.{PlainOf, plain_read, plain_wrong, numbers_wrong}
use Rattle.circuit_file.specs.File.{Contents, contents_of, lines_in, header_form, circuit_lines, parse_contents}
use Rattle.circuit_file.specs.Written.{spaced}
use Rattle.circuit_file.proofs.Possible.{line_numbers, line_two}
use Rattle.circuit_file.proofs.FirstLine.{header_wrong}

-- a refusal of a wrong form at a line from 1 on, where twice its number is at most `most`
abbrev WrongBy : {A : Type 0} → ℕ → Result A → Type 0
WrongBy most (accepted x) = Unit {0}
WrongBy most (refused e n) = (e ≡ WrongForm) × (1 ≤ n) × (2 * n ≤ most)

map_wrong : {A B : Type 0} (most : ℕ) (f : A → B) (r : Result A) → WrongBy most r → WrongBy most (map_result f r)
map_wrong most f (accepted x) h = tt
map_wrong most f (refused e n) h = h

more_wrong : {A : Type 0} (few most : ℕ) (r : Result A) → few ≤ most → WrongBy few r → WrongBy most r
more_wrong few most (accepted x) l h = tt
more_wrong few most (refused e n) l h = (h.0, h.1, omega (arith, h.2))

-- a line, and how the reading goes on behind it
line_wrong : {A B : Type 0} (most n : ℕ) (form : List ℕ → Parsed A) (rest : List ℕ) (go : A → List ℕ → Result B) → ((s : List ℕ) (e : Reason) → form s ≡ bad e → e ≡ WrongForm)
    → 1 ≤ n → 2 * n ≤ most → ((x : Next A) → PlainOf form rest x → WrongBy most (go x.value (drop x.next rest))) → WrongBy most (on_line n (plain_line form) rest go)
line_wrong {A} most n form rest go only l h k = by (plain_line form rest) refl
  where
    by : (p : Parsed (Next A)) → plain_line form rest ≡ p → WrongBy most (on_parsed p (λ e. refused e n) (λ x. go x.value (drop x.next rest)))
    by (good x) e = k x (plain_read form rest x e)
    by (bad r) e = (plain_wrong form only rest r e, l, h)

form_wrong : (m : ℕ) (defined : List ℕ) (s : Section) (text : List ℕ) (e : Reason) → line_form m defined s text ≡ bad e → e ≡ WrongForm
unfolding line_form
form_wrong m defined s text e = by (number_list (width s) text) (numbers_wrong (width s) text e)
  where
    P : Parsed (List ℕ) → Type 0
    P p = p ≡ bad e → e ≡ WrongForm

    by : (p : Parsed (List ℕ)) → P p
        → P (on_parsed p bad λ xs. pick (is_possible m (is_defined defined (get_or xs 0 0)) s (get_or xs 0 0) (get_or xs 1 0) (get_or xs 2 0)) (good xs) (bad WrongForm))
    by (good xs) n = each_pick P (is_possible m (is_defined defined (get_or xs 0 0)) s (get_or xs 0 0) (get_or xs 1 0) (get_or xs 2 0)) (λ _ q. clash (cc)) (λ _ q. cc)
    by (bad r) n = n

-- THE LINES BEHIND THE HEADER: each that is read takes two bytes
lines_wrong : (h : Header) (left : ℕ) (done : List (List ℕ)) (defined rest : List ℕ) → WrongBy (2 * (length done + 2) + length rest) (circuit_lines h left done defined rest)
unfolding circuit_lines
lines_wrong h zero done defined rest =
    each_pick (WrongBy {A = List (List ℕ)} (2 * (length done + 2) + length rest)) (eqb (length rest) 0) (λ _. tt) (λ _. (refl, omega arith, omega arith))
lines_wrong h (suc left) done defined rest =
    line_wrong (2 * (length done + 2) + length rest) (length done + 2) (line_form h.maximum defined (section_of h (length done))) rest
    (λ xs after. circuit_lines h left (done ++ (xs ∷ [])) (now_defined (section_of h (length done)) xs defined) after)
    (form_wrong h.maximum defined (section_of h (length done))) (omega arith) (omega arith)
    (λ x l. more_wrong (2 * (length (done ++ (x.value ∷ [])) + 2) + length (drop x.next rest)) (2 * (length done + 2) + length rest)
    (circuit_lines h left (done ++ (x.value ∷ [])) (now_defined (section_of h (length done)) x.value defined) (drop x.next rest)) (shorter x l)
    (lines_wrong h left (done ++ (x.value ∷ [])) (now_defined (section_of h (length done)) x.value defined) (drop x.next rest)))
  where
    shorter : (x : Next (List ℕ)) → PlainOf (line_form h.maximum defined (section_of h (length done))) rest x
        → 2 * (length (done ++ (x.value ∷ [])) + 2) + length (drop x.next rest) ≤ 2 * (length done + 2) + length rest
    shorter x l =
        let n = line_numbers h.maximum defined (section_of h (length done)) l.text x.value l.stands in
        let a : 1 ≤ length (spaced x.value) = line_two h.maximum defined (section_of h (length done)) x.value n.1 in
        let b : length l.text ≡ length (spaced x.value) = ap length n.0 in
        let c : length rest ≡ length l.text + length (10 ∷ drop x.next rest) = ap length l.whole ∙ length-append l.text (10 ∷ drop x.next rest) in
        let d : length (done ++ (x.value ∷ [])) ≡ length done + 1 = length-append done (x.value ∷ []) in
        omega arith

-- ---- the file

-- "It refuses longer files by 1, other text as a wrong form at its line"
abbrev pub RefusedAt : List ℕ → Reason → ℕ → Type 0
RefusedAt file e n = ((65536 < length file) × (e ≡ TooLong) × (n ≡ 0)) ⊎ ((length file ≤ 65536) × (e ≡ WrongForm) × (1 ≤ n) × (n ≤ 32770))

-- A REFUSED FILE IS TOO LONG, AT LINE 0, OR HAS A WRONG FORM AT A LINE FROM 1 TO 32,770
pub circuit_refused_line : (file : List ℕ) (e : Reason) (n : ℕ) → parse_contents file ≡ refused e n → RefusedAt file e n
unfolding parse_contents
circuit_refused_line file e n =
    each_pick P (ltb 65536 (length file)) (λ t q. inl (ltb-true 65536 (length file) t, cc, cc)) (λ t q. by (ltb-false 65536 (length file) t) (subst (WrongBy (4 + length file)) q from_header))
  where
    P : Result Contents → Type 0
    P r = r ≡ refused e n → RefusedAt file e n

    by : length file ≤ 65536 → WrongBy {A = Contents} (4 + length file) (refused e n) → RefusedAt file e n
    by l w = inr (l, w.0, w.1, omega (arith, w.2))

    from_header : WrongBy (4 + length file) (on_line 1 (plain_line header_form) file (λ h body. map_result (contents_of h) (circuit_lines h (lines_in h) [] [] body)))
    from_header =
        line_wrong (4 + length file) 1 header_form file (λ h body. map_result (contents_of h) (circuit_lines h (lines_in h) [] [] body)) header_wrong (omega arith) (omega arith)
        (λ x l. map_wrong (4 + length file) (contents_of x.value) (circuit_lines x.value (lines_in x.value) [] [] (drop x.next file))
        (more_wrong (2 * (0 + 2) + length (drop x.next file)) (4 + length file) (circuit_lines x.value (lines_in x.value) [] [] (drop x.next file))
        (omega (arith, length-drop x.next file)) (lines_wrong x.value (lines_in x.value) [] [] (drop x.next file))))

-- the same of the outcome
pub circuit_outcome_line : (file : List ℕ) (number : ℕ) (x : Refusal) → outcome_of number (parse_contents file) ≡ Refused x → RefusedAt file x.reason x.line
circuit_outcome_line file number x = by (parse_contents file) (circuit_refused_line file)
  where
    by : (r : Result Contents) → ((e : Reason) (n : ℕ) → r ≡ refused e n → RefusedAt file e n) → outcome_of number r ≡ Refused x → RefusedAt file x.reason x.line
    by (accepted t) h q = clash (cc)
    by (refused e n) h q =
        let z : record { reason = e; file = number; line = n } ≡ x = cc in
        subst (λ (x : Refusal). RefusedAt file x.reason x.line) z (h e n refl)
