-- What a circuit file says, and its written form: what is written is read back, and only what is written is read. Assumes nothing.
use mathlib.Core.Path.{◌≡◌, sym, ap, ◌∙◌, subst}
use mathlib.Core.Bool.{true, not, ◌&&◌}
use mathlib.Core.List.{List, [], ◌∷◌, ◌++◌}
use Prim.Native.Nat.{ℕ, ◌+◌, ◌*◌, ◌≤◌, ◌<◌}
use native.Mathlib.Omega.{arith}
use lib.Dec.{leb, ltb}
use lib.ListN.{length, get_or, drop, length-append}
use borrow.Author.Tests.{ltb-true, ltb-false, le-ltb, leb-true}
use Rattle.tables.specs.Choice.{pick}
use Rattle.tables.specs.declared.refusal.Reason.TheVariants.{TooLong}
use Rattle.tables.proofs.Choices.{clash, each_pick}
use Rattle.text.specs.Result.{Next, on_parsed, on_line, map_result}
use Rattle.text.specs.Result.Result.{accepted, refused}
use Rattle.text.proofs.Headers.{parsed_accepted, map_accepted}
use Rattle.circuit_line.specs.declared.section.Header.{Header}
use Rattle.circuit_line.specs.declared.section.Section.{Section}
use Rattle.circuit_line.specs.declared.section.Section.TheVariants.{Inputs, Latches, Outputs, Gates}
use Rattle.circuit_line.specs.Numbers.{plain_line}
use Rattle.circuit_line.specs.Section.{section_of, is_defined, is_variable, is_new, now_defined}
use Rattle.circuit_line.proofs.WrittenNumbers.{plain_step, PlainOf, plain_read}
use Rattle.circuit_file.specs.File.{Contents, contents_of, lines_in, header_form, circuit_lines, parse_contents}
use Rattle.circuit_file.specs.Written.{written_lines}
use Rattle.circuit_file.proofs.Spaced.{EachSmall}
use Rattle.circuit_file.proofs.Possible.{LineOk, Possible, AllSmall, lines_written, LinesOf, lines_read, lines_two}
use Rattle.circuit_file.proofs.News.{both_on, variable_true}
use Rattle.circuit_file.proofs.FirstLine.{numbers_of, header_text, Sums, header_free, header_written, header_read}

-- the file that says it
abbrev pub written_contents : Contents → List ℕ
written_contents t = header_text (numbers_of t.header) ++ (10 ∷ written_lines t.lines)

-- what a file can say
pub record ContentsOk (t : Contents) : Type 0 where
  pub sums : Sums t.header
  pub count : length t.lines ≡ lines_in t.header
  pub possible : Possible t.header.maximum (section_of t.header) 0 [] t.lines

-- ---- numbers of possible lines can be written in five digits

small_one : (xs : List ℕ) → length xs ≡ 1 → get_or xs 0 0 < 100000 → EachSmall xs
small_one [] e a = absurd (omega arith)
small_one (x ∷ []) e a = (a, tt)
small_one (x ∷ y ∷ ys) e a = absurd (omega arith)

small_two : (xs : List ℕ) → length xs ≡ 2 → get_or xs 0 0 < 100000 → get_or xs 1 0 < 100000 → EachSmall xs
small_two [] e a b = absurd (omega arith)
small_two (x ∷ xs) e a b = (a, small_one xs (omega arith) b)

small_three : (xs : List ℕ) → length xs ≡ 3 → get_or xs 0 0 < 100000 → get_or xs 1 0 < 100000 → get_or xs 2 0 < 100000 → EachSmall xs
small_three [] e a b c = absurd (omega arith)
small_three (x ∷ xs) e a b c = (a, small_two xs (omega arith) b c)

module _ (m : ℕ) (most : m < 50000) where
  new_small : (defined : List ℕ) (l : ℕ) → is_new m (is_defined defined l) l ≡ true → l < 100000
  new_small defined l e =
      let v = variable_true m l (both_on (is_variable m l) (not (is_defined defined l)) e).0 in
      omega (arith, v.even, v.most)

  line_small : (defined : List ℕ) (s : Section) (xs : List ℕ) → LineOk m defined s xs → EachSmall xs
  line_small defined Inputs xs ok = small_one xs ok.wide (new_small defined (get_or xs 0 0) ok.can)
  line_small defined Latches xs ok =
      let w = both_on (is_new m (is_defined defined (get_or xs 0 0)) (get_or xs 0 0)) (leb (get_or xs 1 0) (2 * m + 1)) ok.can in
      small_two xs ok.wide (new_small defined (get_or xs 0 0) w.0) (omega (arith, leb-true (get_or xs 1 0) (2 * m + 1) w.1))
  line_small defined Outputs xs ok = small_one xs ok.wide (omega (arith, leb-true (get_or xs 0 0) (2 * m + 1) ok.can))
  line_small defined Gates xs ok =
      let w = both_on (is_new m (is_defined defined (get_or xs 0 0)) (get_or xs 0 0)) (ltb (get_or xs 1 0) (get_or xs 0 0) && ltb (get_or xs 2 0) (get_or xs 0 0)) ok.can in
      let v = both_on (ltb (get_or xs 1 0) (get_or xs 0 0)) (ltb (get_or xs 2 0) (get_or xs 0 0)) w.1 in
      let a : get_or xs 0 0 < 100000 = new_small defined (get_or xs 0 0) w.0 in
      small_three xs ok.wide a (omega (arith, ltb-true (get_or xs 1 0) (get_or xs 0 0) v.0)) (omega (arith, ltb-true (get_or xs 2 0) (get_or xs 0 0) v.1))

  lines_small : (section : ℕ → Section) (k : ℕ) (defined : List ℕ) (xss : List (List ℕ)) → Possible m section k defined xss → AllSmall xss
  lines_small section k defined [] ok = tt
  lines_small section k defined (xs ∷ xss) ok = (line_small defined (section k) xs ok.0, lines_small section (k + 1) (now_defined (section k) xs defined) xss ok.1)

-- ---- a file of 65,536 bytes at most has 32,768 lines at most behind the header
pub lines_few : (t : Contents) → ContentsOk t → length (written_contents t) ≤ 65536 → lines_in t.header ≤ 32768
lines_few t ok h =
    let e : length (written_contents t) ≡ length (header_text (numbers_of t.header)) + length (10 ∷ written_lines t.lines) = length-append (header_text (numbers_of t.header)) (10 ∷ written_lines t.lines) in
    let b : 2 * length t.lines ≤ length (written_lines t.lines) = lines_two t.header.maximum (section_of t.header) 0 [] t.lines ok.possible in
    let c : length t.lines ≡ lines_in t.header = ok.count in
    omega arith

-- WHAT IS WRITTEN IS READ BACK
pub contents_written : (t : Contents) → ContentsOk t → length (written_contents t) ≤ 65536 → parse_contents (written_contents t) ≡ accepted t
unfolding parse_contents
contents_written t ok h =
    let few : lines_in t.header ≤ 32768 = lines_few t ok h in
    let s : Sums t.header = ok.sums in
    let m : t.header.maximum < 50000 = omega arith in
    let hs : EachSmall (numbers_of t.header) = (omega arith, (omega arith, (omega arith, (omega arith, (omega arith, tt))))) in
    let ls : AllSmall t.lines = lines_small t.header.maximum m (section_of t.header) 0 [] t.lines ok.possible in
    let body : circuit_lines t.header (lines_in t.header) [] [] (written_lines t.lines) ≡ accepted t.lines =
    ap (λ n. circuit_lines t.header n [] [] (written_lines t.lines)) (sym ok.count) ∙ lines_written t.header t.lines [] [] ok.possible ls in
    ap (λ b. pick b (refused TooLong 0) (on_line 1 (plain_line header_form) (written_contents t) (λ h body. map_result (contents_of h) (circuit_lines h (lines_in h) [] [] body)))) (le-ltb 65536 (length (written_contents t)) h)
    ∙ (plain_step header_form 1 (λ h body. map_result (contents_of h) (circuit_lines h (lines_in h) [] [] body)) (header_text (numbers_of t.header)) (written_lines t.lines) (header_free (numbers_of t.header))
    ∙ (ap (λ p. on_parsed p (λ e. refused e 1) (λ h. map_result (contents_of h) (circuit_lines h (lines_in h) [] [] (written_lines t.lines)))) (header_written t.header s hs)
    ∙ ap (map_result (contents_of t.header)) body))

-- ONLY WHAT IS WRITTEN IS READ: what an accepted file says
pub record ContentsRead (file : List ℕ) (t : Contents) : Type 0 where
  pub whole : file ≡ written_contents t
  pub ok : ContentsOk t
  pub short : length file ≤ 65536

read_from : (file : List ℕ) (x : Next Header) (ls : List (List ℕ)) → length file ≤ 65536 → PlainOf header_form file x
    → LinesOf x.value (lines_in x.value) [] [] (drop x.next file) ls → ContentsRead file (contents_of x.value ls)
read_from file x ls short l r =
    let w = header_read l.text x.value l.stands in
    record {
      whole = l.whole ∙ (ap (λ s. s ++ (10 ∷ drop x.next file)) w.0 ∙ ap (λ s. header_text (numbers_of x.value) ++ (10 ∷ s)) (r.whole ∙ ap written_lines (sym r.all)));
      ok = record {
        sums = w.1;
        count = ap length r.all ∙ r.count;
        possible = subst (Possible x.value.maximum (section_of x.value) 0 []) (sym r.all) r.possible;
      };
      short = short;
    }

pub contents_read : (file : List ℕ) (t : Contents) → parse_contents file ≡ accepted t → ContentsRead file t
unfolding parse_contents
contents_read file t =
    each_pick (λ r. r ≡ accepted t → ContentsRead file t) (ltb 65536 (length file)) (λ _ q. clash (cc)) (λ b q. by (ltb-false 65536 (length file) b) q)
  where
    by : length file ≤ 65536 → on_line 1 (plain_line header_form) file (λ h body. map_result (contents_of h) (circuit_lines h (lines_in h) [] [] body)) ≡ accepted t → ContentsRead file t
    by short q =
        let w = parsed_accepted (plain_line header_form file) 1 (λ x. map_result (contents_of x.value) (circuit_lines x.value (lines_in x.value) [] [] (drop x.next file))) t q in
        let v = map_accepted (contents_of w.0.value) (circuit_lines w.0.value (lines_in w.0.value) [] [] (drop w.0.next file)) t w.2 in
        subst (ContentsRead file) v.2 (read_from file w.0 v.0 short (plain_read header_form file w.0 w.1) (lines_read w.0.value (lines_in w.0.value) [] [] (drop w.0.next file) v.0 v.1))
