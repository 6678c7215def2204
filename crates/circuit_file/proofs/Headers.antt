-- Reading the header, and the file by its header. Assumes nothing.
use mathlib.Core.Path.{◌≡◌, sym, ap, subst, ◌∙◌}
use mathlib.Core.Bool.{true, false}
use mathlib.Core.List.{List, []}
use Prim.Native.Nat.{ℕ, ◌+◌, ◌≤◌, ◌<◌}
use native.Mathlib.Omega.{arith}
use lib.ListN.{length, get_or, take, drop, length-take}
use lib.Seq.{take_all, take-take}
use borrow.Author.Tests.{lt-ltb, le-ltb, eq-eqb, ne_eqb}
use Rattle.tables.specs.Bytes.{bytes, same_bytes}
use Rattle.tables.specs.declared.refusal.Reason.TheVariants.{TooLong, WrongForm}
use Rattle.text.specs.Search.{first_of, part}
use Rattle.text.specs.Result.{map_result}
use Rattle.text.specs.Result.Result.{refused}
use Rattle.text.specs.Result.Parsed.{good, bad}
use Rattle.text.specs.declared.search.Found.TheVariants.{At}
use Rattle.text.proofs.Searching.{hit, same_lengths}
use Rattle.text.proofs.Lines.{drop_take}
use Rattle.circuit_line.specs.Numbers.{number_list, numbers_as, plain_line}
use Rattle.circuit_line.specs.declared.numbers.Numbers.{Numbers}
use Rattle.circuit_line.specs.declared.section.Header.{Header}
use Rattle.circuit_line.proofs.NumberLines.{plain_bad, plain_good, numbers_not, numbers_are}
use Rattle.circuit_file.specs.File.{HeaderWithin, SmallHeader, circuit_lines, header_as, header_form, header_from, lines_in, contents_of, parse_contents}
use Rattle.circuit_file.specs.declared.HeaderRead.{HeaderRead}
use Rattle.circuit_file.specs.declared.HeaderRead.TheVariants.{Header as HeaderIs, Wrong}

-- a form that is too short for the word
form_short : (text : List ℕ) → length text < 4 → header_form text ≡ bad WrongForm
unfolding header_form
form_short text l =
    let n : length (take 4 text) ≡ length (bytes "aag ") → ⊥ = λ e. omega (arith, simp length-take at e) in
    rw (← same_lengths (take 4 text) (bytes "aag ") n)

module _ (file : List ℕ) {end : ℕ} (q : first_of 10 file ≡ At end) where
  pub header_short : end < 4 → plain_line header_form file ≡ bad WrongForm
  header_short l = plain_bad header_form file q (form_short (take end file) (simp length-take (omega arith)))

  module _ (long : 4 ≤ end) where
    word : take 4 (take end file) ≡ take 4 file
    word = take-take 4 end file long

    pub header_unnamed : same_bytes (take 4 file) (bytes "aag ") ≡ false → plain_line header_form file ≡ bad WrongForm
    unfolding header_form
    header_unnamed n = plain_bad header_form file q (rw (word, n))

    module _ (w : same_bytes (take 4 file) (bytes "aag ") ≡ true) (r : Numbers) (e : numbers_as 5 r ≡ number_list 5 (part 4 end file)) where
      pub header_wrong : r.right ≡ false → plain_line header_form file ≡ bad WrongForm
      unfolding header_form
      header_wrong n = plain_bad header_form file q (rw (word, w, drop_take 4 end file, numbers_not 5 (part 4 end file) r e n))

      module _ (y : r.right ≡ true) (l : length r.values ≡ 5) where
        read : number_list 5 (part 4 end file) ≡ good r.values
        read = numbers_are 5 (part 4 end file) r e y ∙ ap good (take_all 5 r.values (omega arith))

        pub header_unequal : (get_or r.values 0 0 ≡ get_or r.values 1 0 + get_or r.values 2 0 + get_or r.values 4 0 → ⊥) → plain_line header_form file ≡ bad WrongForm
        unfolding header_form
        header_unequal n = plain_bad header_form file q (rw (word, w, drop_take 4 end file, read, ne_eqb _ _ n))

        pub header_good : get_or r.values 0 0 ≡ get_or r.values 1 0 + get_or r.values 2 0 + get_or r.values 4 0
            → plain_line header_form file ≡ good (record { value = header_from r.values; next = end + 1 })
        unfolding header_form
        header_good s = plain_good header_form file q (rw (word, w, drop_take 4 end file, read, eq-eqb _ _ s))

  pub header_within : (values : List ℕ) → ((i : ℕ) → get_or values i 0 < 100000) → SmallHeader (header_from values) × (end + 1 ≤ length file)
  header_within values small = (
    record { maximum_small = small 0; inputs_small = small 1; latches_small = small 2; outputs_small = small 3; gates_small = small 4 },
    omega (arith, (hit _ file 0 end (sym q)).below),
  )

-- ---- the file, by its header

-- what is known of a header that was read
pub header_known : (file : List ℕ) {r : HeaderRead} {h : Header} {next : ℕ} → HeaderWithin file r → r ≡ HeaderIs h next → SmallHeader h × (next ≤ length file)
header_known file w e = subst (HeaderWithin file) e w

pub contents_long : (file : List ℕ) → 65536 < length file → parse_contents file ≡ refused TooLong 0
unfolding parse_contents
contents_long file l = rw (lt-ltb 65536 (length file) l)

module _ (file : List ℕ) (l : length file ≤ 65536) {r : HeaderRead} (e : header_as r ≡ plain_line header_form file) where
  pub contents_headless : r ≡ Wrong → parse_contents file ≡ refused WrongForm 1
  unfolding parse_contents
  contents_headless q = rw (le-ltb 65536 (length file) l, ← e, q)

  pub contents_lines : {h : Header} {next : ℕ} → r ≡ HeaderIs h next → parse_contents file ≡ map_result (contents_of h) (circuit_lines h (lines_in h) [] [] (drop next file))
  unfolding parse_contents
  contents_lines q = rw (le-ltb 65536 (length file) l, ← e, q)
