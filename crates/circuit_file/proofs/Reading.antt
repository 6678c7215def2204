-- The loop that reads the lines behind the header. Assumes nothing.
use mathlib.Core.Path.{◌≡◌, ap₂, refl, sym, ap, subst, ◌∙◌}
use mathlib.Core.Bool.{Bool, true, false, ◌||◌}
use mathlib.Core.List.{List, [], ◌∷◌, ◌++◌}
use Prim.Native.Nat.{ℕ, suc, ◌+◌, ◌*◌, ◌-◌, ◌/◌, ◌%◌, ◌≤◌, ◌<◌}
use native.Mathlib.Nat.{sub-zero}
use native.Mathlib.Omega.{arith}
use lib.Dec.{eqb}
use lib.ListN.{length, get_or, take, drop, set, replicate, length-append, length-drop}
use lib.Seq.{length-take-le}
use borrow.Author.Tests.{eq-eqb, ne_eqb}
use Rattle.tables.specs.Choice.{pick}
use Rattle.tables.specs.Place.{tabulate, placed}
use Rattle.tables.specs.declared.refusal.Reason.{Reason}
use Rattle.tables.specs.declared.refusal.Reason.TheVariants.{WrongForm}
use Rattle.tables.specs.declared.refusal.Outcome.{Outcome}
use Rattle.tables.specs.declared.refusal.Outcome.TheVariants.{Accepted, Refused}
use Rattle.tables.proofs.Places.{length_tabulate, get_d_tabulate, replicate_tabulate, set_tabulate}
use Rattle.text.specs.Result.{Parsed, Next, map_result}
use Rattle.text.specs.Result.Parsed.{good, bad}
use Rattle.text.specs.Result.Result.{accepted, refused}
use Rattle.circuit_line.specs.Numbers.{LineWithin, Within, line_as, number_list, plain_line}
use Rattle.circuit_line.specs.Section.{defines, is_defined, is_possible, line_form, now_defined, section_of, width}
use Rattle.circuit_line.specs.declared.numbers.LineRead.{LineRead}
use Rattle.circuit_line.specs.declared.numbers.LineRead.TheVariants.{Line as LineIs, Wrong}
use Rattle.circuit_line.specs.declared.section.Header.{Header}
use Rattle.circuit_line.specs.declared.section.Section.{Section}
use Rattle.circuit_line.proofs.Sections.{form_good, form_not, form_wrong, line_known, possible_even}
use Rattle.circuit_file.specs.File.{circuit_answer, circuit_lines, flat, lines_in, contents_of}
use Rattle.circuit_file.specs.declared.CircuitAnswer.{CircuitAnswer}
use Rattle.circuit_file.proofs.Flat.{flat_more, flat_length, flat_none, stores_more}

-- ---- no lines. The length of the marks is a variable here, as that of the numbers in Flat

marks_none : (n : ℕ) → replicate n false ≡ tabulate n (λ x. is_defined [] (2 * x))
unfolding is_defined
marks_none n = replicate_tabulate n 0 false

refusal_said : (e : Reason) (l : ℕ) → Refused (record { reason = e; file = 1; line = l }) ≡ (circuit_answer (refused e l)).outcome
refusal_said e l = refl

pub refusal : (e : Reason) (l : ℕ)
    → record {
      outcome = Refused (record { reason = e; file = 1; line = l });
      table = record { header = record { maximum = 0; inputs = 0; latches = 0; outputs = 0; gates = 0 }; numbers = replicate 32770 0 };
    } ≡ circuit_answer (refused e l)
refusal e l =
    ap₂ (λ (o : Outcome) (xs : List ℕ). record {
      outcome = o;
      table = record { header = record { maximum = 0; inputs = 0; latches = 0; outputs = 0; gates = 0 }; numbers = xs };
    }) (refusal_said e l) (flat_none 32770)

-- ---- which variables are defined

or_true : (b : Bool) → b || true ≡ true
or_true true = refl
or_true false = refl

or_false : (b : Bool) → b || false ≡ b
or_false true = refl
or_false false = refl

-- the mark of a line's variable becomes whether it is defined behind the line
module _ (n : ℕ) (defined : List ℕ) (a : ℕ) (h : a / 2 < n) where
  abbrev Marks : List ℕ → List Bool
  Marks ds = tabulate n (λ x. is_defined ds (2 * x))

  mark_set : a % 2 ≡ 0 → set (Marks defined) (a / 2) true ≡ Marks (a ∷ defined)
  unfolding is_defined
  mark_set even =
      let z : a ≡ 2 * (a / 2) = omega arith in
      let s =
      set_tabulate n (λ x. is_defined defined (2 * x)) (λ x. pick (eqb a (2 * x)) true (is_defined defined (2 * x))) (a / 2) false h
      (λ j m. rw (ne_eqb a (2 * j) (λ e. m (omega arith)))) in
      rw (eq-eqb a (2 * (a / 2)) z) at s

  mark_kept : set (Marks defined) (a / 2) (is_defined defined (2 * (a / 2))) ≡ Marks defined
  mark_kept = set_tabulate n (λ x. is_defined defined (2 * x)) (λ x. is_defined defined (2 * x)) (a / 2) false h (λ j m. refl)

  pub marks_more : (d : Bool) → (d ≡ true → a % 2 ≡ 0) → set (Marks defined) (a / 2) (is_defined defined (2 * (a / 2)) || d) ≡ Marks (pick d (a ∷ defined) defined)
  marks_more true even = rw or_true (mark_set (even refl))
  marks_more false even = rw or_false mark_kept

-- ---- one line

module _ (h : Header) (left : ℕ) (done : List (List ℕ)) (defined rest : List ℕ) where
  abbrev Next-line : Parsed (Next (List ℕ))
  Next-line = plain_line (line_form h.maximum defined (section_of h (length done))) rest

  step_refused : {e : Reason} → Next-line ≡ bad e → circuit_lines h (suc left) done defined rest ≡ refused e (length done + 2)
  unfolding circuit_lines
  step_refused q = rw q

  step_more : {xs : List ℕ} {i : ℕ} → Next-line ≡ good (record { value = xs; next = i })
      → circuit_lines h (suc left) done defined rest ≡ circuit_lines h left (done ++ (xs ∷ [])) (now_defined (section_of h (length done)) xs defined) (drop i rest)
  unfolding circuit_lines
  step_more q = rw q

-- what the numbers of a line say where their count is that of its section
said : (s : Section) {n : ℕ} → n ≡ width s → (rest : List ℕ) (r : LineRead) → line_as n r ≡ plain_line (number_list n) rest → line_as (width s) r ≡ plain_line (number_list (width s)) rest
said s en rest r e = subst (λ m. line_as m r ≡ plain_line (number_list m) rest) en e

-- ---- the loop

-- the reading goes on behind k lines, whose numbers the table has, and which define these literals; each number has two bytes or more
pub record LinesAt (h : Header) (body : List ℕ) (k : ℕ) (numbers : List ℕ) (used : ℕ) (taken : List Bool) (rest : List ℕ) : Type 0 where
  pub done : List (List ℕ)
  pub defined : List ℕ
  pub within : k ≤ lines_in h
  pub count : length done ≡ k
  pub stored : used ≡ length (flat done)
  pub short : 2 * used + length rest ≤ length body
  pub goes : circuit_lines h (lines_in h) [] [] body ≡ circuit_lines h (lines_in h - k) done defined rest
  pub same : numbers ≡ placed 32770 (λ x. x) 0 (flat done)
  pub marks : taken ≡ tabulate 50000 (λ x. is_defined defined (2 * x))

pub lines_start : {h : Header} {body : List ℕ} → LinesAt h body 0 (replicate 32770 0) 0 (replicate 50000 false) body
unfolding flat
lines_start {h} {body} =
    record {
      done = [];
      defined = [];
      within = omega arith;
      count = refl;
      stored = refl;
      short = omega arith;
      goes = rw sub-zero;
      same = flat_none 32770;
      marks = marks_none 50000;
    }

-- the answer that the lines give
abbrev Answer : Header → List ℕ → CircuitAnswer
Answer h body = circuit_answer (map_result (contents_of h) (circuit_lines h (lines_in h) [] [] body))

module _ {h : Header} {body : List ℕ} {k : ℕ} {numbers : List ℕ} {used : ℕ} {taken : List Bool} {rest : List ℕ} (inv : LinesAt h body k numbers used taken rest) where
  pub numbers_length : length numbers ≡ 32770
  numbers_length = ap length inv.same ∙ length_tabulate 32770 0 _

  pub taken_length : length taken ≡ 50000
  taken_length = ap length inv.marks ∙ length_tabulate 50000 0 _

  pub numbers_used : length body ≤ 65536 → used ≤ 32768
  numbers_used long = omega (arith, inv.short)

  -- where a line was read, three numbers more have their places
  pub lines_room : {n a b c next : ℕ} → Within n rest a b c next → 1 ≤ n → length body ≤ 65536 → used + 2 < 32770
  lines_room w low long = omega (arith, inv.short, w.longer, w.inside)

  marked : {a : ℕ} → a < 100000 → get_or taken (a / 2) false ≡ is_defined inv.defined (2 * (a / 2))
  marked {a} l = ap (λ ts. get_or ts (a / 2) false) inv.marks ∙ get_d_tabulate 50000 (λ x. is_defined inv.defined (2 * x)) (a / 2) false (omega arith)

  module _ (more : k < lines_in h) {s : Section} (es : s ≡ section_of h k) where
    left : lines_in h - k ≡ suc (lines_in h - (k + 1))
    left = omega arith

    here : s ≡ section_of h (length inv.done)
    here = es ∙ ap (λ j. section_of h j) (sym inv.count)

    goes_on : circuit_lines h (lines_in h) [] [] body ≡ circuit_lines h (suc (lines_in h - (k + 1))) inv.done inv.defined rest
    goes_on = inv.goes ∙ ap (λ j. circuit_lines h j inv.done inv.defined rest) left

    refused_here : plain_line (line_form h.maximum inv.defined s) rest ≡ bad WrongForm → circuit_answer (refused WrongForm (k + 2)) ≡ Answer h body
    refused_here q =
        let z = step_refused h (lines_in h - (k + 1)) inv.done inv.defined rest (subst (λ t. plain_line (line_form h.maximum inv.defined t) rest ≡ bad WrongForm) here q) in
        let y : circuit_lines h (lines_in h) [] [] body ≡ refused WrongForm (k + 2) = goes_on ∙ (z ∙ ap (λ j. refused WrongForm (j + 2)) inv.count) in
        ap (λ x. circuit_answer (map_result (contents_of h) x)) (sym y)

    module _ {n : ℕ} (en : n ≡ width s) {r : LineRead} (e : line_as n r ≡ plain_line (number_list n) rest) where
      pub lines_wrong : r ≡ Wrong → circuit_answer (refused WrongForm (k + 2)) ≡ Answer h body
      lines_wrong q = refused_here (form_wrong h.maximum inv.defined s rest (said s en rest r e) q)

      module _ {a b c next : ℕ} (q : r ≡ LineIs a b c next) (w : LineWithin n rest r) {t : Bool} (p : t ≡ is_possible h.maximum (get_or taken (a / 2) false) s a b c) where
        line : Within (width s) rest a b c next
        line = line_known (subst (λ m. LineWithin m rest r) en w) q

        tested : t ≡ is_possible h.maximum (is_defined inv.defined (2 * (a / 2))) s a b c
        tested = p ∙ ap (λ x. is_possible h.maximum x s a b c) (marked line.small.0)

        pub lines_not : t ≡ false → circuit_answer (refused WrongForm (k + 2)) ≡ Answer h body
        lines_not f = refused_here (form_not h.maximum inv.defined s rest (said s en rest r e) q (subst (λ m. LineWithin m rest r) en w) (sym tested ∙ f))

        -- a line more
        pub lines_more : t ≡ true → {d : Bool} → d ≡ defines s → 1 ≤ n → n ≤ 3 → length body ≤ 65536
            → LinesAt h body (k + 1) (set (set (set numbers used a) (used + 1) b) (used + 2) c) (used + n) (set taken (a / 2) (get_or taken (a / 2) false || d)) (drop next rest)
        lines_more y {d} ed low high long =
            let xs : List ℕ = take (width s) (a ∷ b ∷ c ∷ []) in
            let g : plain_line (line_form h.maximum inv.defined s) rest ≡ good (record { value = xs; next = next }) =
            form_good h.maximum inv.defined s rest (said s en rest r e) q (subst (λ m. LineWithin m rest r) en w) (sym tested ∙ y) in
            let size : length xs ≡ width s = length-take-le (width s) (a ∷ b ∷ c ∷ []) (omega arith) in
            let m : length (flat inv.done) + 2 < 32770 = omega (arith, inv.stored, lines_room line (omega arith) long) in
            let v : a / 2 < 50000 = omega (arith, line.small.0) in
            let even : defines s ≡ true → a % 2 ≡ 0 = possible_even h.maximum (is_defined inv.defined (2 * (a / 2))) s a b c (sym tested ∙ y) in
            record {
              done = inv.done ++ (xs ∷ []);
              defined = now_defined s xs inv.defined;
              within = omega arith;
              count = length-append inv.done (xs ∷ []) ∙ omega (arith, inv.count);
              stored = omega (arith, flat_length inv.done xs, inv.stored);
              short = rw length-drop (omega (arith, inv.short, line.longer, line.inside));
              goes =
                  goes_on
                  ∙ (step_more h (lines_in h - (k + 1)) inv.done inv.defined rest (subst (λ z. plain_line (line_form h.maximum inv.defined z) rest ≡ good (record { value = xs; next = next })) here g)
                  ∙ ap (λ z. circuit_lines h (lines_in h - (k + 1)) (inv.done ++ (xs ∷ [])) (now_defined z xs inv.defined) (drop next rest)) (sym here));
              same =
                  stores_more 32770 (flat inv.done) xs (omega arith) m inv.same inv.stored line.literal line.first line.second
                  ∙ ap (λ zs. placed 32770 (λ x. x) 0 zs) (sym (flat_more inv.done xs));
              marks = rw (marked line.small.0, inv.marks, line.literal, ed) (marks_more 50000 inv.defined a v (defines s) even);
            }

  module _ (ends : lines_in h ≤ k) where
    none_left : lines_in h - k ≡ 0
    none_left = omega arith

    pub lines_end : length rest ≡ 0 → record { outcome = Accepted; table = record { header = h; numbers = numbers } } ≡ Answer h body
    unfolding circuit_lines
    lines_end e =
        let z : circuit_lines h (lines_in h) [] [] body ≡ accepted inv.done = rw (inv.goes, none_left, eq-eqb (length rest) 0 e) in
        rw (z, inv.same)

    pub lines_surplus : (length rest ≡ 0 → ⊥) → circuit_answer (refused WrongForm (k + 2)) ≡ Answer h body
    unfolding circuit_lines
    lines_surplus n =
        let z : circuit_lines h (lines_in h) [] [] body ≡ refused WrongForm (k + 2) = rw (inv.goes, none_left, ne_eqb (length rest) 0 n, inv.count) in
        rw z
