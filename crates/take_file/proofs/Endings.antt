-- The value of the line `loop=`, and its written form. Assumes nothing.
use mathlib.Core.Path.{◌≡◌, refl, sym, ap, ◌∙◌, subst}
use mathlib.Core.Bool.{Bool, true, false}
use mathlib.Core.List.{List}
use Prim.Native.Nat.{ℕ, ◌≤◌, ◌<◌}
use native.Mathlib.Omega.{arith}
use lib.Dec.{leb}
use lib.ListN.{length}
use borrow.Author.Tests.{le-leb, lt-leb, leb-false, ltb-true}
use Rattle.tables.specs.Bytes.{bytes, same_bytes}
use Rattle.tables.specs.declared.refusal.Reason.{Reason}
use Rattle.tables.specs.declared.refusal.Reason.TheVariants.{WrongForm, BadLoop}
use Rattle.tables.specs.declared.trace.Ending.{Ending}
use Rattle.tables.specs.declared.trace.Ending.TheVariants.{Open, Loop}
use Rattle.text.specs.Number.{padded_of}
use Rattle.text.specs.Line.{is_key, keyed_line}
use Rattle.text.specs.Result.{Parsed, Next}
use Rattle.text.specs.Result.Parsed.{good, bad}
use Rattle.text.specs.Written.{decimal}
use Rattle.text.specs.declared.number.Number.TheVariants.{Is, Not}
use Rattle.tables.proofs.Choices.{clash, each_pick}
use Rattle.text.proofs.Searching.{same_refl, same_eq}
use Rattle.text.proofs.Numbers.{padded_written, padded_own, each_number}
use Rattle.text.proofs.Lines.{Free, line_inside}
use Rattle.text.proofs.Headers.{free, free_below, decimal_word}
use Rattle.take_file.specs.Ending.{ending_value, ending_line_as}
use Rattle.take_file.specs.declared.ending.EndingLine.{EndingLine}
use Rattle.take_file.specs.declared.ending.EndingLine.TheVariants.{Ending as EndingRead, Wrong}
use Rattle.take_file.specs.Valid.{Below, is_below}
use Rattle.take_file.specs.Written.{ending_text}

pub below_true : (cycles : ℕ) (e : Ending) → is_below cycles e ≡ true → Below cycles e
below_true cycles Open t = tt
below_true cycles (Loop n) t = ltb-true n cycles t

-- the value by its bytes
module _ (cycles : ℕ) (v : List ℕ) where
  pub ending_none : same_bytes v (bytes "none") ≡ true → ending_value cycles v ≡ good Open
  unfolding ending_value
  ending_none e = rw e

  module _ (n : same_bytes v (bytes "none") ≡ false) where
    pub ending_formless : padded_of v ≡ Not → ending_value cycles v ≡ bad WrongForm
    unfolding ending_value
    ending_formless e = rw (n, e)

    pub ending_beyond : {m : ℕ} → padded_of v ≡ Is m → cycles ≤ m → ending_value cycles v ≡ bad BadLoop
    unfolding ending_value
    ending_beyond {m} e h = rw (n, e, le-leb cycles m h)

    pub ending_loop : {m : ℕ} → padded_of v ≡ Is m → m < cycles → ending_value cycles v ≡ good (Loop m)
    unfolding ending_value
    ending_loop {m} e h = rw (n, e, lt-leb cycles m h)

-- ---- the written form

no_word : (n : ℕ) → decimal n ≡ bytes "none" → ⊥
no_word n e = decimal_word n (bytes "non") 101 (omega arith) (omega arith) e

decimal_other : (n : ℕ) → same_bytes (decimal n) (bytes "none") ≡ false
decimal_other n = by (same_bytes (decimal n) (bytes "none")) refl
  where
    by : (b : Bool) → same_bytes (decimal n) (bytes "none") ≡ b → b ≡ false
    by true e = absurd (no_word n (same_eq (decimal n) (bytes "none") e))
    by false e = refl

pub ending_free : (e : Ending) → Free 10 (ending_text e)
ending_free Open = free 10 (bytes "none") refl
ending_free (Loop n) = free_below 10 n (omega arith)

pub ending_written : (cycles : ℕ) (e : Ending) → cycles ≤ 256 → Below cycles e → ending_value cycles (ending_text e) ≡ good e
ending_written cycles Open h b = ending_none cycles (bytes "none") (same_refl (bytes "none"))
ending_written cycles (Loop n) h b = ending_loop cycles (decimal n) (decimal_other n) (padded_written n (omega arith)) b

pub ending_outside : (cycles n : ℕ) → cycles ≤ n → n < 100000 → ending_value cycles (ending_text (Loop n)) ≡ bad BadLoop
ending_outside cycles n h l = ending_beyond cycles (decimal n) (decimal_other n) (padded_written n l) h

-- what is read of an ending: `none`, or a number below the number of cycles
pub data EndingOf (cycles : ℕ) (v : List ℕ) : Ending → Type 0 where
  ended : same_bytes v (bytes "none") ≡ true → EndingOf cycles v Open
  looped : (n : ℕ) → same_bytes v (bytes "none") ≡ false → padded_of v ≡ Is n → n < cycles → EndingOf cycles v (Loop n)

pub ending_read : (cycles : ℕ) (v : List ℕ) (e : Ending) → ending_value cycles v ≡ good e → EndingOf cycles v e
unfolding ending_value
ending_read cycles v e =
    each_pick P (same_bytes v (bytes "none")) (λ s q. let z : Open ≡ e = cc in subst (EndingOf cycles v) z (ended s))
    (λ s. each_number P (padded_of v) (λ q. clash (cc)) (λ n d. each_pick P (leb cycles n) (λ _ q. clash (cc))
    (λ l q. let z : Loop n ≡ e = cc in subst (EndingOf cycles v) z (looped n s (sym d) (leb-false cycles n l)))))
  where
    P : Parsed Ending → Type 0
    P p = p ≡ good e → EndingOf cycles v e

-- an ending that is accepted is in range
pub ending_valid : {cycles : ℕ} {v : List ℕ} {e : Ending} → EndingOf cycles v e → Below cycles e
ending_valid (ended s) = tt
ending_valid (looped n s d l) = l

-- and a written one is read as itself, whatever it is
ending_own : {cycles : ℕ} (e : Ending) {x : Ending} → EndingOf cycles (ending_text e) x → e ≡ x
ending_own Open (ended s) = refl
ending_own Open (looped n s d l) = clash (cc (same_refl (bytes "none")))
ending_own (Loop m) (ended s) = clash (cc (decimal_other m))
ending_own (Loop m) (looped n s d l) = ap Loop (padded_own m n d)

pub ending_range : (cycles : ℕ) (e x : Ending) → ending_value cycles (ending_text e) ≡ good x → (e ≡ x) × Below cycles x
ending_range cycles e x q =
    let w = ending_read cycles (ending_text e) x q in
    (ending_own e w, ending_valid w)

-- what a call ensures of the line, and what is known of its result
pub ending_is : {p : Parsed (Next Ending)} {r : EndingLine} {e : Ending} {i : ℕ} → ending_line_as r ≡ p → r ≡ EndingRead e i → p ≡ good (record { value = e; next = i })
ending_is q d = sym q ∙ ap ending_line_as d

pub ending_wrong : {p : Parsed (Next Ending)} {r : EndingLine} {x : Reason} → ending_line_as r ≡ p → r ≡ Wrong x → p ≡ bad x
ending_wrong q d = sym q ∙ ap ending_line_as d

-- and the next line begins within the bytes left
pub ending_inside : (cycles : ℕ) (rest : List ℕ) {r : EndingLine} {e : Ending} {i : ℕ}
    → ending_line_as r ≡ keyed_line (is_key (bytes "loop")) (ending_value cycles) rest → r ≡ EndingRead e i → i ≤ length rest
ending_inside cycles rest q d = line_inside (is_key (bytes "loop")) (ending_value cycles) rest _ (ending_is q d)
