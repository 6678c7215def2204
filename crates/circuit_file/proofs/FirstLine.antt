-- The first line of a circuit file, `aag M I L O A`, and its written form. Assumes nothing.
use mathlib.Core.Bool.{true}
use mathlib.Core.Path.{◌≡◌, refl, sym, ap, ◌∙◌, subst}
use mathlib.Core.List.{List, [], ◌∷◌, ◌++◌}
use Prim.Native.Nat.{ℕ, ◌+◌}
use native.Mathlib.Omega.{arith}
use lib.ListN.{length, get_or, take, drop, take-append-drop}
use borrow.Author.Tests.{eqb-true, eq-eqb}
use Rattle.tables.specs.Choice.{pick}
use Rattle.tables.specs.Bytes.{bytes, same_bytes}
use Rattle.tables.specs.declared.refusal.Reason.{Reason}
use Rattle.tables.specs.declared.refusal.Reason.TheVariants.{WrongForm}
use Rattle.tables.proofs.Choices.{clash, each_pick}
use Rattle.text.specs.Result.{Parsed, on_parsed}
use Rattle.text.specs.Result.Parsed.{good, bad}
use Rattle.text.proofs.Searching.{same_eq, same_refl}
use Rattle.text.proofs.Lines.{Free, free_append}
use Rattle.text.proofs.Headers.{free}
use Rattle.circuit_line.specs.declared.section.Header.{Header}
use Rattle.circuit_line.specs.Numbers.{number_list}
use Rattle.circuit_line.proofs.WrittenNumbers.{numbers_wrong}
use Rattle.circuit_file.specs.File.{header_from, sums_up, header_form}
use Rattle.circuit_file.specs.Written.{spaced}
use Rattle.circuit_file.proofs.Spaced.{EachSmall, spaced_good, spaced_free, numbers_spaced}
use Rattle.circuit_file.proofs.Shapes.{three_own}

-- its numbers
abbrev pub numbers_of : Header → List ℕ
numbers_of h = h.maximum ∷ h.inputs ∷ h.latches ∷ h.outputs ∷ h.gates ∷ []

-- its text
abbrev pub header_text : List ℕ → List ℕ
header_text xs = bytes "aag " ++ spaced xs

-- "a maximum index of inputs plus latches plus gates"
abbrev pub Sums : Header → Type 0
Sums h = h.maximum ≡ h.inputs + h.latches + h.gates

pub header_free : (xs : List ℕ) → Free 10 (header_text xs)
header_free xs = free_append 10 (bytes "aag ") (spaced xs) (free 10 (bytes "aag ") refl) (spaced_free xs)

-- WHAT IS WRITTEN IS READ BACK
pub header_written : (h : Header) → Sums h → EachSmall (numbers_of h) → header_form (header_text (numbers_of h)) ≡ good h
unfolding header_form
header_written h s small =
    let e : sums_up h ≡ true = eq-eqb h.maximum (h.inputs + h.latches + h.gates) s in
    rw (same_refl (bytes "aag "), spaced_good 5 (numbers_of h) (omega arith) refl small, e)

-- ONLY WHAT IS WRITTEN IS READ
five_own : (xs : List ℕ) → length xs ≡ 5 → numbers_of (header_from xs) ≡ xs
five_own [] e = absurd (omega arith)
five_own (x ∷ []) e = absurd (omega arith)
five_own (x ∷ y ∷ ys) e = ap (λ zs. x ∷ y ∷ zs) (three_own ys (omega arith))

pub header_read : (text : List ℕ) (h : Header) → header_form text ≡ good h → (text ≡ header_text (numbers_of h)) × Sums h
unfolding header_form
header_read text h = each_pick P (same_bytes (take 4 text) (bytes "aag ")) (λ t. by (same_eq (take 4 text) (bytes "aag ") t) (number_list 5 (drop 4 text)) refl) (λ _ q. clash (cc))
  where
    P : Parsed Header → Type 0
    P p = p ≡ good h → (text ≡ header_text (numbers_of h)) × Sums h

    whole : (xs : List ℕ) → take 4 text ≡ bytes "aag " → number_list 5 (drop 4 text) ≡ good xs → text ≡ header_text (numbers_of (header_from xs))
    whole xs t e =
        let w = numbers_spaced 5 (drop 4 text) xs e in
        sym (take-append-drop 4 text) ∙ (ap (λ s. s ++ drop 4 text) t ∙ ap (λ s. bytes "aag " ++ s) (w.0 ∙ ap spaced (sym (five_own xs w.1))))

    by : take 4 text ≡ bytes "aag " → (p : Parsed (List ℕ)) → number_list 5 (drop 4 text) ≡ p
        → P (on_parsed p bad λ xs. pick (sums_up (header_from xs)) (good (header_from xs)) (bad WrongForm))
    by t (good xs) e =
        each_pick P (sums_up (header_from xs))
        (λ s q. let z : header_from xs ≡ h = cc in
        subst (λ h. (text ≡ header_text (numbers_of h)) × Sums h) z (whole xs t e, eqb-true (get_or xs 0 0) (get_or xs 1 0 + get_or xs 2 0 + get_or xs 4 0) s)) (λ _ q. clash (cc))
    by t (bad r) e = λ q. clash (cc)

-- what is no header is of a wrong form
pub header_wrong : (text : List ℕ) (e : Reason) → header_form text ≡ bad e → e ≡ WrongForm
unfolding header_form
header_wrong text e = each_pick P (same_bytes (take 4 text) (bytes "aag ")) (λ t. by (number_list 5 (drop 4 text)) (numbers_wrong 5 (drop 4 text) e)) (λ _ q. cc)
  where
    P : Parsed Header → Type 0
    P p = p ≡ bad e → e ≡ WrongForm

    by : (p : Parsed (List ℕ)) → (p ≡ bad e → e ≡ WrongForm) → P (on_parsed p bad λ xs. pick (sums_up (header_from xs)) (good (header_from xs)) (bad WrongForm))
    by (good xs) n = each_pick P (sums_up (header_from xs)) (λ _ q. clash (cc)) (λ _ q. cc)
    by (bad r) n = λ q. n (let z : r ≡ e = cc in ap bad z)
