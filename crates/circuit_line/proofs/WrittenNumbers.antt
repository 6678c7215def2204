-- Plain lines and lists of numbers, number by number: what is written so is read, and only what is written so. Assumes nothing.
use mathlib.Core.Path.{◌≡◌, refl, sym, ap, ◌∙◌, subst}
use mathlib.Core.List.{List, [], ◌∷◌, ◌++◌}
use Prim.Native.Nat.{ℕ, zero, suc, ◌+◌, ◌-◌, ◌<◌}
use native.Mathlib.Omega.{arith}
use lib.ListN.{length, take, drop}
use Rattle.tables.specs.declared.refusal.Reason.{Reason}
use Rattle.tables.specs.declared.refusal.Reason.TheVariants.{WrongForm}
use Rattle.tables.proofs.Choices.{clash}
use Rattle.text.specs.Search.{first_of}
use Rattle.text.specs.Number.{number_of, on_number}
use Rattle.text.specs.Result.{Parsed, Next, Result, on_parsed, on_line}
use Rattle.text.specs.Result.Parsed.{good, bad}
use Rattle.text.specs.Result.Result.{refused}
use Rattle.text.specs.Written.{decimal}
use Rattle.text.specs.declared.search.Found.TheVariants.{At}
use Rattle.text.proofs.Searching.{each_found}
use Rattle.text.proofs.Numbers.{number_written, number_read, number_small, each_number}
use Rattle.text.proofs.Lines.{Free, first_at, cut_front, cut_behind, cut_found}
use Rattle.text.proofs.Headers.{free_below}
use Rattle.circuit_line.specs.Numbers.{number_list, plain_line}

-- ---- a line

-- A WRITTEN LINE IS READ by what its text stands for, and the reading goes on behind it
pub plain_step : {A B : Type 0} (form : List ℕ → Parsed A) (n : ℕ) (go : A → List ℕ → Result B) (s rest : List ℕ) → Free 10 s
    → on_line n (plain_line form) (s ++ (10 ∷ rest)) go ≡ on_parsed (form s) (λ e. refused e n) (λ x. go x rest)
unfolding plain_line
plain_step {A} {B} form n go s rest f = rw (first_at 10 s rest f, cut_front 10 s rest) (by (form s))
  where
    by : (p : Parsed A)
        → on_parsed (on_parsed {B = Parsed (Next A)} p bad (λ x. good (record { value = x; next = length s + 1 }))) (λ r. refused r n) (λ x. go x.value (drop x.next (s ++ (10 ∷ rest))))
        ≡ on_parsed p (λ r. refused r n) (λ x. go x rest)
    by (good x) = ap (go x) (cut_behind 10 s rest)
    by (bad r) = refl

-- a line that is read: its text
pub record PlainOf {A : Type 0} (form : List ℕ → Parsed A) (rest : List ℕ) (x : Next A) : Type 0 where
  pub text : List ℕ
  pub stands : form text ≡ good x.value
  pub whole : rest ≡ text ++ (10 ∷ drop x.next rest)

-- ONLY A WRITTEN LINE IS READ
pub plain_read : {A : Type 0} (form : List ℕ → Parsed A) (rest : List ℕ) (x : Next A) → plain_line form rest ≡ good x → PlainOf form rest x
unfolding plain_line
plain_read {A} form rest x = each_found P (first_of 10 rest) (λ q. clash (cc)) (λ i e. by i e (form (take i rest)) refl)
  where
    P : Parsed (Next A) → Type 0
    P p = p ≡ good x → PlainOf form rest x

    by : (i : ℕ) → At i ≡ first_of 10 rest → (p : Parsed A) → form (take i rest) ≡ p → P (on_parsed p bad (λ y. good (record { value = y; next = i + 1 })))
    by i e (good y) s q =
        let z : record { value = y; next = i + 1 } ≡ x = cc in
        subst (PlainOf form rest) z (record { text = take i rest; stands = s; whole = cut_found 10 rest i e })
    by i e (bad r) s q = clash (cc)

-- a line that is not read is wrong where its text can only be wrong
pub plain_wrong : {A : Type 0} (form : List ℕ → Parsed A) → ((s : List ℕ) (e : Reason) → form s ≡ bad e → e ≡ WrongForm)
    → (rest : List ℕ) (e : Reason) → plain_line form rest ≡ bad e → e ≡ WrongForm
unfolding plain_line
plain_wrong {A} form only rest e = each_found P (first_of 10 rest) (λ q. cc) (λ i f. by i (form (take i rest)) refl)
  where
    P : Parsed (Next A) → Type 0
    P p = p ≡ bad e → e ≡ WrongForm

    by : (i : ℕ) (p : Parsed A) → form (take i rest) ≡ p → P (on_parsed p bad (λ y. good (record { value = y; next = i + 1 })))
    by i (good y) s q = clash (cc)
    by i (bad r) s q = only (take i rest) e (s ∙ let z : r ≡ e = cc in ap bad z)

-- ---- numbers

-- the last number, and one before others
pub numbers_last : (x : ℕ) → x < 100000 → number_list 1 (decimal x) ≡ good (x ∷ [])
unfolding number_list
numbers_last x h = ap (λ n. on_number n (bad WrongForm) (λ y. good (y ∷ []))) (number_written x h)

pub numbers_more : (more x : ℕ) (t xs : List ℕ) → x < 100000 → number_list (suc more) t ≡ good xs → number_list (suc (suc more)) (decimal x ++ (32 ∷ t)) ≡ good (x ∷ xs)
unfolding number_list
numbers_more more x t xs h e = rw (first_at 32 (decimal x) t (free_below 32 x (omega arith)), cut_front 32 (decimal x) t, number_written x h, cut_behind 32 (decimal x) t, e)

-- and back
pub numbers_none : (text xs : List ℕ) → number_list 0 text ≡ good xs → ◌≡◌ {A = ℕ} 0 1
unfolding number_list
numbers_none text xs q = cc

pub numbers_last_read : (text xs : List ℕ) → number_list 1 text ≡ good xs → (x : ℕ) × (xs ≡ x ∷ []) × (text ≡ decimal x) × (x < 100000)
unfolding number_list
numbers_last_read text xs =
    each_number (λ p. p ≡ good xs → (x : ℕ) × (xs ≡ x ∷ []) × (text ≡ decimal x) × (x < 100000)) (number_of text) (λ q. clash (cc))
    (λ x e q. (x, cc, number_read text x (sym e), number_small text x (sym e)))

-- a number before others
pub record Further (more : ℕ) (text xs : List ℕ) : Type 0 where
  pub number : ℕ
  pub others : List ℕ
  pub behind : List ℕ
  pub all : xs ≡ number ∷ others
  pub small : number < 100000
  pub whole : text ≡ decimal number ++ (32 ∷ behind)
  pub goes : number_list (suc more) behind ≡ good others

pub numbers_more_read : (more : ℕ) (text xs : List ℕ) → number_list (suc (suc more)) text ≡ good xs → Further more text xs
unfolding number_list
numbers_more_read more text xs =
    each_found P (first_of 32 text) (λ q. clash (cc)) (λ i f.
    each_number P (number_of (take i text)) (λ q. clash (cc)) (λ x n. by i f x (number_read (take i text) x (sym n)) (number_small (take i text) x (sym n)) (number_list (suc more) (drop (i + 1) text)) refl))
  where
    P : Parsed (List ℕ) → Type 0
    P p = p ≡ good xs → Further more text xs

    by : (i : ℕ) → At i ≡ first_of 32 text → (x : ℕ) → take i text ≡ decimal x → x < 100000 → (p : Parsed (List ℕ)) → number_list (suc more) (drop (i + 1) text) ≡ p
        → P (on_parsed p bad (λ ys. good (x ∷ ys)))
    by i f x n l (good ys) g q =
        record {
          number = x;
          others = ys;
          behind = drop (i + 1) text;
          all = cc;
          small = l;
          whole = cut_found 32 text i f ∙ ap (λ s. s ++ (32 ∷ drop (i + 1) text)) n;
          goes = g;
        }
    by i f x n l (bad r) g q = clash (cc)

-- what is no list of numbers is of a wrong form
pub numbers_wrong : (n : ℕ) (text : List ℕ) (e : Reason) → number_list n text ≡ bad e → e ≡ WrongForm
unfolding number_list
numbers_wrong zero text e = λ q. cc
numbers_wrong (suc zero) text e = each_number (λ p. p ≡ bad e → e ≡ WrongForm) (number_of text) (λ q. cc) (λ x n q. clash (cc))
numbers_wrong (suc (suc more)) text e =
    each_found P (first_of 32 text) (λ q. cc) (λ i f. each_number P (number_of (take i text)) (λ q. cc) (λ x n. by i x (numbers_wrong (suc more) (drop (i + 1) text) e)))
  where
    P : Parsed (List ℕ) → Type 0
    P p = p ≡ bad e → e ≡ WrongForm

    by : (i x : ℕ) → P (number_list (suc more) (drop (i + 1) text)) → P (on_parsed (number_list (suc more) (drop (i + 1) text)) bad (λ ys. good (x ∷ ys)))
    by i x ih = on (number_list (suc more) (drop (i + 1) text)) ih
      where
        on : (p : Parsed (List ℕ)) → P p → P (on_parsed p bad (λ ys. good (x ∷ ys)))
        on (good ys) h q = clash (cc)
        on (bad r) h q = h q
