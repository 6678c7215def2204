-- What reading gives: of a line, and of a file. Assumes nothing.
use Rattle.std.specs.Prelude.{ℕ, List, drop}
use Rattle.tables.specs.declared.refusal.Reason.{Reason}
use Rattle.tables.specs.declared.refusal.Outcome.{Outcome}
use Rattle.tables.specs.declared.refusal.Outcome.TheVariants.{Accepted, Refused}

-- what a line or a value stands for, or why it is turned back
pub data Parsed (A : Type 0) : Type 0 where
  good : A → Parsed A
  bad : Reason → Parsed A

-- what a line stands for, and where the next line begins
pub record Next (A : Type 0) : Type 0 where
  pub value : A
  pub next : ℕ

-- what a file stands for, or why it is turned back and at which line
pub data Result (A : Type 0) : Type 0 where
  accepted : A → Result A
  refused : Reason → ℕ → Result A

abbrev pub on_parsed : {A B : Type 0} → Parsed A → (Reason → B) → (A → B) → B
on_parsed (good x) g f = f x
on_parsed (bad e) g f = g e

abbrev pub map_result : {A B : Type 0} → (A → B) → Result A → Result B
map_result f (accepted x) = accepted (f x)
map_result f (refused e n) = refused e n

-- line n of a file is read from the bytes left, and the reading goes on with what it stands for and the bytes behind it;
-- "a line that is not of its form ends the reading there"
abbrev pub on_line : {A B : Type 0} → ℕ → (List ℕ → Parsed (Next A)) → List ℕ → (A → List ℕ → Result B) → Result B
on_line n read rest go = on_parsed (read rest) (λ e. refused e n) (λ x. go x.value (drop x.next rest))

-- "A refusal gives number, file (1 rule, 2 take, 3 sheet) and line from 1; line 0 for 1"
abbrev pub outcome_of : {A : Type 0} → ℕ → Result A → Outcome
outcome_of file (accepted x) = Accepted
outcome_of file (refused e n) = Refused (record { reason = e; file = file; line = n })

-- the table that was read; a refused file leaves the empty one
abbrev pub table_or : {A : Type 0} → A → Result A → A
table_or empty (accepted x) = x
table_or empty (refused e n) = empty
