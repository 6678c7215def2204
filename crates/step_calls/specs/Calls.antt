-- Endless lists of step calls (01, "Monitors"; demand 3, first sentence). Assumes nothing.
use Rattle.std.specs.Prelude.{ℕ, zero, suc, ◌+◌, ◌*◌, ◌≤◌, ◌<◌, ◌≡◌, Bool, true, false, List, get_or}
use Rattle.tables.specs.declared.row.Formula.{Formula}
use Rattle.text.specs.Search.{part}
use Rattle.meaning.specs.Reading.{Reading, Some}
use Rattle.meaning.specs.Trace.{InfiniteTrace}
use Rattle.writing.specs.declared.answer.Bytes.{Bytes}
use Rattle.writing.specs.declared.answer.Bytes.TheVariants.{Count, Refused}
use Rattle.monitors.specs.State.{fresh_state}
use Rattle.step.specs.Step.{digit_at, output_size, state_digits, rows_in, step_answer, step_left}

-- "activators, signals and lent buffer may be any in each call"; so may be the number of rows for which it gets a fresh state until one is
-- answered, which 01 does not fix
pub record Call : Type 0 where
  pub activators : List ℕ
  pub signals : List ℕ
  pub buffer : List ℕ
  pub rows : ℕ

-- what there is to hand on: nothing as long as no call has been answered, then what the last answered one wrote
pub data Kept : Type 0 where
  fresh : Kept
  wrote : List ℕ → Kept

-- "Until one is answered, calls get pendings that are all 0. After that each gets, as a copy that nobody else alters, the pendings
-- that the last answered one wrote": the state that a call gets, fresh for so many rows
abbrev pub given : Kept → ℕ → List ℕ
given fresh rows = state_digits rows fresh_state
given (wrote state) rows = state

-- what follows of an answered call, and of a refused one
abbrev pub on_answer : {A : Type 0} → Bytes → A → A → A
on_answer (Count n) x y = x
on_answer (Refused r) x y = y

-- the numbers of the answered calls, in order
pub record InOrder (answered : ℕ → Bool) (at : ℕ → ℕ) : Type 0 where
  pub first : (j : ℕ) → j < at 0 → answered j ≡ false
  pub each : (c : ℕ) → answered (at c) ≡ true
  pub rises : (c : ℕ) → at c < at (suc c)
  pub between : (c j : ℕ) → at c < j → j < at (suc c) → answered j ≡ false

-- "endless lists of step calls with one rule"
module _ (f : Formula) (calls : ℕ → Call) where
  -- what is kept when call i comes
  unfoldable pub kept : ℕ → Kept
  kept zero = fresh
  kept (suc i) =
      let call = calls i in
      let state = given (kept i) call.rows in
      on_answer (step_answer f state call.activators call.signals call.buffer)
      (wrote (part (2 * rows_in f) (output_size (rows_in f)) (step_left f state call.activators call.signals call.buffer)))
      (kept i)  -- "A refused call changes none of them"

  -- the state that call i gets
  abbrev pub handed : ℕ → List ℕ
  handed i = given (kept i) (calls i).rows

  -- whether call i is answered, and what it leaves in its buffer: the digits of failed, then accept, then the state
  abbrev pub answered : ℕ → Bool
  answered i = on_answer (step_answer f (handed i) (calls i).activators (calls i).signals (calls i).buffer) true false

  abbrev pub left : ℕ → List ℕ
  left i = step_left f (handed i) (calls i).activators (calls i).signals (calls i).buffer

  -- "The signals of the answered calls, in order, are cycles 0, 1, 2 and so on of the endless take"; a refused call "is no cycle"
  pub record TakeOf (w : InfiniteTrace) : Type 0 where
    pub at : ℕ → ℕ
    pub in_order_lem : InOrder answered at
    pub cycles : (c s : ℕ) → 1 ≤ s → s ≤ f.signals → w c s ≡ digit_at (calls (at c)).signals s

  abbrev pub FirstAnswered : ℕ → Type 0
  FirstAnswered i = (answered i ≡ true) × ((j : ℕ) → j < i → answered j ≡ false)

  -- what demand 3 asks of the list
  pub record StepsPass (R : Reading) : Type 0 where
    -- "The root is active in the first when its activator there is 1"
    pub root_active : Some R (λ i. FirstAnswered i × (digit_at (calls i).activators (rows_in f) ≡ true))
    -- "no monitor fails when no answered call writes a failed of 1"
    pub none_fails : (i k : ℕ) → answered i ≡ true → k < rows_in f → ¬ (get_or (left i) k 0 ≡ 49)
    -- "an accept keeps returning when its row's accept is 1 in endlessly many answered calls"
    pub accepts_return : (k : ℕ) → k < rows_in f → (i : ℕ)
        → Some R (λ j. (i ≤ j) × (answered j ≡ true) × (get_or (left j) (rows_in f + k) 0 ≡ 49))
