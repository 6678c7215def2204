use Prim.Native.Nat.{ℕ, suc, ◌+◌, ◌-◌, ◌<◌}
use mathlib.Core.Path.{◌≡◌, refl, subst, subst⁻¹}
use mathlib.Core.Bool.{Bool, false}
use mathlib.Core.List.{List}
use native.Mathlib.Omega.{arith}
use lib.ListN.{replicate}
use Rattle.tables.specs.declared.trace.Ending.TheVariants.{Loop}
use Rattle.tables.specs.declared.trace.Trace.{Trace}
use Rattle.tables.proofs.Places.{replicate_at}
use Rattle.meaning.specs.Covers.{CoversIn}
use Rattle.normal_form.specs.Form.{InNormalForm}
use Rattle.cycle_rows.specs.Cells.{row_cell}
use Rattle.rounds.specs.Recorded.{RoundBack, SpreadTo, given_from}
use Rattle.rounds.proofs.Start.{nothing_recorded}
use Rattle.rounds.proofs.Loops.{Looping, loop_within, loop_first, loop_more, loop_few, loop_answered}
use Rattle.rounds.proofs.looped.fill_looped.Goals as goal
use Rattle.rounds.proofs.looped.fill_looped.Goals.{Start, After-go_back, After-survey-done}

pub rounds-init : goal.rounds-init
rounds-init c = λ t e spread ok h covers. (
  replicate 512 0,
  loop_first c.args.form t c.args.start ok h covers c.spread.new.digits spread (replicate 160 false) c.restart.new.cells c.fill_at.new.cells
      (replicate 128 false) (replicate 512 0) (λ k. replicate_at {A = Bool} 128 (k - 1) false) (λ k. replicate_at {A = Bool} 160 (31 + k) false)
      c.restart.ensures.started (c.fill_at.ensures.filled c.args.form c.prepare-steps.ensures.steps),
)

-- behind a round more
another : (c : After-survey-done) (t : Trace) → t.cycles ≡ c.args.trace.cycles → SpreadTo c.args.form.signals t.cycles t.lanes c.spread.new.digits
    → (ok : InNormalForm c.args.form) (h : c.args.start < t.cycles) (covers : CoversIn c.args.form t (Loop c.args.start))
    → Looping c.args.form t c.args.start ok h covers (c.rounds.rounds + 1) c.go_back.new.cells c.go_back.new.words c.survey-done.new.sure c.survey-done.result
another c t e spread ok h covers =
    let start : ℕ = c.args.start in
    let n : ℕ = c.args.trace.cycles in
    let r : ℕ = c.rounds.rounds in
    let digits : List Bool = c.spread.new.digits in
    let behind : List Bool = c.restart-in-rounds.new.cells in
    let cells : List Bool = c.go_back.new.cells in
    let words : List ℕ = c.go_back.new.words in
    let sure : List Bool = c.survey-done.new.sure in
    let d : suc r ≡ r + 1 = omega arith in
    let before = c.rounds.invariant t e spread ok h covers in
    let back : RoundBack c.args.form (given_from digits) n start n (λ i. row_cell behind) (row_cell cells) words =
    c.go_back.ensures.gone c.args.form c.prepare-steps.ensures.steps n (λ i. row_cell behind) (omega arith) refl
    (nothing_recorded c.args.form.rows n 512 (λ i. row_cell behind)) in
    let back' = subst⁻¹ (λ m. RoundBack c.args.form (given_from digits) m start m (λ i. row_cell behind) (row_cell cells) words) e back in
    let after = loop_more c.args.form t start ok h covers digits spread r c.rounds.cells behind cells c.rounds.sure sure before.0 words c.survey-done.result
    before.1 c.restart-in-rounds.ensures.started back' c.survey-done.ensures.surveyed c.survey-done.ensures.all c.survey-done.ensures.some in
    subst (λ m. Looping c.args.form t start ok h covers m cells words sure c.survey-done.result) d after

pub overflow_add-rounds : goal.overflow_add-rounds
overflow_add-rounds c =
    let h = loop_within c.args.trace c.args.start c.requires.1 c.requires.2 in
    let few = loop_few c.args.form c.args.trace c.args.start c.requires.0 h c.requires.3 c.spread.new.digits c.spread.ensures.spread
    (c.rounds.invariant c.args.trace refl c.spread.ensures.spread c.requires.0 h c.requires.3).1 in
    omega (arith, few, c.requires.0.most_rows)

pub rounds-preserved : goal.rounds-preserved
rounds-preserved c = λ t e spread ok h covers. (
  c.go_back.new.words,
  subst (λ b. Looping c.args.form t c.args.start ok h covers (c.rounds.rounds + 1) c.go_back.new.cells c.go_back.new.words c.survey-done.new.sure b)
      c.if-done.false (another (goal.at.rounds-preserved c).After-survey-done t e spread ok h covers),
)

pub rounds-smaller : goal.rounds-smaller
rounds-smaller c =
    let h = loop_within c.args.trace c.args.start c.requires.1 c.requires.2 in
    let few = loop_few c.args.form c.args.trace c.args.start c.requires.0 h c.requires.3 c.spread.new.digits c.spread.ensures.spread
    (another (goal.at.rounds-smaller c).After-survey-done c.args.trace refl c.spread.ensures.spread c.requires.0 h c.requires.3) in
    omega (arith, few)

pub returns-then-done : goal.returns-then-done
returns-then-done c =
    let start : ℕ = c.args.start in
    let n : ℕ = c.args.trace.cycles in
    let digits : List Bool = c.spread.new.digits in
    let left : List Bool = c.go_back-then-done.new.cells in
    let words : List ℕ = c.go_back-then-done.new.words in
    let h = loop_within c.args.trace start c.requires.1 c.requires.2 in
    let at = subst (λ b. Looping c.args.form c.args.trace start c.requires.0 h c.requires.3 (c.rounds.rounds + 1) c.go_back.new.cells c.go_back.new.words c.survey-done.new.sure b)
    c.if-done.true (another (goal.at.returns-then-done c).After-survey-done c.args.trace refl c.spread.ensures.spread c.requires.0 h c.requires.3) in
    let both = loop_answered c.args.form c.args.trace start c.requires.0 h c.requires.3 digits c.spread.ensures.spread (c.rounds.rounds + 1) c.go_back.new.cells left c.survey-done.new.sure c.go_back.new.words words
    c.lanes_of-lanes.result at
    (λ later f r. c.go_back-then-done.ensures.gone c.args.form c.prepare-steps.ensures.steps n later (omega (arith, h)) f r)
    (λ x r. c.lanes_of-lanes.ensures.lanes c.args.form.rows n x c.requires.0.most_rows r) c.requires.2 in
    record { filled = both.0; rounds = both.1 }
