use mathlib.Core.Path.{◌≡◌, ◌∙◌, sym, ap}
use Prim.Native.Nat.{◌-◌}
use native.Mathlib.Omega.{arith}
use lib.ListN.{length}
use Rattle.tables.proofs.Choices.{rest_part}
use Rattle.text.proofs.Lines.{line_inside}
use Rattle.rule_row.specs.Row.{row_line_as, reason_of}
use Rattle.rule_file.proofs.RowLoop.{rows_start, places_long, rows_refused, rows_more, rows_surplus, rows_end}
use borrow.Author.Rules.{rules}
use Rattle.rule_file.proofs.rule.read_rows.Goals as goal

pub loop-k-init : goal.loop-k-init
loop-k-init c = rows_start _ _ _

pub returns-in_default : goal.returns-in_default
returns-in_default c = record {
  answer = c.refuse.ensures.answer ∙ rw (c.row_reason.ensures.answer ∙ ap reason_of c.in_default.is) (rows_refused c.loop-k.invariant (search rules) (sym
      c.row_line-line.ensures.answer ∙ ap row_line_as c.in_default.is));
}

pub bounds-places-k : goal.bounds-places-k
bounds-places-k c = let e : length c.loop-k.places ≡ 64 = places_long c.loop-k.invariant in omega arith

pub slice_bounds-rest-count : goal.slice_bounds-rest-count
slice_bounds-rest-count c = line_inside _ _ _ _ (sym c.row_line-line.ensures.answer ∙ ap row_line_as c.in-Row.is)

pub slice_bounds-rest-start : goal.slice_bounds-rest-start
slice_bounds-rest-start c = line_inside _ _ _ _ (sym c.row_line-line.ensures.answer ∙ ap row_line_as c.in-Row.is)

pub loop-k-preserved : goal.loop-k-preserved
loop-k-preserved c =
    rw rest_part (rows_more c.loop-k.invariant (search rules) c.requires.1 (sym c.row_line-line.ensures.answer ∙ ap row_line_as c.in-Row.is))

pub returns-then-rest-ne0 : goal.returns-then-rest-ne0
returns-then-rest-ne0 c = record { answer = c.refuse-then-rest-ne0.ensures.answer ∙ rows_surplus c.loop-k.invariant (search rules) (λ z. omega arith) }

pub returns : goal.returns
returns c = record { answer = rows_end c.loop-k.invariant (search rules) (search rules) }
