use mathlib.Core.Path.{◌∙◌, sym, ap}
use native.Mathlib.Omega.{arith}
use lib.ListN.{length}
use borrow.Author.Tests.{lt-ltb, le-ltb}
use Rattle.text.specs.Count.{counted_as, reason_of}
use Rattle.tables.proofs.Choices.{rest_part}
use Rattle.text.proofs.Counts.{counted}
use Rattle.rule_file.specs.Rule.{parse_rule}
use borrow.Author.Rules.{rules}
use Rattle.rule_file.proofs.rule.read_rule.Goals as goal

-- The ranges come first: a count that the code lets through beyond its range fails here.
pub read_rows-requires : goal.read_rows-requires
read_rows-requires c = (
  omega (arith, (counted _ _ _ _ _ c.count_line-second.ensures.answer c.in-Count-second.is).1),
  omega (
    arith,
    (counted _ _ _ _ _ c.count_line-third.ensures.answer c.in-Count-third.is).1,
  ),
)

pub returns-then-file-gt65536 : goal.returns-then-file-gt65536
unfolding parse_rule
returns-then-file-gt65536 c = record { answer = c.refuse.ensures.answer ∙ rw (lt-ltb 65536 (length c.args.file.now) (search rules)) }

pub returns-in_default : goal.returns-in_default
unfolding parse_rule
returns-in_default c = record {
  answer = c.refuse-in_default.ensures.answer ∙ rw (
    le-ltb _ _ c.if-file-gt65536.false,
    sym c.count_line-first.ensures.answer ∙ ap counted_as c.in_default.is,
    c.count_reason.ensures.answer ∙ ap reason_of c.in_default.is,
  );
}

pub slice_bounds-after_format-count : goal.slice_bounds-after_format-count
slice_bounds-after_format-count c = (counted _ _ _ _ _ c.count_line-first.ensures.answer c.in-Count.is).2

pub slice_bounds-after_format-start : goal.slice_bounds-after_format-start
slice_bounds-after_format-start c = (counted _ _ _ _ _ c.count_line-first.ensures.answer c.in-Count.is).2

pub returns-in_default-second : goal.returns-in_default-second
unfolding parse_rule
returns-in_default-second c = record {
  answer = c.refuse-in_default-second.ensures.answer ∙ rw (
    le-ltb _ _ c.if-file-gt65536.false,
    sym c.count_line-first.ensures.answer ∙ ap counted_as c.in-Count.is,
    rw rest_part at (sym c.count_line-second.ensures.answer ∙ ap counted_as c.in_default-second.is),
    c.count_reason-in_default-second.ensures.answer ∙ ap reason_of c.in_default-second.is,
  );
}

pub slice_bounds-after_signals-count : goal.slice_bounds-after_signals-count
slice_bounds-after_signals-count c = (counted _ _ _ _ _ c.count_line-second.ensures.answer c.in-Count-second.is).2

pub slice_bounds-after_signals-start : goal.slice_bounds-after_signals-start
slice_bounds-after_signals-start c = (counted _ _ _ _ _ c.count_line-second.ensures.answer c.in-Count-second.is).2

pub returns-in_default-third : goal.returns-in_default-third
unfolding parse_rule
returns-in_default-third c = record {
  answer = c.refuse-in_default-third.ensures.answer ∙ rw (
    le-ltb _ _ c.if-file-gt65536.false,
    sym c.count_line-first.ensures.answer ∙ ap counted_as c.in-Count.is,
    rw rest_part at (sym c.count_line-second.ensures.answer ∙ ap counted_as c.in-Count-second.is),
    rw (rest_part, rest_part) at (sym c.count_line-third.ensures.answer ∙ ap counted_as c.in_default-third.is),
    c.count_reason-in_default-third.ensures.answer ∙ ap reason_of c.in_default-third.is,
  );
}

pub slice_bounds-read_rows-count : goal.slice_bounds-read_rows-count
slice_bounds-read_rows-count c = (counted _ _ _ _ _ c.count_line-third.ensures.answer c.in-Count-third.is).2

pub slice_bounds-read_rows-start : goal.slice_bounds-read_rows-start
slice_bounds-read_rows-start c = (counted _ _ _ _ _ c.count_line-third.ensures.answer c.in-Count-third.is).2

pub returns : goal.returns
unfolding parse_rule
returns c = record {
  answer = rw (rest_part, rest_part, rest_part) at c.read_rows.ensures.answer ∙ rw (
    le-ltb _ _ c.if-file-gt65536.false,
    sym c.count_line-first.ensures.answer ∙ ap counted_as c.in-Count.is,
    rw rest_part at (sym c.count_line-second.ensures.answer ∙ ap counted_as c.in-Count-second.is),
    rw (rest_part, rest_part) at (sym c.count_line-third.ensures.answer ∙ ap counted_as c.in-Count-third.is),
  );
}
