use native.Mathlib.Omega.{arith}
use mathlib.Core.Path.{◌∙◌, ap}
use lib.ListN.{length}
use borrow.Author.Tests.{lt-ltb, le-ltb}
use Rattle.text.specs.Count.{reason_of}
use Rattle.tables.proofs.Choices.{rest_part}
use Rattle.text.proofs.Counts.{counted}
use Rattle.text.proofs.Headers.{counted_is, counted_wrong}
use Rattle.take_file.specs.Take.{parse_take}
use Rattle.take_file.specs.Ending.{reason_of as endingReasonOf}
use Rattle.take_file.proofs.Endings.{ending_is, ending_wrong, ending_inside}
use borrow.Author.Rules.{rules}
use Rattle.take_file.proofs.take.read_take.Goals as goal

-- The ranges come first: a count that the code lets through beyond its range fails here.
pub ending_line-fourth-requires : goal.ending_line-fourth-requires
ending_line-fourth-requires c = omega (arith, (counted _ _ _ _ _ c.count_line-third.ensures.answer c.in-Count-third.is).1)

pub read_cycles-requires : goal.read_cycles-requires
read_cycles-requires c = (
  omega (arith, (counted _ _ _ _ _ c.count_line-second.ensures.answer c.in-Count-second.is).1),
  omega (
    arith,
    (counted _ _ _ _ _ c.count_line-third.ensures.answer c.in-Count-third.is).1,
  ),
)

pub returns-then-file-gt65536 : goal.returns-then-file-gt65536
unfolding parse_take
returns-then-file-gt65536 c = record { answer = c.refuse.ensures.answer ∙ rw (lt-ltb 65536 (length c.args.file.now) (search rules)) }

pub returns-in_default : goal.returns-in_default
unfolding parse_take
returns-in_default c = record {
  answer = c.refuse-in_default.ensures.answer ∙ rw (
    le-ltb _ _ c.if-file-gt65536.false,
    counted_wrong c.count_line-first.ensures.answer c.in_default.is,
    c.count_reason.ensures.answer ∙
        ap reason_of c.in_default.is,
  );
}

pub slice_bounds-after_format-count : goal.slice_bounds-after_format-count
slice_bounds-after_format-count c = (counted _ _ _ _ _ c.count_line-first.ensures.answer c.in-Count.is).2

pub slice_bounds-after_format-start : goal.slice_bounds-after_format-start
slice_bounds-after_format-start c = (counted _ _ _ _ _ c.count_line-first.ensures.answer c.in-Count.is).2

pub returns-in_default-second : goal.returns-in_default-second
unfolding parse_take
returns-in_default-second c = record {
  answer = c.refuse-in_default-second.ensures.answer ∙ rw (
    le-ltb _ _ c.if-file-gt65536.false,
    counted_is c.count_line-first.ensures.answer c.in-Count.is,
    counted_wrong (rw rest_part at c.count_line-second.ensures.answer) c.in_default-second.is,
    c.count_reason-in_default-second.ensures.answer ∙ ap reason_of c.in_default-second.is,
  );
}

pub slice_bounds-after_signals-count : goal.slice_bounds-after_signals-count
slice_bounds-after_signals-count c = (counted _ _ _ _ _ c.count_line-second.ensures.answer c.in-Count-second.is).2

pub slice_bounds-after_signals-start : goal.slice_bounds-after_signals-start
slice_bounds-after_signals-start c = (counted _ _ _ _ _ c.count_line-second.ensures.answer c.in-Count-second.is).2

pub returns-in_default-third : goal.returns-in_default-third
unfolding parse_take
returns-in_default-third c = record {
  answer = c.refuse-in_default-third.ensures.answer ∙ rw (
    le-ltb _ _ c.if-file-gt65536.false,
    counted_is c.count_line-first.ensures.answer c.in-Count.is,
    counted_is (rw rest_part at c.count_line-second.ensures.answer) c.in-Count-second.is,
    counted_wrong (rw (rest_part, rest_part) at c.count_line-third.ensures.answer) c.in_default-third.is,
    c.count_reason-in_default-third.ensures.answer ∙ ap reason_of c.in_default-third.is,
  );
}

pub slice_bounds-after_cycles-count : goal.slice_bounds-after_cycles-count
slice_bounds-after_cycles-count c = (counted _ _ _ _ _ c.count_line-third.ensures.answer c.in-Count-third.is).2

pub slice_bounds-after_cycles-start : goal.slice_bounds-after_cycles-start
slice_bounds-after_cycles-start c = (counted _ _ _ _ _ c.count_line-third.ensures.answer c.in-Count-third.is).2

pub returns-in_default-fourth : goal.returns-in_default-fourth
unfolding parse_take
returns-in_default-fourth c = record {
  answer = c.refuse-in_default-fourth.ensures.answer ∙ rw (
    le-ltb _ _ c.if-file-gt65536.false,
    counted_is c.count_line-first.ensures.answer c.in-Count.is,
    counted_is (rw rest_part at c.count_line-second.ensures.answer) c.in-Count-second.is,
    counted_is (rw (rest_part, rest_part) at c.count_line-third.ensures.answer) c.in-Count-third.is,
    ending_wrong (rw (
      rest_part,
      rest_part,
      rest_part,
    ) at c.ending_line-fourth.ensures.answer) c.in_default-fourth.is,
    c.ending_reason.ensures.answer ∙ ap endingReasonOf c.in_default-fourth.is,
  );
}

pub slice_bounds-read_cycles-count : goal.slice_bounds-read_cycles-count
slice_bounds-read_cycles-count c = ending_inside _ _ c.ending_line-fourth.ensures.answer c.in-Ending.is

pub slice_bounds-read_cycles-start : goal.slice_bounds-read_cycles-start
slice_bounds-read_cycles-start c = ending_inside _ _ c.ending_line-fourth.ensures.answer c.in-Ending.is

pub returns : goal.returns
unfolding parse_take
returns c = record {
  answer = rw (rest_part, rest_part, rest_part, rest_part) at c.read_cycles.ensures.answer ∙ rw (
    le-ltb _ _ c.if-file-gt65536.false,
    counted_is c.count_line-first.ensures.answer
        c.in-Count.is,
    counted_is (rw rest_part at c.count_line-second.ensures.answer) c.in-Count-second.is,
    counted_is (rw (rest_part, rest_part) at c.count_line-third.ensures.answer) c.in-Count-third.is,
    ending_is (rw (rest_part, rest_part, rest_part) at c.ending_line-fourth.ensures.answer) c.in-Ending.is,
  );
}
