use mathlib.Core.Path.{refl}
use borrow.Author.Rules.{rules}
use Rattle.recording.proofs.Words.{put_start, put_end, put_room, put_more, recorded_room, recorded_more}
use Rattle.recording.proofs.put_cycle.Goals as goal

pub loop-s-init : goal.loop-s-init
loop-s-init c = put_start (search rules)

pub overflow_add-words-in-loop-s : goal.overflow_add-words-in-loop-s
overflow_add-words-in-loop-s c =
    let room = recorded_room c.args.digits.now c.requires.0 c.requires.1 c.requires.2 in
    let h = put_room c.loop-s.invariant room (search rules) c.power_of_two-bit.ensures.answer c.digit_bit.ensures.answer in
    search rules

pub loop-s-preserved : goal.loop-s-preserved
loop-s-preserved c =
    let room = recorded_room c.args.digits.now c.requires.0 c.requires.1 c.requires.2 in
    put_more c.loop-s.invariant room (search rules) c.power_of_two-bit.ensures.answer c.digit_bit.ensures.answer refl

pub returns : goal.returns
returns c = record { appended = recorded_more c.args.words.now c.args.digits.now c.args.cycle c.requires.1 (put_end c.loop-s.invariant (search rules)) }
