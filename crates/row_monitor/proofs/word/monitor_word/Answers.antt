use Prim.Native.Nat.{◌+◌, ◌*◌}
use mathlib.Core.Path.{refl}
use mathlib.Core.Bool.{true, false, ◌&&◌}
use Rattle.tables.specs.Bit.{bit_at}
use Rattle.row_monitor.specs.Word.{when_pending, dropped, held, failing, staying, word_report}
use Rattle.row_monitor.proofs.WordLaws.{word_none, dropped_end, held_end, failing_word, staying_word}
use Rattle.row_monitor.proofs.word.monitor_word.Goals as goal

pub returns : goal.returns
unfolding word_report
returns c = record {
  answer = let f = bit_at c.args.monitor.now.first in
      let g = bit_at c.args.monitor.now.second in
      let b = c.args.at * 64 in
      let ms = c.row_moves-m.ensures.moves b f g c.word_of-a.ensures.answer c.word_of-b.ensures.answer in
      let d = c.carry_from-dropped.ensures.word b (λ j. (when_pending c.args.monitor.now.row (f j) (g j)).pending) (λ j. (when_pending c.args.monitor.now.row (f j) (g j)).failed) false ms.holds ms.drops refl in
      let h = c.carry_from-held.ensures.word b (λ j. (when_pending c.args.monitor.now.row (f j) (g j)).pending) (λ j. false) true ms.holds (word_none 64 b) refl in
      let fails = failing_word (bit_at c.args.monitor.now.active) c.word_of-active.ensures.answer ms (c.next_from.ensures.word b (dropped c.args.monitor.now.row f g (b + 64)) d (dropped_end c.args.monitor.now.row f g b)) in
      let stays = staying_word (bit_at c.args.monitor.now.active) c.word_of-active.ensures.answer ms (c.next_from-2.ensures.word b (held c.args.monitor.now.row f g (b + 64)) h (held_end c.args.monitor.now.row f g b)) in
      rw (c.ok_or.ensures.value, c.then_some.ensures, c.any.ensures.word b (λ i. bit_at c.args.monitor.now.active i && failing c.args.monitor.now.row f g (b + 64) i) fails, c.first.ensures.word b (dropped c.args.monitor.now.row f g (b + 64)) d, c.any-2.ensures.word b (λ i. bit_at c.args.monitor.now.active i && staying c.args.monitor.now.row f g (b + 64) i) stays, c.first-2.ensures.word b (held c.args.monitor.now.row f g (b + 64)) h);
}
