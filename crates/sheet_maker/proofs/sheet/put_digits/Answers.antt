use mathlib.Core.Path.{◌≡◌, ap, ◌∙◌}
use mathlib.Core.List.{[], ◌∷◌, ◌++◌}
use native.Mathlib.Omega.{arith}
use Rattle.tables.specs.Bit.{bit_at}
use Rattle.tables.specs.Choice.{pick}
use Rattle.tables.specs.Place.{tabulate, tabulate_from}
use Rattle.tables.proofs.Places.{length_tabulate}
use Rattle.text.proofs.Laws.{text_length}
use Rattle.text.specs.Written.{digits_text}
use Rattle.writing.proofs.Texts.{wrote_none, wrote_both, wrote_is}
use Rattle.sheet_maker.proofs.Texts.{digits_next}
use Rattle.sheet_maker.proofs.sheet.put_digits.Goals as goal

pub loop-c-init : goal.loop-c-init
unfolding tabulate_from
loop-c-init c = wrote_none c.args.buf.now c.args.at

pub put_bit-end-requires : goal.put_bit-end-requires
put_bit-end-requires c =
    let digits = tabulate c.loop-c.c (bit_at c.args.lane) in
    omega (arith, c.loop-c.invariant.next, c.loop-c.invariant.size, text_length digits, length_tabulate c.loop-c.c 0 (bit_at c.args.lane))

pub loop-c-preserved : goal.loop-c-preserved
loop-c-preserved c = wrote_is (ap (λ b. digits_text (tabulate c.loop-c.c (bit_at c.args.lane)) ++ (pick b 49 48 ∷ [])) c.bit.ensures.answer ∙ digits_next (bit_at c.args.lane) c.loop-c.c) (wrote_both c.loop-c.invariant c.put_bit-end.ensures.text)

pub returns : goal.returns
returns c =
    let e : c.loop-c.c ≡ c.args.cycles = omega arith in
    let text = wrote_is (ap (λ n. digits_text (tabulate n (bit_at c.args.lane))) e) c.loop-c.invariant in
    record { text = text; room = omega (arith, text.next, text_length (tabulate c.args.cycles (bit_at c.args.lane)), length_tabulate c.args.cycles 0 (bit_at c.args.lane)) }
