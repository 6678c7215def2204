-- The words of the verdicts tell them apart. Assumes nothing.
use Prim.Native.Nat.{ℕ}
use mathlib.Core.Path.{◌≡◌, refl, sym, ap, ◌∙◌}
use mathlib.Core.List.{List}
use Rattle.tables.specs.Bytes.{bytes, same_bytes}
use Rattle.tables.specs.Choice.{pick}
use Rattle.judging.specs.declared.verdict.Verdict.{Verdict}
use Rattle.judging.specs.declared.verdict.Verdict.TheVariants.{Holds, Breaks, Kept, Broken, Open}
use Rattle.judge_text.specs.Text.{verdict_word}

-- the verdict of a word: 01's "`holds`, `breaks`, `kept`, `broken` or `open`"
verdict_named : List ℕ → Verdict
verdict_named word =
    pick (same_bytes word (bytes "holds")) Holds
    (pick (same_bytes word (bytes "breaks")) Breaks
    (pick (same_bytes word (bytes "kept")) Kept
    (pick (same_bytes word (bytes "broken")) Broken Open)))

verdict_named_lem : (v : Verdict) → verdict_named (verdict_word v) ≡ v
unfolding verdict_named same_bytes
verdict_named_lem Holds = refl
verdict_named_lem Breaks = refl
verdict_named_lem Kept = refl
verdict_named_lem Broken = refl
verdict_named_lem Open = refl

-- NO TWO VERDICTS HAVE ONE WORD
pub word_once : (u v : Verdict) → verdict_word u ≡ verdict_word v → u ≡ v
word_once u v e = sym (verdict_named_lem u) ∙ (ap verdict_named e ∙ verdict_named_lem v)
