-- What program `judge` prints (01, "Rules and takes to try"). Assumes nothing.
use Rattle.std.specs.Prelude.{ℕ, List, []}
use Rattle.tables.specs.Bytes.{bytes}
use Rattle.tables.specs.declared.trace.Ending.{Ending}
use Rattle.text.specs.Written.{decimal, written_line}
use Rattle.take_file.specs.Written.{ending_text}
use Rattle.judging.specs.declared.verdict.Verdict.{Verdict}
use Rattle.judging.specs.declared.verdict.Verdict.TheVariants.{Holds, Breaks, Kept, Broken, Open}

-- "The verdict is `holds`, `breaks`, `kept`, `broken` or `open`."
abbrev pub verdict_word : Verdict → List ℕ
verdict_word Holds = bytes "holds"
verdict_word Breaks = bytes "breaks"
verdict_word Kept = bytes "kept"
verdict_word Broken = bytes "broken"
verdict_word Open = bytes "open"

-- "`judge` reads `rule.txt` and `take.txt`. For A on 10 01, loop 0, it prints in full": the lines `signals=`, `rows=`, `cycles=`,
-- `loop=` and `verdict=`. "`rows` counts the normal form. `cycles` and `loop` (`none` for an open take) are the take's."
unfoldable pub verdict_text : (signals rows cycles : ℕ) → Ending → Verdict → List ℕ
verdict_text signals rows cycles ending verdict =
    written_line (bytes "signals") (decimal signals)
    (written_line (bytes "rows") (decimal rows)
    (written_line (bytes "cycles") (decimal cycles)
    (written_line (bytes "loop") (ending_text ending)
    (written_line (bytes "verdict") (verdict_word verdict) []))))
