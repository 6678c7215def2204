-- 01: "A refusal prints three lines instead: `refused=`, `file=`, `line=`." Assumes nothing.
use Rattle.std.specs.Prelude.{ℕ, ◌≡◌, List, []}
use Rattle.tables.specs.Bytes.{bytes}
use Rattle.tables.specs.Refusal.{number}
use Rattle.tables.specs.declared.refusal.Outcome.{Outcome}
use Rattle.tables.specs.declared.refusal.Outcome.TheVariants.{Accepted, Refused}
use Rattle.tables.specs.declared.refusal.Refusal.{Refusal}
use Rattle.text.specs.Written.{decimal, written_line}

-- `refused=` has the number of the reason in 01's list
unfoldable pub refusal_text : Refusal → List ℕ
refusal_text r =
    written_line (bytes "refused") (decimal (number r.reason))
    (written_line (bytes "file") (decimal r.file)
    (written_line (bytes "line") (decimal r.line) []))

-- the text that is printed: that of a refusal, or the one that IsText speaks of
abbrev pub Told : Outcome → (List ℕ → Type 0) → List ℕ → Type 0
Told (Refused why) IsText text = text ≡ refusal_text why
Told Accepted IsText text = IsText text
