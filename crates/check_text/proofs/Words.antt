-- The words of the findings tell them apart, and what is printed of each, byte by byte. Assumes nothing.
use Prim.Native.Nat.{ℕ}
use mathlib.Core.Path.{◌≡◌, refl, sym, ap, ◌∙◌}
use mathlib.Core.List.{List}
use Rattle.tables.specs.Bytes.{bytes, same_bytes}
use Rattle.tables.specs.Choice.{pick}
use Rattle.text.specs.Written.{decimal, decimal_in}
use Rattle.checking.specs.declared.finding.Finding.{Finding}
use Rattle.checking.specs.declared.finding.Finding.TheVariants.{Root, Failed, Starved, Pending, Passes}
use Rattle.check_text.specs.Text.{finding_text, finding_word}

-- a finding without its row and cycle
abbrev pub bare : Finding → Finding
bare Root = Root
bare (Failed row cycle) = Failed 0 0
bare (Starved row) = Starved 0
bare (Pending row) = Pending 0
bare Passes = Passes

-- the finding of a word: 01's "`root`", "`failed`", "`starved`", "`pending`", "`passes`"
finding_named : List ℕ → Finding
finding_named word =
    pick (same_bytes word (bytes "root")) Root
    (pick (same_bytes word (bytes "failed")) (Failed 0 0)
    (pick (same_bytes word (bytes "starved")) (Starved 0)
    (pick (same_bytes word (bytes "pending")) (Pending 0) Passes)))

finding_named_lem : (x : Finding) → finding_named (finding_word x) ≡ bare x
unfolding finding_named same_bytes
finding_named_lem Root = refl
finding_named_lem (Failed row cycle) = refl
finding_named_lem (Starved row) = refl
finding_named_lem (Pending row) = refl
finding_named_lem Passes = refl

-- NO TWO KINDS OF FINDING HAVE ONE WORD
pub word_once : (x y : Finding) → finding_word x ≡ finding_word y → bare x ≡ bare y
word_once x y e = sym (finding_named_lem x) ∙ (ap finding_named e ∙ finding_named_lem y)

-- what is printed, whole
pub prints_failed : finding_text (Failed 4 0) ≡ bytes "finding=failed\nrow=4\ncycle=0\n"
unfolding finding_text decimal decimal_in
prints_failed = refl

pub prints_starved : finding_text (Starved 3) ≡ bytes "finding=starved\nrow=3\n"
unfolding finding_text decimal decimal_in
prints_starved = refl

pub prints_pending : finding_text (Pending 12) ≡ bytes "finding=pending\nrow=12\n"
unfolding finding_text decimal decimal_in
prints_pending = refl

pub prints_root : finding_text Root ≡ bytes "finding=root\n"
unfolding finding_text
prints_root = refl

pub prints_passes : finding_text Passes ≡ bytes "finding=passes\n"
unfolding finding_text
prints_passes = refl
