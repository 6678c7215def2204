use Prim.Native.Nat.{◌-◌}
use Rattle.tables.specs.Bytes.{same_bytes}
use Rattle.tables.specs.Kind.{kinds, kind_count, word_of}
use Rattle.tables.specs.declared.kind.Kind.{Kind}
use Rattle.text.proofs.Searching.{FirstAt}
use Rattle.rule_row.proofs.kind_named.Given as goal

abbrev pub invariant-loop-place : goal.invariant-loop-place
invariant-loop-place l = FirstAt (λ (k : Kind). same_bytes l.word (word_of k)) kinds l.place

abbrev pub decreases-loop-place : goal.decreases-loop-place
decreases-loop-place l = kind_count - l.place
