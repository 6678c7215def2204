use mathlib.Core.Path.{◌≡◌, sym, subst}
use mathlib.Core.Bool.{true, false}
use mathlib.Core.List.{List}
use lib.ListN.{get_or}
use lib.Seq.{length-take-le}
use borrow.Author.Rules.{rules}
use Rattle.tables.specs.Bytes.{same_bytes}
use Rattle.tables.specs.Kind.{kinds, kind_at, no_kind, word_of}
use Rattle.tables.specs.declared.kind.Kind.{Kind}
use Rattle.tables.proofs.KindTable.{word_fits}
use Rattle.tables.proofs.Choices.{know}
use Rattle.text.proofs.Searching.{first_starts, first_hit, first_miss, first_none}
use Rattle.rule_row.specs.Row.{kind_named}
use Rattle.rule_row.proofs.kind_named.Goals as goal

pub loop-place-init : goal.loop-place-init
unfolding kind_named kinds
loop-place-init c = first_starts _ _

pub slice_bounds-bytes-end : goal.slice_bounds-bytes-end
unfolding kind_at
slice_bounds-bytes-end c = rw c.table-kinds.ensures.answer (word_fits c.loop-place.place (search rules))

pub slice_bounds-same-end : goal.slice_bounds-same-end
unfolding kind_at
slice_bounds-same-end c = sym (length-take-le _ _ (rw c.table-kinds.ensures.answer (word_fits c.loop-place.place (search rules))))

pub returns-then-same : goal.returns-then-same
unfolding kind_named kinds kind_at
returns-then-same c = record {
  answer = first_hit c.loop-place.invariant no_kind (search rules) (subst (λ (l : List Kind). same_bytes c.args.word.now (word_of (get_or l c.loop-place.place
      no_kind)) ≡ true) c.table-kinds.ensures.answer (know c.same.ensures.answer c.if-same.true));
}

pub loop-place-preserved : goal.loop-place-preserved
unfolding kinds kind_at
loop-place-preserved c =
    first_miss c.loop-place.invariant no_kind (search rules) (subst (λ (l : List Kind). same_bytes c.args.word.now (word_of (get_or l c.loop-place.place
    no_kind)) ≡ false) c.table-kinds.ensures.answer (know c.same.ensures.answer c.if-same.false))

pub returns : goal.returns
unfolding kind_named kinds
returns c = record { answer = first_none c.loop-place.invariant (search rules) }
