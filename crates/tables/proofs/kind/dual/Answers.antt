use mathlib.Core.Path.{◌∙◌}
use Rattle.tables.specs.Kind.{dual_of}
use Rattle.tables.proofs.KindTable.{partner_below}
use Rattle.tables.proofs.kind.dual.Goals as goal

pub kind_at-partner-requires : goal.kind_at-partner-requires
kind_at-partner-requires c = rw c.kind_at-kind.ensures.kind (partner_below _ c.place_of.ensures.place.1)

pub returns : goal.returns
unfolding dual_of
returns c = record {
  answer = c.with_numbers.ensures.answer ∙ rw (
    c.kind_at-partner.ensures.kind,
    c.kind_at-kind.ensures.kind,
    c.place_of.ensures.place.0,
    c.first_number.ensures.answer,
    c.second_number.ensures.answer,
  );
}
