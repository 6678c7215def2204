-- Rule A of 01, "Rules and takes to try": its normal form, and that of its negation, computed. Assumes nothing.
use mathlib.Core.Path.{◌≡◌, refl}
use mathlib.Core.List.{[], ◌∷◌}
use Rattle.tables.specs.Kind.{kinds, kind_at, dual_of}
use Rattle.tables.specs.Place.{tabulate_from}
use Rattle.tables.specs.declared.row.SignalKind.TheVariants.{Sig, Nsig}
use Rattle.tables.specs.declared.row.UnaryKind.TheVariants.{Not, Always, Ever}
use Rattle.tables.specs.declared.row.BinaryKind.TheVariants.{And, Or}
use Rattle.tables.specs.declared.row.Row.TheVariants.{Signal, Unary, Binary}
use Rattle.tables.specs.declared.row.Formula.{Formula}
use Rattle.rule_file.specs.Rule.{formula_of}
use Rattle.normal_form.specs.declared.sign.Sign.TheVariants.{Plain, Negated}
use Rattle.normal_form.specs.Reach.{marked_down, reach}
use Rattle.normal_form.specs.Numbering.{listing, normal_listing, normal_rows}

abbrev pub rule_a : Formula
rule_a = formula_of 2 6 (Signal Sig 1 ∷ Unary Not 1 ∷ Signal Sig 2 ∷ Unary Ever 3 ∷ Binary Or 2 4 ∷ Unary Always 5 ∷ [])

pub rule_a_lem : normal_rows rule_a Plain ≡ Signal Nsig 1 ∷ Signal Sig 2 ∷ Unary Ever 2 ∷ Binary Or 1 3 ∷ Unary Always 4 ∷ []
unfolding tabulate_from dual_of kind_at kinds marked_down reach listing normal_listing
rule_a_lem = refl

pub rule_a_negated : normal_rows rule_a Negated ≡ Signal Sig 1 ∷ Signal Nsig 2 ∷ Unary Always 2 ∷ Binary And 1 3 ∷ Unary Ever 4 ∷ []
unfolding tabulate_from dual_of kind_at kinds marked_down reach listing normal_listing
rule_a_negated = refl
