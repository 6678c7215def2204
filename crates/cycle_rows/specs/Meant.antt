-- The pattern that one of the code's means. Assumes nothing.
use Rattle.meaning.specs.Pattern.{Pattern}
use Rattle.cycle_rows.specs.declared.pattern.Pattern.{Pattern as CodePattern}
use Rattle.cycle_rows.specs.declared.pattern.Pattern.TheVariants.{Now, Next, Connective, Temporal}

abbrev pub meant : CodePattern → Pattern
meant Now = Pattern.now
meant Next = Pattern.next
meant (Connective f) = Pattern.connective f
meant (Temporal f w) = Pattern.temporal f w
