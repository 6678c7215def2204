use native.Mathlib.Omega.{arith}
use Rattle.loading.proofs.pair.Goals as goal

pub load_rule-first-requires : goal.load_rule-first-requires
load_rule-first-requires c = omega arith
