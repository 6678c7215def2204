-- Until and weak until over Bools, computed to a depth. That it is their truth, where the depth is enough: proofs/Streams. Assumes
-- nothing.
use Rattle.std.specs.Prelude.{ℕ, zero, suc, Bool, ◌&&◌, ◌||◌}

-- the expansion law of until and of weak until: the goal, or keep and what holds one cycle later
abbrev pub expand : Bool → Bool → Bool → Bool
expand k g x = g || (k && x)

module _ (k g : ℕ → Bool) where
  -- d cycles from i on, and w behind them: an approximant of the least (w = false) or greatest (w = true) solution of `expand`
  unfoldable pub approximant : Bool → ℕ → ℕ → Bool
  approximant w zero i = w
  approximant w (suc d) i = expand (k i) (g i) (approximant w d (suc i))
