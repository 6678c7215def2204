-- The lanes of all signals. Assumes nothing.
use Prim.Native.Nat.{ℕ, zero, suc, ◌+◌, ◌≤◌, ◌<◌}
use mathlib.Core.Path.{◌≡◌, sym, ◌∙◌}
use mathlib.Core.List.{List, []}
use native.Mathlib.Decide.{ℕ_discrete}
use native.Mathlib.Omega.{arith}
use lib.ListN.{length, get_or}
use Rattle.std.specs.Array.{MapsFrom}
use Rattle.std.specs.Fn.{Called, Mut}
use Rattle.tables.specs.Bit.{lane_of}
use Rattle.tables.specs.Place.{tabulate}
use Rattle.tables.specs.declared.trace.Lane.{Lane}
use Rattle.tables.proofs.Places.{tabulate_get_d, tabulate_ext}
use Rattle.lanes.specs.Truth.{lane_in}
use Rattle.lanes.proofs.Shown.{cut}
use Rattle.written_out.proofs.OneLane.{repeated}

-- what is written for signal s + 1
abbrev pub written_lane : List Lane → ℕ → ℕ → ℕ → ℕ → Lane
written_lane lanes n l last s = lane_of (cut last (repeated n l (lane_in lanes s)))

-- 32 lanes that are as f
pub lanes_are : (f : ℕ → Lane) (out : List Lane) → length out ≡ 32 → ((i : ℕ) → i < 32 → lane_in out i ≡ f i) → out ≡ tabulate 32 f
lanes_are f out long made = sym (tabulate_get_d out 32 (record { words = [] }) long) ∙ tabulate_ext 32 (lane_in out) f made

-- what each call of a closure gives that stays as it is holds of a map's elements
module _ {F A B : Type 0} (g : Mut F (A × Unit {0}) B) (f : F) (Gives : A → B → Type 0) (call : (a : A) (b : B) (q : F) → Called g f (a, tt) b q → Gives a b × (q ≡ f)) where
  pub maps_at : (xs : List A) (ys : List B) (i n : ℕ) → MapsFrom g f xs ys i n → (k : ℕ) (d : A) (e : B) → i ≤ k → k < i + n → Gives (get_or xs k d) (get_or ys k e)
  maps_at xs ys i zero m k d e l h = absurd (omega arith)
  maps_at xs ys i (suc n) m k d e l h = by (ℕ_discrete k i) (call m.1 m.2 m.0 m.5) (λ same l'. maps_at xs ys (i + 1) n (rw same at m.6) k d e l' (omega arith))
    where
      by : Dec (k ≡ i) → Gives m.1 m.2 × (m.0 ≡ f) → (m.0 ≡ f → i + 1 ≤ k → Gives (get_or xs k d) (get_or ys k e)) → Gives (get_or xs k d) (get_or ys k e)
      by (yes same) c later = rw (same, m.3.1 d, m.4.1 e) c.0
      by (no other) c later = later c.1 (omega arith)
