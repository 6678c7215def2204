-- Which written-out forms are whole, by their ending and their cycles. Assumes nothing.
use Prim.Native.Nat.{ℕ, zero, suc, ◌+◌, ◌*◌, ◌-◌, ◌≤◌, ◌<◌}
use mathlib.Core.Path.{◌≡◌, refl, ap, subst}
use native.Mathlib.Nat.{mul-le-mul_right}
use native.Mathlib.Omega.{arith}
use borrow.Author.Tests.{le-leb, lt-leb}
use Rattle.std.specs.Prelude.{Result, Ok, Err}
use Rattle.tables.specs.Choice.{pick}
use Rattle.tables.specs.declared.trace.Ending.TheVariants.{Open, Loop}
use Rattle.tables.specs.declared.trace.Trace.{Trace}
use Rattle.take_file.specs.Valid.{Below, InRange}
use Rattle.written_out.specs.WrittenOut.{round_cycles, written_trace, written_loop, written_in, written_out}

module _ (t : Trace) (l more : ℕ) where
  pub loop_whole : t.cycles + more ≤ 256 → written_loop t l more ≡ Ok (written_trace t l more)
  loop_whole h = ap (λ b. pick {A = Result Trace Trace} b (Ok (written_trace t l more)) (Err t)) (le-leb (t.cycles + more) 256 h)

  pub loop_too_long : 256 < t.cycles + more → written_loop t l more ≡ Err t
  loop_too_long h = ap (λ b. pick {A = Result Trace Trace} b (Ok (written_trace t l more)) (Err t)) (lt-leb (t.cycles + more) 256 h)

pub loop_below : {t : Trace} → InRange t → (l : ℕ) → t.ending ≡ Loop l → l < t.cycles
loop_below {t} range l e = subst (Below t.cycles) e range.loop

-- what the code computes has room
pub rounds_room : {t : Trace} → InRange t → (l rounds : ℕ) → rounds < 256 → round_cycles t l rounds < 65536
rounds_room {t} range l rounds h =
    let p : rounds * (t.cycles - l) ≤ 255 * (t.cycles - l) = mul-le-mul_right (t.cycles - l) (omega arith) in
    omega (arith, p, range.most_cycles)

pub written_open : (t : Trace) (rounds : ℕ) → t.ending ≡ Open → written_out t rounds ≡ Ok t
written_open t rounds e = ap (λ x. written_in t x rounds) e

pub written_none : (t : Trace) (l : ℕ) → t.ending ≡ Loop l → written_out t 0 ≡ Ok t
written_none t l e = ap (λ x. written_in t x 0) e

pub written_some : (t : Trace) (l rounds : ℕ) → t.ending ≡ Loop l → (rounds ≡ 0 → ⊥) → written_out t rounds ≡ written_loop t l (round_cycles t l rounds)
written_some t l zero e some = absurd (some refl)
written_some t l (suc rounds) e some = ap (λ x. written_in t x (suc rounds)) e
