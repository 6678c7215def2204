-- Along a lasso of n cycles with its loop at l, what a monitor says repeats from cycle n on after n - l cycles (lasso-output-periodic):
-- a pending is carried by monotone steps. So n + (n - l) cycles decide whether it ever fails (lasso-never-fails), and the last n - l
-- of them whether it accepts infinitely often (lasso-accepts, lasso-starves). For any table, sheet and row. Assumes nothing.
use Prim.Native.Nat.{ℕ, zero, suc, ◌+◌, ◌-◌, ◌≤◌, ◌<◌, zero-le}
use mathlib.Core.Path.{◌≡◌, refl, subst, sym, ap, ◌∙◌}
use mathlib.Core.Logic.{◌⊎◌, inl, inr}
use mathlib.Core.Bool.{Bool, true, false, ◌&&◌, ◌||◌}
use native.Mathlib.Omega.{arith}
use Rattle.tables.specs.declared.row.Row.{Row}
use Rattle.meaning.specs.Reading.{classical, Some}
use Rattle.meaning.specs.Operator.{During}
use Rattle.meaning.specs.Trace.{InfiniteTrace, position}
use Rattle.meaning.specs.Satisfaction.{Table}
use Rattle.meaning.specs.Pattern.{Pattern, Pattern.now, Pattern.next, Pattern.connective, Pattern.temporal}
use Rattle.meaning.proofs.Readings.{lt_or_le, induction_from, On, on_and_off}
use Rattle.meaning.proofs.Periodic.{Periodic, position_periodic}
use Rattle.meaning.proofs.Carry.{carried}
use Rattle.meaning.proofs.Lasso.{lasso}
use Rattle.monitors.specs.declared.Output.{Output}
use Rattle.monitors.specs.Monitor.{first_of, second_of, monitor}
use Rattle.monitors.specs.Along.{Activators, state_before, pending_before, output}
use Rattle.monitors.proofs.ByPattern.{pattern_monitor, each_pattern}
use Rattle.monitors.proofs.Sheets.{lasso_output}

-- ---- what repeats from cycle b on after N cycles

module _ {A : Type 0} (N b : ℕ) (N>0 : 0 < N) (x : ℕ → A) (periodic : Periodic N b x) (P : A → Type 0) where
  one_round_decides : ((i : ℕ) → b ≤ i → i < b + N → P (x i)) → (i : ℕ) → b ≤ i → P (x i)
  one_round_decides round = induction_from (λ i. P (x i)) b (λ i l d. by i l d (lt_or_le i (b + N)))
    where
      by : (i : ℕ) → b ≤ i → During (λ i. P (x i)) b i → (i < b + N) ⊎ (b + N ≤ i) → P (x i)
      by i l d (inl h) = round i l h
      by i l d (inr h) = let e : i - N + N ≡ i = omega arith in subst P (sym (periodic (i - N) (omega arith)) ∙ ap x e) (d (i - N) (omega arith) (omega arith))

  first_cycles_decide : ((i : ℕ) → i < b + N → P (x i)) → (i : ℕ) → P (x i)
  first_cycles_decide first i = by (lt_or_le i b)
    where
      by : (i < b) ⊎ (b ≤ i) → P (x i)
      by (inl l) = first i (omega arith)
      by (inr l) = one_round_decides (λ j p q. first j q) i l

  comes_back : (i : ℕ) → b ≤ i → P (x i) → (c : ℕ) → (j : ℕ) × (c ≤ j) × (b ≤ j) × P (x j)
  comes_back i l h zero = (i, zero-le, l, h)
  comes_back i l h (suc c) =
      let f = comes_back i l h c in (f.0 + N, omega arith, omega arith, subst P (sym (periodic f.0 f.2)) f.3)

-- ---- a pending is monotone in the one before

grows : (d z x y : Bool) → (On x → On y) → On ((z || x) && d) → On ((z || y) && d)
grows d true x y f e = e
grows d false true y f e = subst (λ v. On (v && d)) (sym (f refl)) e
grows d false false y f e = on_and_off e refl

module _ (z x y : Bool) (f : On x → On y) where
  pattern_grows :
      (l r : Bool) (p : Pattern) → On (pattern_monitor l r (record { active = z; pending = x }) p).pending
      → On (pattern_monitor l r (record { active = z; pending = y }) p).pending
  pattern_grows l r now e = e
  pattern_grows l r next e = e
  pattern_grows l r (connective g) e = e
  pattern_grows l r (temporal g true) e = grows _ z x y f e
  pattern_grows l r (temporal g false) e = grows _ z x y f e

  pending_grows :
      (act signals : ℕ → Bool) (r : Row) → On (monitor act signals r (record { active = z; pending = x })).pending
      → On (monitor act signals r (record { active = z; pending = y })).pending
  pending_grows act signals r =
      each_pattern (λ m. On (m (record { active = z; pending = x })).pending → On (m (record { active = z; pending = y })).pending)
      pattern_grows r (first_of act signals r) (second_of act r)

-- ---- where signals and activators are periodic from b on, outputs are one round later

module _ (N b : ℕ) (t : Table) (w : InfiniteTrace) (act : Activators) (signals : Periodic N b w) (activators : Periodic N b act) (k : ℕ) where
  says : ℕ → Bool → Output
  says i y = monitor (act i) (w i) (t k) (record { active = act i k; pending = y })

  says_periodic : (i : ℕ) → b ≤ i → (y : Bool) → says (i + N) y ≡ says i y
  unfolding says
  says_periodic i h y = λ j. monitor (activators i h j) (signals i h j) (t k) (record { active = activators i h j k; pending = y })

  pending_periodic : Periodic N (b + N) (λ i. pending_before t w act i k)
  unfolding state_before says
  pending_periodic = carried N b (λ i y. (says i y).pending) (λ i x y f. pending_grows (act i k) x y f (act i) (w i) (t k))
      (λ i h y. ap (λ o. o.pending) (says_periodic i h y)) (λ i. pending_before t w act i k) (λ i. refl)

  pub output_periodic : Periodic N (b + N) (λ i. output t w act i k)
  unfolding says
  output_periodic i h = says_periodic i (omega arith) _ ∙ ap (says i) (pending_periodic i h)

-- ---- along a lasso

module _ (n l : ℕ) (l<n : l < n) (recording : ℕ → ℕ → Bool) (t : Table) (sheet : Activators) (k : ℕ) where
  abbrev out : ℕ → Output
  out i = lasso_output n l l<n recording t sheet i k

  pub lasso_output_periodic : Periodic (n - l) n out
  lasso_output_periodic = let e : l + (n - l) ≡ n = omega arith in subst (λ b. Periodic (n - l) b out) e
      (output_periodic (n - l) l t (lasso n l l<n recording) (λ i. sheet (position n l i)) (λ i h. ap recording (position_periodic n l l<n i h)) (λ i h. ap sheet (position_periodic n l l<n i h)) k)

  pub lasso_never_fails : ((i : ℕ) → i < n + (n - l) → (out i).failed ≡ false) → (i : ℕ) → (out i).failed ≡ false
  lasso_never_fails = first_cycles_decide (n - l) n (omega arith) out lasso_output_periodic (λ o. o.failed ≡ false)

  -- an accept at a cycle from n on comes back for ever
  pub lasso_accepts : (i : ℕ) → n ≤ i → On (out i).accept → (c : ℕ) → (j : ℕ) × (c ≤ j) × On (out j).accept
  lasso_accepts i h on c = let f = comes_back (n - l) n (omega arith) out lasso_output_periodic (λ o. On o.accept) i h on c in (f.0, f.1, f.3)

  -- without one in the round from n on there is none any more
  pub lasso_starves : ((i : ℕ) → n ≤ i → i < n + (n - l) → (out i).accept ≡ false) → (i : ℕ) → n ≤ i → (out i).accept ≡ false
  lasso_starves = one_round_decides (n - l) n (omega arith) out lasso_output_periodic (λ o. o.accept ≡ false)

  pub lasso_starved :
      ((i : ℕ) → n ≤ i → i < n + (n - l) → (out i).accept ≡ false) → ¬ ((i : ℕ) → Some classical (λ j. (i ≤ j) × On (out j).accept))
  lasso_starved none returns = returns n (λ x. on_and_off x.1.1 (lasso_starves none x.0 x.1.0))
