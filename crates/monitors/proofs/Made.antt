-- Activators that are the rows' computed bits make no monitor fail (bits-never-fail), let every accept return (bits-accept), and leave
-- nothing pending where no cycle is live any more, as behind the end of a prefix (bits-not-pending). Assumes nothing.
use Prim.Native.Nat.{ℕ, zero, suc, ◌+◌, ◌-◌, ◌≤◌, ◌<◌}
use mathlib.Core.Path.{◌≡◌, refl, sym, ap, ap₂, ◌∙◌}
use mathlib.Core.Logic.{◌⊎◌, inl, inr}
use mathlib.Core.Bool.{Bool, true, false, not, ◌&&◌, ◌||◌}
use native.Mathlib.Omega.{arith}
use Rattle.std.proofs.lemmas.Bool.{not-true, and_parts, or_cases}
use Rattle.tables.specs.declared.row.UnaryKind.{UnaryKind}
use Rattle.tables.specs.declared.row.UnaryKind.TheVariants.{Not, Next, Always, Ever}
use Rattle.tables.specs.declared.row.Row.{Row}
use Rattle.tables.specs.declared.row.Row.TheVariants.{Constant, Signal, Unary, Binary}
use Rattle.meaning.specs.Trace.{InfiniteTrace}
use Rattle.meaning.specs.Satisfaction.{Table}
use Rattle.meaning.specs.Rows.{Each, positive, Positive}
use Rattle.meaning.specs.Pattern.{Pattern, Pattern.now, Pattern.next, Pattern.connective, Pattern.temporal}
use Rattle.meaning.specs.Pattern.{unary_left, unary_pattern, binary_pattern, left, right, pattern_of, keep_bit, goal_bit, keep_bits, goal_bits, signed_bit, operand_bits}
use Rattle.meaning.proofs.Readings.{On, on_and_off, on_or_off}
use Rattle.meaning.proofs.Rows.{each_map}
use Rattle.meaning.proofs.Periodic.{Periodic}
use Rattle.meaning.proofs.Streams.{expand_cases, approximant_is, approximant_expands, Reached, KeptForever}
use Rattle.meaning.proofs.PatternBits.{pattern_bit, row_bit}
use Rattle.meaning.proofs.Evaluation.{Evaluation, operands_periodic}
use Rattle.monitors.specs.declared.Output.{Output}
use Rattle.monitors.specs.Along.{state_before, pending_before, output}
use Rattle.monitors.proofs.ByPattern.{done_bit, need_bit, pattern_monitor}
use Rattle.monitors.proofs.Soundness.{pattern_output, output_by_pattern, handed_on}

-- ---- Bools

-- what is active has what it needs: not failed
no_fail : (z x : Bool) → (On z → On x) → (z && not x) ≡ false
no_fail true true f = refl
no_fail true false f = sym (f refl)
no_fail false x f = refl

goal_done : (f a b : Bool) → On (goal_bit f a b) → On (done_bit f a b)
goal_done true a b e = e
goal_done false true b e = refl
goal_done false false b e = e

goal_need : (f a b : Bool) → On (goal_bit f a b) → On (need_bit f a b)
goal_need true true b e = refl
goal_need true false b e = e
goal_need false true b e = e
goal_need false false b e = on_and_off e refl

keep_need : (f a b : Bool) → On (keep_bit f a b) → On (need_bit f a b)
keep_need true true b e = refl
keep_need true false b e = on_and_off e refl
keep_need false a b e = e

goal_off : (f a b : Bool) → b ≡ false → ¬ On (goal_bit f a b)
goal_off true a b e g = on_and_off g e
goal_off false true b e g = on_and_off g e
goal_off false false b e g = on_and_off g refl

-- ---- one pattern: from cycle c on nothing holds that a pending may wait for

module _ (a b : ℕ → Bool) (c : ℕ) where
  abbrev OffFrom : (ℕ → Bool) → Type 0
  OffFrom x = (j : ℕ) → c ≤ j → x j ≡ false

  abbrev Ends : Pattern → Type 0
  Ends now = Unit {0}
  Ends next = OffFrom b
  Ends (connective f) = Unit {0}
  Ends (temporal f w) = OffFrom b × (On w → ¬ On (keep_bit f (a c) (b c)))

  ends : OffFrom a → OffFrom b → (p : Pattern) → Ends p
  ends oa ob now = tt
  ends oa ob next = ob
  ends oa ob (connective f) = tt
  ends oa ob (temporal true w) = (ob, λ _ x. on_and_off x (oa c (omega arith)))
  ends oa ob (temporal false w) = (ob, λ _ x. on_and_off x (ob c (omega arith)))

unary_ends :
    (b : ℕ → Bool) (c : ℕ) → ((j : ℕ) → c ≤ j → b j ≡ false) → (k : UnaryKind) → On (positive k)
    → Ends (λ j. unary_left k) (λ j. signed_bit (positive k) (b j)) c (unary_pattern k)
unary_ends b c ob Not o = on_and_off o refl
unary_ends b c ob Next o = ob
unary_ends b c ob Always o = (ob, λ _ x. on_and_off x (ob c (omega arith)))
unary_ends b c ob Ever o = (ob, λ x. on_and_off x refl)

-- ---- one pattern: a and b are the operands' bits, z the row's activator, y its pendings

module _ (N start : ℕ) (N>0 : 0 < N) (depth : ℕ → ℕ) (enough : (i : ℕ) → (start - i) + N ≤ depth i) (a b : ℕ → Bool)
    (pa : Periodic N start a) (pb : Periodic N start b) (z y : ℕ → Bool) (fresh : y 0 ≡ false) where
  abbrev says : Pattern → ℕ → Output
  says p j = pattern_monitor (a j) (b j) (record { active = z j; pending = y j }) p

  -- pendings are handed on, and the row is active only where its bit is 1
  record Makes (p : Pattern) : Type 0 where
    hands : (j : ℕ) → y (suc j) ≡ (says p j).pending
    bit : (j : ℕ) → On (z j) → On (pattern_bit depth a b p j)

  -- what is due in a cycle before which the row is pending
  abbrev Due : Pattern → ℕ → Type 0
  Due now i = ⊥
  Due next i = On (b i)
  Due (connective f) i = ⊥
  Due (temporal f w) i = On (pattern_bit depth a b (temporal f w) i)

  module _ (f w : Bool) where
    abbrev due_bit : ℕ → Bool
    due_bit i = pattern_bit depth a b (temporal f w) i

    keep_periodic : Periodic N start (keep_bits f a b)
    keep_periodic j h = ap₂ (keep_bit f) (pa j h) (pb j h)

    goal_periodic : Periodic N start (goal_bits f a b)
    goal_periodic j h = ap₂ (goal_bit f) (pa j h) (pb j h)

    -- the goal is met now, or the row keeps and is due in the next cycle
    unfolds : (i : ℕ) → On (due_bit i) → On (goal_bit f (a i) (b i)) ⊎ (On (keep_bit f (a i) (b i)) × On (due_bit (suc i)))
    unfolds i e = expand_cases _ _ _
        (sym (approximant_expands (keep_bits f a b) (goal_bits f a b) N start N>0 keep_periodic goal_periodic w depth enough i) ∙ e)

    met : (i : ℕ) → On (due_bit i) → Reached (keep_bits f a b) (goal_bits f a b) i ⊎ (On w × KeptForever (keep_bits f a b) (goal_bits f a b) i)
    met i e = (approximant_is (keep_bits f a b) (goal_bits f a b) N start N>0 keep_periodic goal_periodic w (depth i) i (enough i)).0 e

    due_where_goes : (i : ℕ) → (On (z i) → On (due_bit i)) → (On (y i) → On (due_bit i)) → On (z i || y i) → On (due_bit i)
    due_where_goes i p q g = by (or_cases (z i) (y i) g)
      where
        by : On (z i) ⊎ On (y i) → On (due_bit i)
        by (inl h) = p h
        by (inr h) = q h

    due_later : (i : ℕ) → On (due_bit i) → done_bit f (a i) (b i) ≡ false → On (due_bit (suc i))
    due_later i x d = by (unfolds i x)
      where
        by : On (goal_bit f (a i) (b i)) ⊎ (On (keep_bit f (a i) (b i)) × On (due_bit (suc i))) → On (due_bit (suc i))
        by (inl g) = on_and_off (goal_done f (a i) (b i) g) d
        by (inr k) = k.1

    has_need : (i : ℕ) → On (due_bit i) → On (need_bit f (a i) (b i))
    has_need i x = by (unfolds i x)
      where
        by : On (goal_bit f (a i) (b i)) ⊎ (On (keep_bit f (a i) (b i)) × On (due_bit (suc i))) → On (need_bit f (a i) (b i))
        by (inl g) = goal_need f (a i) (b i) g
        by (inr k) = keep_need f (a i) (b i) k.0

  due_next : (p : Pattern) → Makes p → (i : ℕ) → (On (y i) → Due p i) → On (says p i).pending → Due p (suc i)
  due_next now h i d e = on_and_off e refl
  due_next next h i d e = h.bit i e
  due_next (connective f) h i d e = on_and_off e refl
  due_next (temporal f true) h i d e =
      let g = and_parts (z i || y i) _ e in due_later f true i (due_where_goes f true i (h.bit i) d g.0) (not-true _ g.1)
  due_next (temporal f false) h i d e =
      let g = and_parts (z i || y i) _ e in due_later f false i (due_where_goes f false i (h.bit i) d g.0) (not-true _ g.1)

  due : (p : Pattern) → Makes p → (i : ℕ) → On (y i) → Due p i
  due p h zero e = on_and_off e fresh
  due p h (suc i) e = due_next p h i (due p h i) (sym (h.hands i) ∙ e)

  never_fails : (p : Pattern) → Makes p → (i : ℕ) → (says p i).failed ≡ false
  never_fails now h i = no_fail _ _ (h.bit i)
  never_fails next h i = no_fail _ _ (due next h i)
  never_fails (connective f) h i = no_fail _ _ (h.bit i)
  never_fails (temporal f true) h i = no_fail _ _ (λ g. has_need f true i (due_where_goes f true i (h.bit i) (due (temporal f true) h i) g))
  never_fails (temporal f false) h i = no_fail _ _ (λ g. has_need f false i (due_where_goes f false i (h.bit i) (due (temporal f false) h i) g))

  accepts : (p : Pattern) → Makes p → (i : ℕ) → (j : ℕ) × (i ≤ j) × On (says p j).accept
  accepts now h i = (i, omega arith, refl)
  accepts next h i = (i, omega arith, refl)
  accepts (connective f) h i = (i, omega arith, refl)
  accepts (temporal f true) h i = (i, omega arith, refl)
  accepts (temporal f false) h i = by (on_or_off (z i || y i))
    where
      rests : (g x : Bool) → g ≡ false → On (not (g && not x))
      rests true x e = on_and_off refl e
      rests false x e = refl

      done : (g x : Bool) → On x → On (not (g && not x))
      done true true e = refl
      done true false e = e
      done false x e = refl

      reached :
          Reached (keep_bits f a b) (goal_bits f a b) i ⊎ (On false × KeptForever (keep_bits f a b) (goal_bits f a b) i)
          → (j : ℕ) × (i ≤ j) × On (says (temporal f false) j).accept
      reached (inl r) = (r.0, r.1, done (z r.0 || y r.0) _ (goal_done f (a r.0) (b r.0) r.2))
      reached (inr r) = on_and_off r.0 refl

      by : On (z i || y i) ⊎ ((z i || y i) ≡ false) → (j : ℕ) × (i ≤ j) × On (says (temporal f false) j).accept
      by (inl g) = reached (met f false i (due_where_goes f false i (h.bit i) (due (temporal f false) h i) g))
      by (inr g) = (i, omega arith, rests (z i || y i) (done_bit f (a i) (b i)) g)

  not_pending : (c : ℕ) (p : Pattern) → Ends a b c p → Makes p → y c ≡ false
  not_pending c p q h = by (on_or_off (y c))
    where
      none : (p : Pattern) → Ends a b c p → ¬ Due p c
      none now q d = d
      none next q d = on_and_off d (q c (omega arith))
      none (connective f) q d = d
      none (temporal f w) q d = never (met f w c d)
        where
          never : Reached (keep_bits f a b) (goal_bits f a b) c ⊎ (On w × KeptForever (keep_bits f a b) (goal_bits f a b) c) → ⊥
          never (inl r) = goal_off f (a r.0) (b r.0) (q.0 r.0 r.1) r.2
          never (inr r) = q.1 r.0 (r.1 c (omega arith))

      by : On (y c) ⊎ (y c ≡ false) → y c ≡ false
      by (inl e) = absurd (none p q (due p h c e))
      by (inr e) = e

-- ---- the rows of a table, with their computed bits as activators

module _ (live : ℕ → Bool) (w : InfiniteTrace) (t : Table) (m : ℕ) (bits : ℕ → ℕ → Bool) (e : Evaluation live w t m bits)
    (positive : (k : ℕ) → k < m → Positive (t k)) (k : ℕ) (k<m : k < m) where
  open e use {period, start, depth}

  abbrev act : ℕ → ℕ → Bool
  act i a = bits a i

  abbrev pending : ℕ → Bool
  pending i = pending_before t w act i k

  operands : Periodic period (start k) (operand_bits w bits (left (t k))) × Periodic period (start k) (operand_bits w bits (right (t k)))
  operands = operands_periodic live w t m bits e k k<m

  said : (i : ℕ) → output t w act i k ≡ pattern_output t w act (state_before t w act) i k
  said = output_by_pattern t w act (state_before t w act) k (positive k k<m)

  makes : Makes period (start k) e.period>0 depth (e.enough k k<m) (operand_bits w bits (left (t k))) (operand_bits w bits (right (t k))) operands.0 operands.1
      (bits k) pending ((handed_on t m w act).fresh.same_pending k k<m) (pattern_of (t k))
  makes = record {
    hands = λ i. ((handed_on t m w act).next i).same_pending k k<m ∙ ap (λ o. o.pending) (said i);
    bit = λ i on. (and_parts (live i) _ (sym (e.computes k k<m i) ∙ on)).1;
  }

  pub bits_never_fail : (i : ℕ) → (output t w act i k).failed ≡ false
  bits_never_fail i = ap (λ o. o.failed) (said i)
      ∙ never_fails period (start k) e.period>0 depth (e.enough k k<m) _ _ operands.0 operands.1 (bits k) pending ((handed_on t m w act).fresh.same_pending k k<m) (pattern_of (t k)) makes i

  pub bits_accept : (i : ℕ) → (j : ℕ) × (i ≤ j) × On (output t w act j k).accept
  bits_accept i =
      let r = accepts period (start k) e.period>0 depth (e.enough k k<m) _ _ operands.0 operands.1 (bits k) pending ((handed_on t m w act).fresh.same_pending k k<m) (pattern_of (t k)) makes i in
      (r.0, r.1, ap (λ o. o.accept) (said r.0) ∙ r.2)

  -- no cycle from c on is live
  pub bits_not_pending : (c : ℕ) → ((j : ℕ) → c ≤ j → live j ≡ false) → pending_before t w act c k ≡ false
  bits_not_pending c off = not_pending period (start k) e.period>0 depth (e.enough k k<m) _ _ operands.0 operands.1 (bits k) pending ((handed_on t m w act).fresh.same_pending k k<m)
      c (pattern_of (t k)) (row_ends (t k) (positive k k<m) (each_map _ _ (λ a l j x. e.computes a (omega arith) j ∙ ap (λ b. b && row_bit w depth bits (t a) j) (off j x)) (t k) (e.ordered k k<m))) makes
    where
      row_ends : (r : Row) → Positive r → Each (λ a. (j : ℕ) → c ≤ j → bits a j ≡ false) r → Ends (operand_bits w bits (left r)) (operand_bits w bits (right r)) c (pattern_of r)
      row_ends (Constant x) p d = tt
      row_ends (Signal x s) p d = tt
      row_ends (Unary x a) p d = unary_ends (bits a) c d x p
      row_ends (Binary x a b) p d = ends _ _ c d.0 d.1 (binary_pattern x)
