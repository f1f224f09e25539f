-- Laws of visits. A visit spends a step, so that a repetition has fewer rounds than steps, and its law needs no fuel.
use Rattle.std.specs.Prelude.{ℕ, Option, Some, None}
use mathlib.Core.Bool.{Bool, true, false}
use Prim.Native.Nat.{ℕ, zero, suc, ◌+◌, ◌≤◌, ◌<◌}
use mathlib.Core.Path.{◌≡◌, refl}
use mathlib.Core.List.{List}
use native.Mathlib.Omega.{arith}
use lib.Dec.{leb}
use Rattle.table.proofs.Booleans.{choose_by, choose_cong}
use Rattle.links.specs.declared.Act.{Act}
use Rattle.links.specs.declared.Act.TheVariants.{Text, Range, Any, Call, PosPred, NegPred, Seq, Choice, Repeat, Unfit}
use Rattle.matcher.specs.declared.Outcome.{Outcome}
use Rattle.matcher.specs.declared.Outcome.TheVariants.{Matched, Missed, Over}
use Rattle.table.specs.Characters.{choose}
use Rattle.matcher.specs.Match.{outcome_by, took, one, full, rounds, repeat, enter, visit}

-- fewer than k steps are left
abbrev pub Below : ℕ → Outcome → Type 0
Below k (Matched e l) = l < k
Below k (Missed l) = l < k
Below k Over = Unit {0}

below_up : (x : Outcome) (k j : ℕ) → k ≤ j → Below k x → Below j x
below_up (Matched e l) k j h b = omega arith
below_up (Missed l) k j h b = omega arith
below_up Over k j h b = tt

after_below : (k : ℕ) (m : Outcome) (f : ℕ → ℕ → Outcome) (g : ℕ → Outcome) → Below k m → ((e l : ℕ) → l < k → Below k (f e l)) → ((l : ℕ) → l < k → Below k (g l)) → Below k (outcome_by m f g)
unfolding outcome_by
after_below k (Matched e l) f g h u v = u e l h
after_below k (Missed l) f g h u v = v l h
after_below k Over f g h u v = tt

took_below : (b : Bool) (e l k : ℕ) → l < k → Below k (took b e l)
unfolding took
took_below true e l k h = h
took_below false e l k h = h

one_below : (f : ℕ → Bool) (x : Option (ℕ × ℕ)) (at l k : ℕ) → l < k → Below k (one f x at l)
unfolding one
one_below f (Some (c, n)) at l k h = took_below (f c) (at + n) l k h
one_below f None at l k h = h

pub after_cong : (m : Outcome) (f f' : ℕ → ℕ → Outcome) (g : ℕ → Outcome) → ((e l : ℕ) → m ≡ Matched e l → f e l ≡ f' e l) → outcome_by m f g ≡ outcome_by m f' g
unfolding outcome_by
after_cong (Matched e l) f f' g h = h e l refl
after_cong (Missed l) f f' g h = refl
after_cong Over f f' g h = refl

-- each visit spends at least one step
abbrev pub Spends : (ℕ → ℕ → ℕ → Outcome) → Type 0
Spends go = (k i at : ℕ) → Below k (go k i at)

pub fewer : (x : Outcome) {e l : ℕ} (k : ℕ) → Below k x → x ≡ Matched e l → l < k
fewer (Matched f m) {e} {l} k b q = let z : m ≡ l = cc in omega arith
fewer (Missed l) k b q = let z : ◌≡◌ {A = ℕ} 0 1 = cc in absurd (omega arith)
fewer Over k b q = let z : ◌≡◌ {A = ℕ} 0 1 = cc in absurd (omega arith)

module _ (go : ℕ → ℕ → ℕ → Outcome) (spends : Spends go) where
  module _ (c lo : ℕ) (hi : Option ℕ) where
    rounds_below : (f n at k : ℕ) → Below (suc k) (rounds go c lo hi f n at k)
    unfolding rounds
    rounds_below zero n at k = tt
    rounds_below (suc f) n at k =
        choose_by (Below (suc k)) (full hi n) _ _ (λ v. omega arith)
        (λ v. after_below (suc k) (go k c at) _ _ (below_up (go k c at) k (suc k) (omega arith) (spends k c at))
        (λ e l h. below_up (rounds go c lo hi f (suc n) e l) (suc l) (suc k) (omega arith) (rounds_below f (suc n) e l))
        (λ l h. took_below (leb lo n) at l (suc k) h))

    rounds_fuel : (f g n at k : ℕ) → k < f → k < g → rounds go c lo hi f n at k ≡ rounds go c lo hi g n at k
    unfolding rounds
    rounds_fuel zero g n at k h j = absurd (omega arith)
    rounds_fuel (suc f) zero n at k h j = absurd (omega arith)
    rounds_fuel (suc f) (suc g) n at k h j =
        choose_cong (full hi n) _ _ _ _ (λ v. refl)
        (λ v. after_cong (go k c at) _ _ _ (λ e l q. let z : l < k = fewer (go k c at) k (spends k c at) q in rounds_fuel f g (suc n) e l (omega arith) (omega arith)))

    pub repeat_law : (n at k : ℕ) → repeat go c lo hi n at k ≡ choose (full hi n) (λ u. Matched at k) (λ u. outcome_by (go k c at) (λ e l. repeat go c lo hi (suc n) e l) (λ l. took (leb lo n) at l))
    unfolding repeat rounds
    repeat_law n at k =
        choose_cong (full hi n) _ _ _ _ (λ v. refl)
        (λ v. after_cong (go k c at) _ _ _ (λ e l q. let z : l < k = fewer (go k c at) k (spends k c at) q in rounds_fuel k (suc l) (suc n) e l (omega arith) (omega arith)))

  module _ (st line : List ℕ) where
    enter_below : (x : Act) (k at : ℕ) → Below (suc k) (enter st line x go k at)
    unfolding enter repeat
    enter_below (Text f p n) k at = took_below _ _ k (suc k) (omega arith)
    enter_below (Range a b) k at = one_below _ _ at k (suc k) (omega arith)
    enter_below Any k at = one_below _ _ at k (suc k) (omega arith)
    enter_below (Call r) k at = below_up (go k r at) k (suc k) (omega arith) (spends k r at)
    enter_below (PosPred c) k at = after_below (suc k) (go k c at) _ _ (below_up (go k c at) k (suc k) (omega arith) (spends k c at)) (λ e l h. h) (λ l h. h)
    enter_below (NegPred c) k at = after_below (suc k) (go k c at) _ _ (below_up (go k c at) k (suc k) (omega arith) (spends k c at)) (λ e l h. h) (λ l h. h)
    enter_below (Seq a b) k at = after_below (suc k) (go k a at) _ _ (below_up (go k a at) k (suc k) (omega arith) (spends k a at)) (λ e l h. below_up (go l b e) l (suc k) (omega arith) (spends l b e)) (λ l h. h)
    enter_below (Choice a b) k at = after_below (suc k) (go k a at) _ _ (below_up (go k a at) k (suc k) (omega arith) (spends k a at)) (λ e l h. h) (λ l h. below_up (go l b at) l (suc k) (omega arith) (spends l b at))
    enter_below (Repeat c lo hi) k at = rounds_below c lo hi (suc k) 0 at k
    enter_below Unfit k at = omega arith

pub visit_below : (prog : ℕ → Act) (st line : List ℕ) (d : ℕ) → Spends (visit prog st line d)
unfolding visit
visit_below prog st line zero k i at = tt
visit_below prog st line (suc d) zero i at = tt
visit_below prog st line (suc d) (suc k) i at = enter_below (visit prog st line d) (visit_below prog st line d) st line (prog i) k at
