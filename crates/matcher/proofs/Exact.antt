-- A visit with an allowance gives what the definition without one comes to, and Over exactly where that needs more visits or steps:
-- each run is given by a visit with as many steps (`complete`), and what a visit gives is a run (`sound`).
use Rattle.std.specs.Prelude.{ℕ, Option, Some, None}
use mathlib.Core.Bool.{Bool, true, false}
use Prim.Native.Nat.{ℕ, zero, suc, ◌+◌, ◌-◌, ◌<◌}
use mathlib.Core.Path.{◌≡◌, refl, sym, ap, ◌∙◌, subst}
use mathlib.Core.List.{List}
use native.Mathlib.Omega.{arith}
use lib.Dec.{leb}
use native.Mathlib.Decide.{dec_lt}
use Rattle.table.proofs.Booleans.{split}
use Rattle.links.specs.declared.Act.{Act}
use Rattle.links.specs.declared.Act.TheVariants.{Text, Range, Any, Call, PosPred, NegPred, Seq, Choice, Repeat, Unfit}
use Rattle.matcher.specs.declared.Outcome.{Outcome}
use Rattle.matcher.specs.declared.Outcome.TheVariants.{Matched, Missed, Over}
use lib.ListN.{drop}
use Rattle.table.specs.Characters.{choose, within, char_of}
use Rattle.table.specs.Record.{part}
use Rattle.matcher.specs.Match.{outcome_by, took, starts, one, any_character, full, repeat, enter, visit}
use Rattle.matcher.specs.Runs.{Verdict, up_to, none, give, tested, tested_one, Task, node, inner, more, Runs, visited, text, range, any, call, pos, pos_not, neg, neg_not, seq, seq_not, choice, choice_not, repeated, unfit, filled, again, ended}
use Rattle.matcher.proofs.Visits.{visit_below, repeat_law, fewer}

module _ (prog : ℕ → Act) (st line : List ℕ) where
  -- a task with k steps left
  unfoldable pub act : ℕ → Task → ℕ → ℕ → Outcome
  act d (node i) at k = visit prog st line d k i at
  act d (inner x) at k = enter st line x (visit prog st line d) k at
  act d (more c lo hi n) at k = repeat (visit prog st line d) c lo hi n at k

took_give : (b : Bool) (e l : ℕ) → took b e l ≡ give (tested b e) l
unfolding took
took_give true e l = refl
took_give false e l = refl

one_give : (f : ℕ → Bool) (x : Option (ℕ × ℕ)) (at l : ℕ) → one f x at l ≡ give (tested_one f x at) l
unfolding one
one_give f (Some (c, n)) at l = took_give (f c) (at + n) l
one_give f None at l = refl

after_up_to : (m : Outcome) (f : ℕ → ℕ → Outcome) (g : ℕ → Outcome) {e l : ℕ} → m ≡ Matched e l → outcome_by m f g ≡ f e l
unfolding outcome_by
after_up_to m f g q = ap (λ z. outcome_by z f g) q

after_none : (m : Outcome) (f : ℕ → ℕ → Outcome) (g : ℕ → Outcome) {l : ℕ} → m ≡ Missed l → outcome_by m f g ≡ g l
unfolding outcome_by
after_none m f g q = ap (λ z. outcome_by z f g) q

module _ (prog : ℕ → Act) (st line : List ℕ) where
  abbrev vis : ℕ → ℕ → ℕ → ℕ → Outcome
  vis = visit prog st line

  law : (d c lo : ℕ) (hi : Option ℕ) (n at k : ℕ) → repeat (vis d) c lo hi n at k ≡ choose (full hi n) (λ u. Matched at k) (λ u. outcome_by (vis d k c at) (λ e l. repeat (vis d) c lo hi (suc n) e l) (λ l. took (leb lo n) at l))
  law d c lo hi n at k = repeat_law (vis d) (visit_below prog st line d) c lo hi n at k

  -- what the definition comes to is given with as many steps, and the rest is left
  pub complete : {d : ℕ} {t : Task} {at : ℕ} {v : Verdict} {n : ℕ} → Runs prog st line d t at v n → (j : ℕ) → act prog st line d t at (n + j) ≡ give v j
  unfolding act visit enter
  complete (visited {n = n} r) j = let z : suc n + j ≡ suc (n + j) = omega arith in rw z (complete r j)
  complete (text {f = f} {p = p} {n = n} {at = at}) j = let z : 0 + j ≡ j = omega arith in rw z (took_give (starts f (part st p n) (drop at line)) (at + n) j)
  complete (range {a = a} {b = b} {at = at}) j = let z : 0 + j ≡ j = omega arith in rw z (one_give (within a b) (char_of (drop at line)) at j)
  complete (any {at = at}) j = let z : 0 + j ≡ j = omega arith in rw z (one_give any_character (char_of (drop at line)) at j)
  complete (call r) j = complete r j
  complete (pos r) j = after_up_to _ _ _ (complete r j)
  complete (pos_not r) j = after_none _ _ _ (complete r j)
  complete (neg r) j = after_up_to _ _ _ (complete r j)
  complete (neg_not r) j = after_none _ _ _ (complete r j)
  complete (seq {m = m} {n = n} r s) j = let z : (m + n) + j ≡ m + (n + j) = omega arith in rw z (after_up_to _ _ _ (complete r (n + j)) ∙ complete s j)
  complete (seq_not r) j = after_none _ _ _ (complete r j)
  complete (choice r) j = after_up_to _ _ _ (complete r j)
  complete (choice_not {m = m} {n = n} r s) j = let z : (m + n) + j ≡ m + (n + j) = omega arith in rw z (after_none _ _ _ (complete r (n + j)) ∙ complete s j)
  complete (repeated r) j = complete r j
  complete unfit j = let z : 0 + j ≡ j = omega arith in rw z
  complete (filled {d = d} {c = c} {lo = lo} {hi = hi} {k = k} {at = at} f) j = let z : 0 + j ≡ j = omega arith in rw z (law d c lo hi k at j ∙ (rw f))
  complete (again {d = d} {c = c} {lo = lo} {hi = hi} {k = k} {at = at} {m = m} {n = n} f r s) j =
      let z : (m + n) + j ≡ m + (n + j) = omega arith in
      rw z (law d c lo hi k at (m + (n + j)) ∙ (rw f (after_up_to _ _ _ (complete r (n + j)) ∙ complete s j)))
  complete (ended {d = d} {c = c} {lo = lo} {hi = hi} {k = k} {at = at} {m = m} f r) j =
      law d c lo hi k at (m + j) ∙ (rw f (after_none _ _ _ (complete r j) ∙ took_give (leb lo k) at j))

-- what a task that was given with some steps left comes to
pub record Came (prog : ℕ → Act) (st line : List ℕ) (d : ℕ) (t : Task) (at : ℕ) (v : Verdict) (k l : ℕ) : Type 0 where
  pub steps : ℕ
  pub runs : Runs prog st line d t at v steps
  pub sum : steps + l ≡ k

same_give : (u v : Verdict) (j l : ℕ) → give u j ≡ give v l → (u ≡ v) × (j ≡ l)
same_give (up_to e) (up_to f) j l q = (ap up_to (cc), cc)
same_give (up_to e) none j l q = let z : ◌≡◌ {A = ℕ} 0 1 = cc in absurd (omega arith)
same_give none (up_to f) j l q = let z : ◌≡◌ {A = ℕ} 0 1 = cc in absurd (omega arith)
same_give none none j l q = (refl, cc)

no_give : {P : Type 0} (v : Verdict) (l : ℕ) → Over ≡ give v l → P
no_give (up_to e) l q = let z : ◌≡◌ {A = ℕ} 0 1 = cc in absurd (omega arith)
no_give none l q = let z : ◌≡◌ {A = ℕ} 0 1 = cc in absurd (omega arith)

after_inv : (m : Outcome) (f : ℕ → ℕ → Outcome) (g : ℕ → Outcome) (v : Verdict) (l : ℕ) {P : Type 0} → ((e j : ℕ) → m ≡ Matched e j → f e j ≡ give v l → P) → ((j : ℕ) → m ≡ Missed j → g j ≡ give v l → P) → outcome_by m f g ≡ give v l → P
unfolding outcome_by
after_inv (Matched e j) f g v l u w q = u e j refl q
after_inv (Missed j) f g v l u w q = w j refl q
after_inv Over f g v l u w q = no_give v l q

module _ (prog : ℕ → Act) (st line : List ℕ) where
  abbrev see : ℕ → ℕ → ℕ → ℕ → Outcome
  see = visit prog st line

  landed : {d : ℕ} {t : Task} {at : ℕ} (u v : Verdict) (j l : ℕ) {k n : ℕ} → give u j ≡ give v l → Runs prog st line d t at u n → n + j ≡ k → Came prog st line d t at v k l
  landed {d} {t} {at} u v j l {n = n} q r h =
      let w = same_give u v j l q in
      record { steps = n; runs = subst (λ z. Runs prog st line d t at z n) w.0 r; sum = omega (arith, w.1) }

  module _ (d : ℕ) (ih : (k i at : ℕ) (v : Verdict) (l : ℕ) → see d k i at ≡ give v l → Came prog st line d (node i) at v k l) where
    sound_more : (c lo : ℕ) (hi : Option ℕ) (b n at k : ℕ) (v : Verdict) (l : ℕ) → k < b → repeat (see d) c lo hi n at k ≡ give v l → Came prog st line d (more c lo hi n) at v k l
    sound_more c lo hi zero n at k v l h q = absurd (omega arith)
    sound_more c lo hi (suc b) n at k v l h q =
        split (full hi n) _ _
        (λ f w. landed (up_to at) v k l w (filled f) (omega arith))
        (λ f. after_inv (see d k c at) _ _ v l
        (λ e j p w.
        let z : j < k = fewer (see d k c at) k (visit_below prog st line d k c at) p in
        let r = ih k c at (up_to e) j p in
        let s = sound_more c lo hi b (suc n) e j v l (omega arith) w in
        record { steps = r.steps + s.steps; runs = again f r.runs s.runs; sum = omega (arith, r.sum, s.sum) })
        (λ j p w. let r = ih k c at none j p in landed (tested (leb lo n) at) v j l (sym (took_give (leb lo n) at j) ∙ w) (ended f r.runs) r.sum))
        (sym (law prog st line d c lo hi n at k) ∙ q)

    sound_inner : (x : Act) (k at : ℕ) (v : Verdict) (l : ℕ) → enter st line x (see d) k at ≡ give v l → Came prog st line d (inner x) at v k l
    unfolding enter
    sound_inner (Text f p n) k at v l w =
        let t = starts f (part st p n) (drop at line) in
        landed (tested t (at + n)) v k l (sym (took_give t (at + n) k) ∙ w) text (omega arith)
    sound_inner (Range a b) k at v l w =
        let x = char_of (drop at line) in
        landed (tested_one (within a b) x at) v k l (sym (one_give (within a b) x at k) ∙ w) range (omega arith)
    sound_inner Any k at v l w =
        let x = char_of (drop at line) in
        landed (tested_one any_character x at) v k l (sym (one_give any_character x at k) ∙ w) any (omega arith)
    sound_inner (Call r) k at v l w = let c = ih k r at v l w in record { steps = c.steps; runs = call c.runs; sum = c.sum }
    sound_inner (PosPred c) k at v l w =
        after_inv (see d k c at) _ _ v l
        (λ e j p z. let r = ih k c at (up_to e) j p in landed (up_to at) v j l z (pos r.runs) r.sum)
        (λ j p z. let r = ih k c at none j p in landed none v j l z (pos_not r.runs) r.sum)
        w
    sound_inner (NegPred c) k at v l w =
        after_inv (see d k c at) _ _ v l
        (λ e j p z. let r = ih k c at (up_to e) j p in landed none v j l z (neg r.runs) r.sum)
        (λ j p z. let r = ih k c at none j p in landed (up_to at) v j l z (neg_not r.runs) r.sum)
        w
    sound_inner (Seq a b) k at v l w =
        after_inv (see d k a at) _ _ v l
        (λ e j p z.
        let r = ih k a at (up_to e) j p in
        let s = ih j b e v l z in
        record { steps = r.steps + s.steps; runs = seq r.runs s.runs; sum = omega (arith, r.sum, s.sum) })
        (λ j p z. let r = ih k a at none j p in landed none v j l z (seq_not r.runs) r.sum)
        w
    sound_inner (Choice a b) k at v l w =
        after_inv (see d k a at) _ _ v l
        (λ e j p z. let r = ih k a at (up_to e) j p in landed (up_to e) v j l z (choice r.runs) r.sum)
        (λ j p z.
        let r = ih k a at none j p in
        let s = ih j b at v l z in
        record { steps = r.steps + s.steps; runs = choice_not r.runs s.runs; sum = omega (arith, r.sum, s.sum) })
        w
    sound_inner (Repeat c lo hi) k at v l w = let r = sound_more c lo hi (suc k) 0 at k v l (omega arith) w in record { steps = r.steps; runs = repeated r.runs; sum = r.sum }
    sound_inner Unfit k at v l w = landed none v k l w unfit (omega arith)

  -- what is given with some steps left is what the definition comes to
  pub sound : (d k i at : ℕ) (v : Verdict) (l : ℕ) → see d k i at ≡ give v l → Came prog st line d (node i) at v k l
  unfolding visit
  sound zero k i at v l w = no_give v l w
  sound (suc d) zero i at v l w = no_give v l w
  sound (suc d) (suc k) i at v l w =
      let r = sound_inner d (sound d) (prog i) k at v l w in
      record { steps = suc r.steps; runs = visited r.runs; sum = omega (arith, r.sum) }

  module _ (d i at : ℕ) where
    -- it comes to one verdict, in one number of steps
    pub runs_once : {u v : Verdict} {m n : ℕ} → Runs prog st line d (node i) at u m → Runs prog st line d (node i) at v n → (u ≡ v) × (m ≡ n)
    unfolding act
    runs_once {u} {v} {m} {n} r s =
        let z : m + n ≡ n + m = omega arith in
        let w = same_give u v n m (sym (complete prog st line r n) ∙ (rw z (complete prog st line s m))) in
        (w.0, omega (arith, w.1))

    -- 34 exactly where the definition comes to nothing within the nested visits and the steps
    pub over_needs : (k : ℕ) → see d k i at ≡ Over → (v : Verdict) (n : ℕ) → Runs prog st line d (node i) at v n → k < n
    unfolding act
    over_needs k q v n r = go (dec_lt k n)
      where
        go : Dec (k < n) → k < n
        go (yes h) = h
        go (no h) =
            let z : n + (k - n) ≡ k = omega arith in
            no_give v (k - n) (sym q ∙ (rw z at (complete prog st line r (k - n))))

    pub needs_over : (k : ℕ) → ((v : Verdict) (n : ℕ) → Runs prog st line d (node i) at v n → k < n) → see d k i at ≡ Over
    needs_over k h = go (see d k i at) refl
      where
        go : (x : Outcome) → see d k i at ≡ x → see d k i at ≡ Over
        go (Matched e l) q = let c = sound d k i at (up_to e) l q in absurd (omega (arith, h (up_to e) c.steps c.runs, c.sum))
        go (Missed l) q = let c = sound d k i at none l q in absurd (omega (arith, h none c.steps c.runs, c.sum))
        go Over q = q
