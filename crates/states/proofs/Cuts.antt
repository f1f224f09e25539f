-- Cuts do not matter: a run is a fold over bytes.
use Prim.Native.Nat.{ℕ}
use mathlib.Core.Path.{◌≡◌, refl, sym, ap, ◌∙◌}
use mathlib.Core.List.{List, [], ◌∷◌, ◌++◌, append_assoc}
use native.Mathlib.Omega.{arith}
use Rattle.token.specs.Lists.{Tok}
use Rattle.states.specs.declared.Stand.{Stand}
use Rattle.states.specs.declared.Status.{Status}
use Rattle.states.specs.declared.Status.TheVariants.{Open, Held}
use Rattle.states.specs.Steps.{Step, Goes, Faults, step_of, given, followed, ran_of, moved_by, Moved, fed_of}
use Rattle.states.specs.Packets.{joined, lent, fed_all, told}

-- ---- bytes

pub given_given : (ts us : List Tok) (z : Step) → given ts (given us z) ≡ given (ts ++ us) z
given_given ts us (Goes vs c) = rw append_assoc
given_given ts us (Faults n p) = refl

pub followed_given : (ts : List Tok) (z : Step) (f : Stand → Step) → followed (given ts z) f ≡ given ts (followed z f)
followed_given ts (Goes us c) f = sym (given_given ts us (f c))
followed_given ts (Faults n p) f = refl

followed_twice : (z : Step) (f g h : Stand → Step) → ((c : Stand) → h c ≡ followed (f c) g) → followed z h ≡ followed (followed z f) g
followed_twice (Goes ts c) f g h e = ap (given ts) (e c) ∙ sym (followed_given ts (f c) g)
followed_twice (Faults n p) f g h e = refl

pub ran_cut : (r : ℕ) (xs ys : List ℕ) (c : Stand) → ran_of r c (xs ++ ys) ≡ followed (ran_of r c xs) (λ d. ran_of r d ys)
unfolding ran_of
ran_cut r [] ys c = nothing_given (ran_of r c ys)
  where
    nothing_given : (z : Step) → z ≡ given [] z
    nothing_given (Goes ts d) = refl
    nothing_given (Faults n p) = refl
ran_cut r (x ∷ xs) ys c = followed_twice (step_of r c x) (λ d. ran_of r d xs) (λ d. ran_of r d ys) (λ d. ran_of r d (xs ++ ys)) (λ d. ran_cut r xs ys d)

-- ---- calls

-- the same refusal; or, where the first is not refused, the same stream and the same tokens
pub record Same (m n : Moved) : Type 0 where
  pub streams : told m.next ≡ told n.next
  pub lists : (c : Stand) → m.next ≡ Open c → m.gives ≡ n.gives

abbrev both : Moved → Moved → Moved
both m n = record { gives = m.gives ++ n.gives; next = n.next }

by_second : (k j : ℕ) (ts : List Tok) (z : Step) → Same (record { gives = ts ++ (moved_by j z).gives; next = (moved_by j z).next }) (moved_by k (given ts z))
by_second k j ts (Goes us c) = record { streams = refl; lists = λ d e. refl }
by_second k j ts (Faults n p) = record { streams = refl; lists = λ d e. let z : ◌≡◌ {A = ℕ} 0 1 = cc in absurd (omega arith) }

by_first : (r : ℕ) (ys : List ℕ) (k : ℕ) (z : Step) → Same (both (moved_by k z) (fed_of r (moved_by k z).next ys)) (moved_by k (followed z (λ d. ran_of r d ys)))
unfolding fed_of
by_first r ys k (Goes ts c) = by_second k c.count ts (ran_of r c ys)
by_first r ys k (Faults n p) = record { streams = refl; lists = λ d e. refl }

-- x then y, and x ++ y
pub two_calls : (r : ℕ) (q : Status) (xs ys : List ℕ) → Same (both (fed_of r q xs) (fed_of r (fed_of r q xs).next ys)) (fed_of r q (xs ++ ys))
unfolding fed_of
two_calls r (Open c) xs ys = rw (ran_cut r xs ys c) (by_first r ys c.count (ran_of r c xs))
two_calls r (Held n p k) xs ys = record { streams = refl; lists = λ d e. refl }

told_open : (q : Status) (c : Stand) → told q ≡ Open c → q ≡ Open c
told_open (Open d) c e = e
told_open (Held n p k) c e = let z : ◌≡◌ {A = ℕ} 0 1 = cc in absurd (omega arith)

same_then : (m n o p : Moved) → Same n o → Same (both m o) p → Same (both m n) p
same_then m n o p a b =
    record {
      streams = a.streams ∙ b.streams;
      lists = λ c e. ap (λ (ts : List Tok). m.gives ++ ts) (a.lists c e) ∙ b.lists c (told_open o.next c (sym a.streams ∙ ap told e));
    }

-- any packets, and all their bytes in one
pub cuts : (r : ℕ) (xss : List (List ℕ)) (q : Status) → Same (fed_all q (lent r xss)) (fed_of r q (joined (lent r xss)))
unfolding fed_all fed_of ran_of
cuts r [] (Open c) = record { streams = refl; lists = λ d e. refl }
cuts r [] (Held n p k) = record { streams = refl; lists = λ d e. refl }
cuts r (xs ∷ xss) q = same_then (fed_of r q xs) (fed_all (fed_of r q xs).next (lent r xss)) (fed_of r (fed_of r q xs).next (joined (lent r xss))) (fed_of r q (xs ++ joined (lent r xss))) (cuts r xss (fed_of r q xs).next) (two_calls r q xs (joined (lent r xss)))

-- however a text is cut
pub any_cuts : (r : ℕ) (xss yss : List (List ℕ)) (q : Status) → joined (lent r xss) ≡ joined (lent r yss) → Same (fed_all q (lent r xss)) (fed_all q (lent r yss))
any_cuts r xss yss q e =
    let a = cuts r xss q in
    let b = cuts r yss q in
    let n : fed_of r q (joined (lent r xss)) ≡ fed_of r q (joined (lent r yss)) = ap (fed_of r q) e in
    let s : told (fed_all q (lent r xss)).next ≡ told (fed_all q (lent r yss)).next = a.streams ∙ ap (λ (m : Moved). told m.next) n ∙ sym b.streams in
    record { streams = s; lists = λ c f. a.lists c f ∙ ap (λ (m : Moved). m.gives) n ∙ sym (b.lists c (told_open (fed_all q (lent r yss)).next c (sym s ∙ ap told f))) }
