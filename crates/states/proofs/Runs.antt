-- A stream that is not refused stands where the two machines stand after the bytes that came, however they were cut.
use Rattle.std.specs.Prelude.{ℕ, Option, Some, None}
use Prim.Native.Nat.{ℕ, suc, ◌+◌}
use mathlib.Core.Path.{◌≡◌, refl, sym, ap, ◌∙◌}
use mathlib.Core.List.{List, [], ◌∷◌, ◌++◌, append-nil, append_assoc}
use mathlib.Core.Logic.{◌⊎◌, inl, inr}
use native.Mathlib.Nat.{add-zero}
use native.Mathlib.Omega.{arith}
use lib.ListN.{length, length-append}
use lib.Seq.{append_snoc}
use Rattle.token.specs.Lists.{Tok}
use Rattle.states.specs.declared.Utf.{Utf}
use Rattle.states.specs.declared.Utf.TheVariants.{Whole}
use Rattle.states.specs.declared.Stand.{Stand}
use Rattle.states.specs.Machine.{Out, step, feed, fresh}
use Rattle.states.specs.Utf.{utf_step, utf_feed, broken_at}
use Rattle.states.specs.Steps.{Step, Goes, Faults, unless, long_at, refused_at, over_at, moved_to, step_of, given, followed, ran_of, begin}
use Rattle.states.proofs.Main.{feed_cuts}
use Rattle.states.proofs.Utfs.{utf_cuts}

-- ---- a step is taken apart

pub unless_goes : (n : ℕ) (k : Option ℕ) (f : Unit {0} → Step) (ts : List Tok) (d : Stand) → unless n k f ≡ Goes ts d → (k ≡ None) × (f tt ≡ Goes ts d)
unless_goes n None f ts d e = (refl, e)
unless_goes n (Some p) f ts d e = let z : ◌≡◌ {A = ℕ} 0 1 = cc in absurd (omega arith)

pub unless_faults : (n : ℕ) (k : Option ℕ) (f : Unit {0} → Step) (m p : ℕ) → unless n k f ≡ Faults m p → ((n ≡ m) × (k ≡ Some p)) ⊎ ((k ≡ None) × (f tt ≡ Faults m p))
unless_faults n None f m p e = inr (refl, e)
unless_faults n (Some q) f m p e = inl (cc, cc)

given_goes : (ts us : List Tok) (z : Step) (d : Stand) → given ts z ≡ Goes us d → (vs : List Tok) × (z ≡ Goes vs d) × (us ≡ ts ++ vs)
given_goes ts us (Goes vs c) d e = (vs, cc, cc)
given_goes ts us (Faults n p) d e = let z : ◌≡◌ {A = ℕ} 0 1 = cc in absurd (omega arith)

given_faults : (ts : List Tok) (z : Step) (n p : ℕ) → given ts z ≡ Faults n p → z ≡ Faults n p
given_faults ts (Goes vs c) n p e = let z : ◌≡◌ {A = ℕ} 0 1 = cc in absurd (omega arith)
given_faults ts (Faults m q) n p e = e

pub record Passed (z : Step) (f : Stand → Step) (us : List Tok) (d : Stand) : Type 0 where
  pub first : List Tok
  pub stand : Stand
  pub second : List Tok
  pub one : z ≡ Goes first stand
  pub two : f stand ≡ Goes second d
  pub all : us ≡ first ++ second

pub followed_goes : (z : Step) (f : Stand → Step) (us : List Tok) (d : Stand) → followed z f ≡ Goes us d → Passed z f us d
followed_goes (Goes ts c) f us d e =
    let g = given_goes ts us (f c) d e in
    record { first = ts; stand = c; second = g.0; one = refl; two = g.1; all = g.2 }
followed_goes (Faults n p) f us d e = let z : ◌≡◌ {A = ℕ} 0 1 = cc in absurd (omega arith)

pub followed_faults : (z : Step) (f : Stand → Step) (n p : ℕ) → followed z f ≡ Faults n p → (z ≡ Faults n p) ⊎ ((ts : List Tok) × (c : Stand) × (z ≡ Goes ts c) × (f c ≡ Faults n p))
followed_faults (Goes ts c) f n p e = inr (ts, c, refl, given_faults ts (f c) n p e)
followed_faults (Faults m q) f n p e = inl e

-- ---- where a stream stands after a text

abbrev pub gave : List ℕ → List Tok
gave s = (feed fresh s).gives

abbrev pub stand_at : List ℕ → Stand
stand_at s = record { conf = (feed fresh s).next; utf = utf_feed Whole 0 s; seen = length s; count = length (gave s) }

pub stand_nil : stand_at [] ≡ begin
unfolding feed utf_feed
stand_nil = refl

-- what a byte does there
abbrev pub out_at : List ℕ → ℕ → Out
out_at s x = step (feed fresh s).next x

abbrev pub utf_at : List ℕ → ℕ → Utf
utf_at s x = utf_step (utf_feed Whole 0 s) (length s) x

pub next_one : (s : List ℕ) (x : ℕ) → (feed fresh (s ++ x ∷ [])).next ≡ (out_at s x).next
unfolding feed
next_one s x = ap (λ (o : Out). o.next) (feed_cuts s (x ∷ []) fresh)

pub gave_one : (s : List ℕ) (x : ℕ) → gave (s ++ x ∷ []) ≡ gave s ++ (out_at s x).gives
unfolding feed
gave_one s x = ap (λ (o : Out). o.gives) (feed_cuts s (x ∷ []) fresh) ∙ ap (λ (ts : List Tok). gave s ++ ts) (append-nil (out_at s x).gives)

pub utf_one : (s : List ℕ) (x : ℕ) → utf_feed Whole 0 (s ++ x ∷ []) ≡ utf_at s x
unfolding utf_feed
utf_one s x = utf_cuts s (x ∷ []) Whole 0 ∙ ap (λ (a : ℕ). utf_step (utf_feed Whole 0 s) a x) (add-zero (length s))

pub length_one : (s : List ℕ) (x : ℕ) → length (s ++ x ∷ []) ≡ suc (length s)
length_one s x = length-append s (x ∷ []) ∙ omega arith

pub count_one : (s : List ℕ) (x : ℕ) → length (gave (s ++ x ∷ [])) ≡ length (gave s) + length (out_at s x).gives
count_one s x = ap length (gave_one s x) ∙ length-append (gave s) (out_at s x).gives

stand_one : (s : List ℕ) (x : ℕ) → moved_to (stand_at s) (utf_at s x) (out_at s x) ≡ stand_at (s ++ x ∷ [])
stand_one s x =
    let c : (out_at s x).next ≡ (feed fresh (s ++ x ∷ [])).next = sym (next_one s x) in
    let u : utf_at s x ≡ utf_feed Whole 0 (s ++ x ∷ []) = sym (utf_one s x) in
    let l : suc (length s) ≡ length (s ++ x ∷ []) = sym (length_one s x) in
    let n : length (gave s) + length (out_at s x).gives ≡ length (gave (s ++ x ∷ [])) = sym (count_one s x) in
    (λ i. record { conf = c i; utf = u i; seen = l i; count = n i })

-- a byte that is not refused, wherever the stream stands
pub record Took (r : ℕ) (c : Stand) (x : ℕ) (ts : List Tok) (d : Stand) : Type 0 where
  pub short : long_at (suc c.seen) ≡ None
  pub sound : broken_at (utf_step c.utf c.seen x) ≡ None
  pub going : refused_at (step c.conf x).next ≡ None
  pub room : over_at r c.count (step c.conf x).gives ≡ None
  pub gives : ts ≡ (step c.conf x).gives
  pub moved : d ≡ moved_to c (utf_step c.utf c.seen x) (step c.conf x)

pub took : (r : ℕ) (c : Stand) (x : ℕ) (ts : List Tok) (d : Stand) → step_of r c x ≡ Goes ts d → Took r c x ts d
unfolding step_of
took r c x ts d e =
    let u : Utf = utf_step c.utf c.seen x in
    let o : Out = step c.conf x in
    let a = unless_goes 1 (long_at (suc c.seen)) _ ts d e in
    let b = unless_goes 2 (broken_at u) _ ts d a.1 in
    let f = unless_goes 3 (refused_at o.next) _ ts d b.1 in
    let g = unless_goes 14 (over_at r c.count o.gives) _ ts d f.1 in
    let i : Goes o.gives (moved_to c u o) ≡ Goes ts d = g.1 in
    record { short = a.0; sound = b.0; going = f.0; room = g.0; gives = cc; moved = cc }

pub stands_one : (r : ℕ) (s : List ℕ) (x : ℕ) (ts : List Tok) (d : Stand) → step_of r (stand_at s) x ≡ Goes ts d → d ≡ stand_at (s ++ x ∷ [])
stands_one r s x ts d e = (took r (stand_at s) x ts d e).moved ∙ stand_one s x

-- ---- a packet behind a text

module _ (r : ℕ) where
  pub ran_goes : (xs s : List ℕ) (ts : List Tok) (d : Stand) → ran_of r (stand_at s) xs ≡ Goes ts d → (d ≡ stand_at (s ++ xs)) × (gave (s ++ xs) ≡ gave s ++ ts)
  unfolding ran_of
  ran_goes [] s ts d e =
      let n : [] ≡ ts = cc in
      let m : stand_at s ≡ d = cc in
      (rw (append-nil s) (sym m), rw (append-nil s, ← n) (sym (append-nil (gave s))))
  ran_goes (x ∷ xs) s ts d e =
      let p = followed_goes (step_of r (stand_at s) x) (λ c. ran_of r c xs) ts d e in
      let q = took r (stand_at s) x p.first p.stand p.one in
      let t : ran_of r (stand_at (s ++ x ∷ [])) xs ≡ Goes p.second d = ap (λ (c : Stand). ran_of r c xs) (sym (stands_one r s x p.first p.stand p.one)) ∙ p.two in
      let h = ran_goes xs (s ++ x ∷ []) p.second d t in
      let a : (s ++ x ∷ []) ++ xs ≡ s ++ x ∷ xs = append_snoc s x xs in (
        h.0 ∙ ap stand_at a,
        ap gave (sym a) ∙ h.1 ∙ ap (λ (us : List Tok). us ++ p.second) (gave_one s x ∙ ap (λ (us : List Tok). gave s ++ us) (sym q.gives)) ∙ append_assoc (gave s) p.first p.second ∙ ap (λ (us : List Tok). gave s ++ us) (sym p.all),
      )

  -- the byte at which a refusal shows, with the stream open before it
  pub record Stopped (s xs : List ℕ) (n p : ℕ) : Type 0 where
    pub before : List ℕ
    pub byte : ℕ
    pub behind : List ℕ
    pub cut : xs ≡ before ++ byte ∷ behind
    pub went : List Tok
    pub went_on : ran_of r (stand_at s) before ≡ Goes went (stand_at (s ++ before))
    pub fault : step_of r (stand_at (s ++ before)) byte ≡ Faults n p

  stop-here : (s xs : List ℕ) (x n p : ℕ) → step_of r (stand_at s) x ≡ Faults n p → Stopped s (x ∷ xs) n p
  unfolding ran_of
  stop-here s xs x n p e =
      record {
        before = [];
        byte = x;
        behind = xs;
        cut = refl;
        went = [];
        went_on = ap (λ (t : List ℕ). Goes [] (stand_at t)) (sym (append-nil s));
        fault = ap (λ (t : List ℕ). step_of r (stand_at t) x) (append-nil s) ∙ e;
      }

  stop-later : (s xs : List ℕ) (x n p : ℕ) (ts : List Tok) (c : Stand) → step_of r (stand_at s) x ≡ Goes ts c → Stopped (s ++ x ∷ []) xs n p → Stopped s (x ∷ xs) n p
  unfolding ran_of
  stop-later s xs x n p ts c e h =
      let a : (s ++ x ∷ []) ++ h.before ≡ s ++ x ∷ h.before = append_snoc s x h.before in
      let o : ran_of r c h.before ≡ Goes h.went (stand_at (s ++ x ∷ h.before)) = ap (λ (d : Stand). ran_of r d h.before) (stands_one r s x ts c e) ∙ h.went_on ∙ ap (λ (t : List ℕ). Goes h.went (stand_at t)) a in
      record {
        before = x ∷ h.before;
        byte = h.byte;
        behind = h.behind;
        cut = ap (λ (t : List ℕ). x ∷ t) h.cut;
        went = ts ++ h.went;
        went_on = ap (λ (z : Step). followed z (λ d. ran_of r d h.before)) e ∙ ap (given ts) o;
        fault = ap (λ (t : List ℕ). step_of r (stand_at t) h.byte) (sym a) ∙ h.fault;
      }

  stop_by : (s xs : List ℕ) (x n p : ℕ) → ((c : Stand) → c ≡ stand_at (s ++ x ∷ []) → ran_of r c xs ≡ Faults n p → Stopped (s ++ x ∷ []) xs n p)
      → (step_of r (stand_at s) x ≡ Faults n p) ⊎ ((ts : List Tok) × (c : Stand) × (step_of r (stand_at s) x ≡ Goes ts c) × (ran_of r c xs ≡ Faults n p)) → Stopped s (x ∷ xs) n p
  stop_by s xs x n p h (inl e) = stop-here s xs x n p e
  stop_by s xs x n p h (inr w) = stop-later s xs x n p w.0 w.1 w.2 (h w.1 (stands_one r s x w.0 w.1 w.2) w.3)

  pub ran_faults : (xs s : List ℕ) (n p : ℕ) → ran_of r (stand_at s) xs ≡ Faults n p → Stopped s xs n p
  unfolding ran_of
  ran_faults [] s n p e = let z : ◌≡◌ {A = ℕ} 0 1 = cc in absurd (omega arith)
  ran_faults (x ∷ xs) s n p e =
      stop_by s xs x n p (λ c g f. ran_faults xs (s ++ x ∷ []) n p (ap (λ (d : Stand). ran_of r d xs) (sym g) ∙ f)) (followed_faults (step_of r (stand_at s) x) (λ c. ran_of r c xs) n p e)
