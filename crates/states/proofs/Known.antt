-- A token is given at the byte where its end is known: the tokens given are those that every continuation has.
-- A token in hand at the end gets longer, or is lost, by a digit more.
use Prim.Native.Nat.{ℕ, zero, suc, ◌+◌, ◌-◌, ◌≤◌, ◌<◌}
use mathlib.Core.Bool.{Bool, true, false}
use mathlib.Core.Path.{◌≡◌, refl, ap, ◌∙◌}
use mathlib.Core.List.{List, [], ◌∷◌, ◌++◌}
use mathlib.Core.Logic.{◌⊎◌, inl, inr}
use native.Mathlib.Nat.{zero-add}
use native.Mathlib.Omega.{arith}
use lib.ListN.{length}
use lib.Dec.{eqb}
use borrow.Author.Tests.{le-ltb, ne_eqb, eqb-true, eqb-false}
use Rattle.text.specs.Classes.{class_of}
use Rattle.text.proofs.Tests.{lt_or_ge}
use Rattle.token.specs.Lists.{Tok, tok, Tokens, tokens_of}
use Rattle.states.specs.declared.State.{State}
use Rattle.states.specs.declared.State.TheVariants.{Start, Word, Push, Num, Hash, Tag, Dot, Caret, Minus, Zeros, Negative, Str, Esc, X0, X1, U, Un, Chr, More, Quote, Slash, Slash2, Line, Doc, DocCr, Cr, Com, Star, Bar, Refused}
use Rattle.states.specs.declared.Conf.{Conf}
use Rattle.states.specs.Machine.{push_row, end_row, finish, feed, fresh}
use Rattle.states.specs.Packets.{At, Lacks}
use Rattle.states.specs.Free.{Bytes}
use Rattle.states.proofs.Bytes.{no_bytes, digit_byte}
use Rattle.states.proofs.Main.{whole, left_whole, continued}
use Rattle.states.proofs.Runs.{gave}

-- ---- lists at an index

pub at_left : (ts us : List Tok) (i : ℕ) (t : Tok) → At ts i t → At (ts ++ us) i t
at_left [] us i t h = absurd h
at_left (x ∷ ts) us zero t h = h
at_left (x ∷ ts) us (suc i) t h = at_left ts us i t h

pub at_right : (ts us : List Tok) (i : ℕ) (t : Tok) → At us i t → At (ts ++ us) (length ts + i) t
at_right [] us i t h = rw (zero-add i) h
at_right (x ∷ ts) us i t h =
    let z : suc (length ts) + i ≡ suc (length ts + i) = omega arith in
    rw z (at_right ts us i t h)

pub at_either : (ts us : List Tok) (i : ℕ) (t : Tok) → At (ts ++ us) i t → At ts i t ⊎ ((j : ℕ) × (i ≡ length ts + j) × At us j t)
at_either [] us i t h = inr (i, omega arith, h)
at_either (x ∷ ts) us zero t h = inl h
at_either (x ∷ ts) us (suc i) t h = at_later (at_either ts us i t h)
  where
    at_later : At ts i t ⊎ ((j : ℕ) × (i ≡ length ts + j) × At us j t) → At ts i t ⊎ ((j : ℕ) × (suc i ≡ suc (length ts) + j) × At us j t)
    at_later (inl g) = inl g
    at_later (inr g) = let e : i ≡ length ts + g.0 = g.1 in inr (g.0, omega arith, g.2)

-- ---- one more byte

abbrev at : State → ℕ → ℕ → Conf
at q a n = record { state = q; start = a; size = n }

-- no token stands at the end, or one that a digit more would make another, or none
abbrev Unsure : State → ℕ → ℕ → Type 0
Unsure q a n = ((end_row q a n).list ≡ []) ⊎ ((t : Tok) × ((end_row q a n).list ≡ t ∷ []) × (At (whole (at q a n) (48 ∷ [])).list 0 t → ⊥))

other : (k a m n : ℕ) → (m ≡ n → ⊥) → tok k a (a + m) ≡ tok k a (a + n) → ⊥
other k a m n h e =
    let z : a + m ≡ a + n = cc in
    h (omega arith)

longer : (k a n : ℕ) → tok k a (a + suc n) ≡ tok k a (a + n) → ⊥
longer k a n e = other k a (suc n) n (λ z. omega arith) e

push_beyond : (a n : ℕ) → 12 < n → (end_row Push a n).list ≡ []
push_beyond a n h = rw (le-ltb n 5 (omega arith), ne_eqb n 12 (λ z. omega arith))

unsure_push : (a n : ℕ) → Unsure Push a n
unfolding feed push_row class_of
unsure_push a zero = inr (tok 18 a (a + 0), refl, λ h. longer 18 a 0 h)
unsure_push a (suc zero) = inr (tok 18 a (a + 1), refl, λ h. longer 18 a 1 h)
unsure_push a (suc (suc zero)) = inr (tok 18 a (a + 2), refl, λ h. longer 18 a 2 h)
unsure_push a (suc (suc (suc zero))) = inr (tok 18 a (a + 3), refl, λ h. longer 18 a 3 h)
unsure_push a (suc (suc (suc (suc zero)))) = inr (tok 18 a (a + 4), refl, λ h. h)
unsure_push a (suc (suc (suc (suc (suc zero))))) = inl refl
unsure_push a (suc (suc (suc (suc (suc (suc zero)))))) = inl refl
unsure_push a (suc (suc (suc (suc (suc (suc (suc zero))))))) = inl refl
unsure_push a (suc (suc (suc (suc (suc (suc (suc (suc zero)))))))) = inl refl
unsure_push a (suc (suc (suc (suc (suc (suc (suc (suc (suc zero))))))))) = inl refl
unsure_push a (suc (suc (suc (suc (suc (suc (suc (suc (suc (suc zero)))))))))) = inl refl
unsure_push a (suc (suc (suc (suc (suc (suc (suc (suc (suc (suc (suc zero))))))))))) = inl refl
unsure_push a (suc (suc (suc (suc (suc (suc (suc (suc (suc (suc (suc (suc zero)))))))))))) = inr (tok 18 a (a + 12), refl, λ h. h)
unsure_push a (suc (suc (suc (suc (suc (suc (suc (suc (suc (suc (suc (suc (suc n))))))))))))) = inl (push_beyond a (suc (suc (suc (suc (suc (suc (suc (suc (suc (suc (suc (suc (suc n))))))))))))) (omega arith))

unsure : (q : State) (a n : ℕ) → Unsure q a n
unfolding feed class_of
unsure Start a n = inl refl
unsure Word a n = inr (tok 18 a (a + n), refl, longer 18 a n)
unsure Push a n = unsure_push a n
unsure Num a n = inr (tok 20 a (a + n), refl, longer 20 a n)
unsure Hash a n = inl refl
unsure Tag a n = inr (tok 19 a (a + n), refl, longer 19 a n)
unsure Dot a n = inl refl
unsure Caret a n = inl refl
unsure Minus a n = inl refl
unsure Zeros a n = inl refl
unsure Negative a n = inr (tok 21 a (a + n), refl, longer 21 a n)
unsure (Str k) a n = inl refl
unsure (Esc l b) a n = inl refl
unsure (X0 l b) a n = inl refl
unsure (X1 l b) a n = inl refl
unsure (U l b) a n = inl refl
unsure (Un l b j) a n = inl refl
unsure Chr a n = inl refl
unsure (More t) a n = inl refl
unsure Quote a n = inl refl
unsure Slash a n = inl refl
unsure Slash2 a n = inl refl
unsure Line a n = inl refl
unsure (Doc k) a n = inr (tok k a (a + n), refl, longer k a n)
unsure (DocCr k) a n = inr (tok k a (a + suc n), refl, longer k a (suc n))
unsure Cr a n = inl refl
unsure (Com d) a n = inl refl
unsure (Star d) a n = inl refl
unsure (Bar d) a n = inl refl
unsure Refused a n = inl refl

-- ---- the theorem

-- what was given stays, whatever comes
pub known : (s ys : List ℕ) (i : ℕ) (t : Tok) → At (gave s) i t → At (tokens_of (s ++ ys)).list i t
known s ys i t h = rw (continued s ys) (at_left (gave s) _ i t h)

list_then : (s ys : List ℕ) → (tokens_of (s ++ ys)).list ≡ gave s ++ (whole (feed fresh s).next ys).list
list_then s ys = ap (λ (r : Tokens). r.list) (continued s ys) ∙ ap (λ (r : Tokens). gave s ++ r.list) (left_whole ys (feed fresh s).next)

list_now : (s : List ℕ) → (tokens_of (s ++ [])).list ≡ gave s ++ (finish (feed fresh s).next).list
unfolding feed
list_now s = list_then s []

single : (u t : Tok) (j : ℕ) → At (u ∷ []) j t → (j ≡ 0) × (u ≡ t)
single u t zero h = (refl, h)
single u t (suc j) h = absurd h

pub at_below : (ts : List Tok) (i : ℕ) (t : Tok) → At ts i t → i < length ts
at_below [] i t h = absurd h
at_below (u ∷ ts) zero t h = omega arith
at_below (u ∷ ts) (suc i) t h = let z : i < length ts = at_below ts i t h in omega arith

-- behind those given: where such a token stands in the list that is left
behind : (ts us : List Tok) (i : ℕ) (t : Tok) → length ts ≤ i → At (ts ++ us) i t → At us (i - length ts) t
behind ts us i t h g = behind_by (at_either ts us i t g)
  where
    behind_by : At ts i t ⊎ ((j : ℕ) × (i ≡ length ts + j) × At us j t) → At us (i - length ts) t
    behind_by (inl f) = let z : i < length ts = at_below ts i t f in absurd (omega arith)
    behind_by (inr f) =
        let e : i ≡ length ts + f.0 = f.1 in
        let z : i - length ts ≡ f.0 = omega arith in
        rw z f.2

same_number : (m n : ℕ) → (m ≡ n) ⊎ (m ≡ n → ⊥)
same_number m n = by_test (eqb m n) refl
  where
    by_test : (b : Bool) → eqb m n ≡ b → (m ≡ n) ⊎ (m ≡ n → ⊥)
    by_test true e = inl (eqb-true m n e)
    by_test false e = inr (eqb-false m n e)

same_tok : (t u : Tok) → (t ≡ u) ⊎ (t ≡ u → ⊥)
same_tok (tok k a b) (tok l c d) = by_parts (same_number k l) (same_number a c) (same_number b d)
  where
    by_parts : (k ≡ l) ⊎ (k ≡ l → ⊥) → (a ≡ c) ⊎ (a ≡ c → ⊥) → (b ≡ d) ⊎ (b ≡ d → ⊥) → (tok k a b ≡ tok l c d) ⊎ (tok k a b ≡ tok l c d → ⊥)
    by_parts (inr e) f g = inr (λ h. e (cc))
    by_parts (inl e) (inr f) g = inr (λ h. f (cc))
    by_parts (inl e) (inl f) (inr g) = inr (λ h. g (cc))
    by_parts (inl e) (inl f) (inl g) = inl (cc)

module _ (s : List ℕ) (i : ℕ) (t : Tok) (h : length (gave s) ≤ i) where
  abbrev c : Conf
  c = (feed fresh s).next

  -- the text ends here: what stands at the end is all that is left
  ends : (us : List Tok) → (finish c).list ≡ us → (At us (i - length (gave s)) t → ⊥) → Lacks s i t
  ends us e none = ([], no_bytes, λ g. none (behind (gave s) us i t h (rw (list_now s, e) at g)))

  -- or a digit comes
  digit : (u : Tok) → u ≡ t → i - length (gave s) ≡ 0 → (At (whole c (48 ∷ [])).list 0 u → ⊥) → Lacks s i t
  digit u e z none = (48 ∷ [], digit_byte, λ g. none (rw (e, ← z) (behind (gave s) (whole c (48 ∷ [])).list i t h (rw (list_then s (48 ∷ [])) at g))))

  one_by : (u : Tok) → (finish c).list ≡ u ∷ [] → (At (whole c (48 ∷ [])).list 0 u → ⊥) → (u ≡ t) ⊎ (u ≡ t → ⊥) → (i - length (gave s) ≡ 0) ⊎ (i - length (gave s) ≡ 0 → ⊥) → Lacks s i t
  one_by u e f (inl p) (inl z) = digit u p z f
  one_by u e f (inr p) z = ends (u ∷ []) e (λ g. p (single u t (i - length (gave s)) g).1)
  one_by u e f (inl p) (inr z) = ends (u ∷ []) e (λ g. z (single u t (i - length (gave s)) g).0)

  lacking_by : Unsure c.state c.start c.size → Lacks s i t
  lacking_by (inl e) = ends [] e (λ g. g)
  lacking_by (inr w) = one_by w.0 w.1 w.2 (same_tok w.0 t) (same_number (i - length (gave s)) 0)

  -- a token that was not given yet is missing in some continuation
  pub unknown : Lacks s i t
  unknown = lacking_by (unsure c.state c.start c.size)

-- so what every continuation has was given
pub known_only : (s : List ℕ) (i : ℕ) (t : Tok) → ((ys : List ℕ) → Bytes ys → At (tokens_of (s ++ ys)).list i t) → At (gave s) i t
known_only s i t h = only_by (lt_or_ge i (length (gave s)))
  where
    now_by : At (gave s) i t ⊎ ((j : ℕ) × (i ≡ length (gave s) + j) × At (finish (feed fresh s).next).list j t) → i < length (gave s) → At (gave s) i t
    now_by (inl g) l = g
    now_by (inr g) l = let e : i ≡ length (gave s) + g.0 = g.1 in absurd (omega arith)

    only_by : (i < length (gave s)) ⊎ (length (gave s) ≤ i) → At (gave s) i t
    only_by (inl l) = now_by (at_either (gave s) (finish (feed fresh s).next).list i t (rw (list_now s) at (h [] no_bytes))) l
    only_by (inr l) = let u = unknown s i t l in absurd (u.2 (h u.0 u.1))
