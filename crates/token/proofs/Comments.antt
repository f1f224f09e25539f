-- Laws of nested comments.
use Rattle.std.specs.Prelude.{ℕ, Option, Some, None}
use Prim.Native.Nat.{ℕ, ◌+◌, ◌-◌, ◌≤◌, ◌<◌}
use mathlib.Core.Path.{◌≡◌, refl, ap, ◌∙◌}
use mathlib.Core.List.{List, ◌∷◌}
use native.Mathlib.Nat.{add_assoc}
use native.Mathlib.Omega.{arith}
use lib.ListN.{length, get_or, drop}
use borrow.Author.Tests.{le-leb, lt-leb}
use Rattle.text.proofs.Tests.{at_byte, at_end}
use Rattle.token.specs.Blanks.{mark_of, further, close_of, comment_blank, past_from}
use Rattle.token.specs.declared.Mark.TheVariants.{Closes, Opens, Neither}

further_further : (a b : ℕ) (r : Option ℕ) → further a (further b r) ≡ further (a + b) r
further_further a b (Some n) = simp add_assoc
further_further a b None = refl

pub close_over : (d : ℕ) (s : List ℕ) (i : ℕ) → length s ≤ i → further i (close_of d (drop i s)) ≡ None
unfolding close_of
close_over d s i h = rw (at_end s i h)

pub close_last : (d : ℕ) (s : List ℕ) (i : ℕ) → i < length s → length s ≤ i + 1 → further i (close_of d (drop i s)) ≡ None
unfolding close_of
close_last d s i h k = rw (at_byte s i h, at_end s (i + 1) k)

module _ (d x y : ℕ) (xs : List ℕ) where
  clause_neither : mark_of x y ≡ Neither → close_of d (x ∷ y ∷ xs) ≡ further 1 (close_of d (y ∷ xs))
  unfolding close_of
  clause_neither m = rw m

  clause_opens : mark_of x y ≡ Opens → close_of d (x ∷ y ∷ xs) ≡ further 2 (close_of (d + 1) xs)
  unfolding close_of
  clause_opens m = rw m

  clause_closes : 1 < d → mark_of x y ≡ Closes → close_of d (x ∷ y ∷ xs) ≡ further 2 (close_of (d - 1) xs)
  unfolding close_of
  clause_closes k m = rw (m, lt-leb d 1 k)

  clause_done : d ≤ 1 → mark_of x y ≡ Closes → close_of d (x ∷ y ∷ xs) ≡ Some 2
  unfolding close_of
  clause_done k m = rw (m, le-leb d 1 k)

-- two bytes of a comment's inside
module _ (d : ℕ) (s : List ℕ) (i : ℕ) (h : i + 1 < length s) where
  at_two : drop i s ≡ get_or s i 0 ∷ get_or s (i + 1) 0 ∷ drop (i + 2) s
  at_two =
      let e : (i + 1) + 1 ≡ i + 2 = omega arith in
      at_byte s i (omega arith) ∙ ap (λ (l : List ℕ). get_or s i 0 ∷ l) (at_byte s (i + 1) h ∙ ap (λ (n : ℕ). get_or s (i + 1) 0 ∷ drop n s) e)

  pub close_neither : mark_of (get_or s i 0) (get_or s (i + 1) 0) ≡ Neither → further i (close_of d (drop i s)) ≡ further (i + 1) (close_of d (drop (i + 1) s))
  close_neither m =
      let e : (i + 1) + 1 ≡ i + 2 = omega arith in
      rw (at_two, at_byte s (i + 1) h, e, clause_neither d _ _ _ m) (further_further i 1 (close_of d (get_or s (i + 1) 0 ∷ drop (i + 2) s)))

  pub close_opens : mark_of (get_or s i 0) (get_or s (i + 1) 0) ≡ Opens → further i (close_of d (drop i s)) ≡ further (i + 2) (close_of (d + 1) (drop (i + 2) s))
  close_opens m = rw (at_two, clause_opens d _ _ _ m) (further_further i 2 (close_of (d + 1) (drop (i + 2) s)))

  pub close_closes : 1 < d → mark_of (get_or s i 0) (get_or s (i + 1) 0) ≡ Closes
      → further i (close_of d (drop i s)) ≡ further (i + 2) (close_of (d - 1) (drop (i + 2) s))
  close_closes k m = rw (at_two, clause_closes d _ _ _ k m) (further_further i 2 (close_of (d - 1) (drop (i + 2) s)))

  pub close_done : d ≤ 1 → mark_of (get_or s i 0) (get_or s (i + 1) 0) ≡ Closes → further i (close_of d (drop i s)) ≡ Some (i + 2)
  close_done k m = rw (at_two, clause_done d _ _ _ k m)

-- the place past a comment that begins at a place: its inside stands two bytes further on
pub comment_closed : (at end : ℕ) (r : Option ℕ) → further (at + 2) r ≡ Some end → end ≡ past_from at (comment_blank r)
comment_closed at end (Some n) e =
    let q : at + 2 + n ≡ end = cc in
    omega arith
comment_closed at end None e = let z : ◌≡◌ {A = ℕ} 0 1 = cc in absurd (omega arith)

pub comment_open : (at : ℕ) (r : Option ℕ) → further (at + 2) r ≡ None → at ≡ past_from at (comment_blank r)
comment_open at (Some n) e = let z : ◌≡◌ {A = ℕ} 0 1 = cc in absurd (omega arith)
comment_open at None e = refl
