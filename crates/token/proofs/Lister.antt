-- Laws of the lister.
use Rattle.std.specs.Prelude.{ℕ, Option, Some, None}
use Prim.Native.Nat.{ℕ, ◌≤◌, ◌<◌}
use mathlib.Core.Path.{◌≡◌, ap}
use mathlib.Core.List.{List}
use native.Mathlib.Omega.{arith}
use lib.Dec.{ltb}
use lib.ListN.{length}
use borrow.Author.Tests.{lt-ltb, le-ltb}
use Rattle.text.specs.Utf8.{first_bad}
use Rattle.text.proofs.Booleans.{choose_by}
use Rattle.text.specs.Limits.{max_text}
use Rattle.token.specs.Tokens.{token_at}
use Rattle.token.specs.Lister.{listed_by, checked_by, next_of, numbers_of, lister}
use Rattle.token.specs.declared.Token.{Token}
use Rattle.token.specs.declared.Listed.{Listed}
use Rattle.token.specs.declared.Listed.TheVariants.{TooLong, NotUtf8, Next}
use Rattle.token.proofs.Bounds.{Inside, token_in}

module _ (s : List ℕ) (at : ℕ) where
  pub next_long : max_text < length s → TooLong ≡ next_of s at
  unfolding next_of
  next_long h = rw (lt-ltb max_text (length s) h)

  module _ (h : length s ≤ max_text) where
    pub next_bad : (p : ℕ) → first_bad s ≡ Some p → NotUtf8 p ≡ next_of s at
    unfolding next_of
    next_bad p e = rw (le-ltb max_text (length s) h, e)

    pub next_good : first_bad s ≡ None → (r : Token) → r ≡ token_at s at → listed_by (length s) r ≡ next_of s at
    unfolding next_of
    next_good e r t = rw (le-ltb max_text (length s) h, e, t)

  -- the answer, and with it its numbers
  pub answered : (r : Listed) → r ≡ next_of s at → (r ≡ next_of s at) × (numbers_of at r ≡ lister s at)
  unfolding lister
  answered r e = (e, ap (numbers_of at) e)

listed_next : (n : ℕ) (r : Token) (k a b : ℕ) → listed_by n r ≡ Next k a b → r ≡ Token.Found k a b
listed_next n (Token.Found c x y) k a b e =
    let p : c ≡ k = cc in
    let q : x ≡ a = cc in
    let r : y ≡ b = cc in
    rw (p, q, r)
listed_next n Token.End k a b e = let z : ◌≡◌ {A = ℕ} 0 1 = cc in absurd (omega arith)
listed_next n (Token.NoToken p) k a b e = let z : ◌≡◌ {A = ℕ} 0 1 = cc in absurd (omega arith)

-- a token that the lister gives lies inside the text, at or after the place
module _ (s : List ℕ) (at k a b : ℕ) where
  by_check : (r : Option ℕ) → checked_by r (λ u. listed_by (length s) (token_at s at)) ≡ Next k a b → Inside s at k a b
  by_check None e = token_in s at k a b (listed_next (length s) (token_at s at) k a b e)
  by_check (Some p) e = let z : ◌≡◌ {A = ℕ} 0 1 = cc in absurd (omega arith)

  pub next_in : next_of s at ≡ Next k a b → Inside s at k a b
  unfolding next_of
  next_in =
      choose_by (λ (x : Listed). x ≡ Next k a b → Inside s at k a b) (ltb max_text (length s)) (λ u. TooLong) _
      (λ l e.
      let z : ◌≡◌ {A = ℕ} 0 1 = cc in
      absurd (omega arith)) (λ l. by_check (first_bad s))
