-- Laws of the list of tokens.
use Rattle.std.specs.Prelude.{ℕ, Option, Some, None}
use Prim.Native.Nat.{ℕ, zero, suc, ◌+◌, ◌-◌, ◌≤◌, ◌<◌}
use mathlib.Core.Path.{◌≡◌, refl, sym, ap, ◌∙◌}
use mathlib.Core.List.{List, [], ◌∷◌}
use native.Mathlib.Omega.{arith}
use lib.ListN.{length, get_or}
use Rattle.token.specs.Tokens.{token_at}
use Rattle.token.specs.Lists.{Tok, tok, kind_of, start_of, end_of, Tokens, onto, tokens_by, tokens_in, tokens_from, tokens_of, place_from}
use Rattle.token.specs.declared.Token.{Token}
use Rattle.token.specs.declared.Token.TheVariants.{Found, End, NoToken}
use Rattle.token.proofs.Bounds.{Inside, token_in}
use Rattle.token.proofs.Places.{at_over}

-- ---- the law of the list: no bound on how many

by_same : (r : Token) (f g : ℕ → Tokens) → ((k a b : ℕ) → r ≡ Found k a b → f b ≡ g b) → tokens_by r f ≡ tokens_by r g
by_same (Found k a b) f g h = ap (onto (tok k a b ∷ [])) (h k a b refl)
by_same End f g h = refl
by_same (NoToken p) f g h = refl

-- any bound from the number of bytes left on gives the same, since no token is empty
enough : (j k : ℕ) (s : List ℕ) (at : ℕ) → length s ≤ at + j → length s ≤ at + k → tokens_in j s at ≡ tokens_in k s at
unfolding tokens_in
enough zero zero s at h g = refl
enough zero (suc k) s at h g = ap (λ (r : Token). tokens_by r (tokens_in k s)) (at_over s at (omega arith))
enough (suc j) zero s at h g = sym (ap (λ (r : Token). tokens_by r (tokens_in j s)) (at_over s at (omega arith)))
enough (suc j) (suc k) s at h g =
    by_same (token_at s at) _ _
    (λ c a b e.
    let p = token_in s at c a b e in
    enough j k s b (omega arith) (omega arith))

-- so the tokens from a place on are those of any such bound
pub tokens_enough : (k : ℕ) (s : List ℕ) (at : ℕ) → length s ≤ at + k → tokens_in k s at ≡ tokens_from s at
unfolding tokens_from
tokens_enough k s at h = enough k (suc (length s - at)) s at h (omega arith)

-- the tokens from a place on: the token there, and those from its end on; none at the text's end; none and a fault where there is no token
pub tokens_law : (s : List ℕ) (at : ℕ) → tokens_from s at ≡ tokens_by (token_at s at) (tokens_from s)
unfolding tokens_from tokens_in
tokens_law s at =
    by_same (token_at s at) _ _
    (λ c a b e.
    let p = token_in s at c a b e in
    tokens_enough (length s - at) s b (omega arith))

-- and that says what they are
module _ (s : List ℕ) (f : ℕ → Tokens) (law : (at : ℕ) → f at ≡ tokens_by (token_at s at) f) where
  only_in : (k at : ℕ) → length s ≤ at + k → f at ≡ tokens_in k s at
  unfolding tokens_in
  only_in zero at h = law at ∙ sym (ap (λ (r : Token). tokens_by r f) (at_over s at (omega arith)))
  only_in (suc k) at h =
      law at
      ∙ by_same (token_at s at) _ _
      (λ c a b e.
      let p = token_in s at c a b e in
      only_in k b (omega arith))

  pub tokens_only : (at : ℕ) → f at ≡ tokens_from s at
  unfolding tokens_from
  tokens_only at = only_in (suc (length s - at)) at (omega arith)

-- ---- what the list is

-- each token is the one at the end of that before it, the first at a place
abbrev pub Chain : List ℕ → ℕ → List Tok → Type 0
Chain s at [] = Unit {0}
Chain s at (tok k a b ∷ ts) = (token_at s at ≡ Found k a b) × Chain s b ts

chain_by : (s : List ℕ) (at : ℕ) (r : Token) (go : ℕ → Tokens) → token_at s at ≡ r → ((b : ℕ) → Chain s b (go b).list) → Chain s at (tokens_by r go).list
chain_by s at (Found k a b) go e h = (e, h b)
chain_by s at End go e h = tt
chain_by s at (NoToken p) go e h = tt

chain_in : (k : ℕ) (s : List ℕ) (at : ℕ) → Chain s at (tokens_in k s at).list
unfolding tokens_in
chain_in zero s at = tt
chain_in (suc k) s at = chain_by s at (token_at s at) (λ b. tokens_in k s b) refl (λ b. chain_in k s b)

pub chain : (s : List ℕ) → Chain s 0 (tokens_of s).list
unfolding tokens_of tokens_from
chain s = chain_in (suc (length s - 0)) s 0

abbrev pub found_as : Tok → Token
found_as (tok k a b) = Found k a b

index_by : (s : List ℕ) (at : ℕ) (ts : List Tok) (i : ℕ) (d : Tok) → Chain s at ts → i < length ts → token_at s (place_from at ts i) ≡ found_as (get_or ts i d)
index_by s at [] i d h l = absurd (omega arith)
index_by s at (tok k a b ∷ ts) zero d h l = h.0
index_by s at (tok k a b ∷ ts) (suc i) d h l = index_by s b ts i d h.1 (omega arith)

-- the token of an index
pub at_index : (s : List ℕ) (i : ℕ) (d : Tok) → i < length (tokens_of s).list → token_at s (place_from 0 (tokens_of s).list i) ≡ found_as (get_or (tokens_of s).list i d)
at_index s i d l = index_by s 0 (tokens_of s).list i d (chain s) l

inside_as : (s : List ℕ) (at : ℕ) (t : Tok) → token_at s at ≡ found_as t → Inside s at (kind_of t) (start_of t) (end_of t)
inside_as s at (tok k a b) e = token_in s at k a b e

-- and what is known of it
pub inside_at : (s : List ℕ) (i : ℕ) (d : Tok) → i < length (tokens_of s).list
    → Inside s (place_from 0 (tokens_of s).list i) (kind_of (get_or (tokens_of s).list i d)) (start_of (get_or (tokens_of s).list i d)) (end_of (get_or (tokens_of s).list i d))
inside_at s i d l = inside_as s (place_from 0 (tokens_of s).list i) (get_or (tokens_of s).list i d) (at_index s i d l)

abbrev pub ended_by : Option ℕ → Token
ended_by None = End
ended_by (Some p) = NoToken p

abbrev Ended : List ℕ → ℕ → Tokens → Type 0
Ended s at r = token_at s (place_from at r.list (length r.list)) ≡ ended_by r.fault

ended_by_lem : (s : List ℕ) (at : ℕ) (r : Token) (go : ℕ → Tokens) → token_at s at ≡ r → ((k a b : ℕ) → token_at s at ≡ Found k a b → Ended s b (go b)) → Ended s at (tokens_by r go)
ended_by_lem s at (Found k a b) go e h = h k a b e
ended_by_lem s at End go e h = e
ended_by_lem s at (NoToken p) go e h = e

ended_in : (k : ℕ) (s : List ℕ) (at : ℕ) → length s - at < k → Ended s at (tokens_in k s at)
unfolding tokens_in
ended_in zero s at h = absurd (omega arith)
ended_in (suc k) s at h =
    ended_by_lem s at (token_at s at) (λ b. tokens_in k s b) refl
    (λ c a b e.
    let p = token_in s at c a b e in
    ended_in k s b (omega arith))

-- past the last token: the text's end, or no token
pub ended : (s : List ℕ) → token_at s (place_from 0 (tokens_of s).list (length (tokens_of s).list)) ≡ ended_by (tokens_of s).fault
unfolding tokens_of tokens_from
ended s = ended_in (suc (length s - 0)) s 0 (omega arith)

-- tokens of known kinds stand one after the other, none empty, up to a size
abbrev pub Ordered : ℕ → ℕ → List Tok → Type 0
Ordered size from [] = Unit {0}
Ordered size from (tok k a b ∷ ts) = (1 ≤ k) × (k ≤ 27) × (from ≤ a) × (a < b) × (b ≤ size) × Ordered size b ts

order_by : (s : List ℕ) (at : ℕ) (ts : List Tok) → Chain s at ts → Ordered (length s) at ts
order_by s at [] h = tt
order_by s at (tok k a b ∷ ts) h =
    let p = token_in s at k a b h.0 in
    (p.named, p.known, p.after, p.some, p.within, order_by s b ts h.1)

pub ordered : (s : List ℕ) → Ordered (length s) 0 (tokens_of s).list
ordered s = order_by s 0 (tokens_of s).list (chain s)

few_by : (size from : ℕ) (ts : List Tok) → from ≤ size → Ordered size from ts → from + length ts ≤ size
few_by size from [] l h = omega arith
few_by size from (tok k a b ∷ ts) l h =
    let r : b + length ts ≤ size = few_by size b ts h.4 h.5 in
    omega (arith, h.2, h.3)

-- no more tokens than bytes
pub few : (s : List ℕ) → length (tokens_of s).list ≤ length s
few s = omega (arith, few_by (length s) 0 (tokens_of s).list (omega arith) (ordered s))
