-- The tokens of what is left, its first byte at a place: the list by suffixes.
use Rattle.std.specs.Prelude.{ℕ, Option, Some, None}
use Prim.Native.Nat.{ℕ, zero, suc, ◌+◌, ◌-◌, ◌≤◌, ◌<◌}
use mathlib.Core.Path.{◌≡◌, refl, sym, ap, ◌∙◌}
use mathlib.Core.List.{List, [], ◌∷◌}
use native.Mathlib.Nat.{zero-add, add-zero}
use native.Mathlib.Omega.{arith}
use lib.ListN.{length, drop, length-drop}
use lib.Seq.{drop-drop}
use Rattle.text.specs.Scans.{later, sought}
use Rattle.text.proofs.Walks.{sought_pending, past_head, later_later}
use Rattle.token.specs.Blanks.{blank_of}
use Rattle.token.specs.Tokens.{moved, past_blanks, token_of, token_at, first_token}
use Rattle.token.specs.Lists.{tok, Tokens, onto, tokens_by, tokens_in, tokens_from, tokens_of}
use Rattle.token.specs.declared.Token.{Token}
use Rattle.token.specs.declared.Token.TheVariants.{Found, End, NoToken}
use Rattle.token.proofs.Bounds.{token_in}
use Rattle.token.proofs.Places.{moved_moved, token_is}
use Rattle.states.specs.Machine.{no_more, fault_at}

unfoldable pub from_in : ℕ → ℕ → List ℕ → Tokens
from_in zero a rest = no_more
from_in (suc k) a rest = tokens_by (moved a (token_of rest)) (λ e. from_in k e (drop (e - a) rest))

unfoldable pub from : ℕ → List ℕ → Tokens
from a rest = from_in (suc (length rest)) a rest

-- a token that starts at a, of which n bytes were seen before what is left, and those after it
abbrev pub ended : ℕ → ℕ → List ℕ → Token → Tokens
ended a n rest End = no_more
ended a n rest (NoToken p) = fault_at (a + p)
ended a n rest (Found k s e) = onto (tok k (a + s) (a + e) ∷ []) (from (a + e) (drop (e - n) rest))

same_by : (r : Token) (f g : ℕ → Tokens) → ((k a b : ℕ) → r ≡ Found k a b → f b ≡ g b) → tokens_by r f ≡ tokens_by r g
same_by (Found k a b) f g h = ap (onto (tok k a b ∷ [])) (h k a b refl)
same_by End f g h = refl
same_by (NoToken p) f g h = refl

pub moved_zero : (t : Token) → moved 0 t ≡ t
moved_zero (Found k s e) = rw (zero-add s, zero-add e)
moved_zero End = refl
moved_zero (NoToken p) = rw (zero-add p)

found_in : (rest : List ℕ) (k s e : ℕ) → token_of rest ≡ Found k s e → (0 < e) × (e ≤ length rest)
found_in rest k s e q =
    let p = token_in rest 0 k s e (token_is rest 0 ∙ moved_zero (token_of rest) ∙ q) in
    (omega arith, p.within)

found_by_lem : (a : ℕ) (rest : List ℕ) (t : Token) (k s e : ℕ) → token_of rest ≡ t → moved a t ≡ Found k s e → (a < e) × (e ≤ a + length rest)
found_by_lem a rest (Found c x y) k s e q m =
    let h = found_in rest c x y q in
    let z : a + y ≡ e = cc in
    let u : 0 < y = h.0 in
    let v : y ≤ length rest = h.1 in
    (omega arith, omega arith)
found_by_lem a rest End k s e q m = let z : ◌≡◌ {A = ℕ} 0 1 = cc in absurd (omega arith)
found_by_lem a rest (NoToken p) k s e q m = let z : ◌≡◌ {A = ℕ} 0 1 = cc in absurd (omega arith)

found_at : (a : ℕ) (rest : List ℕ) (k s e : ℕ) → moved a (token_of rest) ≡ Found k s e → (a < e) × (e ≤ a + length rest)
found_at a rest k s e m = found_by_lem a rest (token_of rest) k s e refl m

enough : (j k a : ℕ) (rest : List ℕ) → length rest < j → length rest < k → from_in j a rest ≡ from_in k a rest
unfolding from_in
enough zero k a rest h g = absurd (omega arith)
enough (suc j) zero a rest h g = absurd (omega arith)
enough (suc j) (suc k) a rest h g =
    same_by (moved a (token_of rest)) _ _
    (λ c s e q.
    let p = found_at a rest c s e q in
    let u : a < e = p.0 in
    let v : e ≤ a + length rest = p.1 in
    let l : length (drop (e - a) rest) ≡ length rest - (e - a) = length-drop (e - a) rest in
    enough j k e (drop (e - a) rest) (omega arith) (omega arith))

law_by : (a : ℕ) (rest : List ℕ) (t : Token) → token_of rest ≡ t → tokens_by (moved a t) (λ e. from_in (length rest) e (drop (e - a) rest)) ≡ ended a 0 rest t
unfolding from
law_by a rest (Found k s e) q =
    let h = found_in rest k s e q in
    let u : 0 < e = h.0 in
    let v : e ≤ length rest = h.1 in
    let i : (a + e) - a ≡ e = omega arith in
    let o : e - 0 ≡ e = omega arith in
    let l : length (drop e rest) ≡ length rest - e = length-drop e rest in
    rw (i, o) (ap (onto (tok k (a + s) (a + e) ∷ [])) (enough (length rest) (suc (length (drop e rest))) (a + e) (drop e rest) (omega arith) (omega arith)))
law_by a rest End q = refl
law_by a rest (NoToken p) q = refl

pub from_law : (a : ℕ) (rest : List ℕ) → from a rest ≡ ended a 0 rest (token_of rest)
unfolding from from_in
from_law a rest = law_by a rest (token_of rest) refl

in_text : (k : ℕ) (s : List ℕ) (a : ℕ) → from_in k a (drop a s) ≡ tokens_in k s a
unfolding from_in tokens_in token_at
in_text zero s a = refl
in_text (suc k) s a =
    same_by (moved a (token_of (drop a s))) _ _
    (λ c b e q.
    let p = found_at a (drop a s) c b e q in
    let u : a < e = p.0 in
    let z : a + (e - a) ≡ e = omega arith in
    ap (from_in k e) (drop-drop (e - a) a s ∙ ap (λ (n : ℕ). drop n s) z) ∙ in_text k s e)

pub from_text : (s : List ℕ) → from 0 s ≡ tokens_of s
unfolding from tokens_of tokens_from
from_text s =
    let z : length s - 0 ≡ length s = omega arith in
    rw z (in_text (suc (length s)) s 0)

pub from_end : (a : ℕ) → from a [] ≡ no_more
unfolding from from_in token_of sought
from_end a = refl

-- ---- one byte further on

abbrev pub Beyond : ℕ → Token → Type 0
Beyond n (Found k s e) = n < e
Beyond n End = Unit {0}
Beyond n (NoToken p) = Unit {0}

pub ended_next : (a n x : ℕ) (rest : List ℕ) (t : Token) → Beyond n t → ended a n (x ∷ rest) t ≡ ended a (suc n) rest t
ended_next a n x rest (Found k s e) h =
    let z : e - n ≡ suc (e - suc n) = omega arith in
    rw z
ended_next a n x rest End h = refl
ended_next a n x rest (NoToken p) h = refl

pub none : (a n : ℕ) (rest : List ℕ) → ended a n rest (NoToken 0) ≡ fault_at a
none a n rest = rw (add-zero a)

-- ---- blanks

past_later : (m : ℕ) (xs : List ℕ) (r : Option ℕ) → past_blanks xs (later m r) ≡ moved m (past_blanks (drop m xs) r)
past_later m xs None = refl
past_later m xs (Some k) = rw (moved_moved m k (first_token (drop k (drop m xs))), drop-drop k m xs)

token_past : (x : ℕ) (xs : List ℕ) (n : ℕ) → blank_of (x ∷ xs) ≡ Some n → token_of (x ∷ xs) ≡ moved (suc n) (token_of (drop n xs))
unfolding token_of
token_past x xs n h =
    let z : 1 + n ≡ suc n = omega arith in
    let e : sought blank_of 0 (x ∷ xs) ≡ later (suc n) (sought blank_of 0 (drop n xs)) =
    past_head blank_of x xs n h ∙ ap (later 1) (sought_pending blank_of n xs) ∙ later_later 1 n (sought blank_of 0 (drop n xs)) ∙ ap (λ (k : ℕ). later k (sought blank_of 0 (drop n xs))) z in
    rw e (past_later (suc n) (x ∷ xs) (sought blank_of 0 (drop n xs)))

ended_moved : (a n : ℕ) (x : ℕ) (xs : List ℕ) (t : Token) → ended a 0 (x ∷ xs) (moved (suc n) t) ≡ ended (a + suc n) 0 (drop n xs) t
ended_moved a n x xs (Found k s e) =
    let i : a + (suc n + s) ≡ (a + suc n) + s = omega arith in
    let j : a + (suc n + e) ≡ (a + suc n) + e = omega arith in
    let l : (suc n + e) - 0 ≡ suc (n + e) = omega arith in
    let m : e - 0 ≡ e = omega arith in
    rw (i, j, l, m, drop-drop e n xs)
ended_moved a n x xs End = refl
ended_moved a n x xs (NoToken p) =
    let i : a + (suc n + p) ≡ (a + suc n) + p = omega arith in
    rw i

-- a blank that stands first is passed
pub from_blank : (a x : ℕ) (xs : List ℕ) (n : ℕ) → blank_of (x ∷ xs) ≡ Some n → from a (x ∷ xs) ≡ from (a + suc n) (drop n xs)
from_blank a x xs n h =
    from_law a (x ∷ xs) ∙ ap (ended a 0 (x ∷ xs)) (token_past x xs n h) ∙ ended_moved a n x xs (token_of (drop n xs)) ∙ sym (from_law (a + suc n) (drop n xs))

token_first : (x : ℕ) (xs : List ℕ) → blank_of (x ∷ xs) ≡ None → token_of (x ∷ xs) ≡ first_token (x ∷ xs)
unfolding token_of sought
token_first x xs h = rw h (moved_zero (first_token (x ∷ xs)))

-- a token that stands first
pub from_first : (a x : ℕ) (xs : List ℕ) (t : Token) → blank_of (x ∷ xs) ≡ None → first_token (x ∷ xs) ≡ t → from a (x ∷ xs) ≡ ended a 0 (x ∷ xs) t
from_first a x xs t h e = from_law a (x ∷ xs) ∙ ap (ended a 0 (x ∷ xs)) (token_first x xs h ∙ e)

pub next_two : (a x y : ℕ) (rest : List ℕ) (t : Token) → Beyond 0 t → Beyond 1 t → ended a 0 (x ∷ y ∷ rest) t ≡ ended a 2 rest t
next_two a x y rest t h g = ended_next a 0 x (y ∷ rest) t h ∙ ended_next a 1 y rest t g

-- several bytes further on
pub ended_drop : (a n m x : ℕ) (rest : List ℕ) (t : Token) → Beyond (suc n + m) t → ended a n (x ∷ rest) t ≡ ended a (suc n + m) (drop m rest) t
ended_drop a n m x rest (Found k s e) h =
    let z : e - n ≡ suc (m + (e - (suc n + m))) = omega arith in
    rw (z, drop-drop (e - (suc n + m)) m rest)
ended_drop a n m x rest End h = refl
ended_drop a n m x rest (NoToken p) h = refl
