-- What is found lies inside what is left of a text.
use Rattle.std.specs.Prelude.{ℕ, Option, Some, None}
use Prim.Native.Nat.{ℕ, zero, suc, ◌+◌, ◌≤◌, ◌<◌}
use mathlib.Core.Path.{◌≡◌, refl, sym}
use mathlib.Core.Bool.{true}
use mathlib.Core.List.{List, [], ◌∷◌}
use native.Mathlib.Omega.{arith}
use lib.Dec.{ltb, eqb}
use lib.ListN.{length, drop, length-drop}
use borrow.Author.Tests.{ltb-true, eqb-true, ne_eqb}
use Rattle.text.specs.Booleans.{choose, next_is}
use Rattle.text.specs.Classes.{class_of, ones}
use Rattle.text.specs.Words.{in_word, starts_word}
use Rattle.text.specs.Scans.{later, sought_by, sought}
use Rattle.text.specs.Utf8.{char_of}
use Rattle.text.proofs.Decodes.{decoded}
use Rattle.text.proofs.Booleans.{choose_by}
use Rattle.literal.specs.Escapes.{escape_of}
use Rattle.literal.proofs.Escaped.{meant}
use Rattle.token.specs.Blanks.{first, in_digits, in_line, words, digit_run, zeros, line, blank_of}
use Rattle.token.specs.Tokens.{moved, allowed, word_token, tag_token, number_token, minus_token, dots_token, inside_look, string_by, string_of, insens_token, quoted, escaped_by, raw_by, char_token, doc_token, opener_token, place_in, one_kind, token_by, first_token, past_blanks, token_of, token_at}
use Rattle.token.specs.declared.Token.{Token}
use Rattle.token.specs.declared.Token.TheVariants.{Found, End, NoToken}
use Rattle.token.proofs.Runs.{run_in, run_some}

-- ---- where a walk stops there is a byte

abbrev Before : ℕ → Option ℕ → Type 0
Before m None = Unit {0}
Before m (Some n) = n < m

one_later : (m : ℕ) (r : Option ℕ) → Before m r → Before (suc m) (later 1 r)
one_later m None h = tt
one_later m (Some n) h = omega arith

by_look : (r : Option ℕ) (m : ℕ) (f : ℕ → Option ℕ) → ((k : ℕ) → Before m (f k)) → Before (suc m) (sought_by r f)
by_look None m f h = omega arith
by_look (Some n) m f h = one_later m (f n) (h n)

stops_in : (p : List ℕ → Option ℕ) (k : ℕ) (xs : List ℕ) → Before (length xs) (sought p k xs)
unfolding sought
stops_in p k [] = tt
stops_in p (suc k) (x ∷ xs) = one_later (length xs) (sought p k xs) (stops_in p k xs)
stops_in p zero (x ∷ xs) = by_look (p (x ∷ xs)) (length xs) (λ n. sought p n xs) (λ n. stops_in p n xs)

stop_by : (m : ℕ) (r : Option ℕ) (at i : ℕ) → Before m r → later at r ≡ Some i → (n : ℕ) × (r ≡ Some n) × (i ≡ at + n) × (n < m)
stop_by m None at i h e = let z : ◌≡◌ {A = ℕ} 0 1 = cc in absurd (omega arith)
stop_by m (Some n) at i h e = (n, refl, cc, h)

-- a walk that began at a place and stopped at another
pub stop_at : (p : List ℕ → Option ℕ) (s : List ℕ) (at i : ℕ) → later at (sought p 0 (drop at s)) ≡ Some i
    → (n : ℕ) × (sought p 0 (drop at s) ≡ Some n) × (i ≡ at + n) × (n < length (drop at s))
stop_at p s at i e = stop_by (length (drop at s)) (sought p 0 (drop at s)) at i (stops_in p 0 (drop at s)) e

-- ---- tokens

-- the fewest bytes that a token of a kind has: a tag, a negative number, `..`, a string, a `^` string, a character literal, any other
unfoldable pub least : ℕ → ℕ
least k =
    choose (eqb k 19) (λ u. 2)
    (λ u. choose (eqb k 21) (λ u. 2)
    (λ u. choose (eqb k 22) (λ u. 2)
    (λ u. choose (eqb k 23) (λ u. 2) (λ u. choose (eqb k 24) (λ u. 3) (λ u. choose (eqb k 25) (λ u. 3) (λ u. 1))))))

least_some : (k : ℕ) → 1 ≤ least k
unfolding least
least_some k =
    let P : ℕ → Type 0 = λ n. 1 ≤ n in
    choose_by P (eqb k 19) _ _ (λ e. omega arith)
    (λ e. choose_by P (eqb k 21) _ _ (λ e. omega arith)
    (λ e. choose_by P (eqb k 22) _ _ (λ e. omega arith)
    (λ e. choose_by P (eqb k 23) _ _ (λ e. omega arith)
    (λ e. choose_by P (eqb k 24) _ _ (λ e. omega arith) (λ e. choose_by P (eqb k 25) _ _ (λ e. omega arith) (λ e. omega arith))))))

-- a token of m bytes at most, of a kind from 1 to 27; or a place among them
abbrev In : ℕ → Token → Type 0
In m (Found k a b) = (1 ≤ k) × (k ≤ 27) × (a + least k ≤ b) × (b ≤ m)
In m End = Unit {0}
In m (NoToken p) = p < m

wider : (m n : ℕ) (r : Token) → m ≤ n → In m r → In n r
wider m n (Found k a b) h w = (w.0, w.1, w.2, omega arith)
wider m n End h w = tt
wider m n (NoToken p) h w = omega arith

in_moved : (k m : ℕ) (r : Token) → In m r → In (k + m) (moved k r)
in_moved k m (Found c a b) h = (h.0, h.1, omega arith, omega arith)
in_moved k m End h = tt
in_moved k m (NoToken p) h = omega arith

some_first : (b : ℕ) (xs : List ℕ) → next_is b xs ≡ true → 0 < length xs
some_first b [] e = let z : ◌≡◌ {A = ℕ} 0 1 = cc in absurd (omega arith)
some_first b (x ∷ xs) e = omega arith

pub some_next : (b n : ℕ) (xs : List ℕ) → next_is b (drop n xs) ≡ true → n < length xs
some_next b n xs e = omega (arith, some_first b (drop n xs) e, length-drop n xs)

string_by_lem : (kind k : ℕ) (xs : List ℕ) (r : Option ℕ) → 1 ≤ kind → kind ≤ 27 → 0 < k → least kind ≤ k + 1 → Before (length xs) r → In (k + length xs) (string_by kind k xs r)
string_by_lem kind k xs None l h p f b = omega arith
string_by_lem kind k xs (Some n) l h p f b =
    choose_by (In (k + length xs)) (next_is 34 (drop n xs)) _ _ (λ e. (l, h, omega arith, omega arith)) (λ e. omega arith)

string_in : (kind k : ℕ) (xs : List ℕ) → 1 ≤ kind → kind ≤ 27 → 0 < k → least kind ≤ k + 1 → In (k + length xs) (string_of kind k xs)
unfolding string_of
string_in kind k xs l h p f = string_by_lem kind k xs (sought inside_look 0 xs) l h p f (stops_in inside_look 0 xs)

-- what an opener begins; the opener is one byte more
module _ (xs : List ℕ) where
  abbrev One : Token → Type 0
  One = In (1 + length xs)

  quoted_in : (n : ℕ) → 1 ≤ n → One (quoted n xs)
  unfolding quoted least
  quoted_in n l = choose_by One (next_is 39 (drop n xs)) _ _ (λ e. (omega arith, omega arith, omega arith, omega (arith, some_next 39 n xs e))) (λ e. omega arith)

  escaped_in : (r : Option (ℕ × ℕ)) → next_is 92 xs ≡ true → escape_of xs ≡ r → One (escaped_by xs r)
  escaped_in (Some (c, n)) b e = quoted_in n (omega (arith, (meant xs c n e).two))
  escaped_in None b e = omega (arith, some_first 92 xs b)

  raw_in : (r : Option (ℕ × ℕ)) → char_of xs ≡ r → One (raw_by xs r)
  raw_in (Some (c, n)) e = quoted_in n (decoded xs c n e).some
  raw_in None e = omega arith

  char_in : One (char_token xs)
  unfolding char_token
  char_in = choose_by One (next_is 92 xs) _ _ (λ e. escaped_in (escape_of xs) e refl) (λ e. raw_in (char_of xs) refl)

  insens_in : One (insens_token xs)
  unfolding insens_token least
  insens_in =
      choose_by One (next_is 34 xs) _ _
      (λ e. wider (2 + length (drop 1 xs)) (1 + length xs) (string_of 24 2 (drop 1 xs)) (omega (arith, some_first 34 xs e, length-drop 1 xs)) (string_in 24 2 (drop 1 xs) (omega arith) (omega arith) (omega arith) (omega arith)))
      (λ e. omega arith)

  tag_some : (ys : List ℕ) → first starts_word ys ≡ true → 0 < words ys
  tag_some [] e = let z : ◌≡◌ {A = ℕ} 0 1 = cc in absurd (omega arith)
  tag_some (y ∷ ys) e = run_some (first in_word) y ys (rw e)

  tag_in : One (tag_token xs)
  unfolding tag_token least
  tag_in = choose_by One (first starts_word xs) _ _ (λ e. (omega arith, omega arith, omega (arith, tag_some xs e), omega (arith, run_in (first in_word) xs))) (λ e. omega arith)

  dots_in : One (dots_token xs)
  unfolding dots_token least
  dots_in = choose_by One (next_is 46 xs) _ _ (λ e. (omega arith, omega arith, omega arith, omega (arith, some_first 46 xs e))) (λ e. omega arith)

  minus_in : One (minus_token xs)
  unfolding minus_token least
  minus_in = choose_by One (ltb (zeros xs) (digit_run xs)) _ _ (λ e. (omega arith, omega arith, omega (arith, ltb-true (zeros xs) (digit_run xs) e), omega (arith, run_in (first in_digits) xs))) (λ e. omega arith)

  doc_in : One (doc_token xs)
  unfolding doc_token least
  doc_in =
      let l : line xs ≤ length xs = run_in in_line xs in
      choose_by One (next_is 47 xs) _ _
      (λ e. choose_by One (next_is 33 (drop 1 xs)) _ _ (λ q. (omega arith, omega arith, omega arith, omega arith))
      (λ q. choose_by One (next_is 47 (drop 1 xs)) _ _ (λ r. (omega arith, omega arith, omega arith, omega arith)) (λ r. omega arith)))
      (λ e. omega arith)

  opener_in : (x : ℕ) → One (opener_token x xs)
  unfolding opener_token least
  opener_in x =
      choose_by One (eqb x 34) _ _ (λ e. string_in 23 1 xs (omega arith) (omega arith) (omega arith) (omega arith))
      (λ e. choose_by One (eqb x 39) _ _ (λ e. char_in)
      (λ e. choose_by One (eqb x 94) _ _ (λ e. insens_in)
      (λ e. choose_by One (eqb x 35) _ _ (λ e. tag_in)
      (λ e. choose_by One (eqb x 46) _ _ (λ e. dots_in)
      (λ e. choose_by One (eqb x 47) _ _ (λ e. doc_in) (λ e. choose_by One (eqb x 45) _ _ (λ e. minus_in) (λ e. omega arith)))))))

place_in_lem : (xs : List ℕ) (b : ℕ) → place_in xs b ≤ length xs
place_in_lem [] b = omega arith
place_in_lem (x ∷ xs) b =
    let k : place_in xs b ≤ length xs = place_in_lem xs b in
    choose_by (λ (n : ℕ). n ≤ suc (length xs)) (eqb b x) _ _ (λ e. omega arith) (λ e. omega arith)

kind_in : (b : ℕ) → (1 ≤ one_kind b) × (one_kind b ≤ 18)
unfolding one_kind
kind_in b = (omega arith, omega (arith, place_in_lem ones b))

least_low : (k : ℕ) → k ≤ 18 → least k ≡ 1
unfolding least
least_low k h =
    rw (ne_eqb k 19 (λ e. omega arith), ne_eqb k 21 (λ e. omega arith), ne_eqb k 22 (λ e. omega arith), ne_eqb k 23 (λ e. omega arith), ne_eqb k 24 (λ e. omega arith), ne_eqb k 25 (λ e. omega arith))

word_in : (x : ℕ) (xs : List ℕ) → class_of x ≡ 2 → In (1 + length xs) (word_token (x ∷ xs))
unfolding word_token least
word_in x xs e =
    let l : words (x ∷ xs) ≤ suc (length xs) = run_in (first in_word) (x ∷ xs) in
    let m : 0 < words (x ∷ xs) = run_some (first in_word) x xs (rw e refl) in
    choose_by (In (1 + length xs)) (allowed (words (x ∷ xs)) (x ∷ xs)) _ _ (λ e. (omega arith, omega arith, omega arith, omega arith)) (λ e. omega arith)

number_in : (x : ℕ) (xs : List ℕ) → class_of x ≡ 3 → In (1 + length xs) (number_token (x ∷ xs))
unfolding number_token least
number_in x xs e =
    let l : digit_run (x ∷ xs) ≤ suc (length xs) = run_in (first in_digits) (x ∷ xs) in
    let m : 0 < digit_run (x ∷ xs) = run_some (first in_digits) x xs (rw e refl) in
    (omega arith, omega arith, omega arith, omega arith)

first_in : (xs : List ℕ) → In (length xs) (first_token xs)
unfolding token_by
first_in [] = tt
first_in (x ∷ xs) =
    let w : 1 + length xs ≤ length (x ∷ xs) = omega arith in
    let k = kind_in x in
    choose_by (In (length (x ∷ xs))) (eqb (class_of x) 2) _ _ (λ e. wider (1 + length xs) (length (x ∷ xs)) (word_token (x ∷ xs)) w (word_in x xs (eqb-true (class_of x) 2 e)))
    (λ e. choose_by (In (length (x ∷ xs))) (eqb (class_of x) 3) _ _ (λ e. wider (1 + length xs) (length (x ∷ xs)) (number_token (x ∷ xs)) w (number_in x xs (eqb-true (class_of x) 3 e)))
    (λ e. choose_by (In (length (x ∷ xs))) (eqb (class_of x) 4) _ _ (λ e. (k.0, omega arith, omega (arith, least_low (one_kind x) k.1), omega arith))
    (λ e. choose_by (In (length (x ∷ xs))) (eqb (class_of x) 5) _ _ (λ e. wider (1 + length xs) (length (x ∷ xs)) (opener_token x xs) w (opener_in xs x)) (λ e. omega arith))))

past_in : (xs : List ℕ) (r : Option ℕ) → Before (length xs) r → In (length xs) (past_blanks xs r)
past_in xs None h = tt
past_in xs (Some n) h =
    wider (n + length (drop n xs)) (length xs) (moved n (first_token (drop n xs))) (omega (arith, length-drop n xs)) (in_moved n (length (drop n xs)) (first_token (drop n xs)) (first_in (drop n xs)))

token_of_in : (xs : List ℕ) → In (length xs) (token_of xs)
unfolding token_of
token_of_in xs = past_in xs (sought blank_of 0 xs) (stops_in blank_of 0 xs)

-- what a caller knows of a token found at or after a place
pub record Inside (s : List ℕ) (at kind start end : ℕ) : Type 0 where
  pub named : 1 ≤ kind
  pub known : kind ≤ 27
  pub after : at ≤ start
  pub some : start < end
  pub long : start + least kind ≤ end
  pub within : end ≤ length s

inside_by : (s : List ℕ) (at : ℕ) (r : Token) (k a b : ℕ) → In (length (drop at s)) r → moved at r ≡ Found k a b → Inside s at k a b
inside_by s at (Found c x y) k a b h e =
    let p : c ≡ k = cc in
    let q : at + x ≡ a = cc in
    let r : at + y ≡ b = cc in
    let l = length-drop at s in
    let f = least_some c in
    record {
      named = omega arith;
      known = omega arith;
      after = omega arith;
      some = omega arith;
      long = rw (sym p) (omega arith);
      within = omega arith;
    }
inside_by s at End k a b h e = let z : ◌≡◌ {A = ℕ} 0 1 = cc in absurd (omega arith)
inside_by s at (NoToken p) k a b h e = let z : ◌≡◌ {A = ℕ} 0 1 = cc in absurd (omega arith)

pub token_in : (s : List ℕ) (at k a b : ℕ) → token_at s at ≡ Found k a b → Inside s at k a b
unfolding token_at
token_in s at k a b e = inside_by s at (token_of (drop at s)) k a b (token_of_in (drop at s)) e

none_by : (s : List ℕ) (at : ℕ) (r : Token) (p : ℕ) → In (length (drop at s)) r → moved at r ≡ NoToken p → (at ≤ p) × (p < length s)
none_by s at (NoToken x) p h e =
    let q : at + x ≡ p = cc in
    let l = length-drop at s in
    (omega arith, omega arith)
none_by s at End p h e = let z : ◌≡◌ {A = ℕ} 0 1 = cc in absurd (omega arith)
none_by s at (Found k a b) p h e = let z : ◌≡◌ {A = ℕ} 0 1 = cc in absurd (omega arith)

-- and of a place where there is none
pub none_in : (s : List ℕ) (at p : ℕ) → token_at s at ≡ NoToken p → (at ≤ p) × (p < length s)
unfolding token_at
none_in s at p e = none_by s at (token_of (drop at s)) p (token_of_in (drop at s)) e
