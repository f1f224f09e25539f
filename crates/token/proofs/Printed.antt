-- Which token a printed piece is, whatever stands behind it; and the list of tokens, piece by piece.
use Rattle.std.specs.Prelude.{ℕ, Option, Some, None}
use Prim.Native.Nat.{ℕ, zero, suc, ◌+◌, ◌/◌, ◌%◌, ◌≤◌, ◌<◌}
use mathlib.Core.Path.{◌≡◌, refl, sym, ap, ◌∙◌}
use mathlib.Core.Bool.{Bool, true, false}
use mathlib.Core.List.{List, [], ◌∷◌, ◌++◌, append_assoc}
use mathlib.Core.Logic.{⊎_elim}
use native.Mathlib.Nat.{add-zero, zero-add, mod-lt}
use native.Mathlib.Omega.{arith}
use lib.Dec.{T, eqb, eqb→eq}
use lib.ListN.{length, get_or, drop, length-append}
use lib.Seq.{drop_at}
use borrow.Author.Tests.{lt-ltb, eqb-true, ne_eqb}
use Rattle.text.specs.Booleans.{choose, and, next_is, all}
use Rattle.text.specs.Classes.{class_of, classes, digit}
use Rattle.text.specs.Words.{starts_word, in_word, begins, push}
use Rattle.text.specs.Scans.{sought}
use Rattle.text.specs.Utf8.{scalar, char_of, encoded, first_bad}
use Rattle.text.specs.Digits.{decimal}
use Rattle.text.proofs.Encodes.{encoded_read}
use Rattle.text.proofs.Tests.{lt_or_ge, within_yes, within_is}
use Rattle.text.proofs.Decimals.{decimal_one, decimal_more, decimal_nonempty}
use Rattle.text.proofs.Table.{at}
use Rattle.text.proofs.Tables.{class_rule}
use Rattle.text.proofs.Booleans.{and_true}
use Rattle.literal.specs.Escapes.{escape_of, after_of, simple_of}
use Rattle.literal.specs.Literals.{inside, literal}
use Rattle.literal.proofs.Escaped.{Each}
use Rattle.literal.proofs.Pieces.{encoded_some, encoded_free}
use Rattle.literal.proofs.Stands.{Stands, escape, itself}
use Rattle.literal.proofs.Back.{PastEscapes, PastBytes, plain_byte, bytes_over_inside}
use Rattle.token.specs.Blanks.{run, first, in_digits, is_zero, words, digit_run, opener_blank}
use Rattle.token.specs.Tokens.{moved, push_literal, allowed, word_token, tag_token, minus_token, dots_token, inside_look, string_of, insens_token, quoted, char_token, opener_token, one_kind, token_of, token_at}
use Rattle.token.specs.Lists.{tok, onto, tokens_by, tokens_from}
use Rattle.token.specs.declared.Token.{Token}
use Rattle.token.specs.declared.Token.TheVariants.{Found, End, NoToken}
use Rattle.token.proofs.Places.{at_over, at_blank, at_word, at_number, at_one, at_opener, token_is}
use Rattle.token.proofs.Lists.{tokens_law}

moved_zero : (r : Token) → moved 0 r ≡ r
moved_zero (Found k a b) = simp zero-add
moved_zero End = refl
moved_zero (NoToken p) = simp zero-add

at_front : (s : List ℕ) → token_at s 0 ≡ token_of s
at_front s = token_is s 0 ∙ moved_zero (token_of s)

-- ---- by the class of the first byte

module _ (x : ℕ) (xs : List ℕ) where
  pub one_piece : class_of x ≡ 4 → token_of (x ∷ xs) ≡ Found (one_kind x) 0 1
  one_piece e = sym (at_front (x ∷ xs)) ∙ sym (at_one (x ∷ xs) 0 (omega arith) 4 (sym e) refl (one_kind x) refl)

  word_first : class_of x ≡ 2 → token_of (x ∷ xs) ≡ word_token (x ∷ xs)
  word_first e = sym (at_front (x ∷ xs)) ∙ sym (at_word (x ∷ xs) 0 (omega arith) 2 (sym e) refl (word_token (x ∷ xs)) (sym (moved_zero (word_token (x ∷ xs)))))

  number_first : class_of x ≡ 3 → token_of (x ∷ xs) ≡ Found 20 0 (digit_run (x ∷ xs))
  number_first e = sym (at_front (x ∷ xs)) ∙ sym (at_number (x ∷ xs) 0 (omega arith) 3 (sym e) refl (digit_run (x ∷ xs)) (sym (zero-add (digit_run (x ∷ xs)))))

  opener_first : class_of x ≡ 5 → opener_blank x xs ≡ None → token_of (x ∷ xs) ≡ opener_token x xs
  opener_first e b =
      sym (at_front (x ∷ xs)) ∙ sym (at_opener (x ∷ xs) 0 (omega arith) 5 (sym e) refl 0 (rw b) refl (opener_token x xs) (sym (moved_zero (opener_token x xs))))

-- ---- runs

run_none : (f : ℕ → Bool) (ys : List ℕ) → first f ys ≡ false → run (first f) ys ≡ 0
unfolding run
run_none f [] e = refl
run_none f (y ∷ ys) e = rw e

-- all bytes of a piece pass, and the next does not
run_all : (f : ℕ → Bool) (w ys : List ℕ) → all f w ≡ true → first f ys ≡ false → run (first f) (w ++ ys) ≡ length w
unfolding run all
run_all f [] ys e n = run_none f ys n
run_all f (x ∷ w) ys e n =
    let (a, b) = and_true (f x) (all f w) e in
    rw a (ap suc (run_all f w ys b n))

-- ---- words, behind which no letter, `_` or digit stands

starts_class : (x : ℕ) → starts_word x ≡ true → class_of x ≡ 2
starts_class x e = eqb-true (class_of x) 2 e

starts_in : (x : ℕ) → starts_word x ≡ true → in_word x ≡ true
starts_in x e = rw e

begins_past : (p w ys : List ℕ) → all in_word p ≡ true → first in_word ys ≡ false → begins p (w ++ ys) ≡ begins p w
unfolding begins all
begins_past [] w ys e n = refl
begins_past (q ∷ p) [] [] e n = refl
begins_past (q ∷ p) [] (y ∷ ys) e n =
    let (a, b) = and_true (in_word q) (all in_word p) e in
    rw (ne_eqb y q
    (λ z.
    let t : in_word y ≡ true = ap in_word z ∙ a in
    let o : ◌≡◌ {A = ℕ} 0 1 = cc in
    omega arith))
begins_past (q ∷ p) (x ∷ w) ys e n =
    let (a, b) = and_true (in_word q) (all in_word p) e in
    ap (and (eqb x q)) (begins_past p w ys b n)

module _ (x : ℕ) (w ys : List ℕ) (h : starts_word x ≡ true) (g : all in_word w ≡ true) (n : first in_word ys ≡ false) where
  all_in : all in_word (x ∷ w) ≡ true
  unfolding all
  all_in = rw (starts_in x h) g

  word_length : words (x ∷ (w ++ ys)) ≡ suc (length w)
  word_length = run_all in_word (x ∷ w) ys all_in n

  -- a word that is a token
  spelled_word : allowed (suc (length w)) (x ∷ (w ++ ys)) ≡ true → token_of (x ∷ (w ++ ys)) ≡ Found 18 0 (suc (length w))
  unfolding word_token
  spelled_word a = word_first x (w ++ ys) (starts_class x h) ∙ rw (word_length, a)

  -- a name
  pub word_piece : begins push (x ∷ w) ≡ false → token_of (x ∷ (w ++ ys)) ≡ Found 18 0 (suc (length w))
  unfolding allowed all class_of
  word_piece b = spelled_word (rw (begins_past push (x ∷ w) ys refl n ∙ b))

  -- a tag
  pub tag_piece : token_of (35 ∷ x ∷ (w ++ ys)) ≡ Found 19 0 (suc (length w) + 1)
  unfolding opener_blank opener_token tag_token class_of
  tag_piece = opener_first 35 (x ∷ (w ++ ys)) refl refl ∙ rw (h, word_length)

-- PUSH and PUSH_LITERAL
module _ (ys : List ℕ) (n : first in_word ys ≡ false) where
  pub push_piece : token_of (push ++ ys) ≡ Found 18 0 4
  unfolding allowed begins all class_of
  push_piece = spelled_word 80 (85 ∷ 83 ∷ 72 ∷ []) ys refl refl n refl

  pub push_literal_piece : token_of (push_literal ++ ys) ≡ Found 18 0 12
  unfolding allowed begins all class_of
  push_literal_piece = spelled_word 80 (85 ∷ 83 ∷ 72 ∷ 95 ∷ 76 ∷ 73 ∷ 84 ∷ 69 ∷ 82 ∷ 65 ∷ 76 ∷ []) ys refl refl n refl

-- ---- numbers, behind which no digit stands

-- the table's entries for 0-9
threes : ℕ → ℕ → Bool
threes b c = choose (digit b) (λ u. eqb c 3) (λ u. true)

pub digit_class : (b : ℕ) → digit b ≡ true → class_of b ≡ 3
unfolding threes
digit_class b e =
    let h : b < 256 = omega (arith, (within_is 48 57 b e).high) in
    let t : T (threes b (get_or classes b 0)) = at threes classes tt b h in
    let u : T (eqb (get_or classes b 0) 3) = rw e at t in
    sym (class_rule b h) ∙ eqb→eq (get_or classes b 0) 3 u

module _ (x : ℕ) (w ys : List ℕ) (g : all in_digits (x ∷ w) ≡ true) (n : first in_digits ys ≡ false) where
  number_length : digit_run (x ∷ (w ++ ys)) ≡ suc (length w)
  number_length = run_all in_digits (x ∷ w) ys g n

  pub number_piece : token_of (x ∷ (w ++ ys)) ≡ Found 20 0 (suc (length w))
  unfolding all
  number_piece = number_first x (w ++ ys) (eqb-true (class_of x) 3 (and_true (in_digits x) (all in_digits w) g).0) ∙ ap (Found 20 0) number_length

  -- one that does not begin with 0, behind `-`
  pub minus_piece : is_zero x ≡ false → token_of (45 ∷ x ∷ (w ++ ys)) ≡ Found 21 0 (suc (length w) + 1)
  unfolding opener_blank opener_token minus_token class_of
  minus_piece z =
      opener_first 45 (x ∷ (w ++ ys)) refl refl
      ∙ rw (run_none is_zero (x ∷ (w ++ ys)) z, number_length, lt-ltb 0 (suc (length w)) (omega arith))

all_append : (f : ℕ → Bool) (xs ys : List ℕ) → all f xs ≡ true → all f ys ≡ true → all f (xs ++ ys) ≡ true
unfolding all
all_append f [] ys a b = b
all_append f (x ∷ xs) ys a b =
    let (h, g) = and_true (f x) (all f xs) a in
    rw h (all_append f xs ys g b)

one_digit : (d : ℕ) → d < 10 → all in_digits ((48 + d) ∷ []) ≡ true
unfolding all
one_digit d h = rw (digit_class (48 + d) (within_yes 48 57 (48 + d) (omega arith) (omega arith)))

digits_all : (k n : ℕ) → n < k → all in_digits (decimal n) ≡ true
digits_all zero n h = absurd (omega arith)
digits_all (suc k) n h =
    ⊎_elim (λ l. rw (decimal_one n l) (one_digit n l))
    (λ m. rw (decimal_more n m) (all_append in_digits (decimal (n / 10)) ((48 + n % 10) ∷ []) (digits_all k (n / 10) (omega arith)) (one_digit (n % 10) (mod-lt n (omega arith)))))
    (lt_or_ge n 10)

number_by : (w ys : List ℕ) → 1 ≤ length w → all in_digits w ≡ true → first in_digits ys ≡ false → token_of (w ++ ys) ≡ Found 20 0 (length w)
number_by [] ys h g n = absurd (omega arith)
number_by (x ∷ w) ys h g n = number_piece x w ys g n

pub decimal_digits : (n : ℕ) → all in_digits (decimal n) ≡ true
decimal_digits n = digits_all (suc n) n (omega arith)

-- a number in decimal
pub decimal_piece : (n : ℕ) (ys : List ℕ) → first in_digits ys ≡ false → token_of (decimal n ++ ys) ≡ Found 20 0 (length (decimal n))
decimal_piece n ys e = number_by (decimal n) ys (decimal_nonempty n) (decimal_digits n) e

first_append : (f : ℕ → Bool) (w ys : List ℕ) → 1 ≤ length w → first f (w ++ ys) ≡ first f w
first_append f [] ys h = absurd (omega arith)
first_append f (x ∷ w) ys h = refl

-- a number's first digit is 0 only for 0
no_zero : (k n : ℕ) → n < k → 1 ≤ n → first is_zero (decimal n) ≡ false
no_zero zero n h l = absurd (omega arith)
no_zero (suc k) n h l =
    ⊎_elim (λ m. rw (decimal_one n m) (ne_eqb (48 + n) 48 (λ z. omega arith)))
    (λ m. rw (decimal_more n m) (first_append is_zero (decimal (n / 10)) ((48 + n % 10) ∷ []) (decimal_nonempty (n / 10)) ∙ no_zero k (n / 10) (omega arith) (omega arith)))
    (lt_or_ge n 10)

minus_by : (w ys : List ℕ) → 1 ≤ length w → all in_digits w ≡ true → first is_zero w ≡ false → first in_digits ys ≡ false → token_of (45 ∷ (w ++ ys)) ≡ Found 21 0 (length w + 1)
minus_by [] ys h g z n = absurd (omega arith)
minus_by (x ∷ w) ys h g z n = minus_piece x w ys g n z

-- one but 0, behind `-`
pub negative_piece : (n : ℕ) (ys : List ℕ) → 1 ≤ n → first in_digits ys ≡ false → token_of (45 ∷ (decimal n ++ ys)) ≡ Found 21 0 (length (decimal n) + 1)
negative_piece n ys l e =
    minus_by (decimal n) ys (decimal_nonempty n) (decimal_digits n) (no_zero (suc n) n (omega arith) l) e

pub dots_piece : (ys : List ℕ) → token_of (46 ∷ 46 ∷ ys) ≡ Found 22 0 2
unfolding opener_blank opener_token dots_token class_of
dots_piece ys = opener_first 46 (46 ∷ ys) refl refl

-- ---- literals

escaped_by_lem : (b : Bool) (r : Option (ℕ × ℕ)) (c n : ℕ) → choose b (λ u. r) (λ u. None) ≡ Some (c, n) → b ≡ true
escaped_by_lem true r c n e = refl
escaped_by_lem false r c n e = let z : ◌≡◌ {A = ℕ} 0 1 = cc in absurd (omega arith)

-- an escape begins with a backslash
escape_first : (xs : List ℕ) (c n : ℕ) → escape_of xs ≡ Some (c, n) → next_is 92 xs ≡ true
unfolding escape_of
escape_first [] c n e = let z : ◌≡◌ {A = ℕ} 0 1 = cc in absurd (omega arith)
escape_first (x ∷ xs) c n e = escaped_by_lem (eqb x 92) (after_of xs) c n e

no_quote : (xs : List ℕ) → next_is 92 xs ≡ true → next_is 34 xs ≡ false
no_quote [] e = refl
no_quote (x ∷ xs) e = let z : x ≡ 92 = eqb-true x 92 e in rw z

past_escapes : PastEscapes inside_look
unfolding inside_look
past_escapes xs c n s e = rw (no_quote xs (escape_first xs c n e), e)

past_bytes : PastBytes 34 inside_look
unfolding inside_look
past_bytes x ys m q = rw (ne_eqb x 34 q, plain_byte x ys m, ne_eqb x 92 m)

module _ (s ys : List ℕ) (h : first_bad s ≡ None) where
  walk : sought inside_look 0 (inside 34 s ++ (34 ∷ ys)) ≡ Some (length (inside 34 s))
  unfolding simple_of sought inside_look
  walk = bytes_over_inside 34 refl s h inside_look past_escapes past_bytes (34 ∷ ys) ∙ ap Some (add-zero (length (inside 34 s)))

  closed : (kind k : ℕ) → string_of kind k (inside 34 s ++ (34 ∷ ys)) ≡ Found kind 0 (k + (length (inside 34 s) + 1))
  unfolding string_of
  closed kind k =
      let d : next_is 34 (drop (length (inside 34 s)) (inside 34 s ++ (34 ∷ ys))) ≡ true = ap (next_is 34) (drop_at (inside 34 s) (34 ∷ ys) (length (inside 34 s)) refl) in
      rw (walk, d)

  literal_is : literal 34 s ++ ys ≡ 34 ∷ (inside 34 s ++ (34 ∷ ys))
  unfolding literal
  literal_is = ap (λ (l : List ℕ). 34 ∷ l) (append_assoc (inside 34 s) (34 ∷ []) ys)

  literal_length : length (literal 34 s) ≡ 1 + (length (inside 34 s) + 1)
  unfolding literal
  literal_length = omega (arith, length-append (inside 34 s) (34 ∷ []))

  -- a printed string
  pub string_piece : token_of (literal 34 s ++ ys) ≡ Found 23 0 (length (literal 34 s))
  unfolding opener_blank opener_token class_of
  string_piece = rw (literal_is, literal_length) (opener_first 34 (inside 34 s ++ (34 ∷ ys)) refl refl ∙ closed 23 1)

  -- and behind `^`
  pub insens_piece : token_of (94 ∷ (literal 34 s ++ ys)) ≡ Found 24 0 (length (literal 34 s) + 1)
  unfolding opener_blank opener_token insens_token class_of
  insens_piece =
      let e : 2 + (length (inside 34 s) + 1) ≡ length (literal 34 s) + 1 = omega (arith, literal_length) in
      rw literal_is (opener_first 94 (34 ∷ (inside 34 s ++ (34 ∷ ys))) refl refl ∙ closed 24 2 ∙ ap (Found 24 0) e)

free_first : (b : ℕ) (xs ys : List ℕ) → 1 ≤ length xs → Each (λ (x : ℕ). x ≡ b → ⊥) xs → next_is b (xs ++ ys) ≡ false
free_first b [] ys h a = absurd (omega arith)
free_first b (x ∷ xs) ys h a = ne_eqb x b a.0

-- a character that stands between single quotes
module _ (x ys : List ℕ) (c : ℕ) where
  ends_quoted : quoted (length x) (x ++ (39 ∷ ys)) ≡ Found 25 0 (length x + 2)
  unfolding quoted
  ends_quoted =
      let d : next_is 39 (drop (length x) (x ++ (39 ∷ ys))) ≡ true = ap (next_is 39) (drop_at x (39 ∷ ys) (length x) refl) in
      rw d

  char_by_lem : scalar c ≡ true → Stands 39 x c → char_token (x ++ (39 ∷ ys)) ≡ Found 25 0 (length x + 2)
  unfolding char_token
  char_by_lem s (escape e) =
      let m : escape_of (x ++ (39 ∷ ys)) ≡ Some (c, length x) = e.means (39 ∷ ys) in
      rw (escape_first (x ++ (39 ∷ ys)) c (length x) m, m) ends_quoted
  char_by_lem s (itself e m n) =
      let f : next_is 92 (x ++ (39 ∷ ys)) ≡ false = rw e (free_first 92 (encoded c) (39 ∷ ys) (encoded_some c s) (encoded_free 92 c (omega arith) m)) in
      let r : char_of (x ++ (39 ∷ ys)) ≡ Some (c, length x) = rw e (encoded_read c (39 ∷ ys) s) in
      rw (f, r) ends_quoted

  pub char_piece_lem : scalar c ≡ true → Stands 39 x c → token_of (39 ∷ (x ++ (39 ∷ ys))) ≡ Found 25 0 (length x + 2)
  unfolding opener_blank opener_token class_of
  char_piece_lem s t = opener_first 39 (x ++ (39 ∷ ys)) refl refl ∙ char_by_lem s t

-- ---- the list, from the n-th byte on

module _ (s : List ℕ) (n : ℕ) where
  list_by : (r : Token) → token_at s n ≡ r → tokens_from s n ≡ tokens_by r (tokens_from s)
  list_by r e = tokens_law s n ∙ ap (λ (t : Token). tokens_by t (tokens_from s)) e

  -- the text's end
  pub end_next : length s ≤ n → tokens_from s n ≡ record { list = []; fault = None }
  end_next h = list_by End (sym (at_over s n h))

  -- a blank of one byte
  pub blank_next : n < length s → class_of (get_or s n 0) ≡ 1 → tokens_from s n ≡ tokens_from s (n + 1)
  blank_next h e = list_by (token_at s (n + 1)) (at_blank s n h 1 (sym e) refl) ∙ sym (tokens_law s (n + 1))

  -- a token of m bytes
  pub piece_next : (k m : ℕ) → token_of (drop n s) ≡ Found k 0 m → tokens_from s n ≡ onto (tok k n (n + m) ∷ []) (tokens_from s (n + m))
  piece_next k m e =
      let t : token_at s n ≡ Found k n (n + m) = token_is s n ∙ ap (moved n) e ∙ ap (λ (i : ℕ). Found k i (n + m)) (add-zero n) in
      list_by (Found k n (n + m)) t
