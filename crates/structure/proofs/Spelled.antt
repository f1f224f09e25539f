-- What tokens spell: a word and a tag's label are words, a word that begins PUSH is PUSH or PUSH_LITERAL, a number has digits, and a string stands between two `"`.
-- Rule by rule over what is left of a text at the token's first byte, then for the token of an index.
use Rattle.std.specs.Prelude.{ℕ, Option, Some, None}
use Prim.Native.Nat.{ℕ, zero, suc, ◌+◌, ◌-◌, ◌≤◌, ◌<◌}
use mathlib.Core.Path.{◌≡◌, refl, sym, ap, ◌∙◌}
use mathlib.Core.Bool.{Bool, true, false}
use mathlib.Core.List.{List, [], ◌∷◌}
use mathlib.Core.Logic.{◌⊎◌, inl, inr}
use native.Mathlib.Omega.{arith}
use lib.Dec.{ltb, eqb}
use lib.ListN.{length, get_or, take, drop, length-take, length-drop}
use lib.Seq.{drop-drop}
use borrow.Author.Tests.{ltb-true, eqb-true, eq-eqb, ne_eqb}
use Rattle.text.specs.Booleans.{choose, and, or, among, next_is, all}
use Rattle.text.specs.Classes.{blanks, letter, digit, ones, openers, class_of}
use Rattle.text.specs.Words.{starts_word, in_word, is_word, begins, push}
use Rattle.text.specs.Scans.{later, sought}
use Rattle.text.specs.Utf8.{char_of, first_bad}
use Rattle.text.proofs.Booleans.{and_both, and_true, choose_by, or_by, split}
use Rattle.text.proofs.Tests.{lt_or_ge}
use Rattle.literal.specs.Escapes.{escape_of}
use Rattle.token.specs.Blanks.{run, first, in_digits, words, digit_run, zeros, blank_of}
use Rattle.token.specs.Tokens.{moved, push_literal, allowed, word_token, tag_token, number_token, minus_token, dots_token, inside_look, string_by, string_of, insens_token, quoted, escaped_by, raw_by, char_token, doc_token, opener_token, place_in, one_kind, token_by, first_token, token_at}
use Rattle.token.specs.Lists.{Tok, tok, kind_of, start_of, end_of, place_from}
use Rattle.token.specs.Table.{toks, tok_of, kind, start, end, is, between, trimmed, word, label}
use Rattle.token.specs.declared.Token.{Token}
use Rattle.token.specs.declared.Token.TheVariants.{Found, End, NoToken}
use Rattle.token.proofs.Runs.{run_in, run_some}
use Rattle.token.proofs.Bounds.{some_next}
use Rattle.token.proofs.Faults.{is_at}
use Rattle.token.proofs.Places.{landed, landed_is}
use Rattle.token.proofs.Lists.{found_as, at_index}
use Rattle.token.proofs.Table.{spans, word_is, part_none}
use Rattle.structure.specs.Tokens.{same, spells}
use Rattle.structure.specs.Values.{literal_bytes}
use Rattle.structure.proofs.Steps.{inside_is, is_kind, another}
use Rattle.structure.proofs.Bytes.{begins_take}
use Rattle.structure.proofs.Insides.{between_utf8}

-- ---- runs

run_all : (f : ℕ → Bool) (xs : List ℕ) → all f (take (run (first f) xs) xs) ≡ true
unfolding run all
run_all f [] = refl
run_all f (x ∷ xs) =
    choose_by (λ (n : ℕ). all f (take n (x ∷ xs)) ≡ true) (f x) _ _ (λ e. and_both (f x) (all f (take (run (first f) xs) xs)) e (run_all f xs)) (λ e. refl)

-- a word's byte, and all that follow it in a word
word_run : (x : ℕ) (xs : List ℕ) → starts_word x ≡ true → is_word (take (words (x ∷ xs)) (x ∷ xs)) ≡ true
unfolding run is_word
word_run x xs e = rw e (and_both (starts_word x) (all in_word (take (words xs) xs)) e (run_all in_word xs))

-- what the front of a list begins with, the list does
begins_front : (p xs : List ℕ) (n : ℕ) → begins p (take n xs) ≡ true → begins p xs ≡ true
unfolding begins
begins_front [] xs n e = refl
begins_front (p ∷ ps) xs zero e = let z : ◌≡◌ {A = ℕ} 0 1 = cc in absurd (omega arith)
begins_front (p ∷ ps) [] (suc n) e = e
begins_front (p ∷ ps) (x ∷ xs) (suc n) e =
    let (a, b) = and_true (eqb x p) (begins ps (take n xs)) e in
    and_both (eqb x p) (begins ps xs) a (begins_front ps xs n b)

-- ---- digits

-- digits, one at least
abbrev pub Digits : List ℕ → Type 0
Digits xs = (1 ≤ length xs) × (all digit xs ≡ true)

class_digit : (b : ℕ) → in_digits b ≡ true → digit b ≡ true
unfolding class_of
class_digit b e =
    split (among blanks b) _ _ (λ v f. absurd (omega arith))
    (λ v. split (letter b) _ _ (λ v f. absurd (omega arith))
    (λ v. split (digit b) _ _ (λ v f. v)
    (λ v. split (among ones b) _ _ (λ v f. absurd (omega arith)) (λ v. split (among openers b) _ _ (λ v f. absurd (omega arith)) (λ v f. absurd (omega arith))))))
    (eqb-true (class_of b) 3 e)

all_digits : (xs : List ℕ) → all in_digits xs ≡ true → all digit xs ≡ true
unfolding all
all_digits [] e = refl
all_digits (x ∷ xs) e =
    let (a, b) = and_true (in_digits x) (all in_digits xs) e in
    and_both (digit x) (all digit xs) (class_digit x a) (all_digits xs b)

digits_run : (xs : List ℕ) → 1 ≤ digit_run xs → Digits (take (digit_run xs) xs)
digits_run xs h = (omega (arith, length-take (digit_run xs) xs, run_in (first in_digits) xs), all_digits (take (digit_run xs) xs) (run_all in_digits xs))

-- ---- tokens at the front

-- the kinds of tokens that spell something
data Spells : Type 0 where
  words-kind tags-kind numbers-kind minus-kind strings-kind insens-kind no_kind : Spells

abbrev spells_of : ℕ → Spells
spells_of k =
    choose (eqb k 18) (λ u. words-kind)
    (λ u. choose (eqb k 19) (λ u. tags-kind)
    (λ u. choose (eqb k 20) (λ u. numbers-kind)
    (λ u. choose (eqb k 21) (λ u. minus-kind) (λ u. choose (eqb k 23) (λ u. strings-kind) (λ u. choose (eqb k 24) (λ u. insens-kind) (λ u. no_kind))))))

-- what is known of a token that has the first n bytes of xs
abbrev Known : Spells → List ℕ → ℕ → Type 0
Known words-kind xs n = (is_word (take n xs) ≡ true) × (allowed n xs ≡ true)
Known tags-kind xs n = is_word (take (n - 1) (drop 1 xs)) ≡ true
Known numbers-kind xs n = Digits (take n xs)
Known minus-kind xs n = Digits (take (n - 1) (drop 1 xs))
Known strings-kind xs n = (next_is 34 xs ≡ true) × (next_is 34 (drop (n - 1) xs) ≡ true)
Known insens-kind xs n = (next_is 34 (drop 1 xs) ≡ true) × (next_is 34 (drop (n - 1) xs) ≡ true)
Known no_kind xs n = Unit {0}

abbrev Front : List ℕ → Token → Type 0
Front xs (Found k a b) = (a ≡ 0) × Known (spells_of k) xs b
Front xs End = Unit {0}
Front xs (NoToken p) = Unit {0}

module _ (ws : List ℕ) (kind k : ℕ) (make : (n : ℕ) → next_is 34 (drop (n - 1) ws) ≡ true → Front ws (Found kind 0 n)) where
  string_by_lem : (r : Option ℕ) → Front ws (string_by kind k (drop k ws) r)
  string_by_lem None = tt
  string_by_lem (Some n) =
      let z : k + n ≡ (k + (n + 1)) - 1 = omega arith in
      choose_by (Front ws) (next_is 34 (drop n (drop k ws))) _ _ (λ e. make (k + (n + 1)) (rw (drop-drop n k ws, z) at e)) (λ e. tt)

  string_front : Front ws (string_of kind k (drop k ws))
  unfolding string_of
  string_front = string_by_lem (sought inside_look 0 (drop k ws))

module _ (x : ℕ) (xs : List ℕ) where
  abbrev Here : Token → Type 0
  Here = Front (x ∷ xs)

  quoted_front : (n : ℕ) → Here (quoted n xs)
  unfolding quoted
  quoted_front n = choose_by Here (next_is 39 (drop n xs)) _ _ (λ e. (refl, tt)) (λ e. tt)

  escaped_front : (r : Option (ℕ × ℕ)) → Here (escaped_by xs r)
  escaped_front (Some (c, n)) = quoted_front n
  escaped_front None = tt

  raw_front : (r : Option (ℕ × ℕ)) → Here (raw_by xs r)
  raw_front (Some (c, n)) = quoted_front n
  raw_front None = tt

  char_front : Here (char_token xs)
  unfolding char_token
  char_front = choose_by Here (next_is 92 xs) _ _ (λ e. escaped_front (escape_of xs)) (λ e. raw_front (char_of xs))

  insens_front : Here (insens_token xs)
  unfolding insens_token
  insens_front = choose_by Here (next_is 34 xs) _ _ (λ q. string_front (x ∷ xs) 24 2 (λ n r. (refl, (q, r)))) (λ e. tt)

  label_word : (ys : List ℕ) → first starts_word ys ≡ true → is_word (take (words ys) ys) ≡ true
  label_word [] e = let z : ◌≡◌ {A = ℕ} 0 1 = cc in absurd (omega arith)
  label_word (y ∷ ys) e = word_run y ys e

  tag_front : Here (tag_token xs)
  unfolding tag_token
  tag_front =
      let z : words xs ≡ (words xs + 1) - 1 = omega arith in
      choose_by Here (first starts_word xs) _ _ (λ e. (refl, rw z at (label_word xs e))) (λ e. tt)

  dots_front : Here (dots_token xs)
  unfolding dots_token
  dots_front = choose_by Here (next_is 46 xs) _ _ (λ e. (refl, tt)) (λ e. tt)

  minus_front : Here (minus_token xs)
  unfolding minus_token
  minus_front =
      let z : digit_run xs ≡ (digit_run xs + 1) - 1 = omega arith in
      choose_by Here (ltb (zeros xs) (digit_run xs)) _ _ (λ e. let l = ltb-true (zeros xs) (digit_run xs) e in (refl, rw z at (digits_run xs (omega arith)))) (λ e. tt)

  doc_front : Here (doc_token xs)
  unfolding doc_token
  doc_front =
      choose_by Here (next_is 47 xs) _ _
      (λ e. choose_by Here (next_is 33 (drop 1 xs)) _ _ (λ q. (refl, tt)) (λ q. choose_by Here (next_is 47 (drop 1 xs)) _ _ (λ r. (refl, tt)) (λ r. tt))) (λ e. tt)

  opener_front : Here (opener_token x xs)
  unfolding opener_token
  opener_front =
      choose_by Here (eqb x 34) _ _ (λ q. string_front (x ∷ xs) 23 1 (λ n r. (refl, (q, r))))
      (λ e. choose_by Here (eqb x 39) _ _ (λ e. char_front)
      (λ e. choose_by Here (eqb x 94) _ _ (λ e. insens_front)
      (λ e. choose_by Here (eqb x 35) _ _ (λ e. tag_front)
      (λ e. choose_by Here (eqb x 46) _ _ (λ e. dots_front)
      (λ e. choose_by Here (eqb x 47) _ _ (λ e. doc_front) (λ e. choose_by Here (eqb x 45) _ _ (λ e. minus_front) (λ e. tt)))))))

  word_front : class_of x ≡ 2 → Here (word_token (x ∷ xs))
  unfolding word_token
  word_front c = choose_by Here (allowed (words (x ∷ xs)) (x ∷ xs)) _ _ (λ a. (refl, (word_run x xs (rw c refl), a))) (λ e. tt)

  number_front : class_of x ≡ 3 → Here (number_token (x ∷ xs))
  unfolding number_token
  number_front c = (refl, digits_run (x ∷ xs) (run_some (first in_digits) x xs (rw c refl)))

-- a one-byte token is none of those
place_in_lem : (xs : List ℕ) (b : ℕ) → among xs b ≡ true → place_in xs b < length xs
place_in_lem [] b e = let z : ◌≡◌ {A = ℕ} 0 1 = cc in absurd (omega arith)
place_in_lem (x ∷ xs) b e =
    choose_by (λ (n : ℕ). n < suc (length xs)) (eqb b x) _ _ (λ q. omega arith)
    (λ q. let h : place_in xs b < length xs = place_in_lem xs b (rw q at e) in omega arith)

one_class : (x : ℕ) → class_of x ≡ 4 → among ones x ≡ true
unfolding class_of
one_class x =
    let P : ℕ → Type 0 = λ (n : ℕ). n ≡ 4 → among ones x ≡ true in
    choose_by P (among blanks x) _ _ (λ q e. absurd (omega arith))
    (λ q. choose_by P (letter x) _ _ (λ q e. absurd (omega arith))
    (λ q. choose_by P (digit x) _ _ (λ q e. absurd (omega arith))
    (λ q. choose_by P (among ones x) _ _ (λ q e. q) (λ q. choose_by P (among openers x) _ _ (λ q e. absurd (omega arith)) (λ q e. absurd (omega arith))))))

low_kind : (k : ℕ) → k ≤ 17 → spells_of k ≡ no_kind
low_kind k h =
    rw (ne_eqb k 18 (λ e. omega arith), ne_eqb k 19 (λ e. omega arith), ne_eqb k 20 (λ e. omega arith), ne_eqb k 21 (λ e. omega arith), ne_eqb k 23 (λ e. omega arith), ne_eqb k 24 (λ e. omega arith))

one_front : (x : ℕ) (xs : List ℕ) → class_of x ≡ 4 → Front (x ∷ xs) (Found (one_kind x) 0 1)
unfolding one_kind
one_front x xs e =
    let h : place_in ones x < length ones = place_in_lem ones x (one_class x e) in
    (refl, rw (low_kind (place_in ones x + 1) (omega arith)) tt)

first_front : (xs : List ℕ) → Front xs (first_token xs)
unfolding token_by
first_front [] = tt
first_front (x ∷ xs) =
    let P : Token → Type 0 = Front (x ∷ xs) in
    choose_by P (eqb (class_of x) 2) _ _ (λ e. word_front x xs (eqb-true (class_of x) 2 e))
    (λ e. choose_by P (eqb (class_of x) 3) _ _ (λ e. number_front x xs (eqb-true (class_of x) 3 e))
    (λ e. choose_by P (eqb (class_of x) 4) _ _ (λ e. one_front x xs (eqb-true (class_of x) 4 e)) (λ e. choose_by P (eqb (class_of x) 5) _ _ (λ e. opener_front x xs) (λ e. tt))))

-- ---- the token of an index

front_at : (s : List ℕ) (f : ℕ) (r : Token) (k a b : ℕ) → Front (drop f s) r → moved f r ≡ Found k a b → Known (spells_of k) (drop a s) (b - a)
front_at s f (Found j x y) k a b h e =
    let p : f + x ≡ a = cc in
    let q : f + y ≡ b = cc in
    let i : j ≡ k = cc in
    let z : a ≡ f = omega (arith, h.0) in
    let w : b - a ≡ y = omega arith in
    rw (z, sym i) (let v : b - f ≡ y = omega arith in rw v h.1)
front_at s f End k a b h e = let z : ◌≡◌ {A = ℕ} 0 1 = cc in absurd (omega arith)
front_at s f (NoToken p) k a b h e = let z : ◌≡◌ {A = ℕ} 0 1 = cc in absurd (omega arith)

landed_says : (s : List ℕ) (r : Option ℕ) (k a b : ℕ) → landed s r ≡ Found k a b → Known (spells_of k) (drop a s) (b - a)
landed_says s None k a b e = let z : ◌≡◌ {A = ℕ} 0 1 = cc in absurd (omega arith)
landed_says s (Some f) k a b e = front_at s f (first_token (drop f s)) k a b (first_front (drop f s)) e

tok_says : (s : List ℕ) (at : ℕ) (t : Tok) → token_at s at ≡ found_as t → Known (spells_of (kind_of t)) (drop (start_of t) s) (end_of t - start_of t)
tok_says s at (tok k a b) e = landed_says s (later at (sought blank_of 0 (drop at s))) k a b (sym (landed_is s at) ∙ e)

module _ (s : List ℕ) (i : ℕ) where
  says : (k : ℕ) → 0 < k → is s i k ≡ true → Known (spells_of k) (drop (start s i) s) (end s i - start s i)
  unfolding is kind start end tok_of
  says k p e =
      let d = tok 0 (length s) (length s) in
      let q : kind_of (get_or (toks s) i d) ≡ k = eqb-true _ k e in
      rw q at (tok_says s (place_from 0 (toks s) i) (get_or (toks s) i d) (at_index s i d (inside_is s i k p e)))

  -- a word's bytes
  word_bytes : word s i ≡ take (end s i - start s i) (drop (start s i) s)
  unfolding between
  word_bytes = sym (word_is s i (start s i) (end s i) refl refl)

  pub word_spelled : is s i 18 ≡ true → is_word (word s i) ≡ true
  word_spelled e = rw word_bytes (says 18 (omega arith) e).0

  -- a word of n bytes that are w spells w
  spelled : (w : List ℕ) → is s i 18 ≡ true → end s i - start s i ≡ length w → begins w (drop (start s i) s) ≡ true → spells w s i ≡ true
  unfolding spells
  spelled w e z b =
      let h = spans s i (inside_is s i 18 (omega arith) e) in
      let l : length (word s i) ≡ length w =
      ap length word_bytes ∙ omega (arith, length-take (end s i - start s i) (drop (start s i) s), length-drop (start s i) s) in
      and_both (is s i 18) (same w (word s i)) e
      (and_both (eqb (length (word s i)) (length w)) (begins w (word s i)) (eq-eqb _ _ l)
      (ap (begins w) word_bytes ∙ (begins_take w (drop (start s i) s) (end s i - start s i) (omega arith) ∙ b)))

  module _ (e : is s i 18 ≡ true) (p : spells push s i ≡ false) (q : spells push_literal s i ≡ false) where
    -- one that begins PUSH is a token only if it is spelled so, or PUSH_LITERAL
    never : begins push (drop (start s i) s) ≡ true → ⊥
    unfolding allowed
    never b =
        let a : or (eqb (end s i - start s i) 4) (and (eqb (end s i - start s i) 12) (begins push_literal (drop (start s i) s))) ≡ true
        = rw b at (says 18 (omega arith) e).1 in
        or_by (eqb (end s i - start s i) 4) _ a
        (λ c. let w : spells push s i ≡ true = spelled push e (eqb-true _ 4 c) b in let z : ◌≡◌ {A = ℕ} 0 1 = cc in absurd (omega arith))
        (λ c.
        let (x, y) = and_true (eqb (end s i - start s i) 12) _ c in
        let w : spells push_literal s i ≡ true = spelled push_literal e (eqb-true _ 12 x) y in
        let z : ◌≡◌ {A = ℕ} 0 1 = cc in
        absurd (omega arith))

    pub no_push : begins push (word s i) ≡ false
    no_push = by (begins push (word s i)) refl
      where
        by : (b : Bool) → begins push (word s i) ≡ b → begins push (word s i) ≡ false
        by false b = b
        by true b = absurd (never (begins_front push (drop (start s i) s) (end s i - start s i) (sym (ap (begins push) word_bytes) ∙ b)))

  -- a number's digits, and those of a negative one
  pub number_spelled : is s i 20 ≡ true → Digits (word s i)
  number_spelled e = rw word_bytes (says 20 (omega arith) e)

  pub minus_spelled : is s i 21 ≡ true → Digits (trimmed s i 1 0)
  unfolding between
  minus_spelled e =
      let z : (end s i - 0) - (start s i + 1) ≡ (end s i - start s i) - 1 = omega arith in
      rw (z, sym (drop-drop 1 (start s i) s)) (says 21 (omega arith) e)

  -- a tag's label
  pub label_spelled : is s i 19 ≡ true → is_word (label s i) ≡ true
  unfolding label between
  label_spelled e =
      let z : (end s i - 0) - (start s i + 1) ≡ (end s i - start s i) - 1 = omega arith in
      rw (z, sym (drop-drop 1 (start s i) s)) (says 19 (omega arith) e)

  -- the inside of a string: between two `"`, or empty
  module _ (u : first_bad s ≡ None) where
    inside_by : (p q : ℕ) → q < length s → get_or s p 0 ≡ 34 → get_or s q 0 ≡ 34 → (p < q) ⊎ (q ≤ p) → first_bad (between s (p + 1) q) ≡ None
    unfolding first_bad sought
    inside_by p q h a b (inl l) = between_utf8 34 (omega arith) s p q l h a b u
    inside_by p q h a b (inr l) = rw (part_none s (p + 1) q (omega arith))

    inside : (k : ℕ) → next_is 34 (drop k (drop (start s i) s)) ≡ true → next_is 34 (drop ((end s i - start s i) - 1) (drop (start s i) s)) ≡ true → start s i < end s i
        → first_bad (between s ((start s i + k) + 1) (end s i - 1)) ≡ None
    inside k a b h =
        let z : start s i + ((end s i - start s i) - 1) ≡ end s i - 1 = omega arith in
        let y : next_is 34 (drop (end s i - 1) s) ≡ true = rw (drop-drop ((end s i - start s i) - 1) (start s i) s, z) at b in
        inside_by (start s i + k) (end s i - 1) (some_next 34 (end s i - 1) s y) (is_at s (start s i + k) 34 (rw (drop-drop k (start s i) s) at a)) (is_at s (end s i - 1) 34 y)
        (lt_or_ge (start s i + k) (end s i - 1))

    pub string_inside : is s i 23 ≡ true → first_bad (literal_bytes s i) ≡ None
    string_inside e =
        let r = says 23 (omega arith) e in
        let l = spans s i (inside_is s i 23 (omega arith) e) in
        let z : (start s i + 0) + 1 ≡ start s i + 1 = omega arith in
        rw (another s i (kind s i) 23 24 refl (is_kind s i 23 e) (λ m. omega arith)) (rw z at (inside 0 r.0 r.1 l.0))

    pub insens_inside : is s i 24 ≡ true → first_bad (literal_bytes s i) ≡ None
    insens_inside e =
        let r = says 24 (omega arith) e in
        let l = spans s i (inside_is s i 24 (omega arith) e) in
        let z : (start s i + 1) + 1 ≡ start s i + 2 = omega arith in
        rw e (rw z at (inside 1 r.0 r.1 l.0))
