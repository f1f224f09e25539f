-- The token that stands at the front of what is left of a text, rule by rule, and the token at a place.
use Rattle.std.specs.Prelude.{ℕ, suc, ◌+◌, Bool, true, List, [], ◌∷◌, ltb, eqb, drop, Option, Some, None}
use Rattle.text.specs.Booleans.{choose, and, or, next_is}
use Rattle.text.specs.Classes.{class_of, ones}
use Rattle.text.specs.Words.{starts_word, begins, push}
use Rattle.text.specs.Scans.{sought}
use Rattle.text.specs.Utf8.{char_of}
use Rattle.literal.specs.Escapes.{escape_of, stray_look}
use Rattle.token.specs.Blanks.{first, words, digit_run, zeros, line, blank_of}
use Rattle.token.specs.declared.Token.{Token}
use Rattle.token.specs.declared.Token.TheVariants.{Found, End, NoToken}

-- the same answer, k bytes further on
abbrev pub moved : ℕ → Token → Token
moved k (Found kind start end) = Found kind (k + start) (k + end)
moved k End = End
moved k (NoToken place) = NoToken (k + place)

-- PUSH_LITERAL
abbrev pub push_literal : List ℕ
push_literal = 80 ∷ 85 ∷ 83 ∷ 72 ∷ 95 ∷ 76 ∷ 73 ∷ 84 ∷ 69 ∷ 82 ∷ 65 ∷ 76 ∷ []

-- a word of n bytes that begins PUSH is a token only if it is PUSH or PUSH_LITERAL
unfoldable pub allowed : ℕ → List ℕ → Bool
allowed n xs = choose (begins push xs) (λ u. or (eqb n 4) (and (eqb n 12) (begins push_literal xs))) (λ u. true)

-- a word: letters, `_` and digits, the first of which is no digit
unfoldable pub word_token : List ℕ → Token
word_token xs = choose (allowed (words xs) xs) (λ u. Found 18 0 (words xs)) (λ u. NoToken 0)

-- after `#`: a word's spelling, PUSH allowed
unfoldable pub tag_token : List ℕ → Token
tag_token xs = choose (first starts_word xs) (λ u. Found 19 0 (words xs + 1)) (λ u. NoToken 0)

-- digits
unfoldable pub number_token : List ℕ → Token
number_token xs = Found 20 0 (digit_run xs)

-- after `-`: digits not all 0
unfoldable pub minus_token : List ℕ → Token
minus_token xs = choose (ltb (zeros xs) (digit_run xs)) (λ u. Found 21 0 (digit_run xs + 1)) (λ u. NoToken 0)

-- after `.`: another
unfoldable pub dots_token : List ℕ → Token
dots_token xs = choose (next_is 46 xs) (λ u. Found 22 0 2) (λ u. NoToken 0)

-- inside a string: past characters and escapes, up to a `"` or a backslash that begins no escape
unfoldable pub inside_look : List ℕ → Option ℕ
inside_look xs = choose (next_is 34 xs) (λ u. None) (λ u. stray_look xs)

-- `None`: the text ends first, and the string's first byte is told; `Some n`: the inside ends n bytes on, at its `"`, or at that
-- backslash, which is told
abbrev pub string_by : ℕ → ℕ → List ℕ → Option ℕ → Token
string_by kind k xs None = NoToken 0
string_by kind k xs (Some n) = choose (next_is 34 (drop n xs)) (λ u. Found kind 0 (k + (n + 1))) (λ u. NoToken (k + n))

-- after the k bytes that open it: a string up to its `"`
unfoldable pub string_of : ℕ → ℕ → List ℕ → Token
string_of kind k xs = string_by kind k xs (sought inside_look 0 xs)

-- after `"`: a string
abbrev pub string_token : List ℕ → Token
string_token xs = string_of 23 1 xs

-- after `^`: directly a string
unfoldable pub insens_token : List ℕ → Token
insens_token xs = choose (next_is 34 xs) (λ u. string_of 24 2 (drop 1 xs)) (λ u. NoToken 0)

-- after `'` and n bytes: `'`
unfoldable pub quoted : ℕ → List ℕ → Token
quoted n xs = choose (next_is 39 (drop n xs)) (λ u. Found 25 0 (n + 2)) (λ u. NoToken 0)

-- by the escape that stands after the `'`: where none does, the backslash is told
abbrev pub escaped_by : List ℕ → Option (ℕ × ℕ) → Token
escaped_by xs None = NoToken 1
escaped_by xs (Some (c, n)) = quoted n xs

-- by the character that stands there
abbrev pub raw_by : List ℕ → Option (ℕ × ℕ) → Token
raw_by xs None = NoToken 0
raw_by xs (Some (c, n)) = quoted n xs

-- after `'`: one escape, or one character but `\`
unfoldable pub char_token : List ℕ → Token
char_token xs = choose (next_is 92 xs) (λ u. escaped_by xs (escape_of xs)) (λ u. raw_by xs (char_of xs))

-- after `/`: `/!` or `//`, up to the line's end
unfoldable pub doc_token : List ℕ → Token
doc_token xs =
    choose (next_is 47 xs)
    (λ u. choose (next_is 33 (drop 1 xs)) (λ u. Found 26 0 (line xs + 1))
    (λ u. choose (next_is 47 (drop 1 xs)) (λ u. Found 27 0 (line xs + 1)) (λ u. NoToken 0))) (λ u. NoToken 0)

-- what an opener begins; xs stands after it
unfoldable pub opener_token : ℕ → List ℕ → Token
opener_token x xs =
    choose (eqb x 34) (λ u. string_token xs)
    (λ u. choose (eqb x 39) (λ u. char_token xs)
    (λ u. choose (eqb x 94) (λ u. insens_token xs)
    (λ u. choose (eqb x 35) (λ u. tag_token xs)
    (λ u. choose (eqb x 46) (λ u. dots_token xs)
    (λ u. choose (eqb x 47) (λ u. doc_token xs)
    (λ u. choose (eqb x 45) (λ u. minus_token xs) (λ u. NoToken 0)))))))

-- how many stand before it in the list
abbrev pub place_in : List ℕ → ℕ → ℕ
place_in [] b = 0
place_in (x ∷ xs) b = choose (eqb b x) (λ u. 0) (λ u. suc (place_in xs b))

-- the kinds of the one-byte tokens: 1 to 17, as listed
unfoldable pub one_kind : ℕ → ℕ
one_kind b = place_in ones b + 1

-- by the class of the first byte: a word, a number, a one-byte token, what an opener begins, no token
unfoldable pub token_by : ℕ → ℕ → List ℕ → Token
token_by c x xs =
    choose (eqb c 2) (λ u. word_token (x ∷ xs))
    (λ u. choose (eqb c 3) (λ u. number_token (x ∷ xs))
    (λ u. choose (eqb c 4) (λ u. Found (one_kind x) 0 1) (λ u. choose (eqb c 5) (λ u. opener_token x xs) (λ u. NoToken 0))))

-- the token that stands at the very front
abbrev pub first_token : List ℕ → Token
first_token [] = End
first_token (x ∷ xs) = token_by (class_of x) x xs

-- `Some n`: n bytes of blanks, then a byte that begins none; `None`: blanks up to the text's end
abbrev pub past_blanks : List ℕ → Option ℕ → Token
past_blanks xs None = End
past_blanks xs (Some n) = moved n (first_token (drop n xs))

-- past all blanks: a token, no token, or the text's end
unfoldable pub token_of : List ℕ → Token
token_of xs = past_blanks xs (sought blank_of 0 xs)

-- the token at a place: what is left there decides
unfoldable pub token_at : List ℕ → ℕ → Token
token_at s at = moved at (token_of (drop at s))
