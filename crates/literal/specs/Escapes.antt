-- Escapes, and the string that the inside of a literal means.
use Rattle.std.specs.Prelude.{ℕ, ◌+◌, ◌-◌, ◌*◌, List, [], ◌∷◌, leb, ltb, eqb, length, take, drop, Option, Some, None, Result, Ok, Err}
use Rattle.text.specs.Booleans.{choose, next_is}
use Rattle.text.specs.Scans.{Piece, spelled, sought}
use Rattle.text.specs.Splice.{fronted}
use Rattle.text.specs.Utf8.{scalar, encoded, first_bad}
use Rattle.text.specs.Digits.{hex_of}
use Rattle.literal.specs.declared.Digits.{Digits}
use Rattle.literal.specs.declared.UnescapeError.{UnescapeError}
use Rattle.literal.specs.declared.UnescapeError.TheVariants.{NotUtf8, NoEscape, NotScalar, NoRoom}

abbrev pub digits_by : Option ℕ → ℕ → ℕ → (ℕ → Digits) → Digits
digits_by None v k f = record { value = v; count = k }
digits_by (Some d) v k f = f (v * 16 + d)

-- hex digits from here on, up to m of them, after k that came to v
unfoldable pub digits_of : ℕ → ℕ → ℕ → List ℕ → Digits
digits_of m v k [] = record { value = v; count = k }
digits_of m v k (x ∷ xs) = choose (ltb k m) (λ u. digits_by (hex_of x) v k (λ w. digits_of m w (k + 1) xs)) (λ u. record { value = v; count = k })

-- after a backslash: the escapes of one letter, `" \ r n t 0 '`
unfoldable pub simple_of : ℕ → Option ℕ
simple_of x =
    choose (eqb x 34) (λ u. Some 34)
    (λ u. choose (eqb x 92) (λ u. Some 92)
    (λ u. choose (eqb x 114) (λ u. Some 13)
    (λ u. choose (eqb x 110) (λ u. Some 10)
    (λ u. choose (eqb x 116) (λ u. Some 9)
    (λ u. choose (eqb x 48) (λ u. Some 0)
    (λ u. choose (eqb x 39) (λ u. Some 39) (λ u. None)))))))

-- after `\x`: two hex digits
abbrev pub pair_by : Digits → Option (ℕ × ℕ)
pair_by d = choose (eqb d.count 2) (λ u. Some (d.value, 4)) (λ u. None)

unfoldable pub pair_of : List ℕ → Option (ℕ × ℕ)
pair_of xs = pair_by (digits_of 2 0 0 xs)

-- after `\u`: two to six hex digits in braces
abbrev pub braced_by : List ℕ → Digits → Option (ℕ × ℕ)
braced_by xs d =
    choose (leb 2 d.count) (λ u. choose (next_is 125 (drop d.count xs)) (λ u. Some (d.value, d.count + 4)) (λ u. None)) (λ u. None)

unfoldable pub braced_of : List ℕ → Option (ℕ × ℕ)
braced_of [] = None
braced_of (x ∷ xs) = choose (eqb x 123) (λ u. braced_by xs (digits_of 6 0 0 xs)) (λ u. None)

abbrev pub after_by : Option ℕ → ℕ → List ℕ → Option (ℕ × ℕ)
after_by (Some c) x xs = Some (c, 2)
after_by None x xs = choose (eqb x 120) (λ u. pair_of xs) (λ u. choose (eqb x 117) (λ u. braced_of xs) (λ u. None))

-- after a backslash
unfoldable pub after_of : List ℕ → Option (ℕ × ℕ)
after_of [] = None
after_of (x ∷ xs) = after_by (simple_of x) x xs

-- the escape that stands here: the number it means, and its length. Plain: none does
unfoldable pub escape_of : List ℕ → Option (ℕ × ℕ)
escape_of [] = None
escape_of (x ∷ xs) = choose (eqb x 92) (λ u. after_of xs) (λ u. None)

-- a backslash that begins no escape
abbrev pub stray_by : Option (ℕ × ℕ) → List ℕ → Option ℕ
stray_by (Some (c, n)) xs = Some (n - 1)
stray_by None xs = choose (next_is 92 xs) (λ u. None) (λ u. Some 0)

abbrev pub stray_look : List ℕ → Option ℕ
stray_look xs = stray_by (escape_of xs) xs

-- the first backslash that begins no escape
unfoldable pub no_escape : List ℕ → Option ℕ
no_escape s = sought stray_look 0 s

abbrev pub escape_look_by : Option (ℕ × ℕ) → Option ℕ
escape_look_by None = Some 0
escape_look_by (Some (c, n)) = choose (scalar c) (λ u. Some (n - 1)) (λ u. None)

abbrev pub escape_look : List ℕ → Option ℕ
escape_look xs = escape_look_by (escape_of xs)

-- the backslash of the first escape of a surrogate or of a number above U+10FFFF
unfoldable pub bad_escape : List ℕ → Option ℕ
bad_escape s = sought escape_look 0 s

abbrev pub escape_piece_by : List ℕ → Option (ℕ × ℕ) → Piece
escape_piece_by xs None = record { gives = take 1 xs; more = 0 }
escape_piece_by xs (Some (c, n)) = record { gives = encoded c; more = n - 1 }

abbrev pub escape_piece : List ℕ → Piece
escape_piece xs = escape_piece_by xs (escape_of xs)

-- the string that the inside of a literal means
unfoldable pub unescaped : List ℕ → List ℕ
unescaped s = spelled escape_piece 0 s

abbrev pub checked_by : Option ℕ → (ℕ → Result ℕ UnescapeError) → (Unit {0} → Result ℕ UnescapeError) → Result ℕ UnescapeError
checked_by (Some i) f g = f i
checked_by None f g = g tt

-- what `unescape` answers for a buffer of n bytes: the first fault of the whole inside, kind by kind, then room
unfoldable pub unescape_of : List ℕ → ℕ → Result ℕ UnescapeError
unescape_of s n =
    checked_by (first_bad s) (λ i. Err (NotUtf8 i))
    (λ u. checked_by (no_escape s) (λ i. Err (NoEscape i))
    (λ u. checked_by (bad_escape s) (λ i. Err (NotScalar i)) (λ u. choose (leb (length (unescaped s)) n) (λ u. Ok (length (unescaped s))) (λ u. Err NoRoom))))

-- and what it leaves in the buffer
unfoldable pub unescape_in : List ℕ → List ℕ → Result ℕ UnescapeError → List ℕ
unescape_in s o (Ok n) = fronted (unescaped s) o
unescape_in s o (Err (NotUtf8 i)) = o
unescape_in s o (Err (NoEscape i)) = o
unescape_in s o (Err (NotScalar i)) = o
unescape_in s o (Err NoRoom) = o
