-- Literals as they are printed.
use Rattle.std.specs.Prelude.{ℕ, ◌-◌, Bool, not, List, [], ◌∷◌, ◌++◌, leb, ltb, eqb, length, Option, Some, None, Result, Ok, Err}
use Rattle.text.specs.Booleans.{choose, and, or, within}
use Rattle.text.specs.Scans.{Piece, spelled}
use Rattle.text.specs.Splice.{fronted}
use Rattle.text.specs.Utf8.{char_of, encoded, first_bad}
use Rattle.text.specs.Digits.{hexes}
use Rattle.literal.specs.declared.Show.{Show}
use Rattle.literal.specs.declared.Show.TheVariants.{Pair, Bare, Hex}
use Rattle.literal.specs.declared.Quote.{Quote}
use Rattle.literal.specs.declared.Quote.TheVariants.{Double, Single}
use Rattle.literal.specs.declared.FormatError.{FormatError}
use Rattle.literal.specs.declared.FormatError.TheVariants.{NotUtf8, NoRoom}

-- as many hex digits as the number needs but at least two
unfoldable pub hex_count : ℕ → ℕ
hex_count c =
    choose (ltb c 0x100) (λ u. 2)
    (λ u. choose (ltb c 0x1000) (λ u. 3) (λ u. choose (ltb c 0x10000) (λ u. 4) (λ u. choose (ltb c 0x100000) (λ u. 5) (λ u. 6))))

-- the characters that print bare: U+0020 to U+007E, and U+00A1 to U+024F but for U+00AD
abbrev pub bare : ℕ → Bool
bare c = or (within 0x20 0x7e c) (and (within 0xa1 0x24f c) (not (eqb c 0xad)))

-- a character that stands for itself between quotes q
abbrev pub bare_in : ℕ → ℕ → Bool
bare_in q c = and (bare c) (and (not (eqb c q)) (not (eqb c 92)))

-- a byte that does: the whole of such a character, so never one from 0x80 on, which is part of a longer one or of none
abbrev pub bare_byte : ℕ → ℕ → Bool
bare_byte q b = and (ltb b 0x80) (bare_in q b)

-- how a character is shown: with a backslash before a letter, bare, or by its number. NUL, tab, LF, CR have letters
unfoldable pub show_of : ℕ → ℕ → Show
show_of q c =
    choose (eqb c q) (λ u. Pair q)
    (λ u. choose (eqb c 92) (λ u. Pair 92)
    (λ u. choose (eqb c 0) (λ u. Pair 48)
    (λ u. choose (eqb c 9) (λ u. Pair 116)
    (λ u. choose (eqb c 10) (λ u. Pair 110)
    (λ u. choose (eqb c 13) (λ u. Pair 114)
    (λ u. choose (bare c) (λ u. Bare) (λ u. Hex)))))))

unfoldable pub shown_by : Show → ℕ → List ℕ
shown_by (Pair b) c = 92 ∷ b ∷ []
shown_by Bare c = encoded c
shown_by Hex c = 92 ∷ 117 ∷ 123 ∷ (hexes (hex_count c) c ++ (125 ∷ []))

-- a character in a literal whose quote is q
unfoldable pub shown : ℕ → ℕ → List ℕ
shown q c = shown_by (show_of q c) c

abbrev pub char_piece_by : ℕ → Option (ℕ × ℕ) → Piece
char_piece_by q None = record { gives = []; more = 0 }
char_piece_by q (Some (c, n)) = record { gives = shown q c; more = n - 1 }

abbrev pub char_piece : ℕ → List ℕ → Piece
char_piece q xs = char_piece_by q (char_of xs)

-- a string between its quotes
unfoldable pub inside : ℕ → List ℕ → List ℕ
inside q s = spelled (char_piece q) 0 s

-- a string with its quotes
unfoldable pub literal : ℕ → List ℕ → List ℕ
literal q s = q ∷ (inside q s ++ (q ∷ []))

-- the byte of a quote
abbrev pub quote_byte : Quote → ℕ
quote_byte Double = 34
quote_byte Single = 39

abbrev pub format_by : Option ℕ → ℕ → ℕ → Result ℕ FormatError
format_by (Some i) k n = Err (NotUtf8 i)
format_by None k n = choose (leb k n) (λ u. Ok k) (λ u. Err NoRoom)

-- what `fmt_literal` answers for a buffer of n bytes
unfoldable pub format_of : List ℕ → Quote → ℕ → Result ℕ FormatError
format_of s q n = format_by (first_bad s) (length (literal (quote_byte q) s)) n

-- and what it leaves in the buffer
unfoldable pub format_in : List ℕ → Quote → List ℕ → Result ℕ FormatError → List ℕ
format_in s q o (Ok n) = fronted (literal (quote_byte q) s) o
format_in s q o (Err (NotUtf8 i)) = o
format_in s q o (Err NoRoom) = o
