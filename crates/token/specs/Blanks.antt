-- Runs of bytes, and blanks: what stands at the front of what is left of a text. Lengths are counted from there.
use Rattle.std.specs.Prelude.{ℕ, suc, ◌+◌, ◌-◌, ◌<◌, Bool, true, false, not, List, [], ◌∷◌, leb, eqb, get_or, drop, Option, Some, None}
use Rattle.text.specs.Booleans.{choose, and, or, next_is}
use Rattle.text.specs.Classes.{class_of}
use Rattle.text.specs.Words.{in_word}
use Rattle.token.specs.declared.Mark.{Mark}
use Rattle.token.specs.declared.Mark.TheVariants.{Closes, Opens, Neither}

-- how many bytes from here on pass a test, which looks at what is left
unfoldable pub run : (List ℕ → Bool) → List ℕ → ℕ
run p [] = 0
run p (x ∷ xs) = choose (p (x ∷ xs)) (λ u. suc (run p xs)) (λ u. 0)

-- a test of the first byte
abbrev pub first : (ℕ → Bool) → List ℕ → Bool
first f [] = false
first f (x ∷ xs) = f x

-- 0-9
abbrev pub in_digits : ℕ → Bool
in_digits b = eqb (class_of b) 3

-- 0
abbrev pub is_zero : ℕ → Bool
is_zero b = eqb b 48

-- LF or CRLF stands here, or the text ends
abbrev pub line_ends : List ℕ → Bool
line_ends [] = true
line_ends (x ∷ xs) = or (eqb x 10) (and (eqb x 13) (next_is 10 xs))

-- the n bytes from a place on are above CR: none of them ends a line
pub record Plain (n : ℕ) (s : List ℕ) (at : ℕ) : Type 0 where
  pub above : (k : ℕ) → k < n → 13 < get_or s (at + k) 0

-- any byte before a line's end
abbrev pub in_line : List ℕ → Bool
in_line xs = not (line_ends xs)

-- how many letters, `_` and digits stand first
abbrev pub words : List ℕ → ℕ
words xs = run (first in_word) xs

-- how many digits
abbrev pub digit_run : List ℕ → ℕ
digit_run xs = run (first in_digits) xs

-- how many zeros
abbrev pub zeros : List ℕ → ℕ
zeros xs = run (first is_zero) xs

-- how many bytes before the line's end
abbrev pub line : List ℕ → ℕ
line xs = run in_line xs

-- what two bytes are in a comment: `*/`, `/*` or neither
unfoldable pub mark_of : ℕ → ℕ → Mark
mark_of x y = choose (and (eqb x 42) (eqb y 47)) (λ u. Closes) (λ u. choose (and (eqb x 47) (eqb y 42)) (λ u. Opens) (λ u. Neither))

-- what is found k bytes further on, counted from here
abbrev pub further : ℕ → Option ℕ → Option ℕ
further k (Some n) = Some (k + n)
further k None = None

-- what a mark does where d comments are open. f: what follows it, by the number open; g: what follows its first byte
abbrev pub close_by : Mark → ℕ → (ℕ → Option ℕ) → (Unit {0} → Option ℕ) → Option ℕ
close_by Closes d f g = choose (leb d 1) (λ u. Some 2) (λ u. further 2 (f (d - 1)))
close_by Opens d f g = further 2 (f (d + 1))
close_by Neither d f g = further 1 (g tt)

-- comments nest: with d of them open, up to where the last is closed, if it is
unfoldable pub close_of : ℕ → List ℕ → Option ℕ
close_of d [] = None
close_of d (x ∷ []) = None
close_of d (x ∷ y ∷ xs) = close_by (mark_of x y) d (λ k. close_of k xs) (λ u. close_of d (y ∷ xs))

-- `/*` and the inside: an unclosed comment is no blank
abbrev pub comment_blank : Option ℕ → Option ℕ
comment_blank (Some n) = Some (n + 1)
comment_blank None = None

-- after `//`: a comment up to the line's end, unless `/` or `!` follows
unfoldable pub line_blank : List ℕ → Option ℕ
line_blank xs = choose (next_is 47 xs) (λ u. None) (λ u. choose (next_is 33 xs) (λ u. None) (λ u. Some (line xs + 1)))

-- after `/`: either comment
unfoldable pub slash_blank : List ℕ → Option ℕ
slash_blank xs =
    choose (next_is 47 xs) (λ u. line_blank (drop 1 xs))
    (λ u. choose (next_is 42 xs) (λ u. comment_blank (close_of 1 (drop 1 xs))) (λ u. None))

-- CR is a blank only before LF
unfoldable pub return_blank : List ℕ → Option ℕ
return_blank xs = choose (next_is 10 xs) (λ u. Some 1) (λ u. None)

-- the openers that may begin a blank: CR and `/`. xs stands after the opener
unfoldable pub opener_blank : ℕ → List ℕ → Option ℕ
opener_blank x xs = choose (eqb x 13) (λ u. return_blank xs) (λ u. choose (eqb x 47) (λ u. slash_blank xs) (λ u. None))

-- a blank by the class of its first byte
unfoldable pub blank_by : ℕ → ℕ → List ℕ → Option ℕ
blank_by c x xs = choose (eqb c 1) (λ u. Some 0) (λ u. choose (eqb c 5) (λ u. opener_blank x xs) (λ u. None))

-- the blank that stands first. `Some n`: it has n bytes after its first; `None`: none stands here
abbrev pub blank_of : List ℕ → Option ℕ
blank_of [] = None
blank_of (x ∷ xs) = blank_by (class_of x) x xs

-- the place past a blank that begins at a place; that place itself where none does
abbrev pub past_from : ℕ → Option ℕ → ℕ
past_from at (Some n) = at + (n + 1)
past_from at None = at
