-- What the functions that fill a buffer leave in it.
use Rattle.std.specs.Prelude.{ℕ, zero, suc, ◌+◌, ◌-◌, ◌*◌, ◌%◌, Bool, true, not, List, [], ◌∷◌, leb, ltb, eqb, length, take, drop, set}
use Rattle.text.specs.Booleans.{choose}
use Rattle.vectors.specs.Vectors.{find_of, word_of, hex_value, number_from, one_if}

-- a buffer, and how many of its elements are in use
pub record Filled : Type 0 where
  pub used : ℕ
  pub held : List ℕ

abbrev pub filled : ℕ → List ℕ → Filled
filled k o = record { used = k; held = o }

-- a list behind the first k elements, as far as there is room
unfoldable pub put : List ℕ → ℕ → List ℕ → Filled
put o k [] = filled k o
put o k (x ∷ xs) = choose (leb (length o) k) (λ u. filled k o) (λ u. put (set o k x) (k + 1) xs)

-- the bytes that pairs of hex digits spell
unfoldable pub unhexed : List ℕ → List ℕ
unhexed [] = []
unhexed (x ∷ []) = []
unhexed (x ∷ y ∷ s) = (hex_value x * 16 + hex_value y) ∷ unhexed s

-- a piece behind what a buffer has; nothing where that is more than the buffer
unfoldable pub appended : List ℕ → ℕ → List ℕ → Filled
appended o k x = choose (ltb (length o) k) (λ u. filled 0 o) (λ u. put o k x)

-- a piece n times
unfoldable pub times : ℕ → List ℕ → Filled → Filled
times zero x f = f
times (suc n) x f = times n x (appended f.held f.used x)

unfoldable pub repeated : ℕ → List ℕ → List ℕ → ℕ → Filled
repeated n x o k = choose (ltb (length o) k) (λ u. filled 0 o) (λ u. times n x (filled k o))

-- n pieces from a field on: how many times, and what in hex, at most 4,096 bytes
unfoldable pub pieces_from : ℕ → List ℕ → ℕ → Filled → Filled
pieces_from zero line at f = f
pieces_from (suc n) line at f =
    pieces_from n line (at + 2) (repeated (number_from 0 (word_of line at)) (take 4096 (unhexed (word_of line (at + 1)))) f.held f.used)

-- the bytes from a place to another
abbrev pub between : List ℕ → ℕ → ℕ → List ℕ
between s a z = take (z - a) (drop a s)

-- n pieces from a place on: how often, a colon, in hex what, at most 1,024 bytes, a comma
unfoldable pub parts_from : ℕ → List ℕ → ℕ → Filled → Filled
parts_from zero s at f = f
parts_from (suc n) s at f =
    let colon = find_of s at 58 true in
    let comma = find_of s (colon + 1) 44 true in
    choose (leb (length s) colon) (λ u. f)
    (λ u. parts_from n s (comma + 1) (repeated (number_from 0 (between s at colon)) (take 1024 (unhexed (between s (colon + 1) comma))) f.held f.used))

-- a number with one more digit, kept to 32 bits; other bytes mean nothing
unfoldable pub more_of : ℕ → ℕ → ℕ
more_of v b = choose (ltb b 48) (λ u. v) (λ u. choose (ltb 57 b) (λ u. v) (λ u. (v * 10 + (b - 48)) % 0x1_0000_0000))

abbrev pub kept_if : ℕ → Bool → ℕ
kept_if v met = choose met (λ u. v) (λ u. 0)

-- the numbers of a list in which a comma stands behind each; the one before it is in the buffer as far as it is read
unfoldable pub numbers_from : ℕ → List ℕ → ℕ → List ℕ → Filled
numbers_from v o k [] = filled k o
numbers_from v o k (x ∷ xs) =
    choose (leb (length o) k) (λ u. filled k o)
    (λ u. numbers_from (kept_if (more_of v x) (not (eqb x 44))) (set o k (more_of v x)) (k + one_if (eqb x 44)) xs)
