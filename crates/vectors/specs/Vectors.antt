-- What the functions on lines of test vectors answer.
use Rattle.std.specs.Prelude.{ℕ, zero, suc, ◌+◌, ◌-◌, ◌*◌, ◌%◌, Bool, true, false, List, [], ◌∷◌, leb, ltb, eqb, length, take, drop}
use Rattle.std.specs.Bool.{beq}
use Rattle.text.specs.Booleans.{choose}
use Rattle.vectors.specs.declared.Part.{Part}

-- ---- the fields of a line

-- how many bytes stand before the first that is b (or, asked so, that is not)
unfoldable pub before : ℕ → Bool → List ℕ → ℕ
before b wanted [] = 0
before b wanted (x ∷ xs) = choose (beq (eqb x b) wanted) (λ u. 0) (λ u. suc (before b wanted xs))

-- its place, from a place on, or the end
unfoldable pub find_of : List ℕ → ℕ → ℕ → Bool → ℕ
find_of s at b wanted = choose (ltb (length s) at) (λ u. length s) (λ u. at + before b wanted (drop at s))

-- the next field from a place on: from the first byte that is no space to the next space
unfoldable pub field_of : List ℕ → ℕ → Part
field_of s at = let a = find_of s at 32 false in record { start = a; end = find_of s a 32 true }

-- past the first k fields
unfoldable pub past_fields : List ℕ → ℕ → ℕ
past_fields s zero = 0
past_fields s (suc k) = (field_of s (past_fields s k)).end

-- the bytes of a part
abbrev pub part_of : List ℕ → Part → List ℕ
part_of s p = take (p.end - p.start) (drop p.start s)

-- the field that k others stand before
unfoldable pub word_of : List ℕ → ℕ → List ℕ
word_of s k = part_of s (field_of s (past_fields s k))

-- ---- numbers

-- what a hex digit is worth; other bytes mean nothing
unfoldable pub hex_value : ℕ → ℕ
hex_value b =
    choose (ltb b 48) (λ u. 0)
    (λ u. choose (leb b 57) (λ u. b - 48)
    (λ u. choose (ltb b 97) (λ u. 0)
    (λ u. choose (leb b 102) (λ u. b - 87) (λ u. 0))))

-- a number with more digits behind it; one that has 19 digits takes no more
unfoldable pub number_from : ℕ → List ℕ → ℕ
number_from v [] = v
number_from v (x ∷ xs) = choose (leb 1000000000000000000 v) (λ u. v) (λ u. number_from (v * 10 + hex_value x) xs)

-- ---- counts and sums

abbrev pub one_if : Bool → ℕ
one_if b = choose b (λ u. 1) (λ u. 0)

-- how many of a list are v
unfoldable pub alone : ℕ → List ℕ → ℕ
alone v [] = 0
alone v (x ∷ xs) = one_if (eqb x v) + alone v xs

-- a sum of 32 bits with one more number in it, and with all of a list
abbrev pub mixed_of : ℕ → ℕ → ℕ
mixed_of sum v = (sum * 31 + v) % 0x1_0000_0000

unfoldable pub sum_from : ℕ → List ℕ → ℕ
sum_from sum [] = sum
sum_from sum (x ∷ xs) = sum_from (mixed_of sum x) xs
