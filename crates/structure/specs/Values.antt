-- What tokens are worth, and the refusals 5, 6, 7, 8, 13 and 15.
use Rattle.std.specs.Prelude.{ℕ, zero, suc, ◌+◌, ◌-◌, Bool, false, List, ltb, eqb, length, Option, Some, None, Result, Ok, Err}
use Rattle.text.specs.Booleans.{choose, and, or}
use Rattle.text.specs.Digits.{decimal_of}
use Rattle.text.specs.Utf8.{char_of}
use Rattle.text.specs.declared.DecimalError.{DecimalError}
use Rattle.literal.specs.Escapes.{escape_of, unescaped, bad_escape}
use Rattle.token.specs.Table.{toks, kind, start, is, trimmed, word}
use Rattle.token.specs.Tokens.{push_literal}
use Rattle.structure.specs.declared.Edition.{Edition}
use Rattle.structure.specs.declared.Edition.TheVariants.{First, Second}
use Rattle.structure.specs.declared.Level.{Level}
use Rattle.structure.specs.declared.Level.TheVariants.{Tagged, Plain}
use Rattle.structure.specs.declared.Why.TheVariants.{Over, Zero, PeekRange, NotScalar, NotPlain, Above}
use Rattle.structure.specs.Refusals.{fault_by}
use Rattle.structure.specs.Tokens.{spells}
use Rattle.structure.specs.declared.Refusal.{Refusal}

abbrev pub value_of : Result ℕ DecimalError → ℕ
value_of (Ok n) = n
value_of (Err DecimalError.Over) = 0
value_of (Err DecimalError.NotDigits) = 0

-- a repeat number, up to 4,294,967,295
unfoldable pub number : List ℕ → ℕ → ℕ
number s i = value_of (decimal_of 4294967295 (word s i))

abbrev pub negated : ℕ → ℕ
negated zero = 0
negated (suc n) = 4294967295 - n

-- a number that may stand in a PEEK slice
abbrev pub is_integer : List ℕ → ℕ → Bool
is_integer s i = or (is s i 20) (is s i 21)

-- its value but for the sign: what i32 has room for, one more where a minus stands
abbrev pub integer_of : List ℕ → ℕ → Result ℕ DecimalError
integer_of s i = choose (is s i 21) (λ u. decimal_of 2147483648 (trimmed s i 1 0)) (λ u. decimal_of 2147483647 (word s i))

unfoldable pub integer : List ℕ → ℕ → ℕ
integer s i = choose (is s i 21) (λ u. negated (value_of (integer_of s i))) (λ u. value_of (integer_of s i))

-- how many bytes open a literal: `"` or `'`, and `^"`
abbrev pub opening : List ℕ → ℕ → ℕ
opening s i = choose (is s i 24) (λ u. 2) (λ u. 1)

-- the inside of a literal
abbrev pub literal_bytes : List ℕ → ℕ → List ℕ
literal_bytes s i = trimmed s i (opening s i) 1

-- the string that it means
unfoldable pub string : List ℕ → ℕ → List ℕ
string s i = unescaped (literal_bytes s i)

abbrev pub raw_char : Option (ℕ × ℕ) → ℕ
raw_char (Some (c, n)) = c
raw_char None = 0

abbrev pub char_by : Option (ℕ × ℕ) → List ℕ → ℕ
char_by (Some (c, n)) xs = c
char_by None xs = raw_char (char_of xs)

-- the character that a character literal means
unfoldable pub character : List ℕ → ℕ → ℕ
character s i = char_by (escape_of (literal_bytes s i)) (literal_bytes s i)

-- a count is above a maximum; one that is too large or 0 has a fault of its own
abbrev pub over_most : ℕ → Result ℕ DecimalError → Bool
over_most n (Ok m) = and (ltb 0 m) (ltb m n)
over_most n (Err DecimalError.Over) = false
over_most n (Err DecimalError.NotDigits) = false

-- a count is above the maximum that a comma and a number say behind it
abbrev pub exceeds : List ℕ → ℕ → ℕ → Bool
exceeds s i n = and (is s (i + 1) 15) (and (is s (i + 2) 20) (over_most n (decimal_of 4294967295 (word s (i + 2)))))

-- as an edition asks it
abbrev pub exceeds_in : Edition → List ℕ → ℕ → ℕ → Bool
exceeds_in First s i n = false
exceeds_in Second s i n = exceeds s i n

-- a count that isn't 0, at a minimum's place
abbrev pub above_fault : Edition → List ℕ → ℕ → ℕ → Option Refusal
above_fault edition s i n = choose (exceeds_in edition s i n) (λ u. fault_by Above (start s i)) (λ u. None)

-- a repeat number: over 4,294,967,295, or 0 where it is an exact count or a maximum, since `}` follows, or above its maximum
abbrev pub repeat_fault : Edition → List ℕ → ℕ → Result ℕ DecimalError → Option Refusal
repeat_fault edition s i (Err DecimalError.NotDigits) = None
repeat_fault edition s i (Err DecimalError.Over) = fault_by Over (start s i)
repeat_fault edition s i (Ok zero) = choose (is s (i + 1) 3) (λ u. fault_by Zero (start s i)) (λ u. None)
repeat_fault edition s i (Ok (suc n)) = above_fault edition s i (suc n)

-- a PEEK number outside i32
abbrev pub peek_fault : List ℕ → ℕ → Result ℕ DecimalError → Option Refusal
peek_fault s i (Ok n) = None
peek_fault s i (Err DecimalError.Over) = fault_by PeekRange (start s i)
peek_fault s i (Err DecimalError.NotDigits) = None

-- an escape of a surrogate or above U+10FFFF, at its backslash
abbrev pub literal_fault : List ℕ → ℕ → Option ℕ → Option Refusal
literal_fault s i None = None
literal_fault s i (Some k) = fault_by NotScalar (start s i + opening s i + k)

-- plain only: PUSH_LITERAL
abbrev pub word_fault : Level → List ℕ → ℕ → Option Refusal
word_fault Tagged s i = None
word_fault Plain s i = choose (spells push_literal s i) (λ u. fault_by NotPlain (start s i)) (λ u. None)

-- a number after `[` or `..` stands in a PEEK slice
abbrev pub number_fault : Edition → List ℕ → ℕ → ℕ → Option Refusal
number_fault edition s before i =
    choose (or (eqb before 4) (eqb before 22)) (λ u. peek_fault s i (integer_of s i)) (λ u. repeat_fault edition s i (decimal_of 4294967295 (word s i)))

-- what is wrong with the value of a token, by its kind and that of the token before it
unfoldable pub fault_at : Edition → Level → List ℕ → ℕ → ℕ → Option Refusal
fault_at edition level s before i =
    choose (is s i 18) (λ u. word_fault level s i)
    (λ u. choose (is s i 20) (λ u. number_fault edition s before i)
    (λ u. choose (is s i 21) (λ u. peek_fault s i (integer_of s i))
    (λ u. choose (or (is s i 23) (or (is s i 24) (is s i 25))) (λ u. literal_fault s i (bad_escape (literal_bytes s i))) (λ u. None))))

abbrev pub or_fault : Option Refusal → (Unit {0} → Option Refusal) → Option Refusal
or_fault None f = f tt
or_fault (Some r) f = Some r

-- the first fault among n tokens from an index on, the one before them being of a kind
unfoldable pub faults_from : Edition → Level → List ℕ → ℕ → ℕ → ℕ → Option Refusal
faults_from edition level s before i zero = None
faults_from edition level s before i (suc n) = or_fault (fault_at edition level s before i) (λ u. faults_from edition level s (kind s i) (i + 1) n)

-- the first fault of a text, from the left
unfoldable pub faults : Edition → Level → List ℕ → Option Refusal
faults edition level s = faults_from edition level s 0 0 (length (toks s))
