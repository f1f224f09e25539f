-- UTF-8 as RFC 3629 has it: the table of its section 3, and the byte ranges of its section 4.
use Rattle.std.specs.Prelude.{ℕ, zero, suc, ◌+◌, ◌-◌, ◌*◌, ◌/◌, ◌%◌, ◌≤◌, Bool, true, List, [], ◌∷◌, leb, ltb, length, Option, Some, None, Result, Ok, Err}
use Rattle.text.specs.Booleans.{choose, within}
use Rattle.text.specs.Scans.{sought}
use Rattle.text.specs.Splice.{fronted}
use Rattle.text.specs.declared.EncodeError.{EncodeError}
use Rattle.text.specs.declared.EncodeError.TheVariants.{NoRoom, NotScalar}

-- a Unicode scalar value: at most U+10FFFF and no surrogate
unfoldable pub scalar : ℕ → Bool
scalar c = choose (ltb c 0xd800) (λ u. true) (λ u. within 0xe000 0x10ffff c)

-- section 3's table by the first byte: the number's bits in it, the bytes that follow, and the row's least number
unfoldable pub lead_of : ℕ → Option (ℕ × ℕ × ℕ)
lead_of x =
    choose (ltb x 0x80) (λ u. Some (x, 0, 0))
    (λ u. choose (ltb x 0xc0) (λ u. None)
    (λ u. choose (ltb x 0xe0) (λ u. Some (x - 0xc0, 1, 0x80))
    (λ u. choose (ltb x 0xf0) (λ u. Some (x - 0xe0, 2, 0x800))
    (λ u. choose (ltb x 0xf8) (λ u. Some (x - 0xf0, 3, 0x10000)) (λ u. None)))))

-- a number with the six bits of each of k more bytes, 10xxxxxx
unfoldable pub gathered : ℕ → ℕ → List ℕ → Option ℕ
gathered zero v xs = Some v
gathered (suc k) v [] = None
gathered (suc k) v (x ∷ xs) = choose (within 0x80 0xbf x) (λ u. gathered k (v * 64 + (x - 0x80)) xs) (λ u. None)

-- a number of n bytes that needs them, since it is at least its row's least, and is a scalar value
unfoldable pub judged : ℕ → ℕ → Option ℕ → Option (ℕ × ℕ)
judged low n None = None
judged low n (Some v) = choose (leb low v) (λ u. choose (scalar v) (λ u. Some (v, n)) (λ u. None)) (λ u. None)

abbrev pub sequence_by : Option (ℕ × ℕ × ℕ) → List ℕ → Option (ℕ × ℕ)
sequence_by None xs = None
sequence_by (Some (bits, more, low)) xs = judged low (more + 1) (gathered more bits xs)

-- the first sequence: its character and its length
unfoldable pub char_of : List ℕ → Option (ℕ × ℕ)
char_of [] = None
char_of (x ∷ xs) = sequence_by (lead_of x) xs

abbrev pub look_by : Option (ℕ × ℕ) → Option ℕ
look_by None = None
look_by (Some (c, n)) = Some (n - 1)

abbrev pub seq_look : List ℕ → Option ℕ
seq_look xs = look_by (char_of xs)

-- the start of the first bad sequence
unfoldable pub first_bad : List ℕ → Option ℕ
first_bad s = sought seq_look 0 s

-- the bytes of a scalar value, by section 3's table
unfoldable pub encoded : ℕ → List ℕ
encoded c =
    choose (ltb c 0x80) (λ u. c ∷ [])
    (λ u. choose (ltb c 0x800) (λ u. (0xc0 + c / 64) ∷ (0x80 + c % 64) ∷ [])
    (λ u. choose (ltb c 0x10000) (λ u. (0xe0 + c / 4096) ∷ (0x80 + c / 64 % 64) ∷ (0x80 + c % 64) ∷ [])
    (λ u. (0xf0 + c / 262144) ∷ (0x80 + c / 4096 % 64) ∷ (0x80 + c / 64 % 64) ∷ (0x80 + c % 64) ∷ [])))

-- what writing a number's bytes to the front of a buffer of n bytes answers
unfoldable pub encode_of : ℕ → ℕ → Result ℕ EncodeError
encode_of c n = choose (scalar c) (λ u. choose (leb (length (encoded c)) n) (λ u. Ok (length (encoded c))) (λ u. Err NoRoom)) (λ u. Err NotScalar)

-- and what it leaves there
unfoldable pub encode_in : ℕ → List ℕ → Result ℕ EncodeError → List ℕ
encode_in c o (Ok n) = fronted (encoded c) o
encode_in c o (Err NoRoom) = o
encode_in c o (Err NotScalar) = o

-- section 4: UTF8-tail
abbrev pub Tail : ℕ → Type 0
Tail x = (0x80 ≤ x) × (x ≤ 0xbf)

-- section 4: UTF8-char, a constructor for each of its alternatives
pub data Utf8Char : List ℕ → Type 0 where
  utf8_1 : {x : ℕ} → x ≤ 0x7f → Utf8Char (x ∷ [])
  utf8_2 : {x y : ℕ} → 0xc2 ≤ x → x ≤ 0xdf → Tail y → Utf8Char (x ∷ y ∷ [])
  utf8_3_e0 : {y z : ℕ} → 0xa0 ≤ y → y ≤ 0xbf → Tail z → Utf8Char (0xe0 ∷ y ∷ z ∷ [])
  utf8_3_e1 : {x y z : ℕ} → 0xe1 ≤ x → x ≤ 0xec → Tail y → Tail z → Utf8Char (x ∷ y ∷ z ∷ [])
  utf8_3_ed : {y z : ℕ} → 0x80 ≤ y → y ≤ 0x9f → Tail z → Utf8Char (0xed ∷ y ∷ z ∷ [])
  utf8_3_ee : {x y z : ℕ} → 0xee ≤ x → x ≤ 0xef → Tail y → Tail z → Utf8Char (x ∷ y ∷ z ∷ [])
  utf8_4_f0 : {y z t : ℕ} → 0x90 ≤ y → y ≤ 0xbf → Tail z → Tail t → Utf8Char (0xf0 ∷ y ∷ z ∷ t ∷ [])
  utf8_4_f1 : {x y z t : ℕ} → 0xf1 ≤ x → x ≤ 0xf3 → Tail y → Tail z → Tail t → Utf8Char (x ∷ y ∷ z ∷ t ∷ [])
  utf8_4_f4 : {y z t : ℕ} → 0x80 ≤ y → y ≤ 0x8f → Tail z → Tail t → Utf8Char (0xf4 ∷ y ∷ z ∷ t ∷ [])
