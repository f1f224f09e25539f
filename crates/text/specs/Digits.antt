-- Decimal and hex digits: what a run of them is worth, and how a number is written.
use Rattle.std.specs.Prelude.{ℕ, zero, suc, ◌+◌, ◌-◌, ◌*◌, ◌/◌, ◌%◌, List, [], ◌∷◌, ◌++◌, leb, ltb, length, Option, Some, None, Result, Ok, Err}
use Rattle.text.specs.Booleans.{choose, within}
use Rattle.text.specs.Classes.{digit}
use Rattle.text.specs.Splice.{fronted}
use Rattle.text.specs.declared.DecimalError.{DecimalError}

-- the digits that are left, after some that are worth v
unfoldable pub decimal_from : ℕ → ℕ → List ℕ → Result ℕ DecimalError
decimal_from limit v [] = choose (leb v limit) (λ u. Ok v) (λ u. Err DecimalError.Over)
decimal_from limit v (x ∷ xs) = choose (digit x) (λ u. decimal_from limit (v * 10 + (x - 48)) xs) (λ u. Err DecimalError.NotDigits)

-- what one or more digits are worth, however many, if that is at most the limit
unfoldable pub decimal_of : ℕ → List ℕ → Result ℕ DecimalError
decimal_of limit [] = Err DecimalError.NotDigits
decimal_of limit (x ∷ xs) = decimal_from limit 0 (x ∷ xs)

-- the last digits of a number, the first of them not 0 unless it stands alone; the first argument bounds how many
unfoldable pub digits : ℕ → ℕ → List ℕ
digits zero n = []
digits (suc k) n = choose (ltb n 10) (λ u. (48 + n) ∷ []) (λ u. digits k (n / 10) ++ ((48 + n % 10) ∷ []))

-- a number in decimal
unfoldable pub decimal : ℕ → List ℕ
decimal n = digits (suc n) n

-- what writing a number's decimal to the front of a buffer of m bytes answers
unfoldable pub decimal_put : ℕ → ℕ → Option ℕ
decimal_put n m = choose (leb (length (decimal n)) m) (λ u. Some (length (decimal n))) (λ u. None)

-- and what it leaves there
unfoldable pub decimal_in : ℕ → List ℕ → Option ℕ → List ℕ
decimal_in n o (Some k) = fronted (decimal n) o
decimal_in n o None = o

-- the value of a hex digit, either case
unfoldable pub hex_of : ℕ → Option ℕ
hex_of x =
    choose (within 48 57 x) (λ u. Some (x - 48))
    (λ u. choose (within 65 70 x) (λ u. Some (x - 55)) (λ u. choose (within 97 102 x) (λ u. Some (x - 87)) (λ u. None)))

-- the hex digit of a value below sixteen, 0 to 9 and a to f: 48 and the value below ten, 87 and the value from ten on
unfoldable pub hex_digit : ℕ → ℕ
hex_digit d = choose (ltb d 10) (λ u. 48 + d) (λ u. 87 + d)

-- the last k hex digits of a number
unfoldable pub hexes : ℕ → ℕ → List ℕ
hexes zero c = []
hexes (suc k) c = hexes k (c / 16) ++ (hex_digit (c % 16) ∷ [])
