-- What the tokens of numbers are worth: they have digits, so it is a number, or too large.
use Rattle.std.specs.Prelude.{Ok, Err}
use Prim.Native.Nat.{ℕ, ◌+◌, ◌-◌, ◌*◌, ◌≤◌}
use mathlib.Core.Path.{◌≡◌}
use mathlib.Core.Bool.{true}
use mathlib.Core.List.{List, [], ◌∷◌}
use native.Mathlib.Omega.{arith}
use lib.Dec.{leb}
use borrow.Author.Tests.{leb-true}
use Rattle.text.specs.Booleans.{all}
use Rattle.text.specs.Classes.{digit}
use Rattle.text.specs.Digits.{decimal_from, decimal_of}
use Rattle.text.specs.declared.DecimalError.{DecimalError}
use Rattle.text.proofs.Booleans.{and_true, or_by, split}
use Rattle.token.specs.Table.{is, trimmed, word}
use Rattle.structure.specs.Values.{is_integer, integer_of}
use Rattle.structure.proofs.Spelled.{Digits, number_spelled, minus_spelled}

from_digits : (limit v : ℕ) (xs : List ℕ) → all digit xs ≡ true → decimal_from limit v xs ≡ Err DecimalError.NotDigits → ⊥
unfolding decimal_from all
from_digits limit v [] h e =
    split (leb v limit) _ _ (λ a f. let z : ◌≡◌ {A = ℕ} 0 1 = cc in omega arith) (λ a f. let z : ◌≡◌ {A = ℕ} 0 1 = cc in omega arith) e
from_digits limit v (x ∷ xs) h e =
    let (a, b) = and_true (digit x) (all digit xs) h in
    split (digit x) _ _ (λ c f. from_digits limit (v * 10 + (x - 48)) xs b f) (λ c f. let z : ◌≡◌ {A = ℕ} 0 1 = cc in omega arith) e

digits_worth : (limit : ℕ) (xs : List ℕ) → Digits xs → decimal_of limit xs ≡ Err DecimalError.NotDigits → ⊥
unfolding decimal_of
digits_worth limit [] h e = omega arith
digits_worth limit (x ∷ xs) h e = from_digits limit 0 (x ∷ xs) h.1 e

from_most : (limit v n : ℕ) (xs : List ℕ) → decimal_from limit v xs ≡ Ok n → n ≤ limit
unfolding decimal_from
from_most limit v n [] e =
    split (leb v limit) _ _ (λ a f. let z : v ≡ n = cc in omega (arith, leb-true v limit a)) (λ a f. let z : ◌≡◌ {A = ℕ} 0 1 = cc in absurd (omega arith)) e
from_most limit v n (x ∷ xs) e =
    split (digit x) _ _ (λ a f. from_most limit (v * 10 + (x - 48)) n xs f) (λ a f. let z : ◌≡◌ {A = ℕ} 0 1 = cc in absurd (omega arith)) e

-- a number that is worth something is at most the limit
pub decimal_most : (limit n : ℕ) (xs : List ℕ) → decimal_of limit xs ≡ Ok n → n ≤ limit
unfolding decimal_of
decimal_most limit n [] e = let z : ◌≡◌ {A = ℕ} 0 1 = cc in absurd (omega arith)
decimal_most limit n (x ∷ xs) e = from_most limit 0 n (x ∷ xs) e

-- the tokens of numbers are worth a number, or too large
pub number_digits : (s : List ℕ) (i limit : ℕ) → is s i 20 ≡ true → decimal_of limit (word s i) ≡ Err DecimalError.NotDigits → ⊥
number_digits s i limit e = digits_worth limit (word s i) (number_spelled s i e)

pub integer_digits : (s : List ℕ) (i : ℕ) → is_integer s i ≡ true → integer_of s i ≡ Err DecimalError.NotDigits → ⊥
integer_digits s i e f =
    split (is s i 21) _ _ (λ a g. digits_worth 2147483648 (trimmed s i 1 0) (minus_spelled s i a) g)
    (λ a g. or_by (is s i 20) (is s i 21) e (λ b. number_digits s i 2147483647 b g) (λ b. let z : ◌≡◌ {A = ℕ} 0 1 = cc in omega arith)) f
