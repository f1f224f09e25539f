-- The line of a refusal.
use Rattle.std.specs.Prelude.{ℕ, List, [], ◌∷◌, ◌++◌, leb, length, Option, Some, None}
use Rattle.text.specs.Booleans.{choose}
use Rattle.text.specs.Digits.{decimal}
use Rattle.text.specs.Splice.{fronted}

-- `refused ` and the number, ` at ` and the place, both in decimal, and LF
unfoldable pub refusal_line : ℕ → ℕ → List ℕ
refusal_line n p =
    (114 ∷ 101 ∷ 102 ∷ 117 ∷ 115 ∷ 101 ∷ 100 ∷ 32 ∷ []) ++ (decimal n ++ ((32 ∷ 97 ∷ 116 ∷ 32 ∷ []) ++ (decimal p ++ (10 ∷ []))))

-- what writing it to the front of an output of m bytes answers
unfoldable pub refusal_put : ℕ → ℕ → ℕ → Option ℕ
refusal_put n p m =
    choose (leb (length (refusal_line n p)) m) (λ u. Some (length (refusal_line n p))) (λ u. None)

-- and what it leaves there
unfoldable pub refusal_in : ℕ → ℕ → List ℕ → Option ℕ → List ℕ
refusal_in n p o (Some k) = fronted (refusal_line n p) o
refusal_in n p o None = o
