-- A list that is gone through piece by piece, where a piece has one byte or more.
use Rattle.std.specs.Prelude.{ℕ, zero, suc, ◌+◌, List, [], ◌∷◌, ◌++◌, Option, Some, None}

-- what a piece stands for, and how many bytes it has after its first
pub record Piece : Type 0 where
  pub gives : List ℕ
  pub more : ℕ

-- what all pieces stand for. The first k bytes belong to a piece that was seen
unfoldable pub spelled : (List ℕ → Piece) → ℕ → List ℕ → List ℕ
spelled p k [] = []
spelled p (suc k) (x ∷ xs) = spelled p k xs
spelled p zero (x ∷ xs) = (p (x ∷ xs)).gives ++ spelled p (p (x ∷ xs)).more xs

-- what is found k bytes further on, counted from here
abbrev pub later : ℕ → Option ℕ → Option ℕ
later k None = None
later k (Some n) = Some (k + n)

abbrev pub sought_by : Option ℕ → (ℕ → Option ℕ) → Option ℕ
sought_by None f = Some 0
sought_by (Some n) f = later 1 (f n)

-- the start of the first piece at which to stop. `Some n`: a piece that has n bytes after its first, `None`: one to stop at
unfoldable pub sought : (List ℕ → Option ℕ) → ℕ → List ℕ → Option ℕ
sought p k [] = None
sought p (suc k) (x ∷ xs) = later 1 (sought p k xs)
sought p zero (x ∷ xs) = sought_by (p (x ∷ xs)) (λ n. sought p n xs)
