-- Branches on a test, and tests of a byte.
use Rattle.std.specs.Prelude.{ℕ, Bool, true, false, List, [], ◌∷◌, leb, eqb}

-- the one or the other; only the one that is chosen is computed
abbrev pub choose : {A : Type 0} → Bool → (Unit {0} → A) → (Unit {0} → A) → A
choose true f g = f tt
choose false f g = g tt

abbrev pub and : Bool → Bool → Bool
and true b = b
and false b = false

abbrev pub or : Bool → Bool → Bool
or true b = true
or false b = b

-- lo to hi, both included
abbrev pub within : ℕ → ℕ → ℕ → Bool
within lo hi b = and (leb lo b) (leb b hi)

-- the number is one of the list
abbrev pub among : List ℕ → ℕ → Bool
among [] b = false
among (x ∷ xs) b = or (eqb b x) (among xs b)

-- the first byte is b
abbrev pub next_is : ℕ → List ℕ → Bool
next_is b [] = false
next_is b (x ∷ xs) = eqb x b

-- every byte passes the test
unfoldable pub all : (ℕ → Bool) → List ℕ → Bool
all f [] = true
all f (x ∷ xs) = and (f x) (all f xs)
