-- Where the letters, `_` and digits of a store stop.
use Rattle.std.specs.Prelude.{ℕ, suc, ◌+◌, ◌/◌, ◌%◌, ◌<◌, ◌≡◌, List, [], ◌∷◌, eqb, length, get_or, drop, set}
use Rattle.text.specs.Booleans.{choose}
use Rattle.text.specs.Words.{in_word}

-- how many bytes of words stand first
unfoldable pub run : List ℕ → ℕ
run [] = 0
run (x ∷ xs) = choose (in_word x) (λ u. suc (run xs)) (λ u. 0)

-- where those from a place on stop
unfoldable pub run_from : List ℕ → ℕ → ℕ
run_from st i = i + run (drop i st)

-- a table with the stop of a place, if that is the first of its block
unfoldable pub noted : List ℕ → ℕ → ℕ → List ℕ
noted ks i x = choose (eqb (i % 64) 0) (λ u. set ks (i / 64) x) (λ u. ks)

-- the table has the stops of the first place of each block of 64 bytes
pub record Runs (st ks : List ℕ) : Type 0 where
  pub at : (i : ℕ) → i < length st → i % 64 ≡ 0 → get_or ks (i / 64) 0 ≡ run_from st i
