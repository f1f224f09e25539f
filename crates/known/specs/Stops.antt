-- Where the characters of a store stop, and what that says of its parts.
use Rattle.std.specs.Prelude.{ℕ, ◌+◌, ◌*◌, ◌/◌, ◌%◌, ◌<◌, ◌≡◌, Bool, true, false, not, List, ltb, eqb, length, get_or, take, drop, set, Option, Some, None}
use Rattle.text.specs.Booleans.{choose, within}
use Rattle.text.specs.Scans.{later}
use Rattle.text.specs.Utf8.{first_bad}

-- where a walk stopped, or else a number
abbrev pub stop_of : ℕ → Option ℕ → ℕ
stop_of n None = n
stop_of n (Some k) = k

abbrev pub is_through : Option ℕ → Bool
is_through None = true
is_through (Some i) = false

-- where the characters from a place on stop: at the first bad sequence, or at the end
unfoldable pub stop_from : List ℕ → ℕ → ℕ
stop_from st i = stop_of (length st) (later i (first_bad (drop i st)))

-- the part from p to e is UTF-8
unfoldable pub is_part : List ℕ → ℕ → ℕ → Bool
is_part st p e = is_through (first_bad (drop p (take e st)))

-- a table with the stop of a place, if that is one of the first four of its block
unfoldable pub noted : List ℕ → ℕ → ℕ → List ℕ
noted ks i x = choose (ltb (i % 64) 4) (λ u. set ks (i / 64 * 4 + i % 64) x) (λ u. ks)

-- the table has the stops of the first four places of each block of 64 bytes
pub record Stops (st ks : List ℕ) : Type 0 where
  pub at : (i : ℕ) → i < length st → i % 64 < 4 → get_or ks (i / 64 * 4 + i % 64) 0 ≡ stop_from st i

-- characters that stop at a place can end at e: there, or before it and not inside a character
unfoldable pub ends_at : List ℕ → ℕ → ℕ → Bool
ends_at st stop e =
    choose (ltb stop e) (λ u. false)
    (λ u. choose (eqb stop e) (λ u. true) (λ u. not (within 0x80 0xbf (get_or st e 0))))
