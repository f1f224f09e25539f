-- A turn of a loop that measures or writes: what is left is what this turn gives, then what is left after it.
use Prim.Native.Nat.{ℕ}
use mathlib.Core.Path.{◌≡◌}
use mathlib.Core.List.{List, [], ◌++◌}
use Rattle.text.specs.Splice.{Room, Wrote, spent}
use Rattle.text.proofs.Splices.{spent_none}
use Rattle.text.proofs.Walks.{Same, same_step, same_room, spent_step}

pub record Turn (t x y : List ℕ) : Type 0 where
  pub is : t ≡ x ++ y

pub turn_spent : {t x y : List ℕ} → Turn t x y → (l : ℕ) → spent (spent l x) y ≡ spent l t
turn_spent {t} {x} {y} u l = spent_step l t x y u.is

module _ {t x y o₀ t₀ o : List ℕ} {at₀ at : ℕ} where
  pub turn_room : Turn t x y → Same o₀ at₀ t₀ o at t → Room o₀ at₀ t₀ → Room o at x
  turn_room u s r = same_room y s u.is r

  pub turn_same : {o' : List ℕ} {at' : ℕ} → Turn t x y → Same o₀ at₀ t₀ o at t → Wrote o at x o' at' → Same o₀ at₀ t₀ o' at' y
  turn_same u s w = same_step y s u.is w

-- after the last turn
pub turn_end : {t : List ℕ} (left : ℕ) → t ≡ [] → spent left t ≡ left
turn_end left e = rw e (spent_none left)
