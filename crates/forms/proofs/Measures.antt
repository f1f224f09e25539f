-- What is left after a text that is measured in parts, in any order.
use Prim.Native.Nat.{ℕ, ◌+◌, ◌-◌, ◌≤◌}
use mathlib.Core.Path.{◌≡◌}
use mathlib.Core.Bool.{Bool, true, false}
use mathlib.Core.List.{List, [], ◌∷◌, ◌++◌}
use native.Mathlib.Omega.{arith}
use lib.ListN.{length, take, drop, length-append, length-drop}
use lib.Seq.{length-take-le}
use Rattle.text.specs.Splice.{spent}
use Rattle.forms.specs.Printing.{enclosed, tag_text}

-- of nothing nothing is left
pub spent_zero : (left : ℕ) (x : List ℕ) → left ≡ 0 → 0 ≡ spent left x
unfolding spent
spent_zero left x e = omega arith

-- brackets add to a text what they add to none
pub length_enclosed : (b : Bool) (x : List ℕ) → length (enclosed b x) ≡ length (enclosed b []) + length x
unfolding enclosed
length_enclosed true x = omega (arith, length-append x (41 ∷ []))
length_enclosed false x = omega (arith, length-append x [])

-- a part of the store
pub length_part : (st : List ℕ) (p n : ℕ) → p + n ≤ length st → length (take n (drop p st)) ≡ n
length_part st p n h = length-take-le n (drop p st) (simp length-drop (omega arith))

pub spent_tag : (left n : ℕ) (s : List ℕ) {a r : ℕ} → length s ≡ n → a ≡ left - n → r ≡ a - 4 → r ≡ spent left (tag_text s ++ [])
unfolding spent tag_text
spent_tag left n s e p q = omega (arith, e, p, q, length-append (s ++ (32 ∷ 61 ∷ 32 ∷ [])) [], length-append s (32 ∷ 61 ∷ 32 ∷ []))
