-- Laws of stores in a row, and of the room that is left.
use Prim.Native.Nat.{ℕ, suc, ◌+◌, ◌-◌, ◌≤◌, ◌<◌}
use mathlib.Core.Path.{◌≡◌, refl, sym, ap, ◌∙◌}
use mathlib.Core.List.{List, [], ◌∷◌, ◌++◌}
use mathlib.Core.Logic.{⊎_elim}
use native.Mathlib.Nat.{add-zero, add-suc, suc-add, zero-add}
use native.Mathlib.Omega.{arith}
use native.Mathlib.Numerals.{add-one}
use lib.ListN.{length, take, set, get_or, length-append}
use lib.Seq.{sets, sets-eq, length-sets, take-suc, length-take-le}
use Rattle.text.specs.Splice.{Room, Wrote, spent, fronted}
use Rattle.text.proofs.Tests.{lt_or_ge}

-- a run of stores, and then another right after it
pub sets_append : (o : List ℕ) (at : ℕ) (x y : List ℕ) → sets o at (x ++ y) ≡ sets (sets o at x) (at + length x) y
sets_append o at [] y = rw add-zero
sets_append o at (a ∷ x) y = sets_append (set o at a) (suc at) x y ∙ rw (suc-add, add-suc)

sets_more : (o : List ℕ) (at : ℕ) (s : List ℕ) (j : ℕ) → j < length s → set (sets o at (take j s)) (at + j) (get_or s j 0) ≡ sets o at (take (j + 1) s)
sets_more o at s j h =
    let l : length (take j s) ≡ j = length-take-le j s (omega arith) in
    rw (add-one, take-suc s j 0 h, sets_append o at (take j s) (get_or s j 0 ∷ []), l)

-- stores from the front on
pub sets_front : (o x : List ℕ) → length x ≤ length o → sets o 0 x ≡ fronted x o
unfolding fronted
sets_front o x h =
    let k : 0 + length x ≡ length x = zero-add (length x) in
    let g : 0 + length x ≤ length o = omega arith in
    sets-eq x o 0 g ∙ rw k

pub wrote_none : (o : List ℕ) (at : ℕ) → Wrote o at [] o at
wrote_none o at = record { now = refl; next = sym (add-zero at) }

pub wrote_then : {o x o₁ y o₂ : List ℕ} {at a₁ a₂ : ℕ} → Wrote o at x o₁ a₁ → Wrote o₁ a₁ y o₂ a₂ → Wrote o at (x ++ y) o₂ a₂
wrote_then {o} {x} {o₁} {y} {o₂} {at} {a₁} {a₂} w v = record {
  now = v.now ∙ rw (w.now, w.next) (sym (sets_append o at x y));
  next = omega (arith, v.next, w.next, length-append x y);
}

pub wrote_length : {o x o₁ : List ℕ} {at a₁ : ℕ} → Wrote o at x o₁ a₁ → length o₁ ≡ length o
wrote_length {o} {x} {o₁} {at} w = ap length w.now ∙ length-sets o at x

-- a turn of a loop that stores the next element
pub wrote_more : {o o₁ : List ℕ} {at : ℕ} (s : List ℕ) (j : ℕ) → j < length s → Wrote o at (take j s) o₁ (at + j)
    → Wrote o at (take (j + 1) s) (set o₁ (at + j) (get_or s j 0)) (at + (j + 1))
wrote_more {o} {o₁} {at} s j h w = record {
  now = rw w.now (sets_more o at s j h);
  next = omega (arith, length-take-le (j + 1) s (omega arith));
}

-- stores from the front on, as a contract has them
pub wrote_front : {o x o₁ : List ℕ} {r : ℕ} → Wrote o 0 x o₁ r → length x ≤ length o → (o₁ ≡ fronted x o) × (r ≡ length x)
wrote_front {o} {x} {o₁} {r} w h = (w.now ∙ sets_front o x h, w.next ∙ zero-add (length x))

pub room_front : (x y : List ℕ) {o : List ℕ} {at : ℕ} → Room o at (x ++ y) → Room o at x
room_front x y {o} r = record { fits = omega (arith, r.fits, length-append x y) }

pub room_next : (y : List ℕ) {o x o₁ : List ℕ} {at a₁ : ℕ} → Wrote o at x o₁ a₁ → Room o at (x ++ y) → Room o₁ a₁ y
room_next y {o} {x} {o₁} w r = record { fits = omega (arith, r.fits, length-append x y, wrote_length w, w.next) }

-- stores one by one
pub wrote_one : (o : List ℕ) (at x : ℕ) → Wrote o at (x ∷ []) (set o at x) (at + 1)
wrote_one o at x = record { now = refl; next = refl }

pub wrote_two : (o : List ℕ) (at x y : ℕ) → Wrote o at (x ∷ y ∷ []) (set (set o at x) (at + 1) y) (at + 2)
wrote_two o at x y = record { now = rw (add-one at); next = refl }

pub wrote_three : (o : List ℕ) (at x y z : ℕ) → Wrote o at (x ∷ y ∷ z ∷ []) (set (set (set o at x) (at + 1) y) (at + 2) z) (at + 3)
wrote_three o at x y z =
    let e : at + 1 ≡ suc at = add-one at in
    let f : at + 2 ≡ suc (suc at) = omega arith in
    record { now = rw (e, f); next = refl }

pub wrote_four : (o : List ℕ) (at x y z t : ℕ) → Wrote o at (x ∷ y ∷ z ∷ t ∷ []) (set (set (set (set o at x) (at + 1) y) (at + 2) z) (at + 3) t) (at + 4)
wrote_four o at x y z t =
    let e : at + 1 ≡ suc at = add-one at in
    let f : at + 2 ≡ suc (suc at) = omega arith in
    let g : at + 3 ≡ suc (suc (suc at)) = omega arith in
    record { now = rw (e, f, g); next = refl }

-- room that is spent on one text and then on another
pub spent_append : (left : ℕ) (x y : List ℕ) → spent (spent left x) y ≡ spent left (x ++ y)
unfolding spent
spent_append left x y = omega (arith, length-append x y)

pub spent_size : (left n : ℕ) (x : List ℕ) → length x ≡ n → left - n ≡ spent left x
unfolding spent
spent_size left n x e = omega arith

pub spent_none : (left : ℕ) → spent left [] ≡ left
unfolding spent
spent_none left = omega arith

-- what a measured room says: the text is too long, or it fits
pub spent_over : (n : ℕ) (x : List ℕ) → spent (n + 1) x ≡ 0 → n < length x
unfolding spent
spent_over n x e = omega arith

pub spent_fits : (n : ℕ) (x : List ℕ) → (spent (n + 1) x ≡ 0 → ⊥) → length x ≤ n
unfolding spent
spent_fits n x h = ⊎_elim (λ l. absurd (h (omega arith))) (λ l. l) (lt_or_ge n (length x))

-- a lent buffer keeps its length
pub length_fronted : (x o : List ℕ) → length x ≤ length o → length (fronted x o) ≡ length o
length_fronted x o h = ap length (sym (sets_front o x h)) ∙ length-sets o 0 x
