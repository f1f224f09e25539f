-- A list that stands in another at an offset.
use mathlib.Core.Path.{◌≡◌, refl, sym, ap, ◌∙◌}
use mathlib.Core.List.{List, [], ◌++◌, append_assoc, append-nil}
use Prim.Native.Nat.{ℕ, ◌+◌, ◌≤◌}
use native.Mathlib.Omega.{arith}
use lib.ListN.{length, get_or, take, drop, length-append}
use lib.Seq.{get_or-append-add, take_at, drop_at}

pub record Held (l : List ℕ) (p : ℕ) (x : List ℕ) : Type 0 where
  pub before : List ℕ
  pub after : List ℕ
  pub is : l ≡ before ++ (x ++ after)
  pub at : length before ≡ p

pub held_whole : (x : List ℕ) → Held x 0 x
held_whole x = record { before = []; after = []; is = sym (append-nil x); at = refl }

module _ {l : List ℕ} {p : ℕ} where
  pub held_left : (x y : List ℕ) → Held l p (x ++ y) → Held l p x
  held_left x y h = record { before = h.before; after = y ++ h.after; is = h.is ∙ ap (λ z. h.before ++ z) (append_assoc x y h.after); at = h.at }

  pub held_right : (q : ℕ) (x y : List ℕ) → q ≡ p + length x → Held l p (x ++ y) → Held l q y
  held_right q x y e h = record {
    before = h.before ++ x;
    after = h.after;
    is = h.is ∙ ap (λ z. h.before ++ z) (append_assoc x y h.after) ∙ sym (append_assoc h.before x (y ++ h.after));
    at = length-append h.before x ∙ omega (arith, h.at);
  }

  pub held_inside : {x : List ℕ} → Held l p x → p + length x ≤ length l
  held_inside {x} h = omega (arith, ap length h.is, length-append h.before (x ++ h.after), length-append x h.after, h.at)

  pub held_part : {x : List ℕ} → Held l p x → take (length x) (drop p l) ≡ x
  held_part {x} h =
      ap (λ z. take (length x) (drop p z)) h.is ∙ ap (take (length x)) (drop_at h.before (x ++ h.after) p h.at)
      ∙ take_at x h.after (length x) refl

  -- a number of it
  pub held_at : (k q : ℕ) {x : List ℕ} (h : Held l p x) → q ≡ p + k → get_or l q 0 ≡ get_or (x ++ h.after) k 0
  held_at k q {x} h e =
      let z : q ≡ length h.before + k = omega (arith, h.at) in
      ap (λ (i : ℕ). get_or l i 0) z ∙ ap (λ (y : List ℕ). get_or y (length h.before + k) 0) h.is ∙ get_or-append-add h.before (x ++ h.after) k 0
