-- Laws of the loop that gathers a number's bits.
use Rattle.std.specs.Prelude.{ℕ, Option, Some, None}
use Prim.Native.Nat.{ℕ, zero, suc, ◌+◌, ◌-◌, ◌*◌, ◌^◌, ◌≤◌, ◌<◌}
use mathlib.Core.Path.{◌≡◌, refl, ap, ◌∙◌}
use mathlib.Core.Bool.{false}
use mathlib.Core.List.{List, [], ◌∷◌}
use native.Mathlib.Nat.{pow-suc, pow-le-pow_right, zero-lt-suc}
use native.Mathlib.Numerals.{add-one}
use native.Mathlib.Omega.{arith}
use lib.ListN.{length, get_or, take, drop}
use Rattle.std.proofs.Common.{get_or-take}
use Rattle.text.specs.Booleans.{within}
use Rattle.text.specs.Utf8.{gathered}
use Rattle.text.proofs.Tests.{at_byte, within_yes}
use Rattle.text.proofs.Booleans.{choose_by}

-- too few bytes give no number, whatever they are
pub gather_short : (more v : ℕ) (s : List ℕ) → length s < more → gathered more v s ≡ None
unfolding gathered
gather_short zero v s h = absurd (omega arith)
gather_short (suc k) v [] h = refl
gather_short (suc k) v (x ∷ xs) h =
    choose_by (λ (r : Option ℕ). r ≡ None) (within 0x80 0xbf x) (λ u. gathered k (v * 64 + (x - 0x80)) xs) (λ u. None)
    (λ t. gather_short k (v * 64 + (x - 0x80)) xs (omega arith)) (λ f. refl)

-- the first bytes are those of the whole
pub front_byte : (s t : List ℕ) (more j : ℕ) → t ≡ take (more - 0) (drop 0 s) → j < more → get_or t j 0 ≡ get_or s j 0
front_byte s t more j e h = rw e (get_or-take (more - 0) s j 0 (omega arith))

module _ (s : List ℕ) (more j v : ℕ) (left : j < more) where
  one_more : more - j ≡ suc (more - (j + 1))
  one_more = omega arith

  pub gather_step : (x : ℕ) → j < length s → x ≡ get_or s j 0 → 0x80 ≤ x → x ≤ 0xbf
      → gathered (more - j) v (drop j s) ≡ gathered (more - (j + 1)) (v * 64 + (x - 0x80)) (drop (j + 1) s)
  unfolding gathered
  gather_step x i b l h = rw (one_more, at_byte s j i, ← b) (rw (gathered, within_yes 0x80 0xbf x l h))

  pub gather_stop : (x : ℕ) → j < length s → x ≡ get_or s j 0 → within 0x80 0xbf x ≡ false → gathered (more - j) v (drop j s) ≡ None
  unfolding gathered
  gather_stop x i b e = rw (one_more, at_byte s j i, ← b, gathered, e)

pub gather_end : (more j v : ℕ) (xs : List ℕ) → more ≤ j → gathered (more - j) v xs ≡ Some v
unfolding gathered
gather_end more j v xs h =
    let e : more - j ≡ 0 = omega arith in
    rw e

-- the number stays small
pub gather_next : (v y j : ℕ) → v < 256 * 64 ^ j → y < 64 → v * 64 + y < 256 * 64 ^ (j + 1)
gather_next v y j h g =
    let e : 64 ^ (j + 1) ≡ 64 ^ j * 64 = ap (λ (n : ℕ). 64 ^ n) (add-one j) ∙ pow-suc 64 j in
    rw e (omega arith)

pub gather_room : (v j : ℕ) → v < 256 * 64 ^ j → j < 3 → v < 1048576
gather_room v j h g =
    let i : j ≤ 2 = omega arith in
    let p : 64 ^ j ≤ 64 ^ 2 = pow-le-pow_right (zero-lt-suc 63) i in
    omega arith
