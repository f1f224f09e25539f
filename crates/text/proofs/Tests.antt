-- Laws of branches, and of a list at a place.
use Prim.Native.Nat.{ℕ, ◌+◌, ◌≤◌, ◌<◌}
use mathlib.Core.Path.{◌≡◌, refl}
use mathlib.Core.Bool.{Bool, true, false}
use mathlib.Core.List.{List, [], ◌∷◌}
use mathlib.Core.Logic.{◌⊎◌, inl, inr}
use native.Mathlib.Numerals.{add-one}
use native.Mathlib.Omega.{arith}
use lib.ListN.{length, get_or, drop, drop_of_length-le}
use lib.Seq.{drop-cons}
use lib.Dec.{leb, ltb}
use borrow.Author.Tests.{le-leb, lt-leb, leb-true, ltb-true, ltb-false}
use Rattle.text.specs.Booleans.{and, within}
use Rattle.text.proofs.Booleans.{and_second}

by_test : (m n : ℕ) (b : Bool) → ltb m n ≡ b → (m < n) ⊎ (n ≤ m)
by_test m n true e = inl (ltb-true m n e)
by_test m n false e = inr (ltb-false m n e)

pub lt_or_ge : (m n : ℕ) → (m < n) ⊎ (n ≤ m)
lt_or_ge m n = by_test m n (ltb m n) refl

pub at_byte : (s : List ℕ) (i : ℕ) → i < length s → drop i s ≡ get_or s i 0 ∷ drop (i + 1) s
at_byte s i h = rw (add-one, drop-cons s i 0)

pub at_end : (s : List ℕ) (i : ℕ) → length s ≤ i → drop i s ≡ []
at_end s i h = drop_of_length-le s h

pub within_low : (lo hi b : ℕ) → b < lo → within lo hi b ≡ false
within_low lo hi b h = rw (lt-leb lo b h)

pub within_high : (lo hi b : ℕ) → hi < b → within lo hi b ≡ false
within_high lo hi b h = rw (lt-leb b hi h) (and_second (leb lo b) false refl)

pub within_yes : (lo hi b : ℕ) → lo ≤ b → b ≤ hi → within lo hi b ≡ true
within_yes lo hi b h k = rw (le-leb lo b h) (le-leb b hi k)

pub record Within (lo hi b : ℕ) : Type 0 where
  pub low : lo ≤ b
  pub high : b ≤ hi

within_by : (lo hi b : ℕ) (p q : Bool) → leb lo b ≡ p → leb b hi ≡ q → and p q ≡ true → Within lo hi b
within_by lo hi b true true d e f = record { low = leb-true lo b d; high = leb-true b hi e }
within_by lo hi b true false d e f = let z : ◌≡◌ {A = ℕ} 0 1 = cc in absurd (omega arith)
within_by lo hi b false q d e f = let z : ◌≡◌ {A = ℕ} 0 1 = cc in absurd (omega arith)

pub within_is : (lo hi b : ℕ) → within lo hi b ≡ true → Within lo hi b
within_is lo hi b e = within_by lo hi b (leb lo b) (leb b hi) refl refl e
