-- Laws of bytes that all pass a test, and of a text's front.
use Prim.Native.Nat.{ℕ, ◌+◌, ◌≤◌, ◌<◌}
use mathlib.Core.Path.{◌≡◌, refl, ap, ◌∙◌}
use mathlib.Core.Bool.{Bool, true, false, ◌&&◌}
use mathlib.Core.List.{List, [], ◌∷◌}
use native.Mathlib.Omega.{arith}
use lib.Dec.{eqb}
use lib.ListN.{length, get_or, take, drop}
use Rattle.std.specs.List.{list_all}
use Rattle.std.specs.Cmp.Lexicographic.{pointwise}
use Rattle.std.proofs.lemmas.Bool.Decides.{nat_tests}
use Rattle.text.specs.Booleans.{and, all}
use Rattle.text.specs.Words.{starts_word, in_word, is_word, begins}
use Rattle.text.proofs.Tests.{at_byte, at_end}

and_listed : (a b : Bool) → (a && b) ≡ and a b
and_listed true b = refl
and_listed false b = refl

-- a byte that passes, one that fails, and the end
pub all_step : (f : ℕ → Bool) (s : List ℕ) (i : ℕ) → i < length s → f (get_or s i 0) ≡ true → all f (drop i s) ≡ all f (drop (i + 1) s)
unfolding all
all_step f s i h e = rw (at_byte s i h, e)

pub all_stop : (f : ℕ → Bool) (s : List ℕ) (i : ℕ) → i < length s → f (get_or s i 0) ≡ false → all f (drop i s) ≡ false
unfolding all
all_stop f s i h e = rw (at_byte s i h, e)

pub all_end : (f : ℕ → Bool) (s : List ℕ) (i : ℕ) → length s ≤ i → all f (drop i s) ≡ true
unfolding all
all_end f s i h = rw (at_end s i h)

-- the list's test of std
pub all_listed : (f : ℕ → Bool) (xs : List ℕ) → list_all f xs ≡ all f xs
unfolding all
all_listed f [] = refl
all_listed f (x ∷ xs) = and_listed (f x) (list_all f xs) ∙ ap (and (f x)) (all_listed f xs)

eqb_turned : (x y : ℕ) → eqb x y ≡ eqb y x
eqb_turned x y = grind (arith, nat_tests)

-- the front's test of std
pub begins_listed : (p xs : List ℕ) → pointwise eqb p (take (length p) xs) ≡ begins p xs
unfolding begins
begins_listed [] xs = refl
begins_listed (p ∷ ps) [] = refl
begins_listed (p ∷ ps) (x ∷ xs) =
    and_listed (eqb p x) (pointwise eqb ps (take (length ps) xs)) ∙ (ap (λ (b : Bool). and b (pointwise eqb ps (take (length ps) xs))) (eqb_turned p x) ∙ ap (and (eqb x p)) (begins_listed ps xs))

pub begins_end : (p xs : List ℕ) (j : ℕ) → length p ≤ j → begins (drop j p) xs ≡ true
unfolding begins
begins_end p xs j h = rw (at_end p j h)

-- a word by its first byte and the others
pub word_empty : (s : List ℕ) → length s ≡ 0 → is_word s ≡ false
unfolding is_word
word_empty [] e = refl
word_empty (x ∷ xs) e = absurd (omega arith)

pub word_at : (s : List ℕ) → (length s ≡ 0 → ⊥) → is_word s ≡ and (starts_word (get_or s 0 0)) (all in_word (drop 1 s))
unfolding is_word
word_at [] h = absurd (h refl)
word_at (x ∷ xs) h = refl
