-- What is known of a sequence that was found: its bytes, and that they are its character's encoding.
use Rattle.std.specs.Prelude.{ℕ, Option, Some, None}
use Prim.Native.Nat.{ℕ, suc, ◌+◌, ◌-◌, ◌*◌, ◌/◌, ◌%◌, ◌≤◌, ◌<◌}
use mathlib.Core.Path.{◌≡◌, refl, sym, ◌∙◌}
use mathlib.Core.Bool.{Bool, true, false}
use mathlib.Core.List.{List, [], ◌∷◌}
use mathlib.Core.Logic.{◌⊎◌, inl, inr}
use native.Mathlib.Omega.{arith}
use lib.ListN.{length, take}
use lib.Dec.{leb, ltb}
use borrow.Author.Tests.{leb-true, ltb-true, ltb-false, lt-ltb, le-ltb}
use Rattle.text.specs.Booleans.{choose, within}
use Rattle.text.specs.Utf8.{scalar, lead_of, gathered, judged, sequence_by, char_of, encoded, Tail}
use Rattle.text.proofs.Pairs.{some_first, some_second}
use Rattle.text.proofs.Tests.{within_is, within_yes}
use Rattle.text.proofs.Booleans.{choose_by}

-- a scalar value is below the surrogates or above them
scalar_by : (c : ℕ) (b : Bool) → ltb c 0xd800 ≡ b → choose b (λ u. true) (λ u. within 0xe000 0x10ffff c) ≡ true → (c < 0xd800) ⊎ ((0xe000 ≤ c) × (c ≤ 0x10ffff))
scalar_by c true p e = inl (ltb-true c 0xd800 p)
scalar_by c false p e = let w = within_is 0xe000 0x10ffff c e in inr (w.low, w.high)

pub scalar_is : (c : ℕ) → scalar c ≡ true → (c < 0xd800) ⊎ ((0xe000 ≤ c) × (c ≤ 0x10ffff))
unfolding scalar
scalar_is c e = scalar_by c (ltb c 0xd800) refl e

pub scalar_low : (c : ℕ) → c < 0xd800 → scalar c ≡ true
unfolding scalar
scalar_low c h = rw (lt-ltb c 0xd800 h)

pub scalar_high : (c : ℕ) → 0xe000 ≤ c → c ≤ 0x10ffff → scalar c ≡ true
unfolding scalar
scalar_high c l h = let k : 0xd800 ≤ c = omega arith in rw (le-ltb c 0xd800 k) (within_yes 0xe000 0x10ffff c l h)

-- one more byte
record More (k v : ℕ) (xs : List ℕ) (c : ℕ) : Type 0 where
  byte : ℕ
  rest : List ℕ
  is : xs ≡ byte ∷ rest
  tail : Tail byte
  then : gathered k (v * 64 + (byte - 0x80)) rest ≡ Some c

more_by : (k v x : ℕ) (xs : List ℕ) (c : ℕ) (b : Bool) → within 0x80 0xbf x ≡ b
    → choose b (λ u. gathered k (v * 64 + (x - 0x80)) xs) (λ u. None) ≡ Some c → More k v (x ∷ xs) c
more_by k v x xs c true p e = let w = within_is 0x80 0xbf x p in record { byte = x; rest = xs; is = refl; tail = (w.low, w.high); then = e }
more_by k v x xs c false p e = let z : ◌≡◌ {A = ℕ} 0 1 = cc in absurd (omega arith)

more : (k v : ℕ) (xs : List ℕ) (c : ℕ) → gathered (suc k) v xs ≡ Some c → More k v xs c
unfolding gathered
more k v [] c e = let z : ◌≡◌ {A = ℕ} 0 1 = cc in absurd (omega arith)
more k v (x ∷ xs) c e = more_by k v x xs c (within 0x80 0xbf x) refl e

last : (v : ℕ) (xs : List ℕ) (c : ℕ) → gathered 0 v xs ≡ Some c → c ≡ v
unfolding gathered
last v xs c e = cc

record Judged (low n : ℕ) (g : Option ℕ) (c m : ℕ) : Type 0 where
  number : g ≡ Some c
  least : low ≤ c
  good : scalar c ≡ true
  size : m ≡ n

judged_by : (low n v c m : ℕ) (a b : Bool) → leb low v ≡ a → scalar v ≡ b
    → ◌≡◌ {A = Option (ℕ × ℕ)} (choose a (λ u. choose b (λ w. Some (v, n)) (λ w. None)) (λ u. None)) (Some (c, m)) → Judged low n (Some v) c m
judged_by low n v c m true true p q e =
    let f = sym (some_first e) in
    rw f record { number = refl; least = leb-true low v p; good = q; size = sym (some_second e) }
judged_by low n v c m true false p q e = let z : ◌≡◌ {A = ℕ} 0 1 = cc in absurd (omega arith)
judged_by low n v c m false b p q e = let z : ◌≡◌ {A = ℕ} 0 1 = cc in absurd (omega arith)

judged_is : (low n : ℕ) (g : Option ℕ) (c m : ℕ) → judged low n g ≡ Some (c, m) → Judged low n g c m
unfolding judged
judged_is low n (Some v) c m e = judged_by low n v c m (leb low v) (scalar v) refl refl e
judged_is low n None c m e = let z : ◌≡◌ {A = ℕ} 0 1 = cc in absurd (omega arith)

-- the four rows of RFC 3629's table, as the bytes that stand first
pub data Found : List ℕ → ℕ → ℕ → Type 0 where
  one : {x : ℕ} {ys : List ℕ} → x < 0x80 → Found (x ∷ ys) x 1
  two : {x y c : ℕ} {ys : List ℕ} → 0xc0 ≤ x → x < 0xe0 → Tail y → c ≡ (x - 0xc0) * 64 + (y - 0x80) → 0x80 ≤ c → scalar c ≡ true → Found (x ∷ y ∷ ys) c 2
  three : {x y z c : ℕ} {ys : List ℕ} → 0xe0 ≤ x → x < 0xf0 → Tail y → Tail z → c ≡ ((x - 0xe0) * 64 + (y - 0x80)) * 64 + (z - 0x80) → 0x800 ≤ c → scalar c ≡ true → Found (x ∷ y ∷ z ∷ ys) c 3
  four : {x y z t c : ℕ} {ys : List ℕ} → 0xf0 ≤ x → x < 0xf8 → Tail y → Tail z → Tail t → c ≡ (((x - 0xf0) * 64 + (y - 0x80)) * 64 + (z - 0x80)) * 64 + (t - 0x80) → 0x10000 ≤ c → scalar c ≡ true → Found (x ∷ y ∷ z ∷ t ∷ ys) c 4

none_found : {xs : List ℕ} {c n : ℕ} → ◌≡◌ {A = Option (ℕ × ℕ)} None (Some (c, n)) → Found xs c n
none_found e = let z : ◌≡◌ {A = ℕ} 0 1 = cc in absurd (omega arith)

found_one : (x c n : ℕ) (xs : List ℕ) → x < 0x80 → judged 0 1 (gathered 0 x xs) ≡ Some (c, n) → Found (x ∷ xs) c n
found_one x c n xs h e =
    let j = judged_is 0 1 (gathered 0 x xs) c n e in
    rw (j.size, last x xs c j.number) (one h)

found_two : (x c n : ℕ) (xs : List ℕ) → 0xc0 ≤ x → x < 0xe0 → judged 0x80 2 (gathered 1 (x - 0xc0) xs) ≡ Some (c, n) → Found (x ∷ xs) c n
found_two x c n xs l h e =
    let j = judged_is 0x80 2 (gathered 1 (x - 0xc0) xs) c n e in
    let m = more 0 (x - 0xc0) xs c j.number in
    rw (j.size, m.is) (two l h m.tail (last _ m.rest c m.then) j.least j.good)

found_three : (x c n : ℕ) (xs : List ℕ) → 0xe0 ≤ x → x < 0xf0 → judged 0x800 3 (gathered 2 (x - 0xe0) xs) ≡ Some (c, n) → Found (x ∷ xs) c n
found_three x c n xs l h e =
    let j = judged_is 0x800 3 (gathered 2 (x - 0xe0) xs) c n e in
    let m = more 1 (x - 0xe0) xs c j.number in
    let k = more 0 _ m.rest c m.then in
    rw (j.size, m.is, k.is) (three l h m.tail k.tail (last _ k.rest c k.then) j.least j.good)

found_four : (x c n : ℕ) (xs : List ℕ) → 0xf0 ≤ x → x < 0xf8 → judged 0x10000 4 (gathered 3 (x - 0xf0) xs) ≡ Some (c, n) → Found (x ∷ xs) c n
found_four x c n xs l h e =
    let j = judged_is 0x10000 4 (gathered 3 (x - 0xf0) xs) c n e in
    let m = more 2 (x - 0xf0) xs c j.number in
    let k = more 1 _ m.rest c m.then in
    let i = more 0 _ k.rest c k.then in
    rw (j.size, m.is, k.is, i.is) (four l h m.tail k.tail i.tail (last _ i.rest c i.then) j.least j.good)

abbrev By : (x c n : ℕ) (xs : List ℕ) → Option (ℕ × ℕ × ℕ) → Type 0
By x c n xs r = sequence_by r xs ≡ Some (c, n) → Found (x ∷ xs) c n

pub found : (xs : List ℕ) (c n : ℕ) → char_of xs ≡ Some (c, n) → Found xs c n
unfolding char_of lead_of
found [] c n e = none_found e
found (x ∷ xs) c n e₀ =
    (choose_by (By x c n xs) (ltb x 0x80) _ _ (λ t e. found_one x c n xs (ltb-true x 0x80 t) e)
    (λ f. choose_by (By x c n xs) (ltb x 0xc0) _ _ (λ t e. none_found e)
    (λ g. choose_by (By x c n xs) (ltb x 0xe0) _ _ (λ t e. found_two x c n xs (ltb-false x 0xc0 g) (ltb-true x 0xe0 t) e)
    (λ h. choose_by (By x c n xs) (ltb x 0xf0) _ _ (λ t e. found_three x c n xs (ltb-false x 0xe0 h) (ltb-true x 0xf0 t) e)
    (λ i. choose_by (By x c n xs) (ltb x 0xf8) _ _ (λ t e. found_four x c n xs (ltb-false x 0xf0 i) (ltb-true x 0xf8 t) e) (λ j e. none_found e)))))) e₀

-- a character's bytes, by how many they are
pub encoded_one : (c : ℕ) → c < 0x80 → encoded c ≡ c ∷ []
unfolding encoded
encoded_one c h = rw (lt-ltb c 0x80 h)

pub encoded_two : (c : ℕ) → 0x80 ≤ c → c < 0x800 → encoded c ≡ (0xc0 + c / 64) ∷ (0x80 + c % 64) ∷ []
unfolding encoded
encoded_two c l h = rw (le-ltb c 0x80 l, lt-ltb c 0x800 h)

pub encoded_three : (c : ℕ) → 0x800 ≤ c → c < 0x10000 → encoded c ≡ (0xe0 + c / 4096) ∷ (0x80 + c / 64 % 64) ∷ (0x80 + c % 64) ∷ []
unfolding encoded
encoded_three c l h = rw (le-ltb c 0x80 (omega arith), le-ltb c 0x800 l, lt-ltb c 0x10000 h)

pub encoded_four : (c : ℕ) → 0x10000 ≤ c → encoded c ≡ (0xf0 + c / 262144) ∷ (0x80 + c / 4096 % 64) ∷ (0x80 + c / 64 % 64) ∷ (0x80 + c % 64) ∷ []
unfolding encoded
encoded_four c l = rw (le-ltb c 0x80 (omega arith), le-ltb c 0x800 (omega arith), le-ltb c 0x10000 l)

-- encode (decode bytes) is the bytes
pub record Decoded (xs : List ℕ) (c n : ℕ) : Type 0 where
  pub front : take n xs ≡ encoded c
  pub good : scalar c ≡ true
  pub some : 1 ≤ n
  pub few : n ≤ 4
  pub inside : n ≤ length xs

decoded_found : {xs : List ℕ} {c n : ℕ} → Found xs c n → Decoded xs c n
decoded_found (one {x} h) = record {
  front = sym (encoded_one x h);
  good = scalar_low x (omega arith);
  some = omega arith;
  few = omega arith;
  inside = omega arith;
}
decoded_found (two {x} {y} {c} l h t e s g) =
    let p : 0xc0 + c / 64 ≡ x = omega arith in
    let q : 0x80 + c % 64 ≡ y = omega arith in
    record {
      front = sym (encoded_two c s (omega arith) ∙ rw (p, q));
      good = g;
      some = omega arith;
      few = omega arith;
      inside = omega arith;
    }
decoded_found (three {x} {y} {z} {c} l h t u e s g) =
    let p : 0xe0 + c / 4096 ≡ x = omega arith in
    let q : 0x80 + c / 64 % 64 ≡ y = omega arith in
    let r : 0x80 + c % 64 ≡ z = omega arith in
    record {
      front = sym (encoded_three c s (omega arith) ∙ rw (p, q, r));
      good = g;
      some = omega arith;
      few = omega arith;
      inside = omega arith;
    }
decoded_found (four {x} {y} {z} {t} {c} l h a b d e s g) =
    let p : 0xf0 + c / 262144 ≡ x = omega arith in
    let q : 0x80 + c / 4096 % 64 ≡ y = omega arith in
    let r : 0x80 + c / 64 % 64 ≡ z = omega arith in
    let w : 0x80 + c % 64 ≡ t = omega arith in
    record {
      front = sym (encoded_four c s ∙ rw (p, q, r, w));
      good = g;
      some = omega arith;
      few = omega arith;
      inside = omega arith;
    }

pub decoded : (xs : List ℕ) (c n : ℕ) → char_of xs ≡ Some (c, n) → Decoded xs c n
decoded xs c n e = decoded_found (found xs c n e)
