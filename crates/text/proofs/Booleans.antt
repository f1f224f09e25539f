-- Laws of `choose`, `and`, `or` and `not`.
use Prim.Native.Nat.{ℕ}
use mathlib.Core.Path.{◌≡◌, refl}
use mathlib.Core.Bool.{Bool, true, false, not}
use mathlib.Core.Logic.{◌⊎◌, inl, inr}
use native.Mathlib.Omega.{arith}
use Rattle.text.specs.Booleans.{choose, and, or}

-- ---- a choice

pub choose_true : {A : Type 0} (b : Bool) (x y : Unit {0} → A) → b ≡ true → choose b x y ≡ x tt
choose_true true x y e = refl
choose_true false x y e = let z : ◌≡◌ {A = ℕ} 0 1 = cc in absurd (omega arith)

pub choose_false : {A : Type 0} (b : Bool) (x y : Unit {0} → A) → b ≡ false → choose b x y ≡ y tt
choose_false false x y e = refl
choose_false true x y e = let z : ◌≡◌ {A = ℕ} 0 1 = cc in absurd (omega arith)

-- what holds of both branches where they are taken holds of the choice
pub choose_by : {A : Type 0} (P : A → Type 0) (b : Bool) (f g : Unit {0} → A) → (b ≡ true → P (f tt)) → (b ≡ false → P (g tt)) → P (choose b f g)
choose_by P true f g y n = y refl
choose_by P false f g y n = n refl

-- what a choice is, one of its branches is
pub split : {A : Type 0} (b : Bool) (x y : Unit {0} → A) {z : A} {P : Type 0} → (b ≡ true → x tt ≡ z → P) → (b ≡ false → y tt ≡ z → P) → choose b x y ≡ z → P
split true x y f g e = f refl e
split false x y f g e = g refl e

pub choose_cong : {A : Type 0} (b : Bool) (x y x' y' : Unit {0} → A) → (b ≡ true → x tt ≡ x' tt) → (b ≡ false → y tt ≡ y' tt) → choose b x y ≡ choose b x' y'
choose_cong true x y x' y' f g = f refl
choose_cong false x y x' y' f g = g refl

pub choose_same : {A : Type 0} (b : Bool) {x y : A} (z : A) → x ≡ y → choose b (λ u. x) (λ u. z) ≡ choose b (λ u. y) (λ u. z)
choose_same b z e = choose_cong b _ _ _ _ (λ v. e) (λ v. refl)

-- ---- both

pub and_true : (x y : Bool) → and x y ≡ true → (x ≡ true) × (y ≡ true)
and_true true y h = (refl, h)
and_true false y h = let z : ◌≡◌ {A = ℕ} 0 1 = cc in absurd (omega arith)

pub and_left : (x y : Bool) → and x y ≡ true → x ≡ true
and_left x y h = (and_true x y h).0

pub and_right : (x y : Bool) → and x y ≡ true → y ≡ true
and_right x y h = (and_true x y h).1

pub and_both : (x y : Bool) → x ≡ true → y ≡ true → and x y ≡ true
and_both true y e h = h
and_both false y e h = e

pub and_first : (x y : Bool) → x ≡ false → and x y ≡ false
and_first false y e = refl
and_first true y e = let z : ◌≡◌ {A = ℕ} 0 1 = cc in absurd (omega arith)

pub and_second : (x y : Bool) → y ≡ false → and x y ≡ false
and_second true y e = e
and_second false y e = refl

pub and_one : (x : Bool) → and x true ≡ x
and_one true = refl
and_one false = refl

pub and_assoc : (x y z : Bool) → and x (and y z) ≡ and (and x y) z
and_assoc true y z = refl
and_assoc false y z = refl

-- ---- either

pub or_first : (x y : Bool) → x ≡ true → or x y ≡ true
or_first true y e = refl
or_first false y e = let z : ◌≡◌ {A = ℕ} 0 1 = cc in absurd (omega arith)

pub or_second : (x y : Bool) → y ≡ true → or x y ≡ true
or_second true y e = refl
or_second false y e = e

pub or_neither : (x y : Bool) → x ≡ false → y ≡ false → or x y ≡ false
or_neither false y e h = h
or_neither true y e h = e

pub or_true : (x y : Bool) → or x y ≡ true → (x ≡ true) ⊎ (y ≡ true)
or_true true y h = inl refl
or_true false y h = inr h

pub or_by : {A : Type 0} (x y : Bool) → or x y ≡ true → (x ≡ true → A) → (y ≡ true → A) → A
or_by true y e f g = f refl
or_by false y e f g = g e

pub or_nothing : (x : Bool) → or x false ≡ x
or_nothing true = refl
or_nothing false = refl

pub or_assoc : (x y z : Bool) → or x (or y z) ≡ or (or x y) z
or_assoc true y z = refl
or_assoc false y z = refl

pub or_false : (x y : Bool) → or x y ≡ false → (x ≡ false) × (y ≡ false)
or_false false y h = (refl, h)
or_false true y h = let z : ◌≡◌ {A = ℕ} 0 1 = cc in absurd (omega arith)

-- ---- not

pub not_false : (x : Bool) → not x ≡ false → x ≡ true
not_false true e = refl
not_false false e = let z : ◌≡◌ {A = ℕ} 0 1 = cc in absurd (omega arith)
