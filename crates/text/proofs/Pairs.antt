-- What two answers that hold the same numbers say of each.
use Rattle.std.specs.Prelude.{Option, Some, None}
use mathlib.Core.Path.{◌≡◌, ap}

module _ {A B : Type 0} where
  first_of : A → Option (A × B) → A
  first_of a None = a
  first_of a (Some p) = p.0

  second_of : B → Option (A × B) → B
  second_of b None = b
  second_of b (Some p) = p.1

  pub some_first : {a c : A} {b d : B} → ◌≡◌ {A = Option (A × B)} (Some (a, b)) (Some (c, d)) → a ≡ c
  unfolding first_of
  some_first {a} e = ap (first_of a) e

  pub some_second : {a c : A} {b d : B} → ◌≡◌ {A = Option (A × B)} (Some (a, b)) (Some (c, d)) → b ≡ d
  unfolding second_of
  some_second {b = b} e = ap (second_of b) e
