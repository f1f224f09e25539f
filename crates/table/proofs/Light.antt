-- Laws of the check without what is known of the store: which of its three ways a node goes, and what is true of it then.
use Rattle.std.specs.Prelude.{ℕ, Option, Some, None}
use Prim.Native.Nat.{ℕ, ◌≤◌, ◌<◌}
use mathlib.Core.Path.{◌≡◌, refl, ap, ◌∙◌}
use mathlib.Core.Bool.{Bool, true, false}
use mathlib.Core.List.{List}
use native.Mathlib.Omega.{arith}
use lib.Dec.{ltb}
use lib.ListN.{length, get_or, get_or-eq_default}
use borrow.Author.Tests.{ltb-true, ltb-false, le-ltb, ne_eqb}
use Rattle.text.specs.Booleans.{choose}
use Rattle.text.proofs.Booleans.{choose_true, choose_false}
use Rattle.table.specs.Check.{verdict}
use Rattle.table.specs.Children.{Limits}
use Rattle.table.specs.Heavy.{text_length, flat_at, long_at, lightly}

-- a kind that has no limit is below none
pub no_limit : (ls : List ℕ) (k x : ℕ) → length ls ≤ k → ltb x (get_or ls k 0) ≡ false
no_limit ls k x h = le-ltb x (get_or ls k 0) (omega (arith, get_or-eq_default ls 0 h))

module _ (ns st ls : List ℕ) (i : ℕ) where
  pub light_flat : flat_at ns ls i ≡ true → lightly ns st ls i ≡ verdict ns st i
  unfolding lightly
  light_flat e = choose_true (flat_at ns ls i) _ _ e

  module _ (e : flat_at ns ls i ≡ false) where
    past_flat : lightly ns st ls i ≡ choose (long_at ns i) (λ u. None) (λ u. verdict ns st i)
    unfolding lightly
    past_flat = choose_false (flat_at ns ls i) _ _ e

    pub light_long : long_at ns i ≡ true → lightly ns st ls i ≡ None
    light_long h = past_flat ∙ choose_true (long_at ns i) _ _ h

    pub light_short : long_at ns i ≡ false → lightly ns st ls i ≡ verdict ns st i
    light_short h = past_flat ∙ choose_false (long_at ns i) _ _ h

light_by : (b d : Bool) (v : Option ℕ) {x : ℕ} → choose b (λ u. v) (λ u. choose d (λ u. None) (λ u. v)) ≡ Some x → v ≡ Some x
light_by true d v e = e
light_by false true v e = let z : ◌≡◌ {A = ℕ} 0 1 = cc in absurd (omega arith)
light_by false false v e = e

-- what it answers is so
pub light_at : (ns st ls : List ℕ) (i : ℕ) {x : ℕ} → lightly ns st ls i ≡ Some x → verdict ns st i ≡ Some x
unfolding lightly
light_at ns st ls i e = light_by (flat_at ns ls i) (long_at ns i) (verdict ns st i) e
