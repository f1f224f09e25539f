-- What was put lies in the output.
use Rattle.std.specs.Prelude.{ℕ, Option, Some, None}
use Prim.Native.Nat.{ℕ, ◌≤◌}
use mathlib.Core.Path.{◌≡◌, refl, subst, sym, ◌∙◌}
use mathlib.Core.Bool.{Bool, true, false}
use lib.Dec.{leb}
use lib.ListN.{length}
use borrow.Author.Tests.{leb-true}
use Rattle.text.specs.Booleans.{choose}
use Rattle.rows.specs.Line.{refusal_line, refusal_put}
use Rattle.rows.specs.Put.{PutFits}

pub put_within : (k : ℕ) {r : Option ℕ} {n : ℕ} → r ≡ Some n → PutFits r k → n ≤ k
put_within k e h = subst (λ (r : Option ℕ). PutFits r k) e h

fits_by : (b : Bool) (l m : ℕ) → (b ≡ true → l ≤ m) → PutFits (choose b (λ u. Some l) (λ u. None)) m
fits_by true l m h = h refl
fits_by false l m h = tt

-- the line of a refusal
pub line_within : (n p m : ℕ) {r : Option ℕ} {k : ℕ} → r ≡ refusal_put n p m → r ≡ Some k → k ≤ m
unfolding refusal_put
line_within n p m e f =
    put_within m (sym e ∙ f) (fits_by (leb (length (refusal_line n p)) m) (length (refusal_line n p)) m (leb-true _ m))
