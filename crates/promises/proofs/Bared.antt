-- Marks with one pair of brackets fewer: what stays as it was, and what doesn't.
use Prim.Native.Nat.{ℕ, ◌+◌}
use mathlib.Core.Path.{◌≡◌, refl, ap}
use mathlib.Core.Bool.{Bool, true, false}
use mathlib.Core.List.{List, ◌∷◌}
use native.Mathlib.Omega.{arith}
use lib.Dec.{leb}
use Rattle.text.specs.Booleans.{and}
use Rattle.table.specs.declared.Join.{Join}
use Rattle.table.specs.Tree.{Atom, Wrap, Tree, leaf, one, two, Rule}
use Rattle.table.specs.Check.{is_name, fine_wrap, fine, fine_rule, fine_rules}
use Rattle.structure.specs.Counts.{wrap_counts, counted, counted_rules}
use Rattle.promises.specs.Marked.{opens}
use Rattle.promises.proofs.Counts.{opens_all}

-- one pair of a tree's group brackets taken away; those of PUSH and PUSH_LITERAL are no marks
pub data Bared : Tree Bool → Tree Bool → Type 0 where
  at_leaf : {a : Atom} → Bared (leaf true a) (leaf false a)
  at_one : {o : Wrap} {t : Tree Bool} → Bared (one true o t) (one false o t)
  at_two : {j : Join} {x y : Tree Bool} → Bared (two true j x y) (two false j x y)
  in_one : {b : Bool} {o : Wrap} {t u : Tree Bool} → Bared t u → Bared (one b o t) (one b o u)
  in_left : {b : Bool} {j : Join} {x y u : Tree Bool} → Bared x u → Bared (two b j x y) (two b j u y)
  in_right : {b : Bool} {j : Join} {x y u : Tree Bool} → Bared y u → Bared (two b j x y) (two b j x u)

-- one pair of all the rules'
pub data BaredRules : List (Rule Bool) → List (Rule Bool) → Type 0 where
  in_first : {b : List ℕ} {k : ℕ} {p : Bool} {t u : Tree Bool} {rs : List (Rule Bool)} → Bared t u
      → BaredRules (record { name = b; mark = k; tree = t; place = p } ∷ rs) (record { name = b; mark = k; tree = u; place = p } ∷ rs)
  in_rest : {r : Rule Bool} {rs qs : List (Rule Bool)} → BaredRules rs qs → BaredRules (r ∷ rs) (r ∷ qs)

-- one `(` fewer
bared_opens : {m n : Tree Bool} → Bared m n → opens m ≡ opens n + 1
unfolding opens
bared_opens at_leaf = omega arith
bared_opens at_one = omega arith
bared_opens at_two = omega arith
bared_opens (in_one r) = omega (arith, bared_opens r)
bared_opens (in_left r) = omega (arith, bared_opens r)
bared_opens (in_right r) = omega (arith, bared_opens r)

pub bared_fewer : {ms ns : List (Rule Bool)} → BaredRules ms ns → opens_all ms ≡ opens_all ns + 1
unfolding opens_all
bared_fewer (in_first b) = omega (arith, bared_opens b)
bared_fewer (in_rest b) = omega (arith, bared_fewer b)

-- what is fine stays so
bared_fine : {m n : Tree Bool} → Bared m n → (fine n ≡ fine m) × (counted n ≡ counted m)
unfolding fine counted
bared_fine at_leaf = (refl, refl)
bared_fine at_one = (refl, refl)
bared_fine at_two = (refl, refl)
bared_fine (in_one {o = o} r) = let g = bared_fine r in (ap (and (fine_wrap o)) g.0, ap (and (wrap_counts o)) g.1)
bared_fine (in_left {y = y} r) = let g = bared_fine r in (ap (λ z. and z (fine y)) g.0, ap (λ z. and z (counted y)) g.1)
bared_fine (in_right {x = x} r) = let g = bared_fine r in (ap (and (fine x)) g.0, ap (and (counted x)) g.1)

pub bared_rules : {ms ns : List (Rule Bool)} → BaredRules ms ns → (fine_rules ns ≡ fine_rules ms) × (counted_rules ns ≡ counted_rules ms)
unfolding fine_rules fine_rule counted_rules
bared_rules (in_first {b = b} {k = k} {rs = rs} r) =
    let g = bared_fine r in (ap (λ z. and (and (is_name b) (and (leb k 4) z)) (fine_rules rs)) g.0, ap (λ z. and z (counted_rules rs)) g.1)
bared_rules (in_rest {r = r} b) = let g = bared_rules b in (ap (and (fine_rule r)) g.0, ap (and (counted r.tree)) g.1)
