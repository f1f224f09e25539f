-- The numbers of trees that can be printed and read back: each is of 32 bits, and no exact count or maximum is 0.
use Rattle.std.specs.Prelude.{ℕ, Bool, true, not, List, [], ◌∷◌, leb, eqb, Option, Some, None}
use Rattle.text.specs.Booleans.{and}
use Rattle.table.specs.declared.Unary.{Unary}
use Rattle.table.specs.declared.Unary.TheVariants.{PosPred, NegPred, Opt, Rep, RepOnce, RepExact, RepMin, RepMax, RepMinMax, Push}
use Rattle.table.specs.Tree.{Atom, text, range, peek_slice, Wrap, plain, node_tag, Tree, leaf, one, two, Rule}

-- a number of 32 bits
abbrev pub small : ℕ → Bool
small n = leb n 4294967295

-- 0
abbrev pub is_zero : ℕ → Bool
is_zero n = eqb n 0

-- of 32 bits and not 0
abbrev pub positive : ℕ → Bool
positive n = and (small n) (not (is_zero n))

-- an exact count or a maximum is positive, a minimum may be 0
abbrev pub unary_counts : Unary → Bool
unary_counts PosPred = true
unary_counts NegPred = true
unary_counts Opt = true
unary_counts Rep = true
unary_counts RepOnce = true
unary_counts (RepExact n) = positive n
unary_counts (RepMin n) = small n
unary_counts (RepMax n) = positive n
unary_counts (RepMinMax n m) = and (small n) (positive m)
unary_counts Push = true

-- a tag has no number
abbrev pub wrap_counts : Wrap → Bool
wrap_counts (plain u) = unary_counts u
wrap_counts (node_tag b) = true

-- where a slice ends
abbrev pub end_counts : Option ℕ → Bool
end_counts None = true
end_counts (Some n) = small n

-- a slice's numbers are of 32 bits, as two's complement has them
abbrev pub atom_counts : Atom → Bool
atom_counts (text k b) = true
atom_counts (range x y) = true
atom_counts (peek_slice x e) = and (small x) (end_counts e)

-- every number of a tree is so
unfoldable pub counted : {P : Type 0} → Tree P → Bool
counted (leaf s a) = atom_counts a
counted (one s o t) = and (wrap_counts o) (counted t)
counted (two s j a b) = and (counted a) (counted b)

-- and every number of rules
unfoldable pub counted_rules : {P : Type 0} → List (Rule P) → Bool
counted_rules [] = true
counted_rules (r ∷ rs) = and (counted r.tree) (counted_rules rs)
