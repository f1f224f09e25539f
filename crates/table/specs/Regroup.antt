-- Regrouping once, and removing tags. Spans are put aside before.
use Rattle.std.specs.Prelude.{◌≡◌, Bool, true, false, not, List, [], ◌∷◌, ◌++◌, map}
use Rattle.text.specs.Booleans.{choose, and}
use Rattle.table.specs.declared.Join.{Join}
use Rattle.table.specs.declared.Join.TheVariants.{Seq, Choice}
use Rattle.table.specs.Tree.{Atom, Wrap, plain, node_tag, Tree, leaf, one, two, Rule, Nowhere, rule_by}

abbrev pub same_join : Join → Join → Bool
same_join Seq Seq = true
same_join Seq Choice = false
same_join Choice Seq = false
same_join Choice Choice = true

-- the root is the operator j
abbrev pub is_join : {P : Type 0} → Join → Tree P → Bool
is_join j (leaf s a) = false
is_join j (one s o t) = false
is_join j (two s k a b) = same_join j k

-- e1, then all others, joined left to right
unfoldable pub joined : Join → Tree Nowhere → List (Tree Nowhere) → Tree Nowhere
joined j e [] = e
joined j e (x ∷ xs) = joined j (two tt j e x) xs

-- a tree whose e1 to en are regrouped: these joined by its operator
unfoldable pub regrouped : Tree Nowhere → List (Tree Nowhere) → Tree Nowhere
regrouped e [] = e
regrouped (leaf s a) (x ∷ xs) = x
regrouped (one s o t) (x ∷ xs) = x
regrouped (two s j a b) (x ∷ xs) = joined j x xs

-- e1 to en along the right children of the root's operator, each regrouped; one alone where the root is no operator
unfoldable pub parts : Tree Nowhere → List (Tree Nowhere)
parts (leaf s a) = leaf s a ∷ []
parts (one s o t) = one s o (regrouped t (parts t)) ∷ []
parts (two s j a b) = regrouped a (parts a) ∷ choose (is_join j b) (λ u. parts b) (λ u. regrouped b (parts b) ∷ [])

-- regrouping once: take e1 to en along the right children of one operator, regroup each, join them left to right. `Regroups` below says
-- it in three laws, and nothing else meets them
unfoldable pub regroup : Tree Nowhere → Tree Nowhere
regroup e = regrouped e (parts e)

-- what a right child adds to a chain of j: its own e1 to en if it is of that operator, else itself, regrouped
unfoldable pub links : Join → Tree Nowhere → List (Tree Nowhere)
links j b = choose (is_join j b) (λ u. parts b) (λ u. regroup b ∷ [])

-- e1, then all others, along the right children of j
unfoldable pub chained : Join → Tree Nowhere → List (Tree Nowhere) → Tree Nowhere
chained j e [] = e
chained j e (x ∷ xs) = two tt j e (chained j x xs)

-- en
abbrev pub last_of : Tree Nowhere → List (Tree Nowhere) → Tree Nowhere
last_of e [] = e
last_of e (x ∷ xs) = last_of x xs

-- a function that regroups once: `regroup` does, and it is the only one (`regroups`, `regroups_only`, proofs/Regrouping)
pub record Regroups (f : Tree Nowhere → Tree Nowhere) : Type 0 where
  -- a leaf is itself
  pub of_leaf : (s : Nowhere) (a : Atom) → f (leaf s a) ≡ leaf s a
  -- what stands over one child is that over the child regrouped
  pub of_one : (s : Nowhere) (o : Wrap) (t : Tree Nowhere) → f (one s o t) ≡ one s o (f t)
  -- e1 to en along the right children of j, of which en is none of j, are the regrouped e1 to en, joined left to right
  pub of_chain : (j : Join) (e : Tree Nowhere) (es : List (Tree Nowhere)) → is_join j (last_of e es) ≡ false → f (chained j e es) ≡ joined j (f e) (map f es)

-- no Seq is the right child of a Seq, and no Choice of a Choice
unfoldable pub grouped : {P : Type 0} → Tree P → Bool
grouped (leaf s a) = true
grouped (one s o t) = grouped t
grouped (two s j a b) = and (not (is_join j b)) (and (grouped a) (grouped b))

abbrev pub is_tag : Wrap → Bool
is_tag (plain u) = false
is_tag (node_tag b) = true

-- a tree without its tags
unfoldable pub untagged : {P : Type 0} → Tree P → Tree P
untagged (leaf s a) = leaf s a
untagged (one s o t) = choose (is_tag o) (λ u. untagged t) (λ u. one s o (untagged t))
untagged (two s j a b) = two s j (untagged a) (untagged b)

-- a node but for Seq and Choice
pub data Item : Type 0 where
  end : Atom → Item
  over : Wrap → Item

-- all nodes but Seq and Choice, in text order: what stands over a child before the child
unfoldable pub items : {P : Type 0} → Tree P → List Item
items (leaf s a) = end a ∷ []
items (one s o t) = over o ∷ items t
items (two s j a b) = items a ++ items b

-- those of them that are no tags
unfoldable pub unlabelled : List Item → List Item
unlabelled [] = []
unlabelled (end a ∷ xs) = end a ∷ unlabelled xs
unlabelled (over o ∷ xs) = choose (is_tag o) (λ u. unlabelled xs) (λ u. over o ∷ unlabelled xs)

-- rules regrouped once, and rules without their tags
abbrev pub regroup_rules : List (Rule Nowhere) → List (Rule Nowhere)
regroup_rules us = map (rule_by regroup) us

abbrev pub untagged_rules : List (Rule Nowhere) → List (Rule Nowhere)
untagged_rules us = map (rule_by untagged) us
