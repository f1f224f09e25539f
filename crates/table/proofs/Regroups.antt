-- Laws of regrouping and of removing tags: both keep the nodes but Seq and Choice in order.
use mathlib.Core.Path.{◌≡◌, refl, sym, ap, ◌∙◌}
use mathlib.Core.Bool.{Bool, true, false, not}
use mathlib.Core.List.{List, [], ◌∷◌, ◌++◌, map, append_assoc, append-nil}
use Prim.Native.Nat.{ℕ, suc, ◌+◌, ◌≤◌}
use native.Mathlib.Omega.{arith}
use lib.Dec.{leb}
use lib.ListN.{length, length-append}
use borrow.Author.Tests.{not-true}
use Rattle.text.specs.Booleans.{choose, and}
use Rattle.text.proofs.Booleans.{and_assoc, and_both, and_one, and_true, choose_false}
use Rattle.table.specs.declared.Join.{Join}
use Rattle.table.specs.declared.Join.TheVariants.{Seq, Choice}
use Rattle.table.specs.Tree.{Atom, Wrap, plain, node_tag, Tree, leaf, one, two, Rule, placed, below, count, counts, atom_stored, wrap_stored, stored, rule_stored, rules_stored, Nowhere, aside, rule_by}
use Rattle.table.specs.Regroup.{is_join, joined, regrouped, parts, regroup, grouped, links, untagged, Item, end, over, items, unlabelled, untagged_rules}
use Rattle.table.specs.Check.{is_name, is_label, fine_atom, fine_wrap, fine, fine_rule, fine_rules}

-- ---- what a tree's nodes in order say of it

-- the leaves among them
ends : List Item → ℕ
ends [] = 0
ends (end a ∷ xs) = suc (ends xs)
ends (over o ∷ xs) = ends xs

item_stored : Item → List ℕ
item_stored (end a) = atom_stored a
item_stored (over o) = wrap_stored o

items_stored : List Item → List ℕ
items_stored [] = []
items_stored (x ∷ xs) = item_stored x ++ items_stored xs

item_fine : Item → Bool
item_fine (end a) = fine_atom a
item_fine (over o) = fine_wrap o

items_fine : List Item → Bool
items_fine [] = true
items_fine (x ∷ xs) = and (item_fine x) (items_fine xs)

ends_append : (xs ys : List Item) → ends (xs ++ ys) ≡ ends xs + ends ys
unfolding ends
ends_append [] ys = omega arith
ends_append (end a ∷ xs) ys = omega (arith, ends_append xs ys)
ends_append (over o ∷ xs) ys = ends_append xs ys

stored_append : (xs ys : List Item) → items_stored (xs ++ ys) ≡ items_stored xs ++ items_stored ys
unfolding items_stored
stored_append [] ys = refl
stored_append (x ∷ xs) ys = ap (λ z. item_stored x ++ z) (stored_append xs ys) ∙ sym (append_assoc (item_stored x) (items_stored xs) (items_stored ys))

fine_append : (xs ys : List Item) → items_fine (xs ++ ys) ≡ and (items_fine xs) (items_fine ys)
unfolding items_fine
fine_append [] ys = refl
fine_append (x ∷ xs) ys = ap (and (item_fine x)) (fine_append xs ys) ∙ and_assoc (item_fine x) (items_fine xs) (items_fine ys)

module _ {P : Type 0} where
  -- one Seq or Choice fewer than leaves
  items_count : (t : Tree P) → count t + 1 ≡ length (items t) + ends (items t)
  unfolding below items ends
  items_count (leaf s a) = refl
  items_count (one s o t) = omega (arith, items_count t)
  items_count (two s j a b) = omega (arith, length-append (items a) (items b), ends_append (items a) (items b), items_count a, items_count b)

  items_stored_lem : (t : Tree P) → stored t ≡ items_stored (items t)
  unfolding stored items items_stored item_stored
  items_stored_lem (leaf s a) = sym (append-nil (atom_stored a))
  items_stored_lem (one s o t) = ap (λ z. wrap_stored o ++ z) (items_stored_lem t)
  items_stored_lem (two s j a b) =
      ap (λ z. z ++ stored b) (items_stored_lem a) ∙ ap (λ z. items_stored (items a) ++ z) (items_stored_lem b) ∙ sym (stored_append (items a) (items b))

  items_fine_lem : (t : Tree P) → fine t ≡ items_fine (items t)
  unfolding fine items items_fine item_fine
  items_fine_lem (leaf s a) = sym (and_one (fine_atom a))
  items_fine_lem (one s o t) = ap (and (fine_wrap o)) (items_fine_lem t)
  items_fine_lem (two s j a b) =
      ap (λ z. and z (fine b)) (items_fine_lem a) ∙ ap (and (items_fine (items a))) (items_fine_lem b) ∙ sym (fine_append (items a) (items b))

  -- spans have no part in them
  pub items_aside : (t : Tree P) → items (aside t) ≡ items t
  unfolding items aside
  items_aside (leaf s a) = refl
  items_aside (one s o t) = ap (λ z. over o ∷ z) (items_aside t)
  items_aside (two s j a b) = ap (λ z. z ++ items (aside b)) (items_aside a) ∙ ap (λ z. items a ++ z) (items_aside b)

-- a root's place has no part in a tree without spans
pub aside_placed : {P : Type 0} (s : P) (t : Tree P) → aside (placed s t) ≡ aside t
unfolding aside
aside_placed s (leaf _ a) = refl
aside_placed s (one _ o t) = refl
aside_placed s (two _ j a b) = refl

-- trees of the same nodes in order have as many nodes, the same texts, and are fine together
module _ {P Q : Type 0} (t : Tree P) (u : Tree Q) (e : items t ≡ items u) where
  pub same_count : count t ≡ count u
  same_count = omega (arith, items_count t, items_count u, ap length e, ap ends e)

  pub same_stored : stored t ≡ stored u
  same_stored = items_stored_lem t ∙ ap items_stored e ∙ sym (items_stored_lem u)

  pub same_fine : fine t ≡ fine u
  same_fine = items_fine_lem t ∙ ap items_fine e ∙ sym (items_fine_lem u)

-- ---- regrouping

all_items : List (Tree Nowhere) → List Item
all_items [] = []
all_items (x ∷ xs) = items x ++ all_items xs

joined_items : (j : Join) (e : Tree Nowhere) (xs : List (Tree Nowhere)) → items (joined j e xs) ≡ items e ++ all_items xs
unfolding joined items all_items
joined_items j e [] = sym (append-nil (items e))
joined_items j e (x ∷ xs) = joined_items j (two tt j e x) xs ∙ append_assoc (items e) (items x) (all_items xs)

rest_items : (c : Bool) (b : Tree Nowhere) → all_items (parts b) ≡ items b → items (regrouped b (parts b)) ≡ items b
    → all_items (choose c (λ u. parts b) (λ u. regrouped b (parts b) ∷ [])) ≡ items b
unfolding all_items
rest_items true b h g = h
rest_items false b h g = append-nil (items (regrouped b (parts b))) ∙ g

-- e1 to en, and the tree that they are joined to, have the nodes of the tree in order
kept : (t : Tree Nowhere) → (all_items (parts t) ≡ items t) × (items (regrouped t (parts t)) ≡ items t)
unfolding parts regrouped items all_items
kept (leaf s a) = (refl, refl)
kept (one s o t) =
    let h = (kept t).1 in
    (append-nil (over o ∷ items (regrouped t (parts t))) ∙ ap (λ z. over o ∷ z) h, ap (λ z. over o ∷ z) h)
kept (two s j a b) =
    let h = (kept a).1 in
    let r = rest_items (is_join j b) b (kept b).0 (kept b).1 in
    let e = ap (λ z. z ++ all_items (choose (is_join j b) (λ u. parts b) (λ u. regrouped b (parts b) ∷ []))) h ∙ ap (λ z. items a ++ z) r in
    (e, joined_items j (regrouped a (parts a)) (choose (is_join j b) (λ u. parts b) (λ u. regrouped b (parts b) ∷ [])) ∙ e)

-- regrouping keeps all nodes but Seq and Choice in order, so leaves, texts and tags too
pub regroup_items : (t : Tree Nowhere) → items (regroup t) ≡ items t
unfolding regroup
regroup_items t = (kept t).1

-- and the number of nodes
pub regroup_count : (t : Tree Nowhere) → count (regroup t) ≡ count t
regroup_count t = same_count (regroup t) t (regroup_items t)

pub regroup_stored : (t : Tree Nowhere) → stored (regroup t) ≡ stored t
regroup_stored t = same_stored (regroup t) t (regroup_items t)

pub regroup_fine : (t : Tree Nowhere) → fine (regroup t) ≡ fine t
regroup_fine t = same_fine (regroup t) t (regroup_items t)

-- regrouping a leaf, a node with one child, and a pair
pub regroup_leaf : (s : Nowhere) (a : Atom) → regroup (leaf s a) ≡ leaf s a
unfolding regroup regrouped parts
regroup_leaf s a = refl

pub regroup_one : (s : Nowhere) (o : Wrap) (t : Tree Nowhere) → regroup (one s o t) ≡ one s o (regroup t)
unfolding regroup regrouped parts
regroup_one s o t = refl

pub regroup_two : (s : Nowhere) (j : Join) (a b : Tree Nowhere) → regroup (two s j a b) ≡ joined j (regroup a) (links j b)
unfolding regroup regrouped parts links
regroup_two s j a b = refl

-- a right child of the same operator goes on the chain
pub links_same : (s : Nowhere) (j : Join) (a b : Tree Nowhere) → links j (two s j a b) ≡ regroup a ∷ links j b
unfolding regroup regrouped parts links
links_same s Seq a b = refl
links_same s Choice a b = refl

-- any other is its last link
pub links_last : (j : Join) (b : Tree Nowhere) → is_join j b ≡ false → links j b ≡ regroup b ∷ []
unfolding links
links_last j b e = choose_false (is_join j b) _ _ e

-- what stands over one child ends a chain, a tag too
pub links_one : (j : Join) (s : Nowhere) (o : Wrap) (t : Tree Nowhere) → links j (one s o t) ≡ regroup (one s o t) ∷ []
links_one j s o t = links_last j (one s o t) refl

-- a tree where no Seq is the right child of a Seq and no Choice of a Choice stays as it is
pub regroup_same : (t : Tree Nowhere) → grouped t ≡ true → regroup t ≡ t
unfolding grouped joined
regroup_same (leaf s a) g = regroup_leaf s a
regroup_same (one s o t) g = regroup_one s o t ∙ ap (one s o) (regroup_same t g)
regroup_same (two s j a b) g =
    let h = and_true (not (is_join j b)) _ g in
    let w = and_true (grouped a) (grouped b) h.1 in
    regroup_two s j a b ∙ ap (joined j (regroup a)) (links_last j b (not-true (is_join j b) h.0))
    ∙ ap (λ z. two tt j z (regroup b)) (regroup_same a w.0) ∙ ap (two tt j a) (regroup_same b w.1)

-- ---- removing tags

unlabelled_append : (xs ys : List Item) → unlabelled (xs ++ ys) ≡ unlabelled xs ++ unlabelled ys
unfolding unlabelled
unlabelled_append [] ys = refl
unlabelled_append (end a ∷ xs) ys = ap (λ z. end a ∷ z) (unlabelled_append xs ys)
unlabelled_append (over (plain u) ∷ xs) ys = ap (λ z. over (plain u) ∷ z) (unlabelled_append xs ys)
unlabelled_append (over (node_tag b) ∷ xs) ys = unlabelled_append xs ys

module _ {P : Type 0} where
  pub untagged_items : (t : Tree P) → items (untagged t) ≡ unlabelled (items t)
  unfolding untagged items unlabelled
  untagged_items (leaf s a) = refl
  untagged_items (one s (plain u) t) = ap (λ z. over (plain u) ∷ z) (untagged_items t)
  untagged_items (one s (node_tag b) t) = untagged_items t
  untagged_items (two s j a b) =
      ap (λ z. z ++ items (untagged b)) (untagged_items a) ∙ ap (λ z. unlabelled (items a) ++ z) (untagged_items b) ∙ sym (unlabelled_append (items a) (items b))

  -- no more nodes, and no more to store
  pub untagged_count : (t : Tree P) → count (untagged t) ≤ count t
  unfolding untagged below
  untagged_count (leaf s a) = omega arith
  untagged_count (one s (plain u) t) = omega (arith, untagged_count t)
  untagged_count (one s (node_tag b) t) = omega (arith, untagged_count t)
  untagged_count (two s j a b) = omega (arith, untagged_count a, untagged_count b)

  pub untagged_size : (t : Tree P) → length (stored (untagged t)) ≤ length (stored t)
  unfolding untagged stored
  untagged_size (leaf s a) = omega arith
  untagged_size (one s (plain u) t) = untagged_size t
  untagged_size (one s (node_tag b) t) = omega (arith, length-append b (stored t), untagged_size t)
  untagged_size (two s j a b) =
      omega (arith, length-append (stored a) (stored b), length-append (stored (untagged a)) (stored (untagged b)), untagged_size a, untagged_size b)

  pub untagged_fine : (t : Tree P) → fine t ≡ true → fine (untagged t) ≡ true
  unfolding untagged fine
  untagged_fine (leaf s a) f = f
  untagged_fine (one s (plain u) t) f = untagged_fine t f
  untagged_fine (one s (node_tag b) t) f = untagged_fine t (and_true (is_label b) (fine t) f).1
  untagged_fine (two s j a b) f = let g = and_true (fine a) (fine b) f in and_both _ _ (untagged_fine a g.0) (untagged_fine b g.1)

  -- once is enough
  pub untagged_twice : (t : Tree P) → untagged (untagged t) ≡ untagged t
  unfolding untagged
  untagged_twice (leaf s a) = refl
  untagged_twice (one s (plain u) t) = ap (one s (plain u)) (untagged_twice t)
  untagged_twice (one s (node_tag b) t) = untagged_twice t
  untagged_twice (two s j a b) = ap (λ z. two s j z (untagged (untagged b))) (untagged_twice a) ∙ ap (two s j (untagged a)) (untagged_twice b)

  -- spans have no part in it
  pub untagged_aside : (t : Tree P) → untagged (aside t) ≡ aside (untagged t)
  unfolding untagged aside
  untagged_aside (leaf s a) = refl
  untagged_aside (one s (plain u) t) = ap (one tt (plain u)) (untagged_aside t)
  untagged_aside (one s (node_tag b) t) = untagged_aside t
  untagged_aside (two s j a b) = ap (λ z. two tt j z (untagged (aside b))) (untagged_aside a) ∙ ap (two tt j (aside (untagged a))) (untagged_aside b)

-- ---- rules

-- what keeps the nodes of every tree in order keeps the counts and the store of rules
module _ {P : Type 0} (f : Tree P → Tree Nowhere) (h : (t : Tree P) → items (f t) ≡ items t) where
  pub rules_counts : (us : List (Rule P)) → counts (map (rule_by f) us) ≡ counts us
  unfolding counts
  rules_counts [] = refl
  rules_counts (r ∷ us) = omega (arith, same_count (f r.tree) r.tree (h r.tree), rules_counts us)

  pub rules_store : (us : List (Rule P)) → rules_stored (map (rule_by f) us) ≡ rules_stored us
  unfolding rules_stored rule_stored
  rules_store [] = refl
  rules_store (r ∷ us) =
      ap (λ z. (r.name ++ z) ++ rules_stored (map (rule_by f) us)) (same_stored (f r.tree) r.tree (h r.tree))
      ∙ ap (λ z. (r.name ++ stored r.tree) ++ z) (rules_store us)

  pub rules_fine : (us : List (Rule P)) → fine_rules (map (rule_by f) us) ≡ fine_rules us
  unfolding fine_rules fine_rule
  rules_fine [] = refl
  rules_fine (r ∷ us) =
      ap (λ z. and (and (is_name r.name) (and (leb r.mark 4) z)) (fine_rules (map (rule_by f) us))) (same_fine (f r.tree) r.tree (h r.tree))
      ∙ ap (and (fine_rule r)) (rules_fine us)

-- and removing tags adds nothing to them
pub untagged_rules_counts : (us : List (Rule Nowhere)) → counts (untagged_rules us) ≤ counts us
unfolding counts
untagged_rules_counts [] = omega arith
untagged_rules_counts (r ∷ us) = omega (arith, untagged_count r.tree, untagged_rules_counts us)

pub untagged_rules_store : (us : List (Rule Nowhere)) → length (rules_stored (untagged_rules us)) ≤ length (rules_stored us)
unfolding rules_stored rule_stored
untagged_rules_store [] = omega arith
untagged_rules_store (r ∷ us) = omega (
  arith,
  length-append (r.name ++ stored (untagged r.tree)) (rules_stored (untagged_rules us)),
  length-append (r.name ++ stored r.tree) (rules_stored us),
  length-append r.name (stored (untagged r.tree)),
  length-append r.name (stored r.tree),
  untagged_size r.tree,
  untagged_rules_store us,
)

pub untagged_rules_fine : (us : List (Rule Nowhere)) → fine_rules us ≡ true → fine_rules (untagged_rules us) ≡ true
unfolding fine_rules fine_rule
untagged_rules_fine [] f = refl
untagged_rules_fine (r ∷ us) f =
    let g = and_true (fine_rule r) (fine_rules us) f in
    let n = and_true (is_name r.name) (and (leb r.mark 4) (fine r.tree)) g.0 in
    let m = and_true (leb r.mark 4) (fine r.tree) n.1 in
    and_both _ _ (and_both _ _ n.0 (and_both _ _ m.0 (untagged_fine r.tree m.1))) (untagged_rules_fine us g.1)
