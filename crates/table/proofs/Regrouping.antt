-- Regrouping by its three laws: `regroup` meets them, and whatever does is `regroup`. For the second every tree is taken apart along the
-- right children of an operator, with the two functions equal on each part.
use mathlib.Core.Path.{◌≡◌, refl, sym, ap, ◌∙◌}
use mathlib.Core.Bool.{false}
use mathlib.Core.List.{List, [], ◌∷◌, map}
use Rattle.table.specs.declared.Join.{Join}
use Rattle.table.specs.declared.Join.TheVariants.{Seq, Choice}
use Rattle.table.specs.Tree.{Tree, leaf, one, two, Nowhere}
use Rattle.table.specs.Regroup.{is_join, joined, regroup, links, chained, last_of, Regroups}
use Rattle.table.proofs.Regroups.{regroup_leaf, regroup_one, regroup_two, links_same, links_last}

-- ---- it meets them

chain_links : (j : Join) (e : Tree Nowhere) (es : List (Tree Nowhere)) → is_join j (last_of e es) ≡ false → links j (chained j e es) ≡ map regroup (e ∷ es)
unfolding chained
chain_links j e [] h = links_last j e h
chain_links j e (x ∷ es) h = links_same tt j e (chained j x es) ∙ ap (λ (l : List (Tree Nowhere)). regroup e ∷ l) (chain_links j x es h)

regroup_chain : (j : Join) (e : Tree Nowhere) (es : List (Tree Nowhere)) → is_join j (last_of e es) ≡ false → regroup (chained j e es) ≡ joined j (regroup e) (map regroup es)
unfolding chained joined
regroup_chain j e [] h = refl
regroup_chain j e (x ∷ es) h = regroup_two tt j e (chained j x es) ∙ ap (joined j (regroup e)) (chain_links j x es h)

pub regroups : Regroups regroup
regroups = record { of_leaf = regroup_leaf; of_one = regroup_one; of_chain = regroup_chain }

-- ---- nothing else does

module _ (f : Tree Nowhere → Tree Nowhere) (h : Regroups f) where
  -- a tree taken apart along the right children of j
  record Parts (j : Join) (t : Tree Nowhere) : Type 0 where
    first : Tree Nowhere
    others : List (Tree Nowhere)
    whole : t ≡ chained j first others
    last : is_join j (last_of first others) ≡ false
    same : f first ≡ regroup first
    sames : map f others ≡ map regroup others

  -- one that is none of j is its only part
  alone : (j : Join) (t : Tree Nowhere) → is_join j t ≡ false → f t ≡ regroup t → Parts j t
  unfolding chained
  alone j t n e = record { first = t; others = []; whole = refl; last = n; same = e; sames = refl }

  -- a left child before the parts of a right one
  before : (j : Join) (s : Nowhere) (a b : Tree Nowhere) → f a ≡ regroup a → Parts j b → Parts j (two s j a b)
  unfolding chained
  before j s a b e p = record {
    first = a;
    others = p.first ∷ p.others;
    whole = ap (two tt j a) p.whole;
    last = p.last;
    same = e;
    sames = ap (λ (x : Tree Nowhere). x ∷ map f p.others) p.same ∙ ap (λ (l : List (Tree Nowhere)). regroup p.first ∷ l) p.sames;
  }

  -- by its parts
  by_parts : (j : Join) (t : Tree Nowhere) → Parts j t → f t ≡ regroup t
  by_parts j t p =
      ap f p.whole ∙ h.of_chain j p.first p.others p.last ∙ ap (λ (x : Tree Nowhere). joined j x (map f p.others)) p.same
      ∙ ap (joined j (regroup p.first)) p.sames ∙ sym (ap regroup p.whole ∙ regroup_chain j p.first p.others p.last)

  by-operator : (j k : Join) (s : Nowhere) (a b : Tree Nowhere) → Parts j (two s j a b) → Parts k (two s j a b)
  by-operator Seq Seq s a b p = p
  by-operator Choice Choice s a b p = p
  by-operator Seq Choice s a b p = alone Choice (two s Seq a b) refl (by_parts Seq (two s Seq a b) p)
  by-operator Choice Seq s a b p = alone Seq (two s Choice a b) refl (by_parts Choice (two s Choice a b) p)

  parted : (t : Tree Nowhere) (j : Join) → Parts j t
  parted (leaf s a) j = alone j (leaf s a) refl (h.of_leaf s a ∙ sym (regroup_leaf s a))
  parted (one s o t) j = alone j (one s o t) refl (h.of_one s o t ∙ ap (one s o) (by_parts Seq t (parted t Seq)) ∙ sym (regroup_one s o t))
  parted (two s k a b) j = by-operator k j s a b (before k s a b (by_parts Seq a (parted a Seq)) (parted b k))

  pub regroups_only : (t : Tree Nowhere) → f t ≡ regroup t
  regroups_only t = by_parts Seq t (parted t Seq)
