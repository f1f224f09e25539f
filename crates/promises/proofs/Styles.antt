-- What each style's marks come to: enough brackets, the same leaves, and the tree that is read back.
use Rattle.std.specs.Prelude.{Some, None}
use Prim.Native.Nat.{◌≤◌}
use mathlib.Core.Path.{◌≡◌, refl, sym, ap, ◌∙◌}
use mathlib.Core.Bool.{Bool, false}
use mathlib.Core.List.{List, [], ◌∷◌, map}
use lib.Dec.{leb}
use Rattle.structure.specs.declared.Level.{Level}
use Rattle.text.specs.Booleans.{and, or}
use Rattle.table.specs.declared.Join.{Join}
use Rattle.table.specs.declared.Join.TheVariants.{Seq, Choice}
use Rattle.table.specs.Tree.{Wrap, Tree, leaf, one, two, Rule, Nowhere, aside, rule_by, aside_rule}
use Rattle.table.specs.Check.{is_name, fine_wrap, fine, fine_rule, fine_rules}
use Rattle.table.specs.Regroup.{is_join, joined, regroup, links}
use Rattle.table.proofs.Regroups.{regroup_leaf, regroup_one, regroup_two, links_same, links_last}
use Rattle.forms.specs.declared.Place.{Place}
use Rattle.forms.specs.declared.Place.TheVariants.{Alone, LeftOf, RightOf}
use Rattle.forms.specs.declared.Form.TheVariants.{Joined}
use Rattle.forms.specs.Printing.{brackets, atom_form, wrap_form, under}
use Rattle.structure.specs.Counts.{wrap_counts, counted, counted_rules}
use Rattle.promises.specs.Round.{wraps_pass, rules_pass, pushing, holds_push_literal, read_back, sight, seen}
use Rattle.forms.specs.declared.Style.{Style}
use Rattle.forms.specs.declared.Style.TheVariants.{Full, Short}
use Rattle.promises.specs.Styled.{marked, marked_rule, marked_rules}
use Rattle.promises.specs.Marked.{least, stands, Fits, FitRules, goes_on, back, whole}
use Rattle.promises.proofs.Enough.{enough}
use Rattle.promises.proofs.Backs.{back_two, back_free, back_put}

module _ {P : Type 0} (v : Style) where
  stands_is : (w : Place) (t : Tree P) → least w ≤ stands (marked v w t)
  unfolding marked
  stands_is w (leaf s a) = enough v w (atom_form a)
  stands_is w (one s o t) = enough v w (wrap_form o)
  stands_is w (two s j a b) = enough v w (Joined j)

  pub marked_fits : (w : Place) (t : Tree P) → Fits (marked v w t)
  unfolding marked Fits
  marked_fits w (leaf s a) = tt
  marked_fits w (one s o t) = (stands_is (under (wrap_form o)) t, marked_fits (under (wrap_form o)) t)
  marked_fits w (two s j a b) = (stands_is (LeftOf j) a, stands_is (RightOf j) b, marked_fits (LeftOf j) a, marked_fits (RightOf j) b)

  pub marked_fine : (w : Place) (t : Tree P) → fine (marked v w t) ≡ fine t
  unfolding marked fine
  marked_fine w (leaf s a) = refl
  marked_fine w (one s o t) = ap (and (fine_wrap o)) (marked_fine (under (wrap_form o)) t)
  marked_fine w (two s j a b) = ap (λ z. and z (fine (marked v (RightOf j) b))) (marked_fine (LeftOf j) a) ∙ ap (and (fine a)) (marked_fine (RightOf j) b)

  pub marked_counted : (w : Place) (t : Tree P) → counted (marked v w t) ≡ counted t
  unfolding marked counted
  marked_counted w (leaf s a) = refl
  marked_counted w (one s o t) = ap (and (wrap_counts o)) (marked_counted (under (wrap_form o)) t)
  marked_counted w (two s j a b) = ap (λ z. and z (counted (marked v (RightOf j) b))) (marked_counted (LeftOf j) a) ∙ ap (and (counted a)) (marked_counted (RightOf j) b)

-- ---- the short text is read as the tree itself

no_short : (j : Join) (t : Tree Nowhere) → goes_on j (marked Short (RightOf j) t) ≡ false
unfolding marked brackets
no_short j (leaf s a) = refl
no_short j (one s o t) = refl
no_short Seq (two s Seq a b) = refl
no_short Seq (two s Choice a b) = refl
no_short Choice (two s Seq a b) = refl
no_short Choice (two s Choice a b) = refl

pub short_back : (w : Place) (t : Tree Nowhere) → whole (marked Short w t) ≡ t
unfolding marked back
short_back w (leaf s a) = refl
short_back w (one s o t) = ap (one tt o) (short_back (under (wrap_form o)) t)
short_back w (two s j a b) =
    back_two Seq j (brackets Short w (Joined j)) (marked Short (LeftOf j) a) (marked Short (RightOf j) b)
    ∙ back_put j (marked Short (RightOf j) b) (no_short j b) (Some (back j None (marked Short (LeftOf j) a)))
    ∙ ap (λ z. two tt j z (whole (marked Short (RightOf j) b))) (back_free j (marked Short (LeftOf j) a) ∙ short_back (LeftOf j) a)
    ∙ ap (two tt j a) (short_back (RightOf j) b)

-- ---- the full text is read as the tree regrouped once

no_left : (j : Join) (t : Tree Nowhere) → goes_on j (marked Full (LeftOf j) t) ≡ false
unfolding marked brackets
no_left j (leaf s a) = refl
no_left j (one s o t) = refl
no_left Seq (two s Seq a b) = refl
no_left Seq (two s Choice a b) = refl
no_left Choice (two s Seq a b) = refl
no_left Choice (two s Choice a b) = refl

-- alone, and behind a chain
record Regroups (t : Tree Nowhere) : Type 0 where
  all : (w : Place) → whole (marked Full w t) ≡ regroup t
  on : (j : Join) (l : Tree Nowhere) → back j (Some l) (marked Full (RightOf j) t) ≡ joined j l (links j t)

last_on : (j : Join) (m : Tree Bool) (t l : Tree Nowhere) → goes_on j m ≡ false → is_join j t ≡ false → whole m ≡ regroup t → back j (Some l) m ≡ joined j l (links j t)
unfolding joined
last_on j m t l h k e = back_put j m h (Some l) ∙ ap (two tt j l) e ∙ sym (ap (joined j l) (links_last j t k))

module _ (s : Nowhere) (a b : Tree Nowhere) (f : Regroups a) (g : Regroups b) where
  two_all : (k : Join) (w : Place) → whole (marked Full w (two s k a b)) ≡ regroup (two s k a b)
  unfolding marked
  two_all k w =
      back_two Seq k (brackets Full w (Joined k)) (marked Full (LeftOf k) a) (marked Full (RightOf k) b)
      ∙ ap (λ z. back k (Some z) (marked Full (RightOf k) b)) (back_free k (marked Full (LeftOf k) a) ∙ f.all (LeftOf k)) ∙ g.on k (regroup a) ∙ sym (regroup_two s k a b)

  -- behind the chain's links so far: its left child is the next link, its right child goes on
  two_more : (j : Join) (l : Tree Nowhere) → back j (Some (back j (Some l) (marked Full (LeftOf j) a))) (marked Full (RightOf j) b) ≡ joined j l (links j (two s j a b))
  unfolding joined
  two_more j l =
      ap (λ z. back j (Some z) (marked Full (RightOf j) b)) (back_put j (marked Full (LeftOf j) a) (no_left j a) (Some l) ∙ ap (two tt j l) (f.all (LeftOf j)))
      ∙ g.on j (two tt j l (regroup a)) ∙ sym (ap (joined j l) (links_same s j a b))

  two_on : (k j : Join) (l : Tree Nowhere) → back j (Some l) (marked Full (RightOf j) (two s k a b)) ≡ joined j l (links j (two s k a b))
  unfolding marked back brackets
  two_on Seq Seq l = two_more Seq l
  two_on Choice Choice l = two_more Choice l
  two_on Seq Choice l = last_on Choice (marked Full (RightOf Choice) (two s Seq a b)) (two s Seq a b) l refl refl (two_all Seq (RightOf Choice))
  two_on Choice Seq l = last_on Seq (marked Full (RightOf Seq) (two s Choice a b)) (two s Choice a b) l refl refl (two_all Choice (RightOf Seq))

regroups : (t : Tree Nowhere) → Regroups t
unfolding marked back
regroups (leaf s a) = record {
  all = λ w. sym (regroup_leaf s a);
  on = λ j l. last_on j (marked Full (RightOf j) (leaf s a)) (leaf s a) l refl refl (sym (regroup_leaf s a));
}
regroups (one s o t) =
    let e : (w : Place) → whole (marked Full w (one s o t)) ≡ regroup (one s o t) = λ w. ap (one tt o) ((regroups t).all (under (wrap_form o))) ∙ sym (regroup_one s o t) in
    record { all = e; on = λ j l. last_on j (marked Full (RightOf j) (one s o t)) (one s o t) l refl refl (e (RightOf j)) }
regroups (two s k a b) =
    let f = regroups a in
    let g = regroups b in
    record { all = two_all s a b f g k; on = two_on s a b f g k }

pub full_back : (w : Place) (t : Tree Nowhere) → whole (marked Full w t) ≡ regroup t
full_back w t = (regroups t).all w

-- ---- one law for both

pub reads_back : (v : Style) (w : Place) (t : Tree Nowhere) → whole (marked v w t) ≡ read_back v t
reads_back Full w t = full_back w t
reads_back Short w t = short_back w t

-- ---- rules

module _ {P : Type 0} (v : Style) where
  pub rules_fit : (us : List (Rule P)) → FitRules (marked_rules v us)
  unfolding FitRules
  rules_fit [] = tt
  rules_fit (r ∷ us) = (marked_fits v Alone r.tree, rules_fit us)

  pub marked_rules_fine : (us : List (Rule P)) → fine_rules (marked_rules v us) ≡ fine_rules us
  unfolding fine_rules fine_rule
  marked_rules_fine [] = refl
  marked_rules_fine (r ∷ us) =
      ap (λ z. and (and (is_name r.name) (and (leb r.mark 4) z)) (fine_rules (marked_rules v us))) (marked_fine v Alone r.tree) ∙ ap (and (fine_rule r)) (marked_rules_fine us)

  pub marked_rules_counted : (us : List (Rule P)) → counted_rules (marked_rules v us) ≡ counted_rules us
  unfolding counted_rules
  marked_rules_counted [] = refl
  marked_rules_counted (r ∷ us) = ap (λ z. and z (counted_rules (marked_rules v us))) (marked_counted v Alone r.tree) ∙ ap (and (counted r.tree)) (marked_rules_counted us)

  marked_pass : (f : Wrap → Bool) (w : Place) (t : Tree P) → wraps_pass f (marked v w t) ≡ wraps_pass f t
  unfolding marked wraps_pass
  marked_pass f w (leaf s a) = refl
  marked_pass f w (one s o t) = ap (and (f o)) (marked_pass f (under (wrap_form o)) t)
  marked_pass f w (two s j a b) = ap (λ z. and z (wraps_pass f (marked v (RightOf j) b))) (marked_pass f (LeftOf j) a) ∙ ap (and (wraps_pass f a)) (marked_pass f (RightOf j) b)

  pub marked_rules_pass : (f : Wrap → Bool) (us : List (Rule P)) → rules_pass f (marked_rules v us) ≡ rules_pass f us
  unfolding rules_pass
  marked_rules_pass f [] = refl
  marked_rules_pass f (r ∷ us) = ap (λ z. and z (rules_pass f (marked_rules v us))) (marked_pass f Alone r.tree) ∙ ap (and (wraps_pass f r.tree)) (marked_rules_pass f us)

  marked_pushing : (w : Place) (t : Tree P) → pushing (marked v w t) ≡ pushing t
  unfolding marked pushing
  marked_pushing w (leaf s a) = refl
  marked_pushing w (one s o t) = marked_pushing (under (wrap_form o)) t
  marked_pushing w (two s j a b) = ap (λ z. or z (pushing (marked v (RightOf j) b))) (marked_pushing (LeftOf j) a) ∙ ap (or (pushing a)) (marked_pushing (RightOf j) b)

  pub marked_holds : (us : List (Rule P)) → holds_push_literal (marked_rules v us) ≡ holds_push_literal us
  unfolding holds_push_literal
  marked_holds [] = refl
  marked_holds (r ∷ us) = ap (λ z. or z (holds_push_literal (marked_rules v us))) (marked_pushing Alone r.tree) ∙ ap (or (pushing r.tree)) (marked_holds us)

  -- spans have no part in the marks
  pub marked_aside : (w : Place) (t : Tree P) → marked v w (aside t) ≡ marked v w t
  unfolding marked aside
  marked_aside w (leaf s a) = refl
  marked_aside w (one s o t) = ap (one (brackets v w (wrap_form o)) o) (marked_aside (under (wrap_form o)) t)
  marked_aside w (two s j a b) =
      ap (λ z. two (brackets v w (Joined j)) j z (marked v (RightOf j) (aside b))) (marked_aside (LeftOf j) a)
      ∙ ap (two (brackets v w (Joined j)) j (marked v (LeftOf j) a)) (marked_aside (RightOf j) b)

  pub marked_asides : (us : List (Rule P)) → marked_rules v (map aside_rule us) ≡ marked_rules v us
  marked_asides [] = refl
  marked_asides (r ∷ us) =
      ap (λ (z : Tree Bool). record { name = r.name; mark = r.mark; tree = z; place = false } ∷ marked_rules v (map aside_rule us)) (marked_aside Alone r.tree)
      ∙ ap (λ (z : List (Rule Bool)). marked_rule v r ∷ z) (marked_asides us)

module _ (v : Style) where
  pub seen_style : (level : Level) (us : List (Rule Nowhere)) → map (rule_by (λ m. sight level (whole m))) (marked_rules v us) ≡ seen v level us
  seen_style level [] = refl
  seen_style level (r ∷ us) =
      ap (λ (z : Tree Nowhere). record { name = r.name; mark = r.mark; tree = sight level z; place = tt } ∷ map (rule_by (λ m. sight level (whole m))) (marked_rules v us)) (reads_back v Alone r.tree)
      ∙ ap (λ (z : List (Rule Nowhere)). rule_by (λ t. sight level (read_back v t)) r ∷ z) (seen_style level us)
