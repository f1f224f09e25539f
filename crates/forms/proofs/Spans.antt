-- Spans play no part in the text.
use mathlib.Core.Path.{◌≡◌, refl, sym, ap, ◌∙◌}
use mathlib.Core.List.{List, [], ◌∷◌, ◌++◌, map}
use Rattle.table.specs.Tree.{Tree, leaf, one, two, Rule, aside, aside_rule, Same}
use Rattle.forms.specs.declared.Style.{Style}
use Rattle.forms.specs.declared.Place.{Place}
use Rattle.forms.specs.declared.Place.TheVariants.{Alone, LeftOf, RightOf}
use Rattle.forms.specs.declared.Form.TheVariants.{Joined}
use Rattle.forms.specs.Printing.{brackets, enclosed, wrap_form, under, before, after, separator, mark_text, printed, printed_rule, printed_rules}

module _ {P : Type 0} (v : Style) where
  pub printed_aside : (w : Place) (t : Tree P) → printed v w (aside t) ≡ printed v w t
  unfolding printed aside
  printed_aside w (leaf s a) = refl
  printed_aside w (one s o t) = ap (λ x. enclosed (brackets v w (wrap_form o)) (before o ++ (x ++ after o))) (printed_aside (under (wrap_form o)) t)
  printed_aside w (two s j a b) =
      ap (λ x. enclosed (brackets v w (Joined j)) (x ++ (separator j ++ printed v (RightOf j) (aside b)))) (printed_aside (LeftOf j) a)
      ∙ ap (λ x. enclosed (brackets v w (Joined j)) (printed v (LeftOf j) a ++ (separator j ++ x))) (printed_aside (RightOf j) b)

  printed_rule_lem : (r : Rule P) → printed_rule v (aside_rule r) ≡ printed_rule v r
  unfolding printed_rule
  printed_rule_lem r =
      ap (λ x. r.name ++ (32 ∷ 61 ∷ 32 ∷ (mark_text r.mark ++ (123 ∷ 32 ∷ (x ++ (32 ∷ 125 ∷ 10 ∷ [])))))) (printed_aside Alone r.tree)

  pub printed_rules_lem : (rs : List (Rule P)) → printed_rules v (map aside_rule rs) ≡ printed_rules v rs
  unfolding printed_rules
  printed_rules_lem [] = refl
  printed_rules_lem (r ∷ rs) = ap (λ x. x ++ printed_rules v (map aside_rule rs)) (printed_rule_lem r) ∙ ap (λ x. printed_rule v r ++ x) (printed_rules_lem rs)

-- the same rules, spans aside, print the same
pub printed_same : {P Q : Type 0} (v : Style) (xs : List (Rule P)) (ys : List (Rule Q)) → Same xs ys → printed_rules v xs ≡ printed_rules v ys
printed_same v xs ys e = sym (printed_rules_lem v xs) ∙ ap (printed_rules v) e ∙ printed_rules_lem v ys
