-- What holds of all rules of a text where it goes on from rule to rule and over docs.
use Prim.Native.Nat.{ℕ, zero, suc, ◌+◌}
use mathlib.Core.Path.{◌≡◌, refl}
use mathlib.Core.List.{List, [], ◌∷◌}
use lib.Dec.{leb}
use lib.ListN.{length}
use Rattle.text.proofs.Booleans.{choose_by}
use Rattle.token.specs.Table.{toks, is}
use Rattle.table.specs.Tree.{Span, Rule}
use Rattle.structure.specs.declared.Level.{Level}
use Rattle.structure.specs.Structure.{Ruled, rules, unruled, with_rule, Ruling, ruling, no_rule, then_rules, rule_from, rules_up_to, docs, grammar}
use Rattle.structure.proofs.Cases.{RuleRead, rule_read}

module _ (level : Level) (s : List ℕ) (F : ℕ → List (Rule Span) → Type 0) (none : (at : ℕ) → F at []) (doc : (at : ℕ) (us : List (Rule Span)) → F (at + 1) us → F at us)
    (more : (at : ℕ) (r : Rule Span) (n : ℕ) (us : List (Rule Span)) → RuleRead level s at r n → F n us → F at (r ∷ us)) where
  abbrev All : ℕ → Ruled → Type 0
  All at (rules us) = F at us
  All at (unruled x) = Unit {0}

  doc_all : (at : ℕ) (m : Ruled) → All (at + 1) m → All at m
  doc_all at (rules us) h = doc at us h
  doc_all at (unruled x) h = tt

  with_all : (at : ℕ) (r : Rule Span) (n : ℕ) (m : Ruled) → RuleRead level s at r n → All n m → All at (with_rule r m)
  with_all at r n (rules us) p h = more at r n us p h
  with_all at r n (unruled x) p h = tt

  then_all : (at : ℕ) (m : Ruling) (f : Rule Span → ℕ → Ruled) → ((r : Rule Span) (n : ℕ) → m ≡ ruling r n → All at (f r n)) → All at (then_rules m f)
  unfolding then_rules
  then_all at (ruling r n) f h = h r n refl
  then_all at (no_rule x) f h = tt

  up_to : (k at : ℕ) → All at (rules_up_to level s k at)
  unfolding rules_up_to
  up_to zero at = none at
  up_to (suc k) at =
      choose_by (All at) (leb (length (toks s)) at) _ _ (λ e. none at)
      (λ e. choose_by (All at) (is s at 27) _ _ (λ e. doc_all at (rules_up_to level s k (at + 1)) (up_to k (at + 1)))
      (λ e. then_all at (rule_from level s at) _ (λ r n p. with_all at r n (rules_up_to level s k n) (rule_read level s at p) (up_to k n))))

  all : All (docs s) (grammar level s)
  unfolding grammar
  all = choose_by (All (docs s)) (leb (length (toks s)) (docs s)) _ _ (λ e. tt) (λ e. up_to (length (toks s)) (docs s))

  pub all_rules : (us : List (Rule Span)) → grammar level s ≡ rules us → F (docs s) us
  all_rules us e = rw e at all
