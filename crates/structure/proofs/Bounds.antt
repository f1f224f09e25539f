-- The bounds on how many rules and docs are read never cut a text short: each takes a token, so that any bound from the number of tokens
-- left on gives the same. Without a bound, the rules from an index on are what their equation says, and nothing else meets it.
use Prim.Native.Nat.{ℕ, zero, suc, ◌+◌, ◌≤◌, ◌<◌}
use mathlib.Core.Path.{◌≡◌, refl, sym, ap, ◌∙◌}
use mathlib.Core.Bool.{Bool, true, false}
use mathlib.Core.List.{List}
use native.Mathlib.Omega.{arith}
use native.Mathlib.Decide.{dec_lt}
use lib.Dec.{leb}
use lib.ListN.{length}
use borrow.Author.Tests.{le-leb}
use Rattle.text.specs.Booleans.{choose}
use Rattle.text.proofs.Booleans.{choose_by, choose_cong, choose_true}
use Rattle.token.specs.Table.{toks, is}
use Rattle.table.specs.Tree.{Span, Rule}
use Rattle.structure.specs.declared.Level.{Level}
use Rattle.structure.specs.declared.Why.TheVariants.{NotAllowed}
use Rattle.structure.specs.Refusals.{because}
use Rattle.structure.specs.Structure.{Ruled, unruled, with_rule, Ruling, ruling, no_rule, then_rules, rule_from, rules_by, rules_up_to, grammar_from, docs_in, docs, grammar}
use Rattle.structure.specs.Meaning.{DocsTo}
use Rattle.structure.proofs.Steps.{inside_is}
use Rattle.structure.proofs.Rules.{rule_past, rules_end}

-- ---- rules

then_cong : (m : Ruling) (f g : Rule Span → ℕ → Ruled) → ((r : Rule Span) (n : ℕ) → m ≡ ruling r n → f r n ≡ g r n) → then_rules m f ≡ then_rules m g
unfolding then_rules
then_cong (ruling r n) f g h = h r n refl
then_cong (no_rule x) f g h = refl

module _ (level : Level) (s : List ℕ) where
  -- only later indexes are asked
  by_cong : (f g : ℕ → Ruled) (at : ℕ) → ((n : ℕ) → at < n → f n ≡ g n) → rules_by level s f at ≡ rules_by level s g at
  by_cong f g at h =
      choose_cong (leb (length (toks s)) at) _ _ _ _ (λ v. refl)
      (λ v. choose_cong (is s at 27) _ _ _ _ (λ w. h (at + 1) (omega arith))
      (λ w. then_cong (rule_from level s at) _ _ (λ r n e. ap (with_rule r) (h n (rule_past level s at r n e).0))))

  -- any bound from the number of tokens left on gives the same
  pub rules_enough : (k m at : ℕ) → length (toks s) ≤ at + k → length (toks s) ≤ at + m → rules_up_to level s k at ≡ rules_up_to level s m at
  unfolding rules_up_to
  rules_enough zero m at h g = sym (rules_end level s m at (omega arith))
  rules_enough (suc k) zero at h g = rules_end level s (suc k) at (omega arith)
  rules_enough (suc k) (suc m) at h g = by_cong (rules_up_to level s k) (rules_up_to level s m) at (λ n l. rules_enough k m n (omega arith) (omega arith))

  -- the rules from an index on: none past the last token; those past a `///` doc; or a rule, and those from its end on
  pub rules_law : (at : ℕ) → grammar_from level s at ≡ rules_by level s (grammar_from level s) at
  unfolding rules_up_to
  rules_law at = rules_enough (length (toks s)) (suc (length (toks s))) at (omega arith) (omega arith)

  -- and that says what they are
  module _ (f : ℕ → Ruled) (law : (at : ℕ) → f at ≡ rules_by level s f at) where
    only_in : (k at : ℕ) → length (toks s) ≤ at + k → f at ≡ rules_up_to level s k at
    unfolding rules_up_to
    only_in zero at h = law at ∙ choose_true (leb (length (toks s)) at) _ _ (le-leb (length (toks s)) at (omega arith))
    only_in (suc k) at h = law at ∙ by_cong f (rules_up_to level s k) at (λ n l. only_in k n (omega arith))

    pub rules_only : (at : ℕ) → f at ≡ grammar_from level s at
    rules_only at = only_in (length (toks s)) at (omega arith)

-- ---- docs

module _ (s : List ℕ) where
  -- no doc stands past the last token
  over : (i : ℕ) → length (toks s) ≤ i → is s i 26 ≡ false
  over i h = go (is s i 26) refl
    where
      go : (b : Bool) → is s i 26 ≡ b → is s i 26 ≡ false
      go true e = let l = inside_is s i 26 (omega arith) e in absurd (omega arith)
      go false e = e

  one_more : (at end : ℕ) → is s at 26 ≡ true → DocsTo s (at + 1) end → DocsTo s at end
  one_more at end e d = record { ordered = omega arith; docs = λ i h l. go i h l (dec_lt at i); other = d.other }
    where
      go : (i : ℕ) → at ≤ i → i < end → Dec (at < i) → is s i 26 ≡ true
      go i h l (yes m) = d.docs i (omega arith) l
      go i h l (no m) = let z : at ≡ i = omega arith in rw z at e

  docs_in_lem : (k at : ℕ) → length (toks s) ≤ at + k → DocsTo s at (docs_in s k at)
  unfolding docs_in
  docs_in_lem zero at h = record { ordered = omega arith; docs = λ i a b. absurd (omega arith); other = over at (omega arith) }
  docs_in_lem (suc k) at h =
      choose_by (DocsTo s at) (is s at 26) _ _ (λ e. one_more at (docs_in s k (at + 1)) e (docs_in_lem k (at + 1) (omega arith)))
      (λ e. record { ordered = omega arith; docs = λ i a b. absurd (omega arith); other = e })

  not_before : (at m n : ℕ) → DocsTo s at m → DocsTo s at n → m < n → ⊥
  not_before at m n a b l =
      let e = b.docs m a.ordered l in
      let o = a.other in
      let z : ◌≡◌ {A = ℕ} 0 1 = cc in
      omega arith

  -- docs end in one place
  docs_once : (at m n : ℕ) → DocsTo s at m → DocsTo s at n → m ≡ n
  docs_once at m n a b = go (dec_lt m n) (dec_lt n m)
    where
      go : Dec (m < n) → Dec (n < m) → m ≡ n
      go (yes l) d = absurd (not_before at m n a b l)
      go (no l) (yes p) = absurd (not_before at n m b a p)
      go (no l) (no p) = omega arith

  pub docs_enough : (k m at : ℕ) → length (toks s) ≤ at + k → length (toks s) ≤ at + m → docs_in s k at ≡ docs_in s m at
  docs_enough k m at h g = docs_once at (docs_in s k at) (docs_in s m at) (docs_in_lem k at h) (docs_in_lem m at g)

  -- `docs` is the index of the first token that is no `//!` doc, and nothing else is
  pub docs_first : DocsTo s 0 (docs s)
  docs_first = docs_in_lem (length (toks s)) 0 (omega arith)

  pub docs_only : (n : ℕ) → DocsTo s 0 n → n ≡ docs s
  docs_only n d = docs_once 0 n (docs s) d docs_first

  -- a text's rules are those from there on; where nothing stands there, it is refused at its end
  pub grammar_law : (level : Level) (n : ℕ) → DocsTo s 0 n
      → grammar level s ≡ choose (leb (length (toks s)) n) (λ u. unruled (because NotAllowed (length s))) (λ u. grammar_from level s n)
  unfolding grammar
  grammar_law level n d = rw (docs_only n d)
