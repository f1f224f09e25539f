-- What was read, call by call: a case for each way, with what it says of the tokens. For whoever builds what was read.
use Prim.Native.Nat.{ℕ, ◌+◌}
use mathlib.Core.Path.{◌≡◌}
use mathlib.Core.Bool.{true, false}
use mathlib.Core.List.{List}
use native.Mathlib.Omega.{arith}
use lib.Dec.{leb}
use Rattle.text.proofs.Booleans.{split}
use Rattle.text.specs.Limits.{max_open}
use Rattle.token.specs.Table.{is, word}
use Rattle.token.specs.Tokens.{push_literal}
use Rattle.table.specs.Tree.{Span, text, range, Tree, leaf, Rule}
use Rattle.table.specs.declared.Unary.{Unary}
use Rattle.table.specs.declared.Unary.TheVariants.{Opt, Rep, RepOnce, RepExact, RepMin, RepMax, RepMinMax}
use Rattle.table.specs.declared.Sort.TheVariants.{Str, Insens, Ident, PushLiteral}
use Rattle.structure.specs.declared.Level.{Level}
use Rattle.structure.specs.Tokens.{across, spells}
use Rattle.structure.specs.Values.{number, string, character}
use Rattle.structure.specs.Structure.{got, post, from_number, from_comma, postfix_at, slice, pushed, ranged, slices, leaf_at, expr, Run, is_name, mark_at, past_mark, past_bar, ruling, rule_from}
use Rattle.structure.proofs.Steps.{no_tree, want_got, want_post, opened_got}
use Rattle.structure.proofs.Rules.{want_rule, rule_got}

-- a postfix, by its tokens
pub data PostfixRead (s : List ℕ) (at : ℕ) (v : Unary) (n : ℕ) : Type 0 where
  opt : is s at 12 ≡ true → v ≡ Opt → n ≡ at + 1 → PostfixRead s at v n
  rep : is s at 12 ≡ false → is s at 13 ≡ true → v ≡ Rep → n ≡ at + 1 → PostfixRead s at v n
  once : is s at 12 ≡ false → is s at 13 ≡ false → is s at 14 ≡ true → v ≡ RepOnce → n ≡ at + 1 → PostfixRead s at v n
  exact : is s at 2 ≡ true → is s (at + 1) 20 ≡ true → is s (at + 1 + 1) 3 ≡ true → v ≡ RepExact (number s (at + 1)) → n ≡ at + 1 + 2 → PostfixRead s at v n
  least : is s at 2 ≡ true → is s (at + 1) 20 ≡ true → is s (at + 1 + 1) 3 ≡ false → is s (at + 1 + 1) 15 ≡ true → is s (at + 1 + 1 + 1) 3 ≡ true → v ≡ RepMin (number s (at + 1)) → n ≡ at + 1 + 1 + 1 + 1 → PostfixRead s at v n
  both : is s at 2 ≡ true → is s (at + 1) 20 ≡ true → is s (at + 1 + 1) 3 ≡ false → is s (at + 1 + 1) 15 ≡ true → is s (at + 1 + 1 + 1) 3 ≡ false → is s (at + 1 + 1 + 1) 20 ≡ true
      → is s (at + 1 + 1 + 1 + 1) 3 ≡ true → v ≡ RepMinMax (number s (at + 1)) (number s (at + 1 + 1 + 1)) → n ≡ at + 1 + 1 + 1 + 1 + 1 → PostfixRead s at v n
  greatest : is s at 2 ≡ true → is s (at + 1) 20 ≡ false → is s (at + 1) 15 ≡ true → is s (at + 1 + 1) 20 ≡ true → is s (at + 1 + 1 + 1) 3 ≡ true → v ≡ RepMax (number s (at + 1 + 1)) → n ≡ at + 1 + 1 + 1 + 1
      → PostfixRead s at v n

pub postfix_read : (s : List ℕ) (at : ℕ) {v : Unary} {n : ℕ} → postfix_at s at ≡ post v n → PostfixRead s at v n
unfolding postfix_at from_number from_comma
postfix_read s at e =
    split (is s at 12) _ _ (λ a e₀. opt a (cc) (cc))
    (λ a. split (is s at 13) _ _ (λ b e₀. rep a b (cc) (cc))
    (λ b. split (is s at 14) _ _ (λ c e₀. once a b c (cc) (cc))
    (λ c. split (is s at 2) _ _
    (λ d e₀.
    split (is s (at + 1) 20) _ _
    (λ f e₁.
    split (is s (at + 1 + 1) 3) _ _ (λ g e₂. exact d f g (cc) (cc))
    (λ g e₂.
    let (h, p, e₃) = want_post s (at + 1 + 1) 15 _ (omega arith) e₂ in
    split (is s (at + 1 + 1 + 1) 3) _ _ (λ i e₄. least d f g h i (cc) (cc))
    (λ i e₄.
    let (j, q, e₅) = want_post s (at + 1 + 1 + 1) 20 _ (omega arith) e₄ in
    let (k, r, e₆) = want_post s (at + 1 + 1 + 1 + 1) 3 _ (omega arith) e₅ in
    both d f g h i j k (cc) (cc)) e₃) e₁)
    (λ f e₁.
    let (g, p, e₂) = want_post s (at + 1) 15 _ (omega arith) e₁ in
    let (h, q, e₃) = want_post s (at + 1 + 1) 20 _ (omega arith) e₂ in
    let (i, r, e₄) = want_post s (at + 1 + 1 + 1) 3 _ (omega arith) e₃ in
    greatest d f g h i (cc) (cc)) e₀)
    (λ d e₀. let z : ◌≡◌ {A = ℕ} 0 1 = cc in absurd (omega arith))))) e

-- a leaf, by its tokens
pub data LeafRead (o : ℕ) (s : List ℕ) (at : ℕ) (t : Tree Span) (n : ℕ) : Type 0 where
  literal : spells push_literal s at ≡ true → is s (at + 1) 6 ≡ true → leb max_open o ≡ false → is s (at + 1 + 1) 23 ≡ true → is s (at + 1 + 1 + 1) 7 ≡ true
      → t ≡ leaf (across s (at + 1 + 1) (at + 1 + 1)) (text PushLiteral (string s (at + 1 + 1))) → n ≡ at + 1 + 1 + 1 + 1 → LeafRead o s at t n
  sliced : spells push_literal s at ≡ false → slices s at ≡ true → slice s at (at + 2) ≡ got t n → LeafRead o s at t n
  ident : spells push_literal s at ≡ false → slices s at ≡ false → is s at 18 ≡ true → t ≡ leaf (across s at at) (text Ident (word s at)) → n ≡ at + 1 → LeafRead o s at t n
  str : is s at 18 ≡ false → is s at 23 ≡ true → t ≡ leaf (across s at at) (text Str (string s at)) → n ≡ at + 1 → LeafRead o s at t n
  insens : is s at 18 ≡ false → is s at 23 ≡ false → is s at 24 ≡ true → t ≡ leaf (across s at at) (text Insens (string s at)) → n ≡ at + 1 → LeafRead o s at t n
  ranges : is s at 18 ≡ false → is s at 23 ≡ false → is s at 24 ≡ false → is s at 25 ≡ true → is s (at + 1) 22 ≡ true → is s (at + 1 + 1) 25 ≡ true
      → t ≡ leaf (across s at (at + 1 + 1)) (range (character s at) (character s (at + 1 + 1))) → n ≡ at + 1 + 1 + 1 → LeafRead o s at t n

pub leaf_read : (o : ℕ) (s : List ℕ) (at : ℕ) {t : Tree Span} {n : ℕ} → leaf_at o s at ≡ got t n → LeafRead o s at t n
unfolding leaf_at pushed ranged
leaf_read o s at e =
    split (spells push_literal s at) _ _
    (λ a e₀.
    let (b, p, e₁) = want_got s (at + 1) 6 _ (omega arith) e₀ in
    let (c, e₂) = opened_got o s (at + 1) _ e₁ in
    let (d, q, e₃) = want_got s (at + 1 + 1) 23 _ (omega arith) e₂ in
    let (f, r, e₄) = want_got s (at + 1 + 1 + 1) 7 _ (omega arith) e₃ in
    literal a b c d f (cc) (cc))
    (λ a. split (slices s at) _ _ (λ b e₀. sliced a b e₀)
    (λ b. split (is s at 18) _ _ (λ c e₀. ident a b c (cc) (cc))
    (λ c. split (is s at 23) _ _ (λ d e₀. str c d (cc) (cc))
    (λ d. split (is s at 24) _ _ (λ f e₀. insens c d f (cc) (cc))
    (λ f. split (is s at 25) _ _
    (λ g e₀.
    let (h, p, e₁) = want_got s (at + 1) 22 _ (omega arith) e₀ in
    let (i, q, e₂) = want_got s (at + 1 + 1) 25 _ (omega arith) e₁ in
    ranges c d f g h i (cc) (cc))
    (λ g e₀. no_tree e₀)))))) e

-- a rule, by its tokens
pub record RuleRead (level : Level) (s : List ℕ) (at : ℕ) (r : Rule Span) (n : ℕ) : Type 0 where
  pub named : is_name s at ≡ true
  pub tied : is s (at + 1) 1 ≡ true
  pub braced : is s (past_mark s (at + 1 + 1)) 2 ≡ true
  pub body : Tree Span
  pub past : ℕ
  pub read : Run level s (expr 0 (past_bar s (past_mark s (at + 1 + 1) + 1))) ≡ got body past
  pub shut : is s past 3 ≡ true
  pub rule : r ≡ record { name = word s at; mark = mark_at s (at + 1 + 1); tree = body; place = across s at at }
  pub next : n ≡ past + 1

pub rule_read : (level : Level) (s : List ℕ) (at : ℕ) {r : Rule Span} {n : ℕ} → rule_from level s at ≡ ruling r n → RuleRead level s at r n
unfolding rule_from
rule_read level s at e =
    split (is_name s at) _ _
    (λ v e₀.
    let (v₁, p₁, e₁) = want_rule s (at + 1) 1 _ (omega arith) e₀ in
    let (v₂, p₂, e₂) = want_rule s (past_mark s (at + 1 + 1)) 2 _ (omega arith) e₁ in
    let (t, i, e₃, e₄) = rule_got _ _ e₂ in
    let (v₃, p₃, e₅) = want_rule s i 3 _ (omega arith) e₄ in
    record { named = v; tied = v₁; braced = v₂; body = t; past = i; read = e₃; shut = v₃; rule = cc; next = cc })
    (λ v e₀. let z : ◌≡◌ {A = ℕ} 0 1 = cc in absurd (omega arith)) e
