-- The grammar's equations, one for each call, without fuel.
use Rattle.std.specs.Prelude.{Option, Some, None}
use Prim.Native.Nat.{ℕ, ◌+◌, ◌-◌}
use mathlib.Core.Path.{◌≡◌}
use mathlib.Core.List.{List}
use Rattle.text.specs.Booleans.{choose}
use Rattle.text.specs.Words.{push}
use Rattle.token.specs.Table.{start, end, is, label}
use Rattle.table.specs.Tree.{Span, plain, Tree, ends_at, starts_at}
use Rattle.table.specs.declared.Join.TheVariants.{Seq}
use Rattle.table.specs.declared.Unary.TheVariants.{PosPred, NegPred, Push}
use Rattle.structure.specs.declared.Level.{Level}
use Rattle.structure.specs.Tokens.{spells}
use Rattle.structure.specs.Structure.{got, refused, next, want, opened, join, closed, prefixed, postfixed, in_tag, postfix_at, leaf_at, posts_by, expr, term, signed, node, chain, posts, body, Run}
use Rattle.structure.proofs.Fuel.{law}

module _ (level : Level) (s : List ℕ) where
  pub expr_law : (o at : ℕ) → Run level s (expr o at) ≡ next (Run level s (term o at)) (λ t n. Run level s (chain o None t n))
  unfolding body
  expr_law o at = law level s (expr o at)

  pub chain_law : (o : ℕ) (c : Option (Tree Span)) (l : Tree Span) (at : ℕ) → Run level s (chain o c l at)
      ≡ choose (is s at 10) (λ u. next (Run level s (term o (at + 1))) (λ r n. Run level s (chain o c (join Seq l r) n)))
      (λ u. choose (is s at 11) (λ u. next (Run level s (term o (at + 1))) (λ r n. Run level s (chain o (Some (closed c l)) r n))) (λ u. got (closed c l) at))
  unfolding body
  chain_law o c l at = law level s (chain o c l at)

  pub term_law : (o at : ℕ) → Run level s (term o at)
      ≡ choose (is s at 19) (λ u. want refused s (at + 1) 1 (λ p. next (Run level s (signed o p)) (λ t n. got (in_tag level (start s at) (label s at) t) n)))
      (λ u. Run level s (signed o at))
  unfolding body
  term_law o at = law level s (term o at)

  pub signed_law : (o at : ℕ) → Run level s (signed o at)
      ≡ choose (is s at 8) (λ u. next (Run level s (signed o (at + 1))) (λ t n. got (prefixed (start s at) (plain PosPred) t) n))
      (λ u. choose (is s at 9) (λ u. next (Run level s (signed o (at + 1))) (λ t n. got (prefixed (start s at) (plain NegPred) t) n))
      (λ u. next (Run level s (node o at)) (λ t n. next (Run level s (posts t n)) (λ v m. got (choose (is s at 6) (λ u. starts_at v (start s at)) (λ u. v)) m))))
  unfolding body
  signed_law o at = law level s (signed o at)

  pub node_law : (o at : ℕ) → Run level s (node o at)
      ≡ choose (is s at 6) (λ u. opened o s at (λ u. next (Run level s (expr (o + 1) (at + 1))) (λ t n. want refused s n 7 (λ m. got (ends_at t (end s n)) m))))
      (λ u. choose (spells push s at)
      (λ u. want refused s (at + 1) 6
      (λ i. opened o s (at + 1) (λ u. next (Run level s (expr (o + 1) i)) (λ t n. want refused s n 7 (λ m. got (prefixed (start s at) (plain Push) t) m)))))
      (λ u. leaf_at o s at))
  unfolding body
  node_law o at = law level s (node o at)

  pub posts_law : (t : Tree Span) (at : ℕ) → Run level s (posts t at)
      ≡ posts_by (postfix_at s at) (λ v n. Run level s (posts (postfixed (end s (n - 1)) v t) n)) (λ u. got t at)
  unfolding body
  posts_law t at = law level s (posts t at)
