-- Structure: what a text's tokens mean, as a descent over their list and an index.
-- `body` is the grammar; `go` reads what stands inside. `Run c` is `body Run c` (a law), so nobody above looks at fuel.
use Rattle.std.specs.Prelude.{ℕ, zero, suc, ◌+◌, ◌-◌, ◌*◌, Bool, not, List, [], ◌∷◌, leb, eqb, length, Some, None, Option}
use Rattle.text.specs.Booleans.{choose, and}
use Rattle.text.specs.Words.{begins, push}
use Rattle.text.specs.Limits.{max_open}
use Rattle.token.specs.Table.{toks, start, end, is, word, label}
use Rattle.token.specs.Tokens.{push_literal}
use Rattle.table.specs.Tree.{Span, text, range, peek_slice, Wrap, plain, node_tag, Tree, leaf, one, two, Rule, place_of, ends_at, starts_at}
use Rattle.table.specs.declared.Join.{Join}
use Rattle.table.specs.declared.Join.TheVariants.{Seq, Choice}
use Rattle.table.specs.declared.Unary.{Unary}
use Rattle.table.specs.declared.Unary.TheVariants.{PosPred, NegPred, Opt, Rep, RepOnce, RepExact, RepMin, RepMax, RepMinMax, Push}
use Rattle.table.specs.declared.Sort.TheVariants.{Str, Insens, Ident, PushLiteral}
use Rattle.structure.specs.declared.Level.{Level}
use Rattle.structure.specs.declared.Level.TheVariants.{Tagged, Plain}
use Rattle.structure.specs.declared.Refusal.{Refusal}
use Rattle.structure.specs.declared.Why.TheVariants.{NotAllowed, TooDeep}
use Rattle.structure.specs.Refusals.{because}
use Rattle.structure.specs.Tokens.{across, spells, peek}
use Rattle.structure.specs.Values.{number, is_integer, integer, string, character}

-- what was read, and the index of the next token; or a refusal
pub data Parsed : Type 0 where
  got : Tree Span → ℕ → Parsed
  refused : Refusal → Parsed

unfoldable pub next : Parsed → (Tree Span → ℕ → Parsed) → Parsed
next (got t n) f = f t n
next (refused r) f = refused r

-- a token of a kind is wanted here: go on after it, or 4
unfoldable pub want : {A : Type 0} → (Refusal → A) → List ℕ → ℕ → ℕ → (ℕ → A) → A
want fail s i k f = choose (is s i k) (λ u. f (i + 1)) (λ u. fail (because NotAllowed (start s i)))

-- a `(` that makes one more open than that is 9
unfoldable pub opened : ℕ → List ℕ → ℕ → (Unit {0} → Parsed) → Parsed
opened o s i f = choose (leb max_open o) (λ u. refused (because TooDeep (start s i))) f

-- from where one tree starts to where another ends
abbrev pub over : Tree Span → Tree Span → Span
over a b = record { start = (place_of a).start; stop = (place_of b).stop }

-- two expressions joined
unfoldable pub join : Join → Tree Span → Tree Span → Tree Span
join j a b = two (over a b) j a b

-- `~` binds tighter than `|`: the choices before the last sequence, and that sequence
unfoldable pub closed : Option (Tree Span) → Tree Span → Tree Span
closed None l = l
closed (Some c) l = join Choice c l

-- a predicate or a tag before an expression, which starts there and ends with it
unfoldable pub prefixed : ℕ → Wrap → Tree Span → Tree Span
prefixed a w t = one (record { start = a; stop = (place_of t).stop }) w t

-- a postfix keeps the inner start
unfoldable pub postfixed : ℕ → Unary → Tree Span → Tree Span
postfixed z u t = one (record { start = (place_of t).start; stop = z }) (plain u) t

-- a tag wraps its whole term; plain drops it
unfoldable pub in_tag : Level → ℕ → List ℕ → Tree Span → Tree Span
in_tag Tagged a b t = prefixed a (node_tag b) t
in_tag Plain a b t = t

-- a postfix: which, and the index past it; a refusal; or none
pub data Postfix : Type 0 where
  post : Unary → ℕ → Postfix
  not_post : Refusal → Postfix
  no_post : Postfix

-- a maximum and `}`, from the maximum on
abbrev pub to_most : List ℕ → ℕ → (ℕ → Unary) → Postfix
to_most s i v = want not_post s i 20 (λ k. want not_post s k 3 (λ n. post (v (number s i)) n))

-- `{n}`, `{n,}`, `{n, m}`, from the n on
unfoldable pub from_number : List ℕ → ℕ → Postfix
from_number s i =
    choose (is s (i + 1) 3) (λ u. post (RepExact (number s i)) (i + 2))
    (λ u. want not_post s (i + 1) 15
    (λ j. choose (is s j 3) (λ u. post (RepMin (number s i)) (j + 1))
    (λ u. to_most s j (RepMinMax (number s i)))))

-- `{,n}`, from the comma on
unfoldable pub from_comma : List ℕ → ℕ → Postfix
from_comma s i = want not_post s i 15 (λ j. to_most s j RepMax)

-- `?`, `*`, `+`, `{n}`, `{n,}`, `{,n}`, `{n, m}`
unfoldable pub postfix_at : List ℕ → ℕ → Postfix
postfix_at s i =
    choose (is s i 12) (λ u. post Opt (i + 1))
    (λ u. choose (is s i 13) (λ u. post Rep (i + 1))
    (λ u. choose (is s i 14) (λ u. post RepOnce (i + 1))
    (λ u. choose (is s i 2) (λ u. choose (is s (i + 1) 20) (λ u. from_number s (i + 1)) (λ u. from_comma s (i + 1))) (λ u. no_post))))

-- `PEEK[` from `..` to `]`, either number absent, from past the `..` on: an absent start is 0
unfoldable pub slice_to : List ℕ → ℕ → ℕ → ℕ → Parsed
slice_to s at from i =
    choose (is_integer s i) (λ u. want refused s (i + 1) 5 (λ n. got (leaf (across s at (i + 1)) (peek_slice from (Some (integer s i)))) n))
    (λ u. want refused s i 5 (λ n. got (leaf (across s at i) (peek_slice from None)) n))

unfoldable pub slice : List ℕ → ℕ → ℕ → Parsed
slice s at i =
    choose (is_integer s i) (λ u. want refused s (i + 1) 22 (λ j. slice_to s at (integer s i) j)) (λ u. want refused s i 22 (λ j. slice_to s at 0 j))

-- `PUSH_LITERAL(` string `)`, which spans its string only
unfoldable pub pushed : ℕ → List ℕ → ℕ → Parsed
pushed o s at =
    want refused s (at + 1) 6
    (λ i. opened o s (at + 1)
    (λ u. want refused s i 23 (λ j. want refused s j 7 (λ n. got (leaf (across s i i) (text PushLiteral (string s i))) n))))

-- character `..` character
unfoldable pub ranged : List ℕ → ℕ → Parsed
ranged s at =
    want refused s (at + 1) 22
    (λ i. want refused s i 25 (λ n. got (leaf (across s at i) (range (character s at) (character s i))) n))

-- PEEK before `[` is a slice
abbrev pub slices : List ℕ → ℕ → Bool
slices s at = and (spells peek s at) (is s (at + 1) 4)

-- a node that holds no expression; any other token is 4
unfoldable pub leaf_at : ℕ → List ℕ → ℕ → Parsed
leaf_at o s at =
    choose (spells push_literal s at) (λ u. pushed o s at)
    (λ u. choose (slices s at) (λ u. slice s at (at + 2))
    (λ u. choose (is s at 18) (λ u. got (leaf (across s at at) (text Ident (word s at))) (at + 1))
    (λ u. choose (is s at 23) (λ u. got (leaf (across s at at) (text Str (string s at))) (at + 1))
    (λ u. choose (is s at 24) (λ u. got (leaf (across s at at) (text Insens (string s at))) (at + 1))
    (λ u. choose (is s at 25) (λ u. ranged s at) (λ u. refused (because NotAllowed (start s at))))))))

abbrev pub posts_by : Postfix → (Unary → ℕ → Parsed) → (Unit {0} → Parsed) → Parsed
posts_by (post v n) f g = f v n
posts_by (not_post r) f g = refused r
posts_by no_post f g = g tt

-- what is read from a token's index on, o brackets being open
pub data Call : Type 0 where
  expr term signed node : ℕ → ℕ → Call
  chain : ℕ → Option (Tree Span) → Tree Span → ℕ → Call
  posts : Tree Span → ℕ → Call

module _ (level : Level) (s : List ℕ) where
  unfoldable pub body : (Call → Parsed) → Call → Parsed
  -- terms joined by `~` or `|`, both grouped left
  body go (expr o at) = next (go (term o at)) (λ t n. go (chain o None t n))
  body go (chain o c l at) =
      choose (is s at 10) (λ u. next (go (term o (at + 1))) (λ r n. go (chain o c (join Seq l r) n)))
      (λ u. choose (is s at 11) (λ u. next (go (term o (at + 1))) (λ r n. go (chain o (Some (closed c l)) r n)))
      (λ u. got (closed c l) at))
  -- at most one (tag, `=`)
  body go (term o at) =
      choose (is s at 19)
      (λ u. want refused s (at + 1) 1 (λ p. next (go (signed o p)) (λ t n. got (in_tag level (start s at) (label s at) t) n)))
      (λ u. go (signed o at))
  -- any `&` and `!`, a node, any postfixes; an opening bracket moves the start of the finished term
  body go (signed o at) =
      choose (is s at 8) (λ u. next (go (signed o (at + 1))) (λ t n. got (prefixed (start s at) (plain PosPred) t) n))
      (λ u. choose (is s at 9) (λ u. next (go (signed o (at + 1))) (λ t n. got (prefixed (start s at) (plain NegPred) t) n))
      (λ u. next (go (node o at)) (λ t n. next (go (posts t n)) (λ v m. got (choose (is s at 6) (λ u. starts_at v (start s at)) (λ u. v)) m))))
  -- `(` expression `)`, whose end moves with the bracket; `PUSH(` expression `)`, which ends with its inner node
  body go (node o at) =
      choose (is s at 6)
      (λ u. opened o s at (λ u. next (go (expr (o + 1) (at + 1))) (λ t n. want refused s n 7 (λ m. got (ends_at t (end s n)) m))))
      (λ u. choose (spells push s at)
      (λ u. want refused s (at + 1) 6
      (λ i. opened o s (at + 1)
      (λ u. next (go (expr (o + 1) i)) (λ t n. want refused s n 7 (λ m. got (prefixed (start s at) (plain Push) t) m)))))
      (λ u. leaf_at o s at))
  body go (posts t at) = posts_by (postfix_at s at) (λ v n. go (posts (postfixed (end s (n - 1)) v t) n)) (λ u. got t at)

-- where a call begins
abbrev pub place : Call → ℕ
place (expr o at) = at
place (chain o c l at) = at
place (term o at) = at
place (signed o at) = at
place (node o at) = at
place (posts t at) = at

abbrev pub rank : Call → ℕ
rank (expr o at) = 3
rank (chain o c l at) = 0
rank (term o at) = 2
rank (signed o at) = 1
rank (node o at) = 0
rank (posts t at) = 0

abbrev pub weight : List ℕ → Call → ℕ
weight s c = 4 * (length (toks s) - place c) + rank c

module _ (level : Level) (s : List ℕ) where
  unfoldable pub run : ℕ → Call → Parsed
  run zero c = refused (because NotAllowed 0)
  run (suc k) c = body level s (run k) c

  -- what a call reads
  unfoldable pub Run : Call → Parsed
  Run c = run (suc (weight s c)) c

-- a rule's name: a word that doesn't begin PUSH
abbrev pub is_name : List ℕ → ℕ → Bool
is_name s i = and (is s i 18) (not (begins push (word s i)))

-- `_`
abbrev pub silent : List ℕ
silent = 95 ∷ []

-- at most one mark: `_` `@` `$` `!`, numbered 1 to 4, none 0
unfoldable pub mark_at : List ℕ → ℕ → ℕ
mark_at s i =
    choose (spells silent s i) (λ u. 1)
    (λ u. choose (is s i 16) (λ u. 2) (λ u. choose (is s i 17) (λ u. 3) (λ u. choose (is s i 9) (λ u. 4) (λ u. 0))))

abbrev pub past_mark : List ℕ → ℕ → ℕ
past_mark s i = choose (eqb (mark_at s i) 0) (λ u. i) (λ u. i + 1)

-- at most one `|` before a rule's expression
abbrev pub past_bar : List ℕ → ℕ → ℕ
past_bar s i = choose (is s i 11) (λ u. i + 1) (λ u. i)

-- rules that were read, up to the last token; or a refusal
pub data Ruled : Type 0 where
  rules : List (Rule Span) → Ruled
  unruled : Refusal → Ruled

abbrev pub with_rule : Rule Span → Ruled → Ruled
with_rule r (rules rs) = rules (r ∷ rs)
with_rule r (unruled x) = unruled x

-- one rule, and the index of the next token; or a refusal
pub data Ruling : Type 0 where
  ruling : Rule Span → ℕ → Ruling
  no_rule : Refusal → Ruling

unfoldable pub rule_of : Parsed → (Tree Span → ℕ → Ruling) → Ruling
rule_of (got t n) f = f t n
rule_of (refused r) f = no_rule r

unfoldable pub then_rules : Ruling → (Rule Span → ℕ → Ruled) → Ruled
then_rules (ruling r n) f = f r n
then_rules (no_rule x) f = unruled x

-- word, `=`, at most one mark, `{`, at most one `|`, expression, `}`
unfoldable pub rule_from : Level → List ℕ → ℕ → Ruling
rule_from level s at =
    choose (is_name s at)
    (λ u. want no_rule s (at + 1) 1
    (λ i. want no_rule s (past_mark s i) 2
    (λ j. rule_of (Run level s (expr 0 (past_bar s j)))
    (λ t n. want no_rule s n 3 (λ m. ruling (record { name = word s at; mark = mark_at s i; tree = t; place = across s at at }) m)))))
    (λ u. no_rule (because NotAllowed (start s at)))

-- rules and `///` docs up to the last token. go: those from a later index on
abbrev pub rules_by : Level → List ℕ → (ℕ → Ruled) → ℕ → Ruled
rules_by level s go at =
    choose (leb (length (toks s)) at) (λ u. rules [])
    (λ u. choose (is s at 27) (λ u. go (at + 1)) (λ u. then_rules (rule_from level s at) (λ r n. with_rule r (go n))))

-- the first argument bounds how many: as many as tokens are left are enough, since no rule is empty (`rules_enough`, proofs/Bounds)
unfoldable pub rules_up_to : Level → List ℕ → ℕ → ℕ → Ruled
rules_up_to level s zero at = rules []
rules_up_to level s (suc k) at = rules_by level s (rules_up_to level s k) at

-- those from an index on. They meet an equation without a bound, `rules_law`, and nothing else does (`rules_only`)
abbrev pub grammar_from : Level → List ℕ → ℕ → Ruled
grammar_from level s at = rules_up_to level s (length (toks s)) at

-- the index past the `//!` docs from an index on; the second argument bounds how many (`docs_enough`)
unfoldable pub docs_in : List ℕ → ℕ → ℕ → ℕ
docs_in s zero at = at
docs_in s (suc k) at = choose (is s at 26) (λ u. docs_in s k (at + 1)) (λ u. at)

-- the index of the first token that is no `//!` doc (`docs_first`)
abbrev pub docs : List ℕ → ℕ
docs s = docs_in s (length (toks s)) 0

-- any `//!` docs, then one or more of rule or `///` doc
unfoldable pub grammar : Level → List ℕ → Ruled
grammar level s =
    choose (leb (length (toks s)) (docs s)) (λ u. unruled (because NotAllowed (length s))) (λ u. grammar_from level s (docs s))
