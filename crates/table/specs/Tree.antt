-- Trees of expressions with their texts and spans, and rules.
use Rattle.std.specs.Prelude.{ℕ, suc, ◌+◌, ◌≡◌, List, [], ◌∷◌, ◌++◌, map, length, Option}
use Rattle.table.specs.declared.Join.{Join}
use Rattle.table.specs.declared.Unary.{Unary}
use Rattle.table.specs.declared.Sort.{Sort}

-- from the first byte to past the last
pub record Span : Type 0 where
  pub start : ℕ
  pub stop : ℕ

-- a leaf: a text with its bytes; a range with its two characters; a slice with its start and end, in two's complement
pub data Atom : Type 0 where
  text : Sort → List ℕ → Atom
  range : ℕ → ℕ → Atom
  peek_slice : ℕ → Option ℕ → Atom

-- what stands over one child; a tag has its bytes
pub data Wrap : Type 0 where
  plain : Unary → Wrap
  node_tag : List ℕ → Wrap

-- the 19 kinds by shape: no child, one, two. `P` is what is known of a node's place: its span, or nothing
pub data Tree (P : Type 0) : Type 0 where
  leaf : P → Atom → Tree P
  one : P → Wrap → Tree P → Tree P
  two : P → Join → Tree P → Tree P → Tree P

-- a rule: its name, its mark (0 none, 1 to 4), its tree, and the name's place
pub record Rule (P : Type 0) : Type 0 where
  pub name : List ℕ
  pub mark : ℕ
  pub tree : Tree P
  pub place : P

-- the place of a tree's root
abbrev pub place_of : {P : Type 0} → Tree P → P
place_of (leaf s a) = s
place_of (one s o t) = s
place_of (two s j a b) = s

-- the same tree with its root at another place
abbrev pub placed : {P : Type 0} → P → Tree P → Tree P
placed s (leaf _ a) = leaf s a
placed s (one _ o t) = one s o t
placed s (two _ j a b) = two s j a b

-- a tree whose root ends or starts elsewhere, as where a token closes or opens it
unfoldable pub ends_at : Tree Span → ℕ → Tree Span
ends_at t z = placed (record { start = (place_of t).start; stop = z }) t

unfoldable pub starts_at : Tree Span → ℕ → Tree Span
starts_at t a = placed (record { start = a; stop = (place_of t).stop }) t

-- how many nodes a tree has below its root
unfoldable pub below : {P : Type 0} → Tree P → ℕ
below (leaf s a) = 0
below (one s o t) = suc (below t)
below (two s j a b) = suc (suc (below a + below b))

-- how many nodes a tree has
abbrev pub count : {P : Type 0} → Tree P → ℕ
count t = suc (below t)

-- how many nodes the trees of rules have
unfoldable pub counts : {P : Type 0} → List (Rule P) → ℕ
counts [] = 0
counts (r ∷ rs) = count r.tree + counts rs

abbrev pub atom_stored : Atom → List ℕ
atom_stored (text k b) = b
atom_stored (range x y) = []
atom_stored (peek_slice x e) = []

abbrev pub wrap_stored : Wrap → List ℕ
wrap_stored (plain u) = []
wrap_stored (node_tag b) = b

-- the bytes that a tree puts into the store, in text order: a tag's before those of what it tags
unfoldable pub stored : {P : Type 0} → Tree P → List ℕ
stored (leaf s a) = atom_stored a
stored (one s o t) = wrap_stored o ++ stored t
stored (two s j a b) = stored a ++ stored b

-- how many those are
abbrev pub size : {P : Type 0} → Tree P → ℕ
size t = length (stored t)

-- a rule's name, then what its tree stores
unfoldable pub rule_stored : {P : Type 0} → Rule P → List ℕ
rule_stored r = r.name ++ stored r.tree

-- the store of rules
unfoldable pub rules_stored : {P : Type 0} → List (Rule P) → List ℕ
rules_stored [] = []
rules_stored (r ∷ rs) = rule_stored r ++ rules_stored rs

-- nothing is known of a node's place
abbrev pub Nowhere : Type 0
Nowhere = Unit {0}

-- a tree without its spans
unfoldable pub aside : {P : Type 0} → Tree P → Tree Nowhere
aside (leaf s a) = leaf tt a
aside (one s o t) = one tt o (aside t)
aside (two s j a b) = two tt j (aside a) (aside b)

-- a rule with a function done to its tree, its place aside
abbrev pub rule_by : {P : Type 0} → (Tree P → Tree Nowhere) → Rule P → Rule Nowhere
rule_by f r = record { name = r.name; mark = r.mark; tree = f r.tree; place = tt }

abbrev pub aside_rule : {P : Type 0} → Rule P → Rule Nowhere
aside_rule r = rule_by aside r

-- the same rules, spans aside: names, marks and trees are, texts compared by their bytes
abbrev pub Same : {P Q : Type 0} → List (Rule P) → List (Rule Q) → Type 0
Same xs ys = map aside_rule xs ≡ map aside_rule ys
