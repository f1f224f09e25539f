-- Node and rule records, and the trees and rules that they stand for.
use Rattle.std.specs.Prelude.{ℕ, zero, suc, ◌+◌, ◌*◌, ◌/◌, List, [], ◌∷◌, ◌++◌, eqb, length, get_or, take, drop, Some, None}
use Rattle.text.specs.Booleans.{choose}
use Rattle.table.specs.declared.Join.{Join}
use Rattle.table.specs.declared.Join.TheVariants.{Seq, Choice}
use Rattle.table.specs.declared.Unary.TheVariants.{PosPred, NegPred, Opt, Rep, RepOnce, RepExact, RepMin, RepMax, RepMinMax, Push}
use Rattle.table.specs.declared.Sort.TheVariants.{Str, Insens, Ident, PushLiteral}
use Rattle.table.specs.declared.Leaf.{Leaf}
use Rattle.table.specs.declared.Leaf.TheVariants.{Text, Range, PeekSlice}
use Rattle.table.specs.declared.Op.{Op}
use Rattle.table.specs.declared.Op.TheVariants.{Plain, NodeTag}
use Rattle.table.specs.declared.Node.{Node}
use Rattle.table.specs.declared.Node.TheVariants.{Tip, One, Two, Unknown}
use Rattle.table.specs.declared.Head.{Head}
use Rattle.table.specs.Tree.{Span, Atom, text, range, peek_slice, Wrap, plain, node_tag, Tree, leaf, one, two, Rule}

-- the numbers in a node record: kind, span start, span end, p, q, r, and the line of the start, which a check doesn't look at
abbrev pub node_size : ℕ
node_size = 7

-- the numbers in a rule record: name offset, name length, mark, root, the name's span start and end
abbrev pub rule_size : ℕ
rule_size = 6

-- how many records there are
abbrev pub nodes_in : List ℕ → ℕ
nodes_in ns = length ns / node_size

abbrev pub rules_in : List ℕ → ℕ
rules_in rs = length rs / rule_size

-- a part of the store, by offset and length
abbrev pub part : List ℕ → ℕ → ℕ → List ℕ
part st p n = take n (drop p st)

-- PEEK: p start, q 1 if an end is there, r end. Any other q is none
abbrev pub peek_of : ℕ → ℕ → ℕ → Node
peek_of p q r =
    choose (eqb q 0) (λ u. Tip (PeekSlice p None)) (λ u. choose (eqb q 1) (λ u. Tip (PeekSlice p (Some r))) (λ u. Unknown))

-- the nodes of p, q and r for each kind, from 0 on
abbrev pub kinds : List (ℕ → ℕ → ℕ → Node)
kinds =
    (λ p q r. Unknown)
    ∷ (λ p q r. Tip (Text Str p q))
    ∷ (λ p q r. Tip (Text Insens p q))
    ∷ (λ p q r. Tip (Range p q))
    ∷ (λ p q r. Tip (Text Ident p q))
    ∷ (λ p q r. peek_of p q r)
    ∷ (λ p q r. One (Plain PosPred) p)
    ∷ (λ p q r. One (Plain NegPred) p)
    ∷ (λ p q r. Two Seq p q)
    ∷ (λ p q r. Two Choice p q)
    ∷ (λ p q r. One (Plain Opt) p)
    ∷ (λ p q r. One (Plain Rep) p)
    ∷ (λ p q r. One (Plain RepOnce) p)
    ∷ (λ p q r. One (Plain (RepExact q)) p)
    ∷ (λ p q r. One (Plain (RepMin q)) p)
    ∷ (λ p q r. One (Plain (RepMax q)) p)
    ∷ (λ p q r. One (Plain (RepMinMax q r)) p)
    ∷ (λ p q r. One (Plain Push) p)
    ∷ (λ p q r. Tip (Text PushLiteral p q))
    ∷ (λ p q r. One (NodeTag q r) p)
    ∷ []

-- a node by its kind, p, q and r
unfoldable pub node_of : ℕ → ℕ → ℕ → ℕ → Node
node_of k p q r = get_or kinds k (λ p q r. Unknown) p q r

-- the node record at an index
unfoldable pub node_at : List ℕ → ℕ → Node
node_at ns i =
    node_of (get_or ns (node_size * i) 0) (get_or ns (node_size * i + 3) 0) (get_or ns (node_size * i + 4) 0) (get_or ns (node_size * i + 5) 0)

-- its span
unfoldable pub span_at : List ℕ → ℕ → Span
span_at ns i = record { start = get_or ns (node_size * i + 1) 0; stop = get_or ns (node_size * i + 2) 0 }

-- a leaf and an operator with the bytes of their texts
abbrev pub atom_of : List ℕ → Leaf → Atom
atom_of st (Text k p n) = text k (part st p n)
atom_of st (Range x y) = range x y
atom_of st (PeekSlice x e) = peek_slice x e

abbrev pub wrap_of : List ℕ → Op → Wrap
wrap_of st (Plain u) = plain u
wrap_of st (NodeTag p n) = node_tag (part st p n)

-- a node with the bytes of its texts
pub data Row : Type 0 where
  tip : Atom → Row
  wrap : Wrap → ℕ → Row
  pair : Join → ℕ → ℕ → Row
  unknown : Row

abbrev pub row_of : List ℕ → Node → Row
row_of st (Tip l) = tip (atom_of st l)
row_of st (One o c) = wrap (wrap_of st o) c
row_of st (Two j a b) = pair j a b
row_of st Unknown = unknown

unfoldable pub row_at : List ℕ → List ℕ → ℕ → Row
row_at ns st i = row_of st (node_at ns i)

-- f's values at 0, 1, .. below a number, each made from those before it
unfoldable pub column : {A : Type 0} → (List A → ℕ → A) → ℕ → List A
column f zero = []
column f (suc i) = let r = column f i in r ++ (f r i ∷ [])

-- the value at a number
abbrev pub entry : {A : Type 0} → (List A → ℕ → A) → ℕ → A
entry f i = f (column f i) i

-- what stands for a child that is not there
abbrev pub blank : Tree Span
blank = leaf (record { start = 0; stop = 0 }) (text Str [])

-- the tree of a node, from the trees of the nodes before it
abbrev pub tree_of : Span → Row → List (Tree Span) → Tree Span
tree_of s (tip a) ts = leaf s a
tree_of s (wrap o c) ts = one s o (get_or ts c blank)
tree_of s (pair j a b) ts = two s j (get_or ts a blank) (get_or ts b blank)
tree_of s unknown ts = blank

abbrev pub tree_by : List ℕ → List ℕ → List (Tree Span) → ℕ → Tree Span
tree_by ns st ts k = tree_of (span_at ns k) (row_at ns st k) ts

-- the tree whose root is the node at an index
unfoldable pub tree_at : List ℕ → List ℕ → ℕ → Tree Span
tree_at ns st i = entry (tree_by ns st) i

-- the first node of a node's subtree, from those of the nodes before it
abbrev pub first_of : Node → ℕ → List ℕ → ℕ
first_of (Tip l) i fs = i
first_of (One o c) i fs = get_or fs c 0
first_of (Two j a b) i fs = get_or fs a 0
first_of Unknown i fs = i

abbrev pub first_by : List ℕ → List ℕ → ℕ → ℕ
first_by ns fs k = first_of (node_at ns k) k fs

-- the first node of the tree whose root is the node at an index
unfoldable pub first_at : List ℕ → ℕ → ℕ
first_at ns i = entry (first_by ns) i

-- the numbers of a rule record
abbrev pub name_offset : List ℕ → ℕ → ℕ
name_offset rs k = get_or rs (rule_size * k) 0

abbrev pub name_length : List ℕ → ℕ → ℕ
name_length rs k = get_or rs (rule_size * k + 1) 0

abbrev pub mark_at : List ℕ → ℕ → ℕ
mark_at rs k = get_or rs (rule_size * k + 2) 0

abbrev pub root_at : List ℕ → ℕ → ℕ
root_at rs k = get_or rs (rule_size * k + 3) 0

abbrev pub name_span : List ℕ → ℕ → Span
name_span rs k = record { start = get_or rs (rule_size * k + 4) 0; stop = get_or rs (rule_size * k + 5) 0 }

-- its name's bytes
abbrev pub name_at : List ℕ → List ℕ → ℕ → List ℕ
name_at rs st k = part st (name_offset rs k) (name_length rs k)

-- a rule record but for its span
unfoldable pub head_at : List ℕ → ℕ → Head
head_at rs k = record { offset = name_offset rs k; length = name_length rs k; mark = mark_at rs k; root = root_at rs k }

-- a rule record with its name's bytes
pub record RuleRow : Type 0 where
  pub name : List ℕ
  pub mark : ℕ
  pub root : ℕ
  pub span : Span

unfoldable pub rule_row_at : List ℕ → List ℕ → ℕ → RuleRow
rule_row_at rs st k = record { name = name_at rs st k; mark = mark_at rs k; root = root_at rs k; span = name_span rs k }

abbrev pub rule_made : List ℕ → List ℕ → RuleRow → Rule Span
rule_made ns st x = record { name = x.name; mark = x.mark; tree = tree_at ns st x.root; place = x.span }

-- the rule at an index
unfoldable pub rule_at : List ℕ → List ℕ → List ℕ → ℕ → Rule Span
rule_at ns rs st k = rule_made ns st (rule_row_at rs st k)

-- n rules from an index on
unfoldable pub rules_from : List ℕ → List ℕ → List ℕ → ℕ → ℕ → List (Rule Span)
rules_from ns rs st k zero = []
rules_from ns rs st k (suc n) = rule_at ns rs st k ∷ rules_from ns rs st (suc k) n

-- the rules of tables
unfoldable pub rules_of : List ℕ → List ℕ → List ℕ → List (Rule Span)
rules_of ns rs st = rules_from ns rs st 0 (rules_in rs)
