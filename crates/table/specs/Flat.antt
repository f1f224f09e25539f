-- The tables of trees and rules: children first, left, right, then the node; texts in text order.
use Rattle.std.specs.Prelude.{ℕ, suc, ◌+◌, ◌<◌, ◌≡◌, List, [], ◌∷◌, ◌++◌, length, Some, None}
use Rattle.table.specs.declared.Join.{Join}
use Rattle.table.specs.declared.Join.TheVariants.{Seq, Choice}
use Rattle.table.specs.declared.Unary.TheVariants.{PosPred, NegPred, Opt, Rep, RepOnce, RepExact, RepMin, RepMax, RepMinMax, Push}
use Rattle.table.specs.declared.Sort.TheVariants.{Str, Insens, Ident, PushLiteral}
use Rattle.table.specs.declared.Leaf.{Leaf}
use Rattle.table.specs.declared.Leaf.TheVariants.{Text, Range, PeekSlice}
use Rattle.table.specs.declared.Op.{Op}
use Rattle.table.specs.declared.Op.TheVariants.{Plain, NodeTag}
use Rattle.table.specs.declared.Node.{Node}
use Rattle.table.specs.declared.Node.TheVariants.{Tip, One, Two, Unknown}
use Rattle.table.specs.Tree.{Span, Atom, text, range, peek_slice, Wrap, plain, node_tag, Tree, leaf, one, two, Rule, below, count, wrap_stored, size, rule_stored}
use Rattle.table.specs.Record.{nodes_in, rules_in, span_at, tip, wrap, pair, row_at, RuleRow, rule_row_at}

-- the numbers of a node record but for its span and line
pub record Numbers : Type 0 where
  pub kind : ℕ
  pub p : ℕ
  pub q : ℕ
  pub r : ℕ

abbrev pub numbers : ℕ → ℕ → ℕ → ℕ → Numbers
numbers k p q r = record { kind = k; p = p; q = q; r = r }

abbrev pub leaf_numbers : Leaf → Numbers
leaf_numbers (Text Str p n) = numbers 1 p n 0
leaf_numbers (Text Insens p n) = numbers 2 p n 0
leaf_numbers (Text Ident p n) = numbers 4 p n 0
leaf_numbers (Text PushLiteral p n) = numbers 18 p n 0
leaf_numbers (Range x y) = numbers 3 x y 0
leaf_numbers (PeekSlice x None) = numbers 5 x 0 0
leaf_numbers (PeekSlice x (Some y)) = numbers 5 x 1 y

abbrev pub op_numbers : ℕ → Op → Numbers
op_numbers c (Plain PosPred) = numbers 6 c 0 0
op_numbers c (Plain NegPred) = numbers 7 c 0 0
op_numbers c (Plain Opt) = numbers 10 c 0 0
op_numbers c (Plain Rep) = numbers 11 c 0 0
op_numbers c (Plain RepOnce) = numbers 12 c 0 0
op_numbers c (Plain (RepExact n)) = numbers 13 c n 0
op_numbers c (Plain (RepMin n)) = numbers 14 c n 0
op_numbers c (Plain (RepMax n)) = numbers 15 c n 0
op_numbers c (Plain (RepMinMax n m)) = numbers 16 c n m
op_numbers c (Plain Push) = numbers 17 c 0 0
op_numbers c (NodeTag p n) = numbers 19 c p n

abbrev pub join_numbers : Join → ℕ → ℕ → Numbers
join_numbers Seq a b = numbers 8 a b 0
join_numbers Choice a b = numbers 9 a b 0

-- the numbers of a node; unused ones are 0
unfoldable pub numbers_of : Node → Numbers
numbers_of (Tip l) = leaf_numbers l
numbers_of (One o c) = op_numbers c o
numbers_of (Two j a b) = join_numbers j a b
numbers_of Unknown = numbers 0 0 0 0

-- a node record: kind, span start, span end, p, q, r, and the line of the start
abbrev pub node_record : (ℕ → ℕ) → Span → Numbers → List ℕ
node_record line s x = x.kind ∷ s.start ∷ s.stop ∷ x.p ∷ x.q ∷ x.r ∷ line s.start ∷ []

-- where no text tells lines, they are 0
abbrev pub no_line : ℕ → ℕ
no_line a = 0

abbrev pub record_of : (ℕ → ℕ) → Span → Node → List ℕ
record_of line s x = node_record line s (numbers_of x)

-- a leaf and an operator whose texts lie at an offset
abbrev pub leaf_at : ℕ → Atom → Leaf
leaf_at at (text k b) = Text k at (length b)
leaf_at at (range x y) = Range x y
leaf_at at (peek_slice x e) = PeekSlice x e

abbrev pub op_at : ℕ → Wrap → Op
op_at at (plain u) = Plain u
op_at at (node_tag b) = NodeTag at (length b)

-- the records of a tree whose first node has the index i and whose texts begin at an offset, with the lines of places
unfoldable pub flat : (ℕ → ℕ) → ℕ → ℕ → Tree Span → List ℕ
flat line i at (leaf s a) = record_of line s (Tip (leaf_at at a))
flat line i at (one s o t) = flat line i (at + length (wrap_stored o)) t ++ record_of line s (One (op_at at o) (i + below t))
flat line i at (two s j a b) =
    flat line i at a ++ (flat line (i + count a) (at + size a) b ++ record_of line s (Two j (i + below a) (i + count a + below b)))

-- the node of a tree's root, and the records before it
abbrev pub root_node : ℕ → ℕ → Tree Span → Node
root_node i at (leaf s a) = Tip (leaf_at at a)
root_node i at (one s o t) = One (op_at at o) (i + below t)
root_node i at (two s j a b) = Two j (i + below a) (i + count a + below b)

unfoldable pub front : (ℕ → ℕ) → ℕ → ℕ → Tree Span → List ℕ
front line i at (leaf s a) = []
front line i at (one s o t) = flat line i (at + length (wrap_stored o)) t
front line i at (two s j a b) = flat line i at a ++ flat line (i + count a) (at + size a) b

-- a rule record: name offset, name length, mark, root, the name's span
unfoldable pub rule_record : ℕ → ℕ → Rule Span → List ℕ
rule_record at root r = at ∷ length r.name ∷ r.mark ∷ root ∷ r.place.start ∷ r.place.stop ∷ []

-- the nodes of rules whose first node has the index i and whose texts begin at an offset
unfoldable pub nodes_from : (ℕ → ℕ) → ℕ → ℕ → List (Rule Span) → List ℕ
nodes_from line i at [] = []
nodes_from line i at (r ∷ rs) =
    flat line i (at + length r.name) r.tree ++ nodes_from line (i + count r.tree) (at + length (rule_stored r)) rs

-- and their rule records
unfoldable pub records_from : ℕ → ℕ → List (Rule Span) → List ℕ
records_from i at [] = []
records_from i at (r ∷ rs) = rule_record at (i + below r.tree) r ++ records_from (i + count r.tree) (at + length (rule_stored r)) rs

-- the tables of rules; `rules_stored` is their store
abbrev pub nodes_of : (ℕ → ℕ) → List (Rule Span) → List ℕ
nodes_of line rs = nodes_from line 0 0 rs

abbrev pub records_of : List (Rule Span) → List ℕ
records_of rs = records_from 0 0 rs

-- a table has a tree's nodes from an index on, wherever their texts lie in the store
abbrev pub Lies : List ℕ → List ℕ → ℕ → Tree Span → Type 0
Lies ns st i (leaf s a) = (span_at ns i ≡ s) × (row_at ns st i ≡ tip a)
Lies ns st i (one s o t) = Lies ns st i t × (span_at ns (i + count t) ≡ s) × (row_at ns st (i + count t) ≡ wrap o (i + below t))
Lies ns st i (two s j a b) =
    Lies ns st i a × Lies ns st (i + count a) b × (span_at ns (i + count a + count b) ≡ s)
    × (row_at ns st (i + count a + count b) ≡ pair j (i + below a) (i + count a + below b))

-- what a rule's record says, its tree's first node being i
abbrev pub rule_row : ℕ → Rule Span → RuleRow
rule_row i r = record { name = r.name; mark = r.mark; root = i + below r.tree; span = r.place }

-- tables have rules from an index k on, their nodes from an index i on, wherever their texts lie in the store
abbrev pub RulesLie : List ℕ → List ℕ → List ℕ → ℕ → ℕ → List (Rule Span) → Type 0
RulesLie ns rs st k i [] = Unit {0}
RulesLie ns rs st k i (r ∷ us) =
    (rule_row_at rs st k ≡ rule_row i r) × Lies ns st i r.tree × RulesLie ns rs st (suc k) (i + count r.tree) us

-- two tables that differ at most in where texts lie in the store, in unused numbers and in lines
pub record Alike (ns rs st ns' rs' st' : List ℕ) : Type 0 where
  pub nodes : length ns ≡ length ns'
  pub rules : length rs ≡ length rs'
  pub spans : (k : ℕ) → k < nodes_in ns → span_at ns k ≡ span_at ns' k
  pub rows : (k : ℕ) → k < nodes_in ns → row_at ns st k ≡ row_at ns' st' k
  pub rule_rows : (k : ℕ) → k < rules_in rs → rule_row_at rs st k ≡ rule_row_at rs' st' k
