-- What makes a table false: numbers 20, 21 and 22.
use Rattle.std.specs.Prelude.{ℕ, zero, suc, ◌+◌, ◌*◌, ◌%◌, ◌≤◌, ◌<◌, ◌≡◌, Bool, true, false, List, [], ◌∷◌, leb, ltb, eqb, length, get_or, Option, Some, None, Result, Ok, Err}
use Rattle.text.specs.Booleans.{choose, and}
use Rattle.text.specs.Utf8.{scalar, first_bad}
use Rattle.text.specs.Words.{word_of}
use Rattle.text.specs.declared.Word.{Word}
use Rattle.text.specs.Limits.{max_nodes, max_rules, max_store}
use Rattle.table.specs.declared.Sort.{Sort}
use Rattle.table.specs.declared.Sort.TheVariants.{Str, Insens, Ident, PushLiteral}
use Rattle.table.specs.declared.Leaf.{Leaf}
use Rattle.table.specs.declared.Leaf.TheVariants.{Text, Range, PeekSlice}
use Rattle.table.specs.declared.Op.{Op}
use Rattle.table.specs.declared.Op.TheVariants.{Plain, NodeTag}
use Rattle.table.specs.declared.Node.{Node}
use Rattle.table.specs.declared.Node.TheVariants.{Tip, One, Two, Unknown}
use Rattle.table.specs.declared.TableError.{TableError}
use Rattle.table.specs.Tree.{Atom, text, range, peek_slice, Wrap, plain, node_tag, Tree, leaf, one, two, Rule}
use Rattle.table.specs.Record.{node_size, rule_size, nodes_in, rules_in, node_at, atom_of, wrap_of, first_at, name_offset, name_length, name_at, mark_at, root_at}

-- whole records, no more than the limits
unfoldable pub shaped : List ℕ → List ℕ → List ℕ → Bool
shaped ns rs st =
    and (eqb (length ns % node_size) 0)
    (and (eqb (length rs % rule_size) 0)
    (and (leb (nodes_in ns) max_nodes) (and (leb (rules_in rs) max_rules) (leb (length st) max_store))))

abbrev pub is_through : Option ℕ → Bool
is_through None = true
is_through (Some i) = false

abbrev pub may_name : Word → Bool
may_name Word.Name = true
may_name Word.Push = false
may_name Word.Neither = false

abbrev pub may_tag : Word → Bool
may_tag Word.Name = true
may_tag Word.Push = true
may_tag Word.Neither = false

-- strings are UTF-8
unfoldable pub is_utf8 : List ℕ → Bool
is_utf8 b = is_through (first_bad b)

-- a name is a word that doesn't begin PUSH
unfoldable pub is_name : List ℕ → Bool
is_name b = may_name (word_of b)

-- a tag is any word
unfoldable pub is_label : List ℕ → Bool
is_label b = may_tag (word_of b)

abbrev pub fine_text : Sort → List ℕ → Bool
fine_text Str b = is_utf8 b
fine_text Insens b = is_utf8 b
fine_text Ident b = is_name b
fine_text PushLiteral b = is_utf8 b

-- strings are UTF-8, names are names, and range ends are Unicode scalars
abbrev pub fine_atom : Atom → Bool
fine_atom (text k b) = fine_text k b
fine_atom (range x y) = and (scalar x) (scalar y)
fine_atom (peek_slice x e) = true

-- tags are words
abbrev pub fine_wrap : Wrap → Bool
fine_wrap (plain u) = true
fine_wrap (node_tag b) = is_label b

-- a part lies inside the store; offset and length are not added in 32 bits
abbrev pub in_store : List ℕ → ℕ → ℕ → Bool
in_store st p n = leb (p + n) (length st)

abbrev pub leaf_inside : List ℕ → Leaf → Bool
leaf_inside st (Text k p n) = in_store st p n
leaf_inside st (Range x y) = true
leaf_inside st (PeekSlice x e) = true

abbrev pub op_inside : List ℕ → Op → Bool
op_inside st (Plain u) = true
op_inside st (NodeTag p n) = in_store st p n

unfoldable pub good_leaf : List ℕ → Leaf → Bool
good_leaf st l = and (leaf_inside st l) (fine_atom (atom_of st l))

unfoldable pub good_op : List ℕ → Op → Bool
good_op st o = and (op_inside st o) (fine_wrap (wrap_of st o))

-- a lone child is the node just before; a right child is that too, and the left child stands just before the right
-- child's first node. A kind that is none of 1 to 19, and a PEEK whose q is neither 0 nor 1, are unknown
abbrev pub good_node : List ℕ → List ℕ → ℕ → Node → Bool
good_node ns st i (Tip l) = good_leaf st l
good_node ns st i (One o c) = and (eqb (c + 1) i) (good_op st o)
good_node ns st i (Two j a b) = and (eqb (b + 1) i) (eqb (a + 1) (first_at ns b))
good_node ns st i Unknown = false

-- the node at an index isn't false
unfoldable pub good_at : List ℕ → List ℕ → ℕ → Bool
good_at ns st i = good_node ns st i (node_at ns i)

-- where a rule's tree begins: right after the last one
abbrev pub begin_at : List ℕ → ℕ → ℕ
begin_at rs zero = 0
begin_at rs (suc k) = root_at rs k + 1

-- a rule's name lies inside the store and is a name
unfoldable pub good_name : List ℕ → List ℕ → ℕ → Bool
good_name rs st k = and (in_store st (name_offset rs k) (name_length rs k)) (is_name (name_at rs st k))

-- a root is a node, and its tree begins at a given one
unfoldable pub good_root : List ℕ → ℕ → ℕ → Bool
good_root ns begin root = and (ltb root (nodes_in ns)) (eqb (first_at ns root) begin)

-- the rule at an index isn't false: its name, its mark 0 to 4, its tree
unfoldable pub good_rule : List ℕ → List ℕ → List ℕ → ℕ → Bool
good_rule ns rs st k = and (good_name rs st k) (and (leb (mark_at rs k) 4) (good_root ns (begin_at rs k) (root_at rs k)))

abbrev pub lowest_by : Option ℕ → Bool → ℕ → Option ℕ
lowest_by (Some k) g i = Some k
lowest_by None true i = None
lowest_by None false i = Some i

-- the lowest index below a number at which a test fails
unfoldable pub lowest : (ℕ → Bool) → ℕ → Option ℕ
lowest f zero = None
lowest f (suc i) = lowest_by (lowest f i) (f i) i

abbrev pub or_else : Option ℕ → (ℕ → Result (Unit {0}) TableError) → (Unit {0} → Result (Unit {0}) TableError) → Result (Unit {0}) TableError
or_else (Some i) f g = f i
or_else None f g = g tt

-- nodes left over are a fault at the number of rules
abbrev pub left_over : List ℕ → List ℕ → Result (Unit {0}) TableError
left_over ns rs = choose (eqb (begin_at rs (rules_in rs)) (nodes_in ns)) (λ u. Ok tt) (λ u. Err (TableError.Rule (rules_in rs)))

-- the check of whole tables: their shape, then all nodes, then the rules, the lowest index first
unfoldable pub tables : List ℕ → List ℕ → List ℕ → Result (Unit {0}) TableError
tables ns rs st =
    choose (shaped ns rs st)
    (λ u. or_else (lowest (good_at ns st) (nodes_in ns)) (λ i. Err (TableError.Node i))
    (λ u. or_else (lowest (good_rule ns rs st) (rules_in rs)) (λ i. Err (TableError.Rule i)) (λ u. left_over ns rs)))
    (λ u. Err TableError.Shape)

-- an answer's number and place
pub record Numbered : Type 0 where
  pub number : ℕ
  pub place : ℕ

unfoldable pub numbered : Result (Unit {0}) TableError → Numbered
numbered (Ok _) = record { number = 0; place = 0 }
numbered (Err TableError.Shape) = record { number = 20; place = 0 }
numbered (Err (TableError.Node i)) = record { number = 21; place = i }
numbered (Err (TableError.Rule i)) = record { number = 22; place = i }

-- a node's first node, unless the node is false
unfoldable pub verdict : List ℕ → List ℕ → ℕ → Option ℕ
verdict ns st i = choose (good_at ns st i) (λ u. Some (first_at ns i)) (λ u. None)

-- the first nodes of the nodes below n
pub record Firsts (ns fs : List ℕ) (n : ℕ) : Type 0 where
  pub at : (k : ℕ) → k < n → get_or fs k 0 ≡ first_at ns k

-- what a tree may hold: its texts and characters are fine
unfoldable pub fine : {P : Type 0} → Tree P → Bool
fine (leaf s a) = fine_atom a
fine (one s o t) = and (fine_wrap o) (fine t)
fine (two s j a b) = and (fine a) (fine b)

-- and a rule: its name and mark too
unfoldable pub fine_rule : {P : Type 0} → Rule P → Bool
fine_rule r = and (is_name r.name) (and (leb r.mark 4) (fine r.tree))

unfoldable pub fine_rules : {P : Type 0} → List (Rule P) → Bool
fine_rules [] = true
fine_rules (r ∷ rs) = and (fine_rule r) (fine_rules rs)

-- the first n nodes are there, and none of them is false: what a walk asks of the nodes up to its own
pub record SoundUpTo (ns st : List ℕ) (n : ℕ) : Type 0 where
  pub whole : node_size * n ≤ length ns
  pub good : (k : ℕ) → k < n → good_at ns st k ≡ true

-- tables that aren't false
pub record Valid (ns rs st : List ℕ) : Type 0 where
  pub whole_nodes : length ns ≡ node_size * nodes_in ns
  pub few_nodes : nodes_in ns ≤ max_nodes
  pub whole_rules : length rs ≡ rule_size * rules_in rs
  pub few_rules : rules_in rs ≤ max_rules
  pub short : length st ≤ max_store
  pub nodes : SoundUpTo ns st (nodes_in ns)
  pub rules : (k : ℕ) → k < rules_in rs → good_rule ns rs st k ≡ true
  pub all : begin_at rs (rules_in rs) ≡ nodes_in ns
