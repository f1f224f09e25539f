-- What each node asks of a line, with names looked up.
use Rattle.std.specs.Prelude.{ℕ, zero, suc, ◌+◌, ◌≤◌, ◌<◌, Bool, true, false, not, ◌≡◌, List, [], ◌∷◌, eqb, leb, ltb, length, get_or, Option, Some, None}
use Rattle.table.specs.Characters.{max_nodes}
use Rattle.table.specs.declared.Join.{Join}
use Rattle.table.specs.declared.Unary.{Unary}
use Rattle.table.specs.declared.Sort.TheVariants as Sort
use Rattle.table.specs.declared.Leaf.TheVariants as Leaf
use Rattle.table.specs.declared.Op.TheVariants as Op
use Rattle.table.specs.declared.Node.{Node}
use Rattle.table.specs.Characters.{choose, and}
use Rattle.table.specs.Record.{nodes_in, rules_in, part, node_at, name_at, root_at}
use Rattle.table.specs.Check.{lowest, is_through}
use Rattle.table.specs.Names.{same_text, rule_named}
use Rattle.links.specs.declared.Act.{Act}
use Rattle.links.specs.declared.Act.TheVariants.{Text, Range, Any, Call, PosPred, NegPred, Seq, Choice, Repeat, Unfit}

-- ANY
abbrev pub any_name : List ℕ
any_name = 65 ∷ 78 ∷ 89 ∷ []

-- a name's link: 0 is ANY, else one more than the root of its rule
abbrev pub linked : ℕ → Act
linked zero = Any
linked (suc r) = Call r

-- the operators over one child; a postfix by how often its child is due at least and at most
abbrev pub unary_act : Unary → ℕ → Act
unary_act Unary.PosPred c = PosPred c
unary_act Unary.NegPred c = NegPred c
unary_act Unary.Opt c = Repeat c 0 (Some 1)
unary_act Unary.Rep c = Repeat c 0 None
unary_act Unary.RepOnce c = Repeat c 1 None
unary_act (Unary.RepExact n) c = Repeat c n (Some n)
unary_act (Unary.RepMin n) c = Repeat c n None
unary_act (Unary.RepMax n) c = Repeat c 0 (Some n)
unary_act (Unary.RepMinMax n m) c = choose (leb n m) (λ u. Repeat c n (Some m)) (λ u. Unfit)
unary_act Unary.Push c = Unfit

-- what a node asks, a name by its link. Kinds 5, 17, 18 and 19, and a minimum above its maximum, are unfit
unfoldable pub act_of : Node → ℕ → Act
act_of (Node.Tip (Leaf.Text Sort.Str p n)) l = Text false p n
act_of (Node.Tip (Leaf.Text Sort.Insens p n)) l = Text true p n
act_of (Node.Tip (Leaf.Text Sort.Ident p n)) l = linked l
act_of (Node.Tip (Leaf.Text Sort.PushLiteral p n)) l = Unfit
act_of (Node.Tip (Leaf.Range a b)) l = Range a b
act_of (Node.Tip (Leaf.PeekSlice a e)) l = Unfit
act_of (Node.One (Op.Plain u) c) l = unary_act u c
act_of (Node.One (Op.NodeTag p n) c) l = Unfit
act_of (Node.Two Join.Seq a b) l = Seq a b
act_of (Node.Two Join.Choice a b) l = Choice a b
act_of Node.Unknown l = Unfit

-- the link of a rule
abbrev pub link_by : List ℕ → Option ℕ → Option ℕ
link_by rs (Some k) = Some (suc (root_at rs k))
link_by rs None = None

-- the link of a name: ANY has a meaning of its own
unfoldable pub link_for : List ℕ → List ℕ → List ℕ → Option ℕ
link_for rs st b = choose (same_text b any_name) (λ u. Some 0) (λ u. link_by rs (rule_named rs st b))

-- the name that a node mentions; only kind 4 names
unfoldable pub mention_of : Node → Option (ℕ × ℕ)
mention_of (Node.Tip (Leaf.Text Sort.Ident p n)) = Some (p, n)
mention_of (Node.Tip (Leaf.Text Sort.Str p n)) = None
mention_of (Node.Tip (Leaf.Text Sort.Insens p n)) = None
mention_of (Node.Tip (Leaf.Text Sort.PushLiteral p n)) = None
mention_of (Node.Tip (Leaf.Range a b)) = None
mention_of (Node.Tip (Leaf.PeekSlice a e)) = None
mention_of (Node.One o c) = None
mention_of (Node.Two j a b) = None
mention_of Node.Unknown = None

-- its link; 0 where there is no name
abbrev pub mention_link : List ℕ → List ℕ → Option (ℕ × ℕ) → Option ℕ
mention_link rs st (Some (p, n)) = link_for rs st (part st p n)
mention_link rs st None = Some 0

unfoldable pub link_at : List ℕ → List ℕ → List ℕ → ℕ → Option ℕ
link_at ns rs st i = mention_link rs st (mention_of (node_at ns i))

abbrev pub number : Option ℕ → ℕ
number (Some l) = l
number None = 0

-- what the node at an index asks
unfoldable pub program : List ℕ → List ℕ → List ℕ → ℕ → Act
program ns rs st i = act_of (node_at ns i) (number (link_at ns rs st i))

-- the same with the links in a list
unfoldable pub linked_at : List ℕ → List ℕ → ℕ → Act
linked_at ns ls i = act_of (node_at ns i) (get_or ls i 0)

-- 31: whether a node can be run at all
abbrev pub is_fit : Act → Bool
is_fit Unfit = false
is_fit (Text f p n) = true
is_fit (Range a b) = true
is_fit Any = true
is_fit (Call r) = true
is_fit (PosPred c) = true
is_fit (NegPred c) = true
is_fit (Seq a b) = true
is_fit (Choice a b) = true
is_fit (Repeat c n m) = true

-- names don't matter here: with any link a name is fit
unfoldable pub fit_at : List ℕ → ℕ → Bool
fit_at ns i = is_fit (act_of (node_at ns i) 0)

-- 32: a name means ANY or a rule
abbrev pub is_to : Option ℕ → Bool
is_to (Some l) = true
is_to None = false

unfoldable pub known_at : List ℕ → List ℕ → List ℕ → ℕ → Bool
known_at ns rs st i = is_to (link_at ns rs st i)

-- a rule isn't called ANY, and no rule before it has its name
abbrev pub is_by : Option ℕ → ℕ → Bool
is_by (Some j) k = eqb j k
is_by None k = false

unfoldable pub own_at : List ℕ → List ℕ → ℕ → Bool
own_at rs st k = and (not (same_text (name_at rs st k) any_name)) (is_by (rule_named rs st (name_at rs st k)) k)

-- the names of rules are their own, the names in nodes are known, and the starting rule is there
unfoldable pub named : List ℕ → List ℕ → List ℕ → ℕ → Bool
named ns rs st start =
    and (ltb start (rules_in rs)) (and (is_through (lowest (own_at rs st) (rules_in rs))) (is_through (lowest (known_at ns rs st) (nodes_in ns))))

-- the links of all nodes
pub record Linked (ns rs st ls : List ℕ) : Type 0 where
  pub links : (i : ℕ) → i < nodes_in ns → get_or ls i 0 ≡ number (link_at ns rs st i)

-- the roots of rules leave room for one more in 16 bits
pub record Rooted (rs : List ℕ) : Type 0 where
  pub low : (k : ℕ) → k < rules_in rs → root_at rs k < max_nodes

-- a mentioned name lies inside the store
abbrev pub Inside : List ℕ → Option (ℕ × ℕ) → Type 0
Inside st (Some (p, n)) = p + n ≤ length st
Inside st None = Unit {0}

-- what a visit asks of the node that it comes to: its children and its rule's root are nodes, its text lies inside the store
abbrev pub Leads : ℕ → ℕ → Act → Type 0
Leads n s (Text f p m) = p + m ≤ s
Leads n s (Range a b) = Unit {0}
Leads n s Any = Unit {0}
Leads n s (Call r) = r < n
Leads n s (PosPred c) = c < n
Leads n s (NegPred c) = c < n
Leads n s (Seq a b) = (a < n) × (b < n)
Leads n s (Choice a b) = (a < n) × (b < n)
Leads n s (Repeat c lo hi) = c < n
Leads n s Unfit = Unit {0}

pub record Runnable (ns ls st : List ℕ) : Type 0 where
  pub few : nodes_in ns ≤ max_nodes
  pub leads : (i : ℕ) → i < nodes_in ns → Leads (nodes_in ns) (length st) (linked_at ns ls i)
