-- Laws of names and links. Where each node's link is its name's, the table with links is the program; and where the tables aren't false,
-- each node of it leads to nodes and into the store.
use Rattle.std.specs.Prelude.{ℕ, Option, Some, None}
use mathlib.Core.Bool.{Bool, true, false}
use mathlib.Core.Path.{◌≡◌, refl, sym, ap, ◌∙◌, fun_ext, subst}
use mathlib.Core.List.{List}
use Prim.Native.Nat.{ℕ, suc, ◌+◌, ◌*◌, ◌-◌, ◌≤◌, ◌<◌}
use native.Mathlib.Omega.{arith}
use native.Mathlib.Decide.{dec_lt}
use lib.Dec.{eqb, leb}
use lib.ListN.{length, get_or, set, take, drop, length-set, get_or-eq_default}
use lib.Seq.{get_or-set_same, get_or-set_other}
use Rattle.table.proofs.Booleans.{choose_false, choose_true}
use Rattle.table.specs.Characters.{max_nodes}
use Rattle.table.specs.declared.Join.{Join}
use Rattle.table.specs.declared.Unary.{Unary}
use Rattle.table.specs.declared.Sort.{Sort}
use Rattle.table.specs.declared.Leaf.TheVariants as Leaf
use Rattle.table.specs.declared.Op.{Op}
use Rattle.table.specs.declared.Node.{Node}
use Rattle.table.specs.declared.Head.{Head}
use Rattle.table.specs.Characters.{choose}
use Rattle.table.specs.Record.{node_size, nodes_in, rules_in, part, node_of, node_at, root_at, name_at, head_at}
use Rattle.table.specs.Check.{is_through, lowest, Valid}
use Rattle.table.specs.Check as Check
use Rattle.table.specs.Names.{same_text, rule_named}
use Rattle.table.proofs.Nodes.{sound_tip, sound_one, sound_two, sound_below}
use Rattle.table.proofs.Texts.{leaf_inside_lem, part_between}
use Rattle.table.proofs.Tables.{sound_at}
use Rattle.table.proofs.Names.{named_rule}
use Rattle.table.proofs.Lowest.{lowest_more, lowest_bad}
use Rattle.links.specs.declared.Act.{Act}
use Rattle.links.specs.declared.Act.TheVariants.{Unfit}
use Rattle.links.specs.Program.{any_name, linked, unary_act, act_of, link_by, link_for, mention_of, mention_link, link_at, number, program, linked_at, is_fit, fit_at, is_to, known_at, is_by, own_at, Linked, Rooted, Inside, Leads, Runnable}

-- ---- the table with links is the program

pub node_none : (ns : List ℕ) (i : ℕ) → length ns ≤ node_size * i → node_at ns i ≡ Node.Unknown
unfolding node_at node_of
node_none ns i h = let z : get_or ns (node_size * i) 0 ≡ 0 = get_or-eq_default ns 0 {n = node_size * i} h in rw z

unknown_unfit : (l : ℕ) → act_of Node.Unknown l ≡ Unfit
unfolding act_of
unknown_unfit l = refl

pub linked_program : (ns rs st ls : List ℕ) → length ns ≡ node_size * nodes_in ns → Linked ns rs st ls → linked_at ns ls ≡ program ns rs st
unfolding linked_at program
linked_program ns rs st ls w h = fun_ext (λ i. at i (dec_lt i (nodes_in ns)))
  where
    at : (i : ℕ) → Dec (i < nodes_in ns) → act_of (node_at ns i) (get_or ls i 0) ≡ act_of (node_at ns i) (number (link_at ns rs st i))
    at i (yes l) = ap (act_of (node_at ns i)) (h.links i l)
    at i (no l) = let z = node_none ns i (omega arith) in ap (λ x. act_of x (get_or ls i 0)) z ∙ unknown_unfit _ ∙ sym (ap (λ x. act_of x (number (link_at ns rs st i))) z ∙ unknown_unfit _)

-- ---- where it leads

leads_choose : (n s : ℕ) (b : Bool) (x y : Act) → Leads n s x → Leads n s y → Leads n s (choose b (λ u. x) (λ u. y))
leads_choose n s true x y f g = f
leads_choose n s false x y f g = g

leads_unary : (n s : ℕ) (u : Unary) (c : ℕ) → c < n → Leads n s (unary_act u c)
leads_unary n s Unary.PosPred c h = h
leads_unary n s Unary.NegPred c h = h
leads_unary n s Unary.Opt c h = h
leads_unary n s Unary.Rep c h = h
leads_unary n s Unary.RepOnce c h = h
leads_unary n s (Unary.RepExact k) c h = h
leads_unary n s (Unary.RepMin k) c h = h
leads_unary n s (Unary.RepMax k) c h = h
leads_unary n s (Unary.RepMinMax k m) c h = leads_choose n s (leb k m) _ _ h tt
leads_unary n s Unary.Push c h = tt

module _ (ns rs st : List ℕ) (v : Valid ns rs st) where
  leads_rule : (b : List ℕ) (r : Option ℕ) → rule_named rs st b ≡ r → Leads (nodes_in ns) (length st) (linked (number (link_by rs r)))
  leads_rule b (Some k) e = (sound_at v k (named_rule rs st b k e).0).rooted
  leads_rule b None e = tt

  leads_name : (b : List ℕ) (t : Bool) → Leads (nodes_in ns) (length st) (linked (number (choose t (λ u. Some 0) (λ u. link_by rs (rule_named rs st b)))))
  leads_name b true = tt
  leads_name b false = leads_rule b (rule_named rs st b) refl

  leads_link : (m : Option (ℕ × ℕ)) → Leads (nodes_in ns) (length st) (linked (number (mention_link rs st m)))
  unfolding link_for
  leads_link (Some (p, n)) = leads_name (part st p n) (same_text (part st p n) any_name)
  leads_link None = tt

  module _ (i : ℕ) (l : i < nodes_in ns) where
    up : Check.SoundUpTo ns st (i + 1)
    up = sound_below (i + 1) (omega arith) v.nodes

    leads_at : (x : Node) (k : ℕ) → node_at ns i ≡ x → k ≡ number (mention_link rs st (mention_of x)) → Leads (nodes_in ns) (length st) (act_of x k)
    unfolding act_of mention_of
    leads_at (Node.Tip (Leaf.Text Sort.Str p n)) k e q = leaf_inside_lem st Sort.Str p n (sound_tip ns st i up e)
    leads_at (Node.Tip (Leaf.Text Sort.Insens p n)) k e q = leaf_inside_lem st Sort.Insens p n (sound_tip ns st i up e)
    leads_at (Node.Tip (Leaf.Text Sort.Ident p n)) k e q = subst (λ z. Leads (nodes_in ns) (length st) (linked z)) (sym q) (leads_link (Some (p, n)))
    leads_at (Node.Tip (Leaf.Text Sort.PushLiteral p n)) k e q = tt
    leads_at (Node.Tip (Leaf.Range a b)) k e q = tt
    leads_at (Node.Tip (Leaf.PeekSlice a b)) k e q = tt
    leads_at (Node.One (Op.Plain u) c) k e q = let s = sound_one ns st i up e in leads_unary (nodes_in ns) (length st) u c (omega (arith, s.0))
    leads_at (Node.One (Op.NodeTag p n) c) k e q = tt
    leads_at (Node.Two Join.Seq a b) k e q = let s = sound_two ns st i up e in (omega (arith, s.2), omega (arith, s.0))
    leads_at (Node.Two Join.Choice a b) k e q = let s = sound_two ns st i up e in (omega (arith, s.2), omega (arith, s.0))
    leads_at Node.Unknown k e q = tt

    -- a mentioned name lies inside
    mention_in : (x : Node) → node_at ns i ≡ x → Inside st (mention_of x)
    unfolding mention_of
    mention_in (Node.Tip (Leaf.Text Sort.Str p n)) e = tt
    mention_in (Node.Tip (Leaf.Text Sort.Insens p n)) e = tt
    mention_in (Node.Tip (Leaf.Text Sort.Ident p n)) e = leaf_inside_lem st Sort.Ident p n (sound_tip ns st i up e)
    mention_in (Node.Tip (Leaf.Text Sort.PushLiteral p n)) e = tt
    mention_in (Node.Tip (Leaf.Range a b)) e = tt
    mention_in (Node.Tip (Leaf.PeekSlice a b)) e = tt
    mention_in (Node.One o c) e = tt
    mention_in (Node.Two j a b) e = tt
    mention_in Node.Unknown e = tt

    pub mention_inside : {x : Node} {m : Option (ℕ × ℕ)} → x ≡ node_at ns i → m ≡ mention_of x → Inside st m
    mention_inside {x} {m} e q = subst (Inside st) (sym q) (mention_in x (sym e))

  pub sound_links : (ls : List ℕ) → Linked ns rs st ls → Runnable ns ls st
  unfolding linked_at link_at
  sound_links ls h = record { few = v.few_nodes; leads = λ i l. leads_at i l (node_at ns i) (get_or ls i 0) refl (h.links i l) }

  pub valid_rooted : Rooted rs
  valid_rooted = record { low = λ k l. omega (arith, (sound_at v k l).rooted, v.few_nodes) }

-- ---- one name

module _ (rs st b : List ℕ) {t : Bool} (e : t ≡ same_text b any_name) where
  pub link_any : t ≡ true → Some 0 ≡ link_for rs st b
  unfolding link_for
  link_any q = sym (choose_true (same_text b any_name) _ _ (sym e ∙ q))

  module _ (q : t ≡ false) {r : Option ℕ} (f : r ≡ rule_named rs st b) where
    by_rule : link_for rs st b ≡ link_by rs r
    unfolding link_for
    by_rule = choose_false (same_text b any_name) _ _ (sym e ∙ q) ∙ ap (link_by rs) (sym f)

    pub link_rule : {k root : ℕ} → r ≡ Some k → root ≡ root_at rs k → Some (root + 1) ≡ link_for rs st b
    link_rule {k} {root} g w = let z : root + 1 ≡ suc (root_at rs k) = omega arith in sym (by_rule ∙ ap (link_by rs) g ∙ ap Some (sym z))

    pub link_nobody : r ≡ None → None ≡ link_for rs st b
    link_nobody g = sym (by_rule ∙ ap (link_by rs) g)

    pub rule_below : {k : ℕ} → r ≡ Some k → k < rules_in rs
    rule_below {k} g = (named_rule rs st b k (sym f ∙ g)).0

-- the link of a name that is a part of the store
pub mention_named : (rs st : List ℕ) (m : Option (ℕ × ℕ)) (p n : ℕ) → m ≡ Some (p, n) → {r : Option ℕ} → r ≡ link_for rs st (take (p + n - p) (drop p st)) → r ≡ mention_link rs st m
mention_named rs st m p n e q = q ∙ ap (link_for rs st) (part_between st p n) ∙ sym (ap (mention_link rs st) e)

-- ---- one rule's own name

module _ (rs st : List ℕ) (k : ℕ) (b : List ℕ) (n : b ≡ name_at rs st k) {t : Bool} (e : t ≡ same_text b any_name) where
  any_is : t ≡ same_text (name_at rs st k) any_name
  any_is = e ∙ ap (λ x. same_text x any_name) n

  pub own_any : t ≡ true → false ≡ own_at rs st k
  unfolding own_at
  own_any q = let z : same_text (name_at rs st k) any_name ≡ true = sym any_is ∙ q in rw z

  module _ (q : t ≡ false) {r : Option ℕ} (f : r ≡ rule_named rs st b) where
    own_is : {x : Option ℕ} → r ≡ x → own_at rs st k ≡ is_by x k
    unfolding own_at
    own_is {x} g =
        let z : same_text (name_at rs st k) any_name ≡ false = sym any_is ∙ q in
        let w : rule_named rs st (name_at rs st k) ≡ x = sym (ap (rule_named rs st) n) ∙ sym f ∙ g in
        rw (z, w)

    pub own_by : {j : ℕ} → r ≡ Some j → eqb j k ≡ own_at rs st k
    own_by g = sym (own_is g)

    pub own_nobody : r ≡ None → false ≡ own_at rs st k
    own_nobody g = sym (own_is g)

-- ---- all tests passed so far, and no longer

module _ (f : ℕ → Bool) (n i : ℕ) where
  pub every_stop : i < n → lowest f i ≡ None → f i ≡ false → false ≡ is_through (lowest f n)
  every_stop l h q = sym (ap is_through (lowest_bad f n i l h q))

  pub every_end : n ≤ i → i ≤ n → lowest f i ≡ None → true ≡ is_through (lowest f n)
  every_end l m h = let e : i ≡ n = omega arith in sym (ap is_through (rw e at h))

  pub fault_stop : i < n → lowest f i ≡ None → f i ≡ false → Some i ≡ lowest f n
  fault_stop l h q = sym (lowest_bad f n i l h q)

  pub fault_end : n ≤ i → i ≤ n → lowest f i ≡ None → None ≡ lowest f n
  fault_end l m h = let e : i ≡ n = omega arith in sym (rw e at h)

pub fit_is : (ns : List ℕ) (i : ℕ) {x : Node} {b : Bool} → x ≡ node_at ns i → b ≡ is_fit (act_of x 0) → b ≡ fit_at ns i
unfolding fit_at
fit_is ns i e f = f ∙ ap (λ z. is_fit (act_of z 0)) e

-- ---- the links of the nodes below i are written

pub record LinkedUpTo (ns rs st ls : List ℕ) (i : ℕ) : Type 0 where
  pub long : length ls ≡ max_nodes
  pub found : lowest (known_at ns rs st) i ≡ None
  pub are : (k : ℕ) → k < i → get_or ls k 0 ≡ number (link_at ns rs st k)

pub some_none : (ns rs st ls : List ℕ) → length ls ≡ max_nodes → LinkedUpTo ns rs st ls 0
unfolding lowest
some_none ns rs st ls h = record { long = h; found = refl; are = λ k l. absurd (omega arith) }

module _ (ns rs st ls : List ℕ) (i : ℕ) (s : LinkedUpTo ns rs st ls i) {x : Node} {m : Option (ℕ × ℕ)} {y : Option ℕ} (a : x ≡ node_at ns i) (b : m ≡ mention_of x) (e : y ≡ mention_link rs st m) where
  link_is : y ≡ link_at ns rs st i
  unfolding link_at
  link_is = e ∙ ap (mention_link rs st) (b ∙ ap mention_of a)

  pub some_more : (l : ℕ) → i < max_nodes → y ≡ Some l → LinkedUpTo ns rs st (set ls i l) (i + 1)
  unfolding known_at
  some_more l h q =
      record {
        long = length-set ls i l ∙ s.long;
        found = lowest_more (known_at ns rs st) i s.found (ap is_to (sym link_is ∙ q));
        are = λ k z. go k z (dec_lt k i);
      }
    where
      go : (k : ℕ) → k < i + 1 → Dec (k < i) → get_or (set ls i l) k 0 ≡ number (link_at ns rs st k)
      go k z (yes w) = get_or-set_other ls i k l 0 (λ q. omega arith) ∙ s.are k w
      go k z (no w) = let y : k ≡ i = omega arith in rw y (get_or-set_same ls i l 0 (omega (arith, s.long)) ∙ sym (ap number (sym link_is ∙ q)))

  pub some_stop : (n : ℕ) → n ≡ nodes_in ns → i < n → y ≡ None → false ≡ is_through (lowest (known_at ns rs st) (nodes_in ns))
  unfolding known_at
  some_stop n w h q = every_stop (known_at ns rs st) (nodes_in ns) i (omega arith) s.found (ap is_to (sym link_is ∙ q))

pub some_linked : (ns rs st ls : List ℕ) (i n : ℕ) → LinkedUpTo ns rs st ls i → n ≡ nodes_in ns → n ≤ i → Linked ns rs st ls
some_linked ns rs st ls i n s w h = record { links = λ k l. s.are k (omega arith) }

-- a rule's root
pub head_root : (rs : List ℕ) (k : ℕ) (h : Head) → h ≡ head_at rs k → h.root ≡ root_at rs k
unfolding head_at
head_root rs k h e = ap (λ (x : Head). x.root) e
