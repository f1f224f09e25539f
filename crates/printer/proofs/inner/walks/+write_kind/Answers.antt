use mathlib.Core.Path.{◌≡◌, refl, sym, ◌∙◌}
use mathlib.Core.Bool.{Bool, true}
use mathlib.Core.List.{List, [], ◌∷◌}
use native.Mathlib.Omega.{arith}
use Prim.Native.Nat.{ℕ, ◌+◌, ◌<◌}
use Rattle.text.specs.Splice.{Room}
use Rattle.table.specs.declared.Node.{Node}
use Rattle.table.specs.declared.Node.TheVariants.{Tip, One, Two}
use Rattle.table.specs.declared.Op.{Op}
use Rattle.table.specs.declared.Join.{Join}
use Rattle.table.specs.declared.Leaf.{Leaf}
use Rattle.table.specs.declared.Unary.{Unary}
use Rattle.table.specs.Record.{node_at, atom_of, wrap_of, tree_at}
use Rattle.table.specs.Check.{SoundUpTo, good_leaf, good_op}
use Rattle.table.proofs.Nodes.{sound_tip, sound_one, sound_two, sound_unknown, sound_below}
use Rattle.forms.specs.declared.Style.{Style}
use Rattle.forms.specs.declared.Place.{Place}
use Rattle.forms.specs.declared.Place.TheVariants.{Operand, LeftOf, RightOf}
use Rattle.forms.specs.declared.Form.TheVariants.{Joined}
use Rattle.forms.specs.declared.Over.{Over}
use Rattle.forms.specs.declared.Over.TheVariants.{Before, Behind}
use Rattle.forms.specs.Printing.{brackets, opening, closing, atom_form, atom_text, over_of, unary_after, before, separator, printed}
use Rattle.forms.proofs.Rows.{Going, begin, part_room, go, finish}
use Rattle.printer.proofs.Nodes.{leaf_row, over_row_lem, two_row}
use Rattle.printer.proofs.inner.walks.+write_kind.Goals as goal

-- what stands below the node n at i, which isn't false: a good leaf, or children lower than it that aren't false either
module _ {ns st : List ℕ} (i : ℕ) (s : SoundUpTo ns st (i + 1)) {n : Node} (v : n ≡ node_at ns i) where
  abbrev Child : ℕ → Type 0
  Child k = (k < i) × SoundUpTo ns st (k + 1)

  child : {k : ℕ} → k < i → Child k
  child {k} h = (h, sound_below (k + 1) (omega arith) s)

  leaf_good : {l : Leaf} → n ≡ Tip l → good_leaf st l ≡ true
  leaf_good e = sound_tip ns st i s (sym v ∙ e)

  op_good : {o : Op} {k : ℕ} → n ≡ One o k → good_op st o ≡ true
  op_good e = (sound_one ns st i s (sym v ∙ e)).1

  under : {o : Op} {k : ℕ} → n ≡ One o k → Child k
  under e = let b = sound_one ns st i s (sym v ∙ e) in child (omega (arith, b.0))

  left : {j : Join} {a b : ℕ} → n ≡ Two j a b → Child a
  left e = child (sound_two ns st i s (sym v ∙ e)).2

  right : {j : Join} {a b : ℕ} → n ≡ Two j a b → Child b
  right e = let b = sound_two ns st i s (sym v ∙ e) in child (omega (arith, b.0))

  -- the parts of its text, for which there is room and of which none is written yet
  module _ (style : Style) (w : Place) {o : List ℕ} {at : ℕ} (r : Room o at (printed style w (tree_at ns st i))) where
    abbrev text : Place → ℕ → List ℕ
    text u k = printed style u (tree_at ns st k)

    abbrev Parts : List ℕ → List (List ℕ) → Type 0
    Parts p ps = Going o at (text w i) o at p ps

    leaf_parts : {l : Leaf} → n ≡ Tip l → {on : Bool} → on ≡ brackets style w (atom_form (atom_of [] l)) → Parts (opening on) (atom_text (atom_of st l) ∷ closing on ∷ [])
    leaf_parts e h = begin (leaf_row style ns st i w (sym v ∙ e) refl h) r

    before_parts : {f : Op} {k : ℕ} → n ≡ One f k → {x : Over} → x ≡ over_of style w f → {u : Place} {opens closes : Bool} → x ≡ Before u opens closes → Parts (opening opens) (before (wrap_of st f) ∷ text u k ∷ closing closes ∷ [])
    before_parts e h g = begin (over_row_lem style ns st i w s (sym v ∙ e) (sym g ∙ h)) r

    behind_parts : {f : Op} {k : ℕ} → n ≡ One f k → {x : Over} → x ≡ over_of style w f → {u : Unary} → x ≡ Behind u → Parts (text Operand k) (unary_after u ∷ [])
    behind_parts e h g = begin (over_row_lem style ns st i w s (sym v ∙ e) (sym g ∙ h)) r

    two_parts : {j : Join} {a b : ℕ} → n ≡ Two j a b → {on : Bool} → on ≡ brackets style w (Joined j) → Parts (opening on) (text (LeftOf j) a ∷ separator j ∷ text (RightOf j) b ∷ closing on ∷ [])
    two_parts e h = begin (two_row style ns st i w s (sym v ∙ e) h) r

pub node_with-node-requires : goal.node_with-node-requires
node_with-node-requires t c = record {
  i_in_bounds = c.requires.sound_up_to.whole;
  kind_value = c.requires.kind_value;
}

pub put_open-a1-requires : goal.put_open-a1-requires
put_open-a1-requires t c =
    part_room (leaf_parts c.args.i c.requires.sound_up_to c.node_with-node.ensures c.args.style c.args.place c.requires.room c.in-Tip.is c.leaf_brackets-on.ensures)

pub put_leaf-a2-requires : goal.put_leaf-a2-requires
put_leaf-a2-requires t c =
    let parts = leaf_parts c.args.i c.requires.sound_up_to c.node_with-node.ensures c.args.style c.args.place c.requires.room c.in-Tip.is c.leaf_brackets-on.ensures in
    record {
      leaf_value = leaf_good c.args.i c.requires.sound_up_to c.node_with-node.ensures c.in-Tip.is;
      room = part_room (go parts c.put_open-a1.ensures);
    }

pub put_close-requires : goal.put_close-requires
put_close-requires t c =
    let parts = leaf_parts c.args.i c.requires.sound_up_to c.node_with-node.ensures c.args.style c.args.place c.requires.room c.in-Tip.is c.leaf_brackets-on.ensures in
    part_room (go (go parts c.put_open-a1.ensures) c.put_leaf-a2.ensures)

pub returns-in-Tip : goal.returns-in-Tip
returns-in-Tip t c =
    let parts = leaf_parts c.args.i c.requires.sound_up_to c.node_with-node.ensures c.args.style c.args.place c.requires.room c.in-Tip.is c.leaf_brackets-on.ensures in
    finish (go (go parts c.put_open-a1.ensures) c.put_leaf-a2.ensures) c.put_close.ensures

pub kind_at-kc-requires : goal.kind_at-kc-requires
kind_at-kc-requires t c = (under c.args.i c.requires.sound_up_to c.node_with-node.ensures c.in-One.is).1.whole

pub put_open-a1-requires-in-Before : goal.put_open-a1-requires-in-Before
put_open-a1-requires-in-Before t c =
    part_room (before_parts c.args.i c.requires.sound_up_to c.node_with-node.ensures c.args.style c.args.place c.requires.room c.in-One.is c.over-over.ensures c.in-Before.is)

pub put_front-a2-requires : goal.put_front-a2-requires
put_front-a2-requires t c =
    let parts = before_parts c.args.i c.requires.sound_up_to c.node_with-node.ensures c.args.style c.args.place c.requires.room c.in-One.is c.over-over.ensures c.in-Before.is in
    record {
      op_value = op_good c.args.i c.requires.sound_up_to c.node_with-node.ensures c.in-One.is;
      room = part_room (go parts c.put_open-a1-in-Before.ensures);
    }

pub write_kind-a3-requires : goal.write_kind-a3-requires
write_kind-a3-requires t c =
    let parts = before_parts c.args.i c.requires.sound_up_to c.node_with-node.ensures c.args.style c.args.place c.requires.room c.in-One.is c.over-over.ensures c.in-Before.is in
    let below = under c.args.i c.requires.sound_up_to c.node_with-node.ensures c.in-One.is in
    (omega (arith, below.0), (below.1, (c.kind_at-kc.ensures, part_room (go (go parts c.put_open-a1-in-Before.ensures) c.put_front-a2.ensures))))

pub put_close-requires-in-Before : goal.put_close-requires-in-Before
put_close-requires-in-Before t c =
    let parts = before_parts c.args.i c.requires.sound_up_to c.node_with-node.ensures c.args.style c.args.place c.requires.room c.in-One.is c.over-over.ensures c.in-Before.is in
    part_room (go (go (go parts c.put_open-a1-in-Before.ensures) c.put_front-a2.ensures) c.write_kind-a3.ensures)

pub returns-in-Before : goal.returns-in-Before
returns-in-Before t c =
    let parts = before_parts c.args.i c.requires.sound_up_to c.node_with-node.ensures c.args.style c.args.place c.requires.room c.in-One.is c.over-over.ensures c.in-Before.is in
    finish (go (go (go parts c.put_open-a1-in-Before.ensures) c.put_front-a2.ensures) c.write_kind-a3.ensures) c.put_close-in-Before.ensures

pub write_kind-a1-requires : goal.write_kind-a1-requires
write_kind-a1-requires t c =
    let parts = behind_parts c.args.i c.requires.sound_up_to c.node_with-node.ensures c.args.style c.args.place c.requires.room c.in-One.is c.over-over.ensures c.in-Behind.is in
    let below = under c.args.i c.requires.sound_up_to c.node_with-node.ensures c.in-One.is in
    (omega (arith, below.0), (below.1, (c.kind_at-kc.ensures, part_room parts)))

pub put_after-requires : goal.put_after-requires
put_after-requires t c =
    let parts = behind_parts c.args.i c.requires.sound_up_to c.node_with-node.ensures c.args.style c.args.place c.requires.room c.in-One.is c.over-over.ensures c.in-Behind.is in
    part_room (go parts c.write_kind-a1.ensures)

pub returns-in-Behind : goal.returns-in-Behind
returns-in-Behind t c =
    let parts = behind_parts c.args.i c.requires.sound_up_to c.node_with-node.ensures c.args.style c.args.place c.requires.room c.in-One.is c.over-over.ensures c.in-Behind.is in
    finish (go parts c.write_kind-a1.ensures) c.put_after.ensures

pub kind_at-ka-requires : goal.kind_at-ka-requires
kind_at-ka-requires t c = (left c.args.i c.requires.sound_up_to c.node_with-node.ensures c.in-Two.is).1.whole

pub put_open-a1-requires-in-Two : goal.put_open-a1-requires-in-Two
put_open-a1-requires-in-Two t c =
    part_room (two_parts c.args.i c.requires.sound_up_to c.node_with-node.ensures c.args.style c.args.place c.requires.room c.in-Two.is c.join_brackets-on.ensures)

pub write_kind-a2-requires : goal.write_kind-a2-requires
write_kind-a2-requires t c =
    let parts = two_parts c.args.i c.requires.sound_up_to c.node_with-node.ensures c.args.style c.args.place c.requires.room c.in-Two.is c.join_brackets-on.ensures in
    let below = left c.args.i c.requires.sound_up_to c.node_with-node.ensures c.in-Two.is in
    (omega (arith, below.0), (below.1, (c.kind_at-ka.ensures, part_room (go parts c.put_open-a1-in-Two.ensures))))

pub put_separator-a3-requires : goal.put_separator-a3-requires
put_separator-a3-requires t c =
    let parts = two_parts c.args.i c.requires.sound_up_to c.node_with-node.ensures c.args.style c.args.place c.requires.room c.in-Two.is c.join_brackets-on.ensures in
    part_room (go (go parts c.put_open-a1-in-Two.ensures) c.write_kind-a2.ensures)

pub kind_at-kb-requires : goal.kind_at-kb-requires
kind_at-kb-requires t c = (right c.args.i c.requires.sound_up_to c.node_with-node.ensures c.in-Two.is).1.whole

pub write_kind-a4-requires : goal.write_kind-a4-requires
write_kind-a4-requires t c =
    let parts = two_parts c.args.i c.requires.sound_up_to c.node_with-node.ensures c.args.style c.args.place c.requires.room c.in-Two.is c.join_brackets-on.ensures in
    let below = right c.args.i c.requires.sound_up_to c.node_with-node.ensures c.in-Two.is in
    (omega (arith, below.0), (below.1, (c.kind_at-kb.ensures, part_room (go (go (go parts c.put_open-a1-in-Two.ensures) c.write_kind-a2.ensures) c.put_separator-a3.ensures))))

pub put_close-requires-in-Two : goal.put_close-requires-in-Two
put_close-requires-in-Two t c =
    let parts = two_parts c.args.i c.requires.sound_up_to c.node_with-node.ensures c.args.style c.args.place c.requires.room c.in-Two.is c.join_brackets-on.ensures in
    part_room (go (go (go (go parts c.put_open-a1-in-Two.ensures) c.write_kind-a2.ensures) c.put_separator-a3.ensures) c.write_kind-a4.ensures)

pub returns-in-Two : goal.returns-in-Two
returns-in-Two t c =
    let parts = two_parts c.args.i c.requires.sound_up_to c.node_with-node.ensures c.args.style c.args.place c.requires.room c.in-Two.is c.join_brackets-on.ensures in
    finish (go (go (go (go parts c.put_open-a1-in-Two.ensures) c.write_kind-a2.ensures) c.put_separator-a3.ensures) c.write_kind-a4.ensures) c.put_close-in-Two.ensures

pub returns-in-Unknown : goal.returns-in-Unknown
returns-in-Unknown t c = absurd (sound_unknown c.args.nodes.now c.args.store.now c.args.i c.requires.sound_up_to (sym c.node_with-node.ensures ∙ c.in-Unknown.is))
